-- `ending::lose` reads SYN_DROPPED: the bytes of its record are those that are run. Assumes nothing.
use Rattle.std.proofs.Common.{ap, ◌∙◌}
use Rattle.model.specs.Panel.{base}
use Rattle.model.specs.Calls.{run_call}
use Rattle.model.specs.Records.{record_bytes}
use Rattle.records.specs.Seen.{over}
use Rattle.reader.specs.States.{seen, held}
use Rattle.reader.specs.declared.RunAnswer.{RunAnswer}
use Rattle.ending.proofs.lose.Goals as goal

pub returns : goal.returns
unfolding record_bytes over
returns c = ap (λ (x : RunAnswer). x.state) c.run-a.ensures ∙ ap (λ bs. held (run_call base (seen c.args.s) bs).state) c.put.ensures
