-- `commands::put_one` stores one byte at the start of a lent part. Assumes nothing.
use mathlib.Core.List.{[], ◌∷◌}
use lib.Seq.{sets-eq}
use Rattle.records.specs.Seen.{over}
use Rattle.commands.proofs.put_one.Goals as goal

pub returns : goal.returns
unfolding over
returns c = sets-eq (c.args.first ∷ []) c.args.b.now 0 c.requires
