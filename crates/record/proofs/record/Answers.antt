-- `record::record` hands on less than a block where a read failed: each call uses the full blocks.
use Rattle.std.proofs.Common.{rules, ◌+◌, ◌<◌, ◌≤◌, length, ◌≡◌, ℕ, arith}
use Rattle.model.specs.Recorder.{full_run}
use Rattle.record.proofs.record.Goals as goal

pub lose-requires : goal.lose-requires
lose-requires c = c.in-ReadFailed.ensures.fewer full_run (λ f o b n a g s. search rules) (omega arith)
