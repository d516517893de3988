-- `plan::choose` finds the first number that is not taken. The loop has tried and passed taken ones; `_tries` of 2 * records tries are made. Assumes nothing.
use mathlib.Core.Path.{◌≡◌}
use Prim.Native.Nat.{◌<◌, ◌*◌, ◌-◌}
use Rattle.model.specs.Panel.{id_count, records}
use Rattle.model.specs.Frame.{free_id, pick}
use Rattle.plan.proofs.choose.Given as goal

abbrev pub invariant-loop-tries : goal.invariant-loop-tries
invariant-loop-tries l = (l.k < id_count) × (free_id l.taken l.from ≡ pick (2 * records - l._tries) l.taken l.k)
