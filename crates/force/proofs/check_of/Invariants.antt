-- `force::check_of` is the exclusive or of all bytes: what was gathered and what is left give the whole. Assumes nothing.
use mathlib.Core.Path.{◌≡◌}
use lib.ListN.{drop}
use Rattle.model.specs.Force.{xor_after}
use Rattle.force.proofs.check_of.Given as goal

abbrev pub invariant-loop-b : goal.invariant-loop-b
invariant-loop-b l = xor_after 0 l.bytes ≡ xor_after l.sum (drop l.b-index l.bytes)
