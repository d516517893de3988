-- `pairing::cell` meets its contract. The invariant: of the choices from c on the best is known. Assumes nothing.
use Prim.Native.Nat.{◌≤◌}
use Rattle.pairing.specs.Cells.{choosable, value}
use Rattle.pairing.proofs.Reach.{Reach}
use Rattle.pairing.proofs.cell.Given as goal

abbrev pub invariant-loop-c : goal.invariant-loop-c
invariant-loop-c l = (l.c ≤ 5) × Reach (choosable l.free) (value l.offers l.row l.free) l.best l.c
