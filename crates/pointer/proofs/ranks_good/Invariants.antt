-- `pointer::ranks_good` tells whether ranks are well formed beside ids. The loop has marked the live ranks of i records. Assumes nothing.
use Prim.Native.Nat.{◌≤◌}
use Rattle.pointer.proofs.Ranked.{GoodTo}
use Rattle.pointer.proofs.ranks_good.Given as goal

abbrev pub invariant-loop-i : goal.invariant-loop-i
invariant-loop-i l = (l.i ≤ l.n) × GoodTo l.ids l.ranks l.held l.top l.i
