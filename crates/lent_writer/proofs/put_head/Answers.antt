-- `lent_writer::put_head` stores a state's first eight bytes. Assumes nothing.
use mathlib.Core.Path.{ap, ◌∙◌}
use Prim.Native.Nat.{◌/◌, ◌%◌}
use native.Mathlib.Omega.{arith}
use lib.ListN.{set}
use lib.Seq.{sets-eq}
use Rattle.model.specs.Records.{lay}
use Rattle.lent_writer.specs.Seen.{head_bytes}
use Rattle.lent_writer.proofs.put_head.Goals as goal

pub returns : goal.returns
unfolding lay
returns c =
    let a = c.args in
    ap (λ v. set (set (set (set (set (set (set (set a.b.now 0 1) 1 1) 2 v) 3 a.told.touch) 4 (a.told.tool % 256)) 5 (a.told.tool / 256 % 256)) 6 0) 7 0) c.flag.ensures
    ∙ sets-eq (head_bytes a.on a.told) a.b.now 0 (omega arith)
