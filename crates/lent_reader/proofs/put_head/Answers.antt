-- `lent_reader::put_head` stores the first four bytes. Assumes nothing.
use mathlib.Core.Path.{◌∙◌}
use mathlib.Core.List.{[], ◌∷◌, append_assoc}
use native.Mathlib.Omega.{arith}
use lib.ListN.{take, drop}
use lib.Seq.{sets-eq}
use Rattle.model.specs.Records.{lay}
use Rattle.lent_reader.specs.Layout.{version}
use Rattle.lent_reader.proofs.put_head.Goals as goal

pub returns : goal.returns
unfolding lay
returns c =
    let a = c.args in
    let b = a.b.now in
    let v = c.mode_byte-v.result in
    let bs = version ∷ a.kind ∷ v ∷ a.more ∷ [] in
    rw (← c.mode_byte-v.ensures) (sets-eq bs b 0 (omega arith) ∙ append_assoc (take 0 b) bs (drop 4 b))
