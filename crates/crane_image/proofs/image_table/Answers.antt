-- `crane_image::image_table` makes the image's table. The loop has filled i slots. Assumes nothing.
use borrow.Author.Rules.{rules}
use mathlib.Core.Path.{◌≡◌, ap, ap₂, ◌∙◌}
use Prim.Native.Nat.{◌*◌, ◌<◌}
use native.Mathlib.Omega.{arith}
use lib.ListN.{set}
use Rattle.model.specs.Panel.{crane_per_slot, crane_records}
use Rattle.model.specs.Frame.{numbers_from}
use Rattle.crane_panel.specs.Seen.{slot_from}
use Rattle.crane_image.proofs.Images.{filled_next, row_read}
use Rattle.crane_image.proofs.image_table.Goals as goal

pub loop-i-preserved : goal.loop-i-preserved
loop-i-preserved c =
    let l = c.args.image.now in
    let i = c.loop-i.i in
    let e : c.slot_of.result ≡ slot_from (numbers_from crane_per_slot l (crane_per_slot * i)) = c.slot_of.ensures ∙ ap slot_from (row_read l (crane_per_slot * i) (search rules) (search rules) (search rules) (search rules)) in
    let h : i < crane_records = omega (arith, c.requires, c.loop-i-test.true) in
    ap₂ (λ t x. set t i x) c.loop-i.invariant e ∙ filled_next l i h
