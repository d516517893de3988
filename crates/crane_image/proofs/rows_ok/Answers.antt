-- `crane_image::rows_ok` tells whether every row is good. The loop has passed i good rows. Assumes nothing.
use borrow.Author.Rules.{rules}
use mathlib.Core.Path.{◌≡◌, sym, ap, ◌∙◌}
use mathlib.Core.Bool.{◌&&◌}
use Prim.Native.Nat.{◌+◌, ◌-◌, ◌*◌}
use Rattle.model.specs.Panel.{crane_per_slot}
use Rattle.model.specs.Table.{good_slot, good_records}
use Rattle.model.specs.Frame.{rows_from, numbers_from}
use Rattle.crane_panel.specs.Seen.{fields_of}
use Rattle.crane_image.proofs.Images.{good-next, row_read}
use Rattle.crane_image.proofs.rows_ok.Goals.{After-row_ok}
use Rattle.crane_image.proofs.rows_ok.Goals as goal

step : (c : After-row_ok)
    → good_records (fields_of c.args.setup) c.args.setup.n (rows_from crane_per_slot c.args.setup.n c.args.image.now 0)
    ≡ (c.row_ok.result && good_records (fields_of c.args.setup) (c.args.setup.n - (c.loop-i.i + 1)) (rows_from crane_per_slot (c.args.setup.n - (c.loop-i.i + 1)) c.args.image.now (crane_per_slot * (c.loop-i.i + 1))))
step c =
    let u = c.args.setup in
    let l = c.args.image.now in
    let i = c.loop-i.i in
    let e : c.row_ok.result ≡ good_slot (fields_of u) (numbers_from crane_per_slot l (crane_per_slot * i)) = c.row_ok.ensures ∙ ap (good_slot (fields_of u)) (row_read l (crane_per_slot * i) (search rules) (search rules) (search rules) (search rules)) in
    c.loop-i.invariant ∙ good-next (fields_of u) l u.n i (search rules) ∙ ap (λ b. b && good_records (fields_of u) (u.n - (i + 1)) (rows_from crane_per_slot (u.n - (i + 1)) l (crane_per_slot * (i + 1)))) (sym e)

pub returns-then-not-row_ok : goal.returns-then-not-row_ok
returns-then-not-row_ok c = sym (rw c.if-not-row_ok.true at (step (goal.at.returns-then-not-row_ok c).After-row_ok))

pub loop-i-preserved : goal.loop-i-preserved
loop-i-preserved c = rw c.if-not-row_ok.false at (step (goal.at.loop-i-preserved c).After-row_ok)
