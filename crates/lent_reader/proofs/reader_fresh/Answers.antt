-- `lent_reader::reader_fresh`: refusals 1 and 2, and the fresh state stored. Assumes nothing.
use mathlib.Core.Path.{◌≡◌, sym, ap, ◌∙◌}
use Prim.Native.Nat.{◌≤◌}
use native.Mathlib.Omega.{arith}
use lib.ListN.{length, get_or}
use Rattle.model.specs.Panel.{base}
use Rattle.model.specs.Calls.{fresh_reader_call}
use Rattle.panel.specs.Seen.{setup_of}
use Rattle.reader.specs.States.{given, fresh_from}
use Rattle.lent_reader.specs.Layout.{reader_size}
use Rattle.lent_reader.specs.Seen.{setup_from}
use Rattle.lent_reader.proofs.Stored.{good-n, good-slot}
use Rattle.lent_reader.proofs.Calls.{fresh-good, fresh-refused, fresh_unfit, fresh-stored}
use Rattle.lent_reader.proofs.reader_fresh.Goals.{After-number-number}
use Rattle.lent_reader.proofs.reader_fresh.Goals as goal

-- The fresh state by value, of the six numbers lent.
made : (c : After-number-number) → c.fresh-made.result ≡ fresh_from (fresh_reader_call base (setup_of (setup_from c.args.setup.now)))
made c =
    let s = c.args.setup.now in
    c.fresh-made.ensures
    ∙ ap (λ n. fresh_from (fresh_reader_call base (setup_of (given n (get_or s 1 0) (get_or s 2 0) (get_or s 3 0) (get_or s 4 0) (get_or s 5 0))))) c.wide.ensures

pub returns-then-number-ne0 : goal.returns-then-number-ne0
returns-then-number-ne0 c = let k = c in let a = k.args in fresh-refused a.setup.now k.fresh-made.result (made (goal.at.returns-then-number-ne0 k).After-number-number) a.state.now k.number-number.result k.number-number.ensures c.if-number-ne0.true

pub returns-then-state-ne-SIZE : goal.returns-then-state-ne-SIZE
returns-then-state-ne-SIZE c =
    let a = c.args in
    fresh_unfit a.setup.now c.fresh-made.result (made (goal.at.returns-then-state-ne-SIZE c).After-number-number) a.state.now (sym c.number-number.ensures ∙ c.if-number-ne0.false) c.if-state-ne-SIZE.true

pub put_state-requires : goal.put_state-requires
put_state-requires c =
    let g = fresh-good c.args.setup.now c.fresh-made.result (made (goal.at.put_state-requires c).After-number-number) (sym c.number-number.ensures ∙ c.if-number-ne0.false) in
    let n : reader_size ≤ length c.args.state.now = omega (arith, c.if-state-ne-SIZE.false) in
    (n, good-n c.fresh-made.result.state g, good-slot c.fresh-made.result.state g)

pub returns : goal.returns
returns c =
    let a = c.args in
    fresh-stored a.setup.now c.fresh-made.result (made (goal.at.returns c).After-number-number) a.state.now c.put_state.new.b
    (sym c.number-number.ensures ∙ c.if-number-ne0.false)
    c.if-state-ne-SIZE.false
    c.put_state.ensures
