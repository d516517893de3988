-- `lent_line::line_load`: bytes that are not formed, a refusal, and the loaded state stored. Assumes nothing.
use mathlib.Core.Path.{◌≡◌, sym, ap, ◌∙◌}
use mathlib.Core.Bool.{true}
use native.Mathlib.Omega.{arith}
use Rattle.model.specs.Panel.{base}
use Rattle.model.specs.Pieces.{line_load_call}
use Rattle.pieces.specs.Seen.{seen, loaded_from}
use Rattle.lent_reader.proofs.Stored.{good-n, good-slot}
use Rattle.lent_line.specs.Layout.{formed, unpacked}
use Rattle.lent_line.proofs.Laid.{formed-length}
use Rattle.lent_line.proofs.Calls.{load-ready, load-refused, load_stored}
use Rattle.lent_line.proofs.line_load.Goals.{After-load-loaded, Else-not-formed}
use Rattle.lent_line.proofs.line_load.Goals as goal

-- The bytes are formed.
whole : (c : Else-not-formed) → formed c.args.state.now ≡ true
whole c = sym c.formed.ensures ∙ c.if-not-formed.false

-- The load by value, of the state that they hold.
answers : (c : After-load-loaded) → (let a = c.args in c.load-loaded.result ≡ loaded_from (line_load_call base (seen (unpacked a.state.now)) a.image.now a.current))
answers c = let a = c.args in c.load-loaded.ensures ∙ ap (λ s. loaded_from (line_load_call base (seen s) a.image.now a.current)) c.unpacked.ensures

pub returns-then-number-ne0 : goal.returns-then-number-ne0
returns-then-number-ne0 c =
    let a = c.args in
    load-refused a.state.now a.image.now a.current (whole (goal.at.returns-then-number-ne0 c).Else-not-formed) c.load-loaded.result (answers (goal.at.returns-then-number-ne0 c).After-load-loaded) c.number-number.result c.number-number.ensures c.if-number-ne0.true

pub put_state-requires : goal.put_state-requires
put_state-requires c =
    let a = c.args in
    let s = c.load-loaded.result.state in
    let g = load-ready a.state.now a.image.now a.current (whole (goal.at.put_state-requires c).Else-not-formed) c.load-loaded.result (answers (goal.at.put_state-requires c).After-load-loaded) (sym c.number-number.ensures ∙ c.if-number-ne0.false) in
    (formed-length a.state.now (whole (goal.at.put_state-requires c).Else-not-formed), omega (arith, g.few), good-n s.reader g.good, good-slot s.reader g.good)

pub returns : goal.returns
returns c =
    let a = c.args in
    load_stored a.state.now a.image.now a.current (whole (goal.at.returns c).Else-not-formed) c.load-loaded.result (answers (goal.at.returns c).After-load-loaded) c.put_state.new.b (sym c.number-number.ensures ∙ c.if-number-ne0.false) c.put_state.ensures
