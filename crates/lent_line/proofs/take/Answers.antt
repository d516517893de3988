-- `lent_line::take`: bytes that are not formed, a refusal, and the state after the piece stored. Assumes nothing.
use mathlib.Core.Path.{◌≡◌, sym, ap, ◌∙◌}
use mathlib.Core.Bool.{true}
use native.Mathlib.Omega.{arith}
use Rattle.model.specs.Panel.{base}
use Rattle.model.specs.Pieces.{take_call}
use Rattle.pieces.specs.Seen.{seen, taken_from}
use Rattle.lent_reader.proofs.Stored.{good-n, good-slot}
use Rattle.lent_line.specs.Layout.{formed, unpacked}
use Rattle.lent_line.proofs.Laid.{formed-length}
use Rattle.lent_line.proofs.Calls.{take-ready, take-refusal, take-stored}
use Rattle.lent_line.proofs.take.Goals.{After-take-taken, Else-not-formed}
use Rattle.lent_line.proofs.take.Goals as goal

-- The bytes are formed.
whole : (c : Else-not-formed) → formed c.args.state.now ≡ true
whole c = sym c.formed.ensures ∙ c.if-not-formed.false

-- The piece by value, of the state that they hold.
answers : (c : After-take-taken) → (let a = c.args in c.take-taken.result ≡ taken_from (take_call base (seen (unpacked a.state.now)) a.piece.now))
answers c = let a = c.args in c.take-taken.ensures ∙ ap (λ s. taken_from (take_call base (seen s) a.piece.now)) c.unpacked.ensures

pub returns-then-number-ne0 : goal.returns-then-number-ne0
returns-then-number-ne0 c =
    let a = c.args in
    take-refusal a.state.now a.piece.now (whole (goal.at.returns-then-number-ne0 c).Else-not-formed) c.take-taken.result (answers (goal.at.returns-then-number-ne0 c).After-take-taken) c.number-number.result _ c.number-number.ensures c.if-number-ne0.true c.put_counts.ensures

pub put_state-requires : goal.put_state-requires
put_state-requires c =
    let a = c.args in
    let s = c.take-taken.result.state in
    let g = take-ready a.state.now a.piece.now (whole (goal.at.put_state-requires c).Else-not-formed) c.take-taken.result (answers (goal.at.put_state-requires c).After-take-taken) (sym c.number-number.ensures ∙ c.if-number-ne0.false) in
    (formed-length a.state.now (whole (goal.at.put_state-requires c).Else-not-formed), omega (arith, g.few), good-n s.reader g.good, good-slot s.reader g.good)

pub returns : goal.returns
returns c =
    let a = c.args in
    take-stored a.state.now a.piece.now (whole (goal.at.returns c).Else-not-formed) c.take-taken.result (answers (goal.at.returns c).After-take-taken) c.put_state.new.b _ (sym c.number-number.ensures ∙ c.if-number-ne0.false) c.put_state.ensures c.put_counts.ensures
