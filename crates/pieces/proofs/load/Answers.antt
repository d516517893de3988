-- `pieces::load`: refusal 2 for the left-over bytes, and else the reader's own answer with them beside it. Assumes nothing.
use mathlib.Core.Path.{◌≡◌, sym, ap, ◌∙◌}
use mathlib.Core.Bool.{Bool, cond}
use mathlib.Core.List.{List}
use Prim.Native.Nat.{ℕ}
use lib.IntN.{ℤ}
use Rattle.model.specs.Panel.{base}
use Rattle.model.specs.Calls as C
use Rattle.model.specs.Calls.{load_call}
use Rattle.model.specs.Pieces.{left_good, LineLoaded, beside, line_load_call}
use Rattle.model.proofs.PiecesCalls.{load_by_left}
use Rattle.common.specs.declared.Verdict.TheVariants.{State}
use Rattle.reader.specs.declared.LoadAnswer as R
use Rattle.pieces.specs.declared.LineState.{LineState}
use Rattle.pieces.specs.declared.LoadAnswer.{LoadAnswer}
use Rattle.pieces.specs.Seen.{seen, loaded_from}
use Rattle.pieces.proofs.Held.{state_back}
use Rattle.pieces.proofs.load.Goals as goal

-- The model's answer, where the test of the left-over bytes is known.
by_test : (s : LineState) (m : List ℤ) (k : ℕ) (b : Bool) → left_good s.left s.count ≡ b
    → line_load_call base (seen s) m k
    ≡ (let a = load_call base (seen s).reader m k in
    cond b (record { verdict = a.verdict; state = beside (seen s) a.state }) (record { verdict = C.state; state = seen s }))
by_test s m k b e =
    let a = load_call base (seen s).reader m k in
    load_by_left base (seen s) m k
    ∙ ap {B = LineLoaded} (λ t. cond t (record { verdict = a.verdict; state = beside (seen s) a.state }) (record { verdict = C.state; state = seen s })) e

pub returns-then-not-left_ok : goal.returns-then-not-left_ok
returns-then-not-left_ok c =
    let a = c.args in
    let k = c.left_ok in
    let bad = sym k.ensures ∙ c.if-not-left_ok.true in
    ap {B = LoadAnswer} (λ s. record { verdict = State; state = s }) (sym (state_back a.state))
    ∙ sym (ap loaded_from (by_test a.state a.image.now a.current.0 _ bad))

pub returns : goal.returns
returns c =
    let a = c.args in
    let k = c.left_ok in
    let good = sym k.ensures ∙ c.if-not-left_ok.false in
    let s = a.state in
    ap {B = LoadAnswer} (λ (q : R.LoadAnswer). record { verdict = q.verdict; state = record { left = s.left; count = s.count; reader = q.state } })
    c.load-loaded.ensures
    ∙ sym (ap loaded_from (by_test a.state a.image.now a.current.0 _ good))
