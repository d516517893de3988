-- What the promises settle, for every answer that they allow: the state after a piece and after a load is the model's, left-over bytes and all. Cited by
-- link. Assumes nothing.
use mathlib.Core.Path.{◌≡◌, refl, ap, ◌∙◌}
use mathlib.Core.Bool.{Bool, true, false}
use mathlib.Core.List.{List, ◌++◌}
use Prim.Native.Nat.{ℕ}
use lib.IntN.{ℤ}
use Rattle.model.specs.Panel.{base}
use Rattle.model.specs.Calls.{run_call, load_call}
use Rattle.model.specs.Pieces as M
use Rattle.model.specs.Pieces.{whole_bytes, left_bytes, held_in, carrying, line_good, take_call, line_load_call}
use Rattle.model.proofs.Bools.{holds}
use Rattle.model.proofs.Pieces.{take-reads, take-refused}
use Rattle.reader.specs.States as R
use Rattle.reader.specs.Seen as R-load
use Rattle.reader.proofs.Promises as R-state
use Rattle.pieces.specs.declared.LineState.{LineState}
use Rattle.pieces.specs.declared.TakeAnswer.{TakeAnswer}
use Rattle.pieces.specs.declared.LoadAnswer.{LoadAnswer}
use Rattle.pieces.specs.Seen.{seen, held, taken_from, loaded_from}
use Rattle.pieces.proofs.Held.{state_back}

-- What is held of a state is seen again.
abbrev Back : M.LineState → Type 0
Back s = seen (held s) ≡ s

back_take : (s : LineState) (piece : List ℕ) (b : Bool) → line_good base (seen s) ≡ b → Back (take_call base (seen s) piece).state
back_take s piece true e =
    let bs = held_in (seen s) ++ piece in
    let ran = R.ran_from (run_call base (R.seen s.reader) (whole_bytes bs)) in
    rw (take-reads base (seen s) (holds _ e) piece) (ap (λ r. carrying r (left_bytes bs)) (R-state.run-state s.reader (whole_bytes bs) ran refl))
back_take s piece false e = rw (take-refused base (seen s) piece e) (ap seen (state_back s))

-- The state of any answer that `take` allows is the model's.
pub take-state : (s : LineState) (piece : List ℕ) (q : TakeAnswer) → q ≡ taken_from (take_call base (seen s) piece)
    → seen q.state ≡ (take_call base (seen s) piece).state
take-state s piece q e = ap (λ (x : TakeAnswer). seen x.state) e ∙ back_take s piece (line_good base (seen s)) refl

back_load : (s : LineState) (m : List ℤ) (c : ℕ) (b : Bool) → line_good base (seen s) ≡ b → Back (line_load_call base (seen s) m c).state
unfolding line_load_call
back_load s m c true e =
    let loaded = R-load.loaded_from (load_call base (R.seen s.reader) m c) in
    rw e (ap (M.beside (seen s)) (R-state.load-state s.reader m c loaded refl))
back_load s m c false e = rw e (ap seen (state_back s))

-- The state of any answer that `load` allows is the model's.
pub load-state : (s : LineState) (m : List ℤ) (c : ℕ) (q : LoadAnswer) → q ≡ loaded_from (line_load_call base (seen s) m c)
    → seen q.state ≡ (line_load_call base (seen s) m c).state
load-state s m c q e = ap (λ (x : LoadAnswer). seen x.state) e ∙ back_load s m c (line_good base (seen s)) refl
