-- A contact that a line's reader answers has small numbers, and what is held of the model's answer is seen again. Cited by the proof of `line_ask`. Assumes nothing.
use mathlib.Core.Path.{◌≡◌, refl, sym, ap, ◌∙◌, subst}
use mathlib.Core.Bool.{Bool, cond}
use mathlib.Core.List.{List}
use Prim.Native.Nat.{ℕ}
use lib.IntN.{ℤ}
use Rattle.model.specs.Panel.{base}
use Rattle.model.specs.Calls as C
use Rattle.model.specs.Calls.{ask_call}
use Rattle.model.specs.Pieces.{line_good, line_ask_call}
use Rattle.model.proofs.Calls.{by_verdict}
use Rattle.reader.specs.declared.SlotAnswer.{SlotAnswer}
use Rattle.reader.specs.Seen.{asked_from, answer_seen}
use Rattle.reader.proofs.Back.{back_call}
use Rattle.pieces.specs.declared.LineState.{LineState}
use Rattle.pieces.specs.Seen.{seen}
use Rattle.lent_reader.specs.Seen.{asked_row, Told}
use Rattle.lent_reader.proofs.Asked.{Few, call_few}
use Rattle.lent_line.specs.Layout.{formed, unpacked}
use Rattle.lent_line.specs.Seen.{asked_of, AskIn}

line-few : (s : LineState) (k : ℕ) → Few (line_ask_call base (seen s) k)
unfolding line_ask_call
line-few s k = by_verdict Few (line_good base (seen s)) (ask_call base (seen s).reader k) (C.refused C.state) (λ g. call_few s.reader k) tt

pub asked-few : (s : LineState) (k : ℕ) (a : SlotAnswer) → a ≡ asked_from (line_ask_call base (seen s) k) → Told a
asked-few s k a e = subst Told (sym e) (line-few s k)

pub line_back : (s : LineState) (k : ℕ) → answer_seen (asked_from (line_ask_call base (seen s) k)) ≡ line_ask_call base (seen s) k
unfolding line_ask_call
line_back s k =
    by_verdict (λ (a : C.Asked). answer_seen (asked_from a) ≡ a) (line_good base (seen s)) (ask_call base (seen s).reader k) (C.refused C.state) (λ g. back_call s.reader k) refl

-- ---- the promise, by whether the bytes are formed

module _ (b : List ℕ) (k : ℕ) where
  abbrev by_test : Bool → C.Asked
  by_test t = cond t (line_ask_call base (seen (unpacked b)) k) (C.refused C.state)

  pub ask_in : (t : Bool) → formed b ≡ t → (r : ℕ) (told : List ℤ) → r ≡ C.asked_number (by_test t) → told ≡ asked_row (by_test t) → AskIn b k r told
  ask_in t e r told n x =
      let q : by_test t ≡ asked_of b k = ap by_test (sym e) in
      record { number = n ∙ ap C.asked_number q; answer = x ∙ ap asked_row q }
