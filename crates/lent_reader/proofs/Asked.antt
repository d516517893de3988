-- A contact that a reader answers has numbers within its panel's, so that each is a signed number too. Cited by the proof of `ask`. Assumes nothing.
use mathlib.Core.Path.{◌≡◌, sym, ap, ◌∙◌, subst}
use mathlib.Core.Bool.{Bool, cond}
use mathlib.Core.List.{List, [], ◌∷◌}
use Prim.Native.Nat.{ℕ, zero, suc, ◌≤◌, ◌<◌}
use native.Mathlib.Omega.{arith}
use lib.Dec.{T, leb, leb→le, ltb, ltb→lt}
use lib.IntN.{ℤ, pos}
use lib.ListN.{get_or}
use Rattle.model.specs.Numbers.{between_z}
use Rattle.model.specs.Panel.{base, id_field, panel_of}
use Rattle.model.specs.Table.{live, fits, good_slot, good_records}
use Rattle.model.specs.Reader as R
use Rattle.model.specs.States.{reader_good}
use Rattle.model.specs.Calls as C
use Rattle.model.specs.Calls.{asked_in, asked, ask_call}
use Rattle.model.proofs.Bools.{is_true, both_left, both_right}
use Rattle.model.proofs.Tables.{good-records}
use Rattle.model.proofs.Calls.{by_verdict, reader-state}
use Rattle.panel.specs.Seen.{slot_of, table_of, panel_seen, fields_of}
use Rattle.panel.specs.declared.Slot.{Slot}
use Rattle.panel.specs.declared.Setup.{Setup}
use Rattle.panel.proofs.Setups.{Small}
use Rattle.reader.specs.declared.ReaderState.{ReaderState}
use Rattle.reader.specs.declared.SlotAnswer.{SlotAnswer}
use Rattle.reader.specs.States.{seen}
use Rattle.reader.specs.Seen.{asked_from}
use Rattle.reader.proofs.States.{good-small}
use Rattle.lent_reader.specs.Layout.{formed, unpacked}
use Rattle.lent_reader.specs.Seen.{asked_row, asked_of, Told, AskIn}

-- An answer whose numbers are small, once it is held.
abbrev pub Few : C.Asked → Type 0
Few a = Told (asked_from a)

at_most : (top v : ℕ) → T (between_z (pos 0) (pos top) (pos v)) → v ≤ top
at_most top v t = leb→le v top (both_right (leb 0 v) (leb v top) t)

-- A good slot's numbers are within its panel's largest.
pub slot-few : (u : Setup) → Small u → (s : Slot) → T (good_slot (fields_of u) (slot_of s)) → Few (C.contact (slot_of s))
slot-few u few s g =
    let gx = both_right (fits id_field s.id.0) _ g in
    let x = between_z (pos 0) (pos u.x) (pos s.x) in
    let gy = both_right x _ gx in
    let y = between_z (pos 0) (pos u.y) (pos s.y) in
    let gp = both_right y _ gy in
    let p = between_z (pos 0) (pos u.pressure) (pos s.pressure) in
    let gm = both_right p _ gp in
    let m = between_z (pos 0) (pos u.major) (pos s.major) in
    let gn = both_right m _ gm in (
      omega (arith, at_most u.x s.x (both_left x _ gx), few.x),
      omega (arith, at_most u.y s.y (both_left y _ gy), few.y),
      omega (arith, at_most u.pressure s.pressure (both_left p _ gp), few.pressure),
      omega (arith, at_most u.major s.major (both_left m _ gm), few.major),
      omega (arith, at_most u.minor s.minor (both_left (between_z (pos 0) (pos u.minor) (pos s.minor)) _ gn), few.minor),
    )

answer-few : (u : Setup) → Small u → (m : R.Mode) (s : Slot) → T (good_slot (fields_of u) (slot_of s)) → Few (asked_in m (slot_of s))
answer-few u few R.following s g = by_verdict Few (live s.id.0) (C.contact (slot_of s)) C.empty (λ _. slot-few u few s g) tt
answer-few u few R.dropped s g = tt
answer-few u few R.stale s g = tt

-- So is the answer of a slot of a good table.
table-few : (u : Setup) → Small u → (m : R.Mode) (n : ℕ) (t : List Slot) (k : ℕ) → k < n → T (good_records (fields_of u) n (table_of t)) → Few (asked_in m (get_or (table_of t) k []))
table-few u few m zero t k h g = absurd (omega (arith, h))
table-few u few m (suc n) [] k h g = absurd g
table-few u few m (suc n) (s ∷ t) zero h g = answer-few u few m s (both_left (good_slot (fields_of u) (slot_of s)) _ g)
table-few u few m (suc n) (s ∷ t) (suc k) h g = table-few u few m n t k (omega (arith, h)) (both_right (good_slot (fields_of u) (slot_of s)) _ g)

-- So is any answer.
pub call_few : (s : ReaderState) (k : ℕ) → Few (ask_call base (seen s) k)
unfolding ask_call
call_few s k =
    let r = (seen s).reader in
    by_verdict Few (reader_good base (seen s)) (asked (panel_of base (seen s).setup) r k) (C.refused C.state)
    (λ g. by_verdict Few (ltb k s.setup.n) (asked_in r.mode (get_or r.shown k [])) C.no_such_slot
    (λ b. table-few s.setup (good-small s (is_true _ g)) r.mode s.setup.n s.shown k (ltb→lt k s.setup.n b)
    (good-records (panel_seen s.setup) (table_of s.shown) (reader-state base (seen s) g).reader.shows)) tt)
    tt

pub asked-few : (s : ReaderState) (k : ℕ) (a : SlotAnswer) → a ≡ asked_from (ask_call base (seen s) k) → Told a
asked-few s k a e = subst Told (sym e) (call_few s k)

-- ---- the promise, by whether the bytes are formed

module _ (b : List ℕ) (k : ℕ) where
  abbrev by_test : Bool → C.Asked
  by_test t = cond t (ask_call base (seen (unpacked b)) k) (C.refused C.state)

  pub ask_in : (t : Bool) → formed b ≡ t → (r : ℕ) (told : List ℤ) → r ≡ C.asked_number (by_test t) → told ≡ asked_row (by_test t) → AskIn b k r told
  ask_in t e r told n x =
      let q : by_test t ≡ asked_of b k = ap by_test (sym e) in
      record { number = n ∙ ap C.asked_number q; answer = x ∙ ap asked_row q }
