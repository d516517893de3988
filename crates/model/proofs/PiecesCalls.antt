-- K5's calls: their refusals exactly as stated, what a refusal hands back, a fresh state, and what is asked. Cited by the crates pieces and link.
-- Assumes nothing.
use mathlib.Core.Path.{◌≡◌, refl, sym, ap, ◌∙◌}
use mathlib.Core.Bool.{Bool, true, false, not, cond, ◌&&◌}
use mathlib.Core.List.{List, [], ◌++◌}
use Prim.Native.Nat.{ℕ}
use native.Mathlib.Omega.{arith}
use lib.Dec.{T}
use lib.IntN.{ℤ}
use Rattle.model.proofs.Bools.{holds, and_left}
use Rattle.model.proofs.Exact.{exact, fresh-reader_exact}
use Rattle.model.proofs.Calls.{load-refused, fresh-reader-good, ask-refusal}
use Rattle.model.proofs.Answers.{load-bad-state, ask-bad-state}
use Rattle.model.proofs.Pieces.{line_facts, carrying-good, read-accepted, take-reads, take-refused}
use Rattle.model.specs.Panel.{Layout, Setup, panel_of}
use Rattle.model.specs.States.{reader_good}
use Rattle.model.specs.Refusals.{Exact, fresh_rows}
use Rattle.model.specs.Calls as C
use Rattle.model.specs.Calls.{verdict_number, is_accepted, check, fresh_reader_call, is_stale, image_good, load_verdict, Loaded, load_call}
use Rattle.model.specs.Calls.{refused, asked_number, ask_call}
use Rattle.model.specs.Pieces.{LineState, held_in, left_good, line_good, fresh_line_call, Taken, take_call, beside, line_load_call, line_ask_call}
use Rattle.model.specs.Pieces.{line_rows, line_load_rows}

-- ---- fresh

-- SETUP exactly when a setup number is outside its range.
pub fresh-line_exact : (l : Layout) (u : Setup) → Exact (verdict_number (fresh_line_call l u).verdict) (fresh_rows l u)
unfolding fresh_line_call
fresh-line_exact l u = fresh-reader_exact l u

-- An accepted fresh state is well formed.
pub fresh-line-good : (l : Layout) (u : Setup) → T (is_accepted (fresh_line_call l u).verdict) → T (line_good l (fresh_line_call l u).state)
unfolding fresh_line_call
fresh-line-good l u h = carrying-good l (fresh_reader_call l u).state [] (fresh-reader-good l u h) (omega arith)

-- ---- the left-over bytes are judged first

-- A test that decides nothing where it fails may be left out.
moot : {A : Type 0} (a b : Bool) (x y : A) → (a ≡ false → x ≡ y) → cond (a && b) x y ≡ cond b x y
moot true b x y f = refl
moot false true x y f = sym (f refl)
moot false false x y f = refl

-- A load and a question are handed on to the reader, which judges itself: the left-over bytes alone are judged before, and 2 is given in the same cases.
module _ (l : Layout) (s : LineState) where
  pub load_by_left : (m : List ℤ) (c : ℕ)
      → line_load_call l s m c
      ≡ (let a = load_call l s.reader m c in
      cond (left_good s.left s.count)
      (record { verdict = a.verdict; state = beside s a.state })
      (record { verdict = C.state; state = s }))
  unfolding line_load_call line_good
  load_by_left m c =
      moot (reader_good l s.reader) (left_good s.left s.count) _ _
      (λ e.
      ap (λ (a : Loaded). record { verdict = a.verdict; state = beside s a.state })
      (load-bad-state l s.reader m c e))

  pub ask_by_left : (k : ℕ) → line_ask_call l s k ≡ cond (left_good s.left s.count) (ask_call l s.reader k) (refused C.state)
  unfolding line_ask_call line_good
  ask_by_left k = moot (reader_good l s.reader) (left_good s.left s.count) _ _ (ask-bad-state l s.reader k)

-- ---- refusals

module _ (l : Layout) (s : LineState) where
  reader-good : line_good l s ≡ true → reader_good l s.reader ≡ true
  unfolding line_good
  reader-good e = and_left (reader_good l s.reader) _ e

  take-number : (piece : List ℕ) (b : Bool) → line_good l s ≡ b → verdict_number (take_call l s piece).verdict ≡ cond b 0 2
  take-number piece true e =
      let g = holds _ e in
      ap (λ (a : Taken). verdict_number a.verdict) (take-reads l s g piece)
      ∙ ap verdict_number (read-accepted l s.reader (held_in s ++ piece) (line_facts l s g).reader)
  take-number piece false e = ap (λ (a : Taken). verdict_number a.verdict) (take-refused l s piece e)

  -- STATE alone, and never RAGGED.
  pub take_exact : (piece : List ℕ) → Exact (verdict_number (take_call l s piece).verdict) (line_rows l s)
  take_exact piece = exact (line_rows l s) _ tt (take-number piece (line_good l s) refl)

  load-number : (m : List ℤ) (c : ℕ) (b : Bool) → line_good l s ≡ b
      → verdict_number (line_load_call l s m c).verdict
      ≡ cond b (cond (is_stale s.reader.reader.mode) (cond (image_good (panel_of l s.reader.setup) m c) 0 8) 7) 2
  unfolding line_load_call load_call load_verdict reader-good
  load-number m c true e = rw (e, reader-good e) (by_tests (is_stale s.reader.reader.mode) (image_good (panel_of l s.reader.setup) m c))
    where
      by_tests : (a b : Bool) → verdict_number (check a C.not_stale (check b C.image C.accepted)) ≡ cond a (cond b 0 8) 7
      by_tests true true = refl
      by_tests true false = refl
      by_tests false b = refl
  load-number m c false e = rw e

  -- STATE, NOT STALE and IMAGE, in this order.
  pub line-load_exact : (m : List ℤ) (c : ℕ) → Exact (verdict_number (line_load_call l s m c).verdict) (line_load_rows l s m c)
  line-load_exact m c = exact (line_load_rows l s m c) _ tt (load-number m c (line_good l s) refl)

  handed_back : (m : List ℤ) (c : ℕ) (b : Bool) → line_good l s ≡ b → T (not (is_accepted (line_load_call l s m c).verdict)) → (line_load_call l s m c).state ≡ s
  unfolding line_load_call load_call
  handed_back m c true e n = rw e (ap (beside s) (load-refused l s.reader m c (rw e at n)))
  handed_back m c false e n = rw e

  -- A refused load gives back the state as it came in.
  pub line-load-refused : (m : List ℤ) (c : ℕ) → T (not (is_accepted (line_load_call l s m c).verdict)) → (line_load_call l s m c).state ≡ s
  line-load-refused m c = handed_back m c (line_good l s) refl

  ask-number : (k : ℕ) (b : Bool) → line_good l s ≡ b → asked_number (line_ask_call l s k) ≡ cond b 0 2
  unfolding line_ask_call reader-good
  ask-number k true e = rw e (ask-refusal l s.reader k ∙ ap (λ t. cond t 0 2) (reader-good e))
  ask-number k false e = rw e

  -- STATE alone.
  pub line-ask_exact : (k : ℕ) → Exact (asked_number (line_ask_call l s k)) (line_rows l s)
  line-ask_exact k = exact (line_rows l s) _ tt (ask-number k (line_good l s) refl)
