-- Exact refusals: each call answers document 01's number of a refusal if and only if its test fails and the earlier ones pass, and 0 if and only
-- if all pass. Calls has it of a question, Pod of a pod's byte. Cited by Limits, link and pod. Assumes nothing.
use mathlib.Core.Path.{◌≡◌, refl, sym, ap, ◌∙◌, subst}
use mathlib.Core.Bool.{Bool, true, false, not, cond, ◌&&◌}
use mathlib.Core.List.{List, [], ◌∷◌}
use mathlib.Core.Logic.{◌↔◌}
use Prim.Native.Nat.{ℕ, ◌%◌}
use lib.Dec.{T, eqb, eqb_refl}
use lib.IntN.{ℤ}
use lib.ListN.{length}
use Rattle.model.proofs.Bools.{is_true, both_left, both_right}
use Rattle.model.specs.Panel.{Layout, Setup, setup_good, panel_of}
use Rattle.model.specs.Events.{Event}
use Rattle.model.specs.Frame.{sized, values_good}
use Rattle.model.specs.States.{WriterState, writer_good, ReaderState, reader_good}
use Rattle.model.specs.Refusals.{Row, ExactFrom, Exact, fresh_rows, write_rows, run_rows, state_rows, load_rows}
use Rattle.model.specs.Calls as C
use Rattle.model.specs.Calls.{Verdict, verdict_number, check, is_accepted, fresh_writer_call, fresh_reader_call, need_of, room_for, write_verdict}
use Rattle.model.specs.Calls.{Written, write_call, run_verdict, Ran, run_call, step_call, is_stale, image_good, load_verdict, load_call}

-- ---- a table's first row that fails

-- The number of the first row whose test fails; 0 if all pass.
abbrev first_failing : List Row → ℕ
first_failing [] = 0
first_failing (r ∷ rows) = cond r.passes (first_failing rows) r.number

-- n is none of the rows' numbers, and not 0.
abbrev unnamed : ℕ → List Row → Bool
unnamed n [] = not (eqb n 0)
unnamed n (r ∷ rows) = not (eqb n r.number) && unnamed n rows

-- The rows' numbers all differ, and none is 0; document 01's rise, document 02's need not (K12).
abbrev distinct : List Row → Bool
distinct [] = true
distinct (r ∷ rows) = unnamed r.number rows && distinct rows

differ : (a b : ℕ) → T (not (eqb a b)) → a ≡ b → ⊥
differ a b t e = subst (λ x. T (not x)) (ap (eqb a) (sym e) ∙ is_true _ (eqb_refl a)) t

-- A number that no row has is not answered.
none-at : (n : ℕ) (rows : List Row) → T (unnamed n rows) → n ≡ first_failing rows → ⊥
none-at n [] u e = differ n 0 u e
none-at n (r ∷ rows) u e = by_test r.passes e (none-at n rows (both_right (not (eqb n r.number)) _ u))
  where
    by_test : (t : Bool) → n ≡ cond t (first_failing rows) r.number → (n ≡ first_failing rows → ⊥) → ⊥
    by_test true e on = on e
    by_test false e on = differ n r.number (both_left (not (eqb n r.number)) _ u) e

-- Where all earlier rows passed the number is that of the first row that fails, and where one failed it is that row's, which no later one has.
exact_from : (rows : List Row) (earlier : Bool) (n : ℕ) → T (distinct rows)
    → (T earlier → n ≡ first_failing rows) → (T (not earlier) → T (unnamed n rows)) → ExactFrom earlier n rows
exact_from [] true n u a b = ((λ e. tt), (λ t. a tt))
exact_from [] false n u a b = ((λ e. absurd (differ n 0 (b tt) e)), (λ t. absurd t))
exact_from (r ∷ rows) false n u a b =
    let other = not (eqb n r.number) in
    let later = both_right (unnamed r.number rows) _ u in (
      ((λ e. absurd (differ n r.number (both_left other _ (b tt)) e)), (λ t. absurd t)),
      exact_from rows false n later (λ t. absurd t) (λ t. both_right other _ (b tt)),
    )
exact_from (r ∷ rows) true n u a b =
    let later = both_right (unnamed r.number rows) _ u in
    by_test r.passes (a tt) (exact_from rows true n later) (exact_from rows false n later (λ q. absurd q))
  where
    by_test : (t : Bool) → n ≡ cond t (first_failing rows) r.number
        → ((T true → n ≡ first_failing rows) → (T (not true) → T (unnamed n rows)) → ExactFrom true n rows)
        → ((T (not false) → T (unnamed n rows)) → ExactFrom false n rows)
        → ((n ≡ r.number) ↔ T (not t)) × ExactFrom t n rows
    by_test true e on off = (
      ((λ q. none-at r.number rows (both_left (unnamed r.number rows) _ u) (sym q ∙ e)), (λ q. absurd q)),
      on (λ q. e) (λ q. absurd q),
    )
    by_test false e on off = (
      ((λ q. tt), (λ q. e)),
      off (λ q. subst (λ m. T (unnamed m rows)) (sym e) (both_left (unnamed r.number rows) _ u)),
    )

-- A call that answers the first row that fails of rows whose numbers differ answers exactly as the table says.
pub exact : (rows : List Row) (n : ℕ) → T (distinct rows) → n ≡ first_failing rows → Exact n rows
exact rows n u e = exact_from rows true n u (λ t. e) (λ t. absurd t)

-- ---- a call's verdict

-- A chain of tests answers the number of the first that fails.
pub chain : (b : Bool) (why more : Verdict) (n : ℕ) → verdict_number more ≡ n → verdict_number (check b why more) ≡ cond b n (verdict_number why)
chain true why more n e = e
chain false why more n e = refl

accepted_only : (v : Verdict) → T (is_accepted v) → C.accepted ≡ v
accepted_only C.accepted t = refl
accepted_only C.setup t = absurd t
accepted_only C.state t = absurd t
accepted_only C.frame t = absurd t
accepted_only C.value t = absurd t
accepted_only C.no_room t = absurd t
accepted_only C.ragged t = absurd t
accepted_only C.not_stale t = absurd t
accepted_only C.image t = absurd t
accepted_only C.too_many t = absurd t
accepted_only C.unfinished t = absurd t
accepted_only C.command t = absurd t

-- An answer that is accepted by name where the verdict is, and else carries it, has the verdict.
pub carries : {A : Type 0} (verdict : A → Verdict) (v : Verdict) (x y : A) → verdict x ≡ C.accepted → verdict y ≡ v → verdict (cond (is_accepted v) x y) ≡ v
carries {A} verdict v x y e f = by_test (is_accepted v) refl
  where
    by_test : (b : Bool) → is_accepted v ≡ b → verdict (cond b x y) ≡ v
    by_test true q = e ∙ accepted_only v (subst T (sym q) tt)
    by_test false q = f

-- ---- the calls

module _ (l : Layout) (u : Setup) where
  -- SETUP exactly when a setup number is outside its range.
  pub fresh-writer_exact : Exact (verdict_number (fresh_writer_call l u).verdict) (fresh_rows l u)
  unfolding fresh_writer_call
  fresh-writer_exact = exact (fresh_rows l u) _ tt (chain (setup_good l u) C.setup C.accepted 0 refl)

  pub fresh-reader_exact : Exact (verdict_number (fresh_reader_call l u).verdict) (fresh_rows l u)
  unfolding fresh_reader_call
  fresh-reader_exact = exact (fresh_rows l u) _ tt (chain (setup_good l u) C.setup C.accepted 0 refl)

module _ (l : Layout) (s : WriterState) (f : List ℤ) (at size : ℕ) where
  pub write_has : (write_call l s f at size).verdict ≡ write_verdict l s f at size
  unfolding write_call
  write_has = carries (λ (a : Written). a.verdict) (write_verdict l s f at size) _ _ refl refl

  -- STATE, FRAME, VALUE and NO ROOM, in this order.
  pub write_exact : Exact (verdict_number (write_call l s f at size).verdict) (write_rows l s f at size)
  unfolding write_verdict
  write_exact =
      let p = panel_of l s.setup in
      let room = room_for (need_of p s.writer f) at size in
      exact (write_rows l s f at size) _ tt
      (ap verdict_number write_has
      ∙ chain (writer_good l s) C.state _ _ (chain (sized p f) C.frame _ _ (chain (values_good p f) C.value _ _ (chain room C.no_room C.accepted 0 refl))))

module _ (l : Layout) (s : ReaderState) where
  pub run_has : (bs : List ℕ) → (run_call l s bs).verdict ≡ run_verdict l s bs
  unfolding run_call
  run_has bs = carries (λ (a : Ran). a.verdict) (run_verdict l s bs) _ _ refl refl

  -- STATE, then RAGGED.
  pub run_exact : (bs : List ℕ) → Exact (verdict_number (run_call l s bs).verdict) (run_rows l s bs)
  unfolding run_verdict
  run_exact bs =
      exact (run_rows l s bs) _ tt
      (ap verdict_number (run_has bs) ∙ chain (reader_good l s) C.state _ _ (chain (eqb (length bs % 8) 0) C.ragged C.accepted 0 refl))

  step_has : (e : Event) → (step_call l s e).verdict ≡ check (reader_good l s) C.state C.accepted
  unfolding step_call
  step_has e = carries (λ (a : Ran). a.verdict) (check (reader_good l s) C.state C.accepted) _ _ refl refl

  -- STATE alone.
  pub step_exact : (e : Event) → Exact (verdict_number (step_call l s e).verdict) (state_rows l s)
  step_exact e = exact (state_rows l s) _ tt (ap verdict_number (step_has e) ∙ chain (reader_good l s) C.state C.accepted 0 refl)

  -- STATE, NOT STALE and IMAGE, in this order.
  pub load_exact : (m : List ℤ) (c : ℕ) → Exact (verdict_number (load_call l s m c).verdict) (load_rows l s m c)
  unfolding load_call load_verdict
  load_exact m c =
      let good = image_good (panel_of l s.setup) m c in
      exact (load_rows l s m c) _ tt
      (chain (reader_good l s) C.state _ _ (chain (is_stale s.reader.mode) C.not_stale _ _ (chain good C.image C.accepted 0 refl)))
