-- What a call over lent bytes tells, from the answer by value: bytes that are not formed, an answer that is settled, and a fresh state. Cited by the proofs of the calls. Assumes nothing.
use mathlib.Core.Path.{◌≡◌, refl, sym, ap, ◌∙◌, subst}
use mathlib.Core.Bool.{Bool, true, false, cond, ◌&&◌}
use mathlib.Core.List.{List, [], ◌∷◌}
use Prim.Native.Nat.{ℕ, ◌<◌, ◌^◌}
use native.Mathlib.Omega.{arith}
use lib.Dec.{T, eqb, leb}
use lib.IntN.{ℤ}
use lib.ListN.{length}
use Rattle.model.specs.Panel.{base, setup_good}
use Rattle.model.specs.Calls as C
use Rattle.model.specs.Calls.{check, is_accepted}
use Rattle.model.specs.Pointing.{FreshPointer, pointer_good, fresh_pointer_call, pointer_call, pointer_buffer}
use Rattle.model.specs.Anonymous.{anonymous_verdict, anonymous_frame, anonymous_call, anonymous_buffer}
use Rattle.model.proofs.Bools.{is_true}
use Rattle.model.proofs.PointerCalls.{pointer_made}
use Rattle.common.specs.declared.Verdict.TheVariants.{State}
use Rattle.common.specs.Seen.{verdict_from, verdict_number}
use Rattle.common.proofs.Back.{number-seen}
use Rattle.panel.specs.declared.Setup.{Setup}
use Rattle.panel.specs.Seen.{setup_of}
use Rattle.writer.specs.declared.WriterState.{WriterState}
use Rattle.writer.specs.declared.Written.{Written}
use Rattle.writer.specs.Seen.{seen, fresh_from, written_from, not_written_by}
use Rattle.writer.proofs.Demands.{fresh_steady}
use Rattle.writer.proofs.States.{good-size, good-current}
use Rattle.anonymous.proofs.Outcome.{refused_so, written_so}
use Rattle.lent_writer.specs.Layout.{state_size}
use Rattle.lent_writer.specs.Seen.{formed, unpacked, packed, state_after, told_of, Settles, Writes, written, written_buffer, WritesFrame, anonymous_written, anonymous_left, WritesAnonymous, setup_given, fresh_refusal, fresh_state, Freshens}

-- ---- an answer that is settled

pub settled : (b : List ℕ) (w v : Written) (left : List ℕ) (r : ℕ) (b' a' buf' : List ℕ) → w ≡ v → Settles b w r b' a' → buf' ≡ left → Writes b v left r b' a' buf'
settled b w v left r b' a' buf' e h eb = record {
  number = h.number ∙ ap (λ (x : Written). verdict_number x.verdict) e;
  state = h.state ∙ ap (state_after b) e;
  answer = h.answer ∙ ap told_of e;
  buffer = eb;
}

-- Bytes that are no state: refused by STATE, and all is left as it was.
refused : (b : List ℕ) (v : Written) (left buf : List ℕ) (r : ℕ) (a' : List ℕ) → not_written_by State (unpacked b) 0 ≡ v → buf ≡ left → (r ≡ verdict_number State) × (a' ≡ 0 ∷ 0 ∷ 0 ∷ []) → Writes b v left r b a' buf
refused b v left buf r a' e eb h = settled b (not_written_by State (unpacked b) 0) v left r b a' buf e (record { number = h.0; state = refl; answer = h.1 }) eb

module _ (b : List ℕ) (at : ℕ) (buf : List ℕ) where
  module _ (f : List ℤ) where
    frame_is : (g : Bool) → formed b ≡ g → written b f at (length buf) ≡ cond g (written_from (pointer_call base (seen (unpacked b)) f at (length buf))) (not_written_by State (unpacked b) 0)
    unfolding written
    frame_is g e = ap (λ x. cond x (written_from (pointer_call base (seen (unpacked b)) f at (length buf))) (not_written_by State (unpacked b) 0)) e

    left_is : (g : Bool) → formed b ≡ g → written_buffer b f at buf ≡ cond g (pointer_buffer base (seen (unpacked b)) f at buf) buf
    unfolding written_buffer
    left_is g e = ap (λ x. cond x (pointer_buffer base (seen (unpacked b)) f at buf) buf) e

    pub frame_refused : formed b ≡ false → (r : ℕ) (a' : List ℕ) → (r ≡ verdict_number State) × (a' ≡ 0 ∷ 0 ∷ 0 ∷ []) → WritesFrame b f at buf r b a' buf
    frame_refused e r a' h = refused b _ _ buf r a' (sym (frame_is false e)) (sym (left_is false e)) h

    -- The call by value of the state that the bytes hold.
    pub frame-settled : formed b ≡ true → (s : WriterState) (w : Written) (r : ℕ) (b' a' buf' : List ℕ) → s ≡ unpacked b → w ≡ written_from (pointer_call base (seen s) f at (length buf))
        → Settles b w r b' a' → buf' ≡ pointer_buffer base (seen s) f at buf → WritesFrame b f at buf r b' a' buf'
    frame-settled e s w r b' a' buf' es ew h eb =
        settled b w _ _ r b' a' buf'
        (ew ∙ ap (λ x. written_from (pointer_call base (seen x) f at (length buf))) es ∙ sym (frame_is true e)) h
        (eb ∙ ap (λ x. pointer_buffer base (seen x) f at buf) es ∙ sym (left_is true e))

  module _ (rs : List ℕ) where
    anonymous_is : (g : Bool) → formed b ≡ g
        → anonymous_written b rs at (length buf) ≡ cond g (written_from (anonymous_call base (seen (unpacked b)) rs at (length buf))) (not_written_by State (unpacked b) 0)
    unfolding anonymous_written
    anonymous_is g e = ap (λ x. cond x (written_from (anonymous_call base (seen (unpacked b)) rs at (length buf))) (not_written_by State (unpacked b) 0)) e

    anonymous_left-is : (g : Bool) → formed b ≡ g → anonymous_left b rs at buf ≡ cond g (anonymous_buffer base (seen (unpacked b)) rs at buf) buf
    unfolding anonymous_left
    anonymous_left-is g e = ap (λ x. cond x (anonymous_buffer base (seen (unpacked b)) rs at buf) buf) e

    pub anonymous_refused : formed b ≡ false → (r : ℕ) (a' : List ℕ) → (r ≡ verdict_number State) × (a' ≡ 0 ∷ 0 ∷ 0 ∷ []) → WritesAnonymous b rs at buf r b a' buf
    anonymous_refused e r a' h = refused b _ _ buf r a' (sym (anonymous_is false e)) (sym (anonymous_left-is false e)) h

    pub anonymous_settled : formed b ≡ true → (s : WriterState) (w : Written) (r : ℕ) (b' a' buf' : List ℕ) → s ≡ unpacked b → w ≡ written_from (anonymous_call base (seen s) rs at (length buf))
        → Settles b w r b' a' → buf' ≡ anonymous_buffer base (seen s) rs at buf → WritesAnonymous b rs at buf r b' a' buf'
    anonymous_settled e s w r b' a' buf' es ew h eb =
        settled b w _ _ r b' a' buf'
        (ew ∙ ap (λ x. written_from (anonymous_call base (seen x) rs at (length buf))) es ∙ sym (anonymous_is true e)) h
        (eb ∙ ap (λ x. anonymous_buffer base (seen x) rs at buf) es ∙ sym (anonymous_left-is true e))

    -- Records that are refused: the number, and all is left as it was.
    pub records-refused : formed b ≡ true → (v : C.Verdict) → anonymous_verdict base (seen (unpacked b)) rs ≡ v → is_accepted v ≡ false
        → (r : ℕ) (a' : List ℕ) → r ≡ C.verdict_number v → a' ≡ 0 ∷ 0 ∷ 0 ∷ [] → WritesAnonymous b rs at buf r b a' buf
    records-refused e v ev n r a' er ea =
        let s = unpacked b in
        let by_value = refused_so s rs at buf v ev n in
        let none : (x : Bool) → ◌≡◌ {A = ℕ} (cond x 0 0) 0 = λ x. (elim x as (λ y. ◌≡◌ {A = ℕ} (cond y 0 0) 0) [ true ↦ refl | false ↦ refl ]) in
        let need = none (eqb (C.verdict_number v) 5) in
        let number = number-seen v in
        let w = not_written_by (verdict_from v) s 0 in
        anonymous_settled e s w r b a' buf refl (ap (not_written_by (verdict_from v) s) (sym need) ∙ by_value.0)
        (record { number = er ∙ sym number; state = sym (ap (λ x. cond x (packed s) b) (ap (λ x. eqb x 0) number ∙ n)); answer = ea }) by_value.1

    -- Records that pass: the call in place of their frame.
    pub records-taken : formed b ≡ true → is_accepted (anonymous_verdict base (seen (unpacked b)) rs) ≡ true → (f : List ℤ) → f ≡ anonymous_frame base (seen (unpacked b)) rs
        → (r : ℕ) (b' a' buf' : List ℕ) → WritesFrame b f at buf r b' a' buf' → WritesAnonymous b rs at buf r b' a' buf'
    records-taken e v f ef r b' a' buf' h =
        let q = written_so (unpacked b) rs at buf f v ef in
        let same : written b f at (length buf) ≡ anonymous_written b rs at (length buf) = frame_is f true e ∙ q.0 ∙ sym (anonymous_is true e) in
        record {
          number = h.number ∙ ap (λ (x : Written). verdict_number x.verdict) same;
          state = h.state ∙ ap (state_after b) same;
          answer = h.answer ∙ ap told_of same;
          buffer = h.buffer ∙ left_is f true e ∙ q.1 ∙ sym (anonymous_left-is true e);
        }

-- ---- a fresh state

-- By its two tests: of the setup, and of the bytes and the option.
pub freshens : (b us : List ℕ) (on : ℕ) (g z : Bool) → setup_good base (setup_of (setup_given us)) ≡ g → (eqb (length b) state_size && leb on 1) ≡ z → (r : ℕ) (b' : List ℕ)
    → r ≡ C.verdict_number (check g C.setup (check z C.state C.accepted)) → b' ≡ cond (is_accepted (check g C.setup (check z C.state C.accepted))) (packed (fresh_state us on)) b → Freshens b us on r b'
freshens b us on g z eg ez r b' er eb =
    let e : check g C.setup (check z C.state C.accepted) ≡ fresh_refusal b us on = sym (λ i. check (eg i) C.setup (check (ez i) C.state C.accepted)) in
    record { number = er ∙ ap C.verdict_number e; state = eb ∙ ap (λ v. cond (is_accepted v) (packed (fresh_state us on)) b) e }

-- The state of a good setup is well formed, so that bytes can hold its numbers.
pub fresh-held : (u : Setup) (on : Bool) → setup_good base (setup_of u) ≡ true
    → ((fresh_from (fresh_pointer_call base on (setup_of u))).state.setup.n < 2 ^ 32) × ((fresh_from (fresh_pointer_call base on (setup_of u))).state.current.0 < 2 ^ 32)
fresh-held u on e =
    let made = pointer_made base on (setup_of u) e in
    let h = subst (λ (a : FreshPointer). T (is_accepted a.verdict)) (sym made) tt in
    let s = (fresh_from (fresh_pointer_call base on (setup_of u))).state in
    let good = is_true (pointer_good base (seen s)) (fresh_steady u on h) in
    (omega (arith, good-size s good), omega (arith, good-current s good))
