-- The calls of a writer with pointer emulation (K6): exact refusals, answers, well-formed states and limits. Cited by PointerBytes, PointerShift and Births. Assumes nothing.
use mathlib.Core.Path.{◌≡◌, refl, sym, ap, ◌∙◌, subst}
use mathlib.Core.Bool.{Bool, true, false, not, cond, ◌&&◌}
use mathlib.Core.List.{List}
use Prim.Native.Nat.{ℕ, ◌+◌, ◌*◌, ◌≤◌}
use native.Mathlib.Omega.{arith}
use lib.Dec.{T, eqb, eqb→eq}
use lib.IntN.{ℤ}
use lib.ListN.{length}
use Rattle.model.proofs.Bools.{both_left, both_right}
use Rattle.model.proofs.Ones.{mask_self}
use Rattle.model.proofs.Exact.{exact, chain, carries}
use Rattle.model.proofs.Calls.{passed, by_verdict, accepted-is, refused-is}
use Rattle.model.proofs.Pointing.{fresh_pointer_good}
use Rattle.model.proofs.PointerFrame.{pointer_most, after-good}
use Rattle.model.specs.Panel.{Layout, Setup, setup_good, panel_of, good_layout}
use Rattle.model.specs.Frame.{sized, values_good}
use Rattle.model.specs.Sending.{changed_mask}
use Rattle.model.specs.Calls.{accepted, setup, state, frame, value, no_room, verdict_number, is_accepted, fresh_verdict, room_for, most_events}
use Rattle.model.specs.Refusals.{Exact, fresh_rows}
use Rattle.model.specs.Pointer.{pointable}
use Rattle.model.specs.Pointing.{PointerState, pointer_good, fresh_pointer, fresh_pointer_call, zero_pointer, pointer_need, pointer_after, pointer_verdict, PointerWritten, pointer_refused, pointer_taken, pointer_call, pointer_buffer, pointer_rows}

-- ---- fresh

module _ (l : Layout) (on : Bool) (u : Setup) where
  -- SETUP exactly when a setup number is outside its range.
  pub fresh_pointer_exact : Exact (verdict_number (fresh_pointer_call l on u).verdict) (fresh_rows l u)
  unfolding fresh_pointer_call
  fresh_pointer_exact = exact (fresh_rows l u) _ tt (chain (setup_good l u) setup accepted 0 refl)

  pub pointer_not-made : setup_good l u ≡ false → fresh_pointer_call l on u ≡ record { verdict = setup; state = zero_pointer l }
  unfolding fresh_pointer_call
  pointer_not-made e = rw e

  pub pointer_made : setup_good l u ≡ true → fresh_pointer_call l on u ≡ record { verdict = accepted; state = fresh_pointer l on u }
  unfolding fresh_pointer_call
  pointer_made e = rw e

  -- An accepted fresh state is well formed.
  pub fresh_call_good : T (pointable l) → T (is_accepted (fresh_pointer_call l on u).verdict) → T (pointer_good l (fresh_pointer_call l on u).state)
  unfolding fresh_pointer_call
  fresh_call_good able h =
      subst (λ a. T (pointer_good l a)) (sym (accepted-is (is_accepted (fresh_verdict l u)) (fresh_pointer l on u) (zero_pointer l) h))
      (fresh_pointer_good l on u able (passed (setup_good l u) setup accepted tt h).0)

-- ---- writing

-- What an accepted frame passed.
pub record PointerAccepted (l : Layout) (s : PointerState) (f : List ℤ) (at size : ℕ) : Type 0 where
  pub good : T (pointer_good l s)
  pub length : T (sized (panel_of l s.base.setup) f)
  pub values : T (values_good (panel_of l s.base.setup) f)
  pub room : T (room_for (pointer_need l s f) at size)

pub pointer_accepted : (l : Layout) (s : PointerState) (f : List ℤ) (at size : ℕ) → T (is_accepted (pointer_verdict l s f at size)) → PointerAccepted l s f at size
unfolding pointer_verdict
pointer_accepted l s f at size h =
    let p = panel_of l s.base.setup in
    let a = passed (pointer_good l s) state _ tt h in
    let b = passed (sized p f) frame _ tt a.1 in
    let c = passed (values_good p f) value _ tt b.1 in
    record { good = a.0; length = b.0; values = c.0; room = (passed (room_for (pointer_need l s f) at size) no_room accepted tt c.1).0 }

-- An accepted frame keeps a state well formed.
pub accepted-good : (l : Layout) (s : PointerState) (f : List ℤ) (at size : ℕ) → T (good_layout l) → T (is_accepted (pointer_verdict l s f at size))
    → T (pointer_good l (pointer_after l s f))
accepted-good l s f at size g h = let a = pointer_accepted l s f at size h in after-good l s f g a.good a.values

module _ (l : Layout) (s : PointerState) (f : List ℤ) (at size : ℕ) where
  pub pointer_has : (pointer_call l s f at size).verdict ≡ pointer_verdict l s f at size
  unfolding pointer_call
  pointer_has = carries (λ (a : PointerWritten). a.verdict) (pointer_verdict l s f at size) _ _ refl refl

  -- STATE, FRAME, VALUE and NO ROOM, in this order.
  pub pointer_exact : Exact (verdict_number (pointer_call l s f at size).verdict) (pointer_rows l s f at size)
  unfolding pointer_verdict
  pointer_exact =
      let p = panel_of l s.base.setup in
      let room = room_for (pointer_need l s f) at size in
      exact (pointer_rows l s f at size) _ tt
      (ap verdict_number pointer_has
      ∙ chain (pointer_good l s) state _ _
      (chain (sized p f) frame _ _
      (chain (values_good p f) value _ _
      (chain room no_room accepted 0 refl))))

  -- The answers by the verdict.
  pub pointer-taken : T (is_accepted (pointer_verdict l s f at size)) → pointer_call l s f at size ≡ pointer_taken l s f
  unfolding pointer_call
  pointer-taken h = accepted-is (is_accepted (pointer_verdict l s f at size)) _ _ h

  pub pointer-refused : T (not (is_accepted (pointer_verdict l s f at size)))
      → pointer_call l s f at size ≡ pointer_refused (pointer_verdict l s f at size) s (pointer_need l s f)
  unfolding pointer_call
  pointer-refused h = refused-is (is_accepted (pointer_verdict l s f at size)) _ _ h

  -- Writing a frame keeps a state well formed, whether it is accepted or refused.
  pub pointer_steady : T (good_layout l) → T (pointer_good l s) → T (pointer_good l (pointer_call l s f at size).state)
  unfolding pointer_call
  pointer_steady g good =
      by_verdict (λ (a : PointerWritten). T (pointer_good l a.state)) (is_accepted (pointer_verdict l s f at size)) _ _ (accepted-good l s f at size g) good

  -- The changed-slot number is of the table that came in and the table that is answered.
  pub pointer_changed : (pointer_call l s f at size).changed ≡ changed_mask s.base.writer.table (pointer_call l s f at size).state.base.writer.table
  unfolding pointer_call
  pointer_changed =
      by_verdict (λ (a : PointerWritten). a.changed ≡ changed_mask s.base.writer.table a.state.base.writer.table)
      (is_accepted (pointer_verdict l s f at size)) _ _
      (λ _. refl)
      (sym (mask_self s.base.writer.table))

  -- With NO ROOM the state and the frame were good.
  without_room : T (eqb (verdict_number (pointer_verdict l s f at size)) 5) → T (pointer_good l s) × T (values_good (panel_of l s.base.setup) f)
  without_room t =
      let g = pointer_good l s in
      let z = sized (panel_of l s.base.setup) f in
      let v = values_good (panel_of l s.base.setup) f in
      let n = ap verdict_number pointer_has ∙ eqb→eq (verdict_number (pointer_verdict l s f at size)) 5 t in
      let before = both_left (g && z && v) _ (pointer_exact.1.1.1.0.0 n) in
      (both_left g z (both_left (g && z) v before), both_right (g && z) v before)

  need_limit : T (good_layout l) → cond (eqb (verdict_number (pointer_verdict l s f at size)) 5) (pointer_need l s f) 0 ≤ 8 * (most_events l + 4)
  need_limit g =
      by_verdict (λ n. n ≤ 8 * (most_events l + 4)) (eqb (verdict_number (pointer_verdict l s f at size)) 5) (pointer_need l s f) 0
      (λ t. let h = without_room t in omega (arith, pointer_most l s f g h.0 h.1))
      (omega arith)

  -- No answer has more than `most_events` events and four, or needs more than eight times as many bytes.
  pub pointer_limits : T (good_layout l) → ((pointer_call l s f at size).count ≤ most_events l + 4) × ((pointer_call l s f at size).need ≤ 8 * (most_events l + 4))
  unfolding pointer_call
  pointer_limits g =
      by_verdict (λ (a : PointerWritten). (a.count ≤ most_events l + 4) × (a.need ≤ 8 * (most_events l + 4))) (is_accepted (pointer_verdict l s f at size)) _ _
      (λ h. let a = pointer_accepted l s f at size h in (pointer_most l s f g a.good a.values, omega arith))
      (omega arith, need_limit g)

-- A refused frame gives back the state as it came in, and touches no byte.
pub pointer_left : (l : Layout) (s : PointerState) (f : List ℤ) (at : ℕ) (buf : List ℕ) → T (not (is_accepted (pointer_verdict l s f at (length buf))))
    → ((pointer_call l s f at (length buf)).state ≡ s) × (pointer_buffer l s f at buf ≡ buf)
unfolding pointer_buffer
pointer_left l s f at buf h =
    (ap (λ (a : PointerWritten). a.state) (pointer-refused l s f at (length buf) h), refused-is (is_accepted (pointer_verdict l s f at (length buf))) _ _ h)
