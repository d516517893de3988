-- A writer with pointer emulation (K6), seen without it, is the writer without the option after the calls that were accepted, and its contact events are that
-- writer's events: so the theorems on a shift hold of it too. Assumes nothing.
use mathlib.Core.Path.{◌≡◌, refl, sym, ap, ap₂, ◌∙◌}
use mathlib.Core.Bool.{true, false, not, cond}
use mathlib.Core.List.{List, [], ◌∷◌, ◌++◌}
use Prim.Native.Nat.{ℕ, ◌-◌, ◌≤◌}
use native.Mathlib.Omega.{arith}
use lib.Dec.{T, leb, leb→le, le→leb}
use lib.IntN.{ℤ}
use lib.ListN.{length}
use Rattle.model.proofs.Bools.{is_true, both, both_left, both_right}
use Rattle.model.proofs.Calls.{accepted-is, refused-is}
use Rattle.model.proofs.Link.{answer-is}
use Rattle.model.proofs.Pointing.{pointer_facts}
use Rattle.model.proofs.PointerFrame.{count_adds}
use Rattle.model.proofs.PointerCalls.{pointer_accepted, pointer-taken, pointer-refused, pointer_steady}
use Rattle.model.specs.Panel.{Layout, panel_of, good_layout}
use Rattle.model.specs.Events.{Event}
use Rattle.model.specs.Frame.{sized, values_good}
use Rattle.model.specs.States.{writer_good}
use Rattle.model.specs.Calls.{is_accepted, frame_events, need_of, room_for, write_verdict, Written}
use Rattle.model.specs.Shift.{FrameCall, wrote, wrote_all, sent, sent_all}
use Rattle.model.specs.Pointing.{PointerState, pointer_good, pointer_need, pointer_verdict, PointerWritten}
use Rattle.model.specs.PointerShift.{pointer_judged, pointer_wrote, pointer_wrote_all, accepted_calls, contacts_sent, contacts_sent_all}

-- ---- one call

-- The contact events need no more room.
need_less : (l : Layout) (s : PointerState) (f : List ℤ) → T (good_layout l) → T (pointer_good l s) → T (values_good (panel_of l s.base.setup) f)
    → need_of (panel_of l s.base.setup) s.base.writer f ≤ pointer_need l s f
need_less l s f g good vals = omega (arith, count_adds l s f g good vals)

room_less : (a b at size : ℕ) → a ≤ b → T (room_for b at size) → T (room_for a at size)
room_less a b at size l r =
    both (leb at size) _ (both_left (leb at size) _ r) (le→leb a (size - at) (omega (arith, leb→le b (size - at) (both_right (leb at size) _ r))))

-- What is accepted with the option is accepted without.
pub plain-accepted : (l : Layout) (s : PointerState) (f : List ℤ) (at size : ℕ) → T (good_layout l) → T (is_accepted (pointer_verdict l s f at size))
    → T (is_accepted (write_verdict l s.base f at size))
unfolding write_verdict
plain-accepted l s f at size g h =
    let p = panel_of l s.base.setup in
    let a = pointer_accepted l s f at size h in
    let w = is_true (writer_good l s.base) (pointer_facts l s a.good).writer in
    let z = is_true (sized p f) a.length in
    let v = is_true (values_good p f) a.values in
    let need = need_of p s.base.writer f in
    let r = is_true (room_for need at size) (room_less need (pointer_need l s f) at size (need_less l s f g a.good a.values) a.room) in
    rw (w, z, v, r) tt

module _ (l : Layout) (s : PointerState) (k : FrameCall) (g : T (good_layout l)) where
  module _ (h : T (is_accepted (pointer_judged l s k))) where
    plain-wrote : wrote l s.base k ≡ (pointer_wrote l s k).base
    plain-wrote =
        let size = length k.buffer in
        ap (λ (a : Written). a.state) (answer-is l s.base k.frame k.at k.buffer g (plain-accepted l s k.frame k.at size g h))
        ∙ sym (ap (λ (a : PointerWritten). a.state.base) (pointer-taken l s k.frame k.at size h))

    plain-sent : contacts_sent l s k ≡ sent l s.base k
    plain-sent =
        let size = length k.buffer in
        let es = frame_events (panel_of l s.base.setup) s.base.writer k.frame in
        accepted-is (is_accepted (pointer_judged l s k)) es [] h
        ∙ sym (accepted-is (is_accepted (write_verdict l s.base k.frame k.at size)) es [] (plain-accepted l s k.frame k.at size g h))

  module _ (h : T (not (is_accepted (pointer_judged l s k)))) where
    kept : (pointer_wrote l s k).base ≡ s.base
    kept = ap (λ (a : PointerWritten). a.state.base) (pointer-refused l s k.frame k.at (length k.buffer) h)

    none-sent : contacts_sent l s k ≡ []
    none-sent = refused-is (is_accepted (pointer_judged l s k)) (frame_events (panel_of l s.base.setup) s.base.writer k.frame) [] h

-- ---- all calls

module _ (l : Layout) (g : T (good_layout l)) where
  pub calls_plain : (s : PointerState) (ks : List FrameCall) → T (pointer_good l s)
      → (let qs = accepted_calls l s ks in ((pointer_wrote_all l s ks).base ≡ wrote_all l s.base qs) × (contacts_sent_all l s ks ≡ sent_all l s.base qs))
  calls_plain s [] good = (refl, refl)
  calls_plain s (k ∷ ks) good =
      let z = pointer_wrote l s k in
      let qs = accepted_calls l z ks in
      let b = is_accepted (pointer_judged l s k) in
      let more = calls_plain z ks (pointer_steady l s k.frame k.at (length k.buffer) g good) in
      let on : z.base ≡ wrote l s.base k → wrote_all l z.base qs ≡ wrote_all l (wrote l s.base k) qs = ap (λ w. wrote_all l w qs) in
      (elim b as (λ t. (T t → T b) → (T (not t) → T (not b))
      → ((pointer_wrote_all l z ks).base ≡ wrote_all l s.base (cond t (k ∷ qs) qs)) × (contacts_sent l s k ++ contacts_sent_all l z ks ≡ sent_all l s.base (cond t (k ∷ qs) qs))) [
        | true ↦ λ y n.
            let e = sym (plain-wrote l s k g (y tt)) in (
              more.0 ∙ on e,
              ap₂ {C = List Event} (λ x r. x ++ r) (plain-sent l s k g (y tt)) (more.1 ∙ ap (λ w. sent_all l w qs) e),
            )
        | false ↦ λ y n.
            let e = kept l s k g (n tt) in (
              more.0 ∙ ap (λ w. wrote_all l w qs) e,
              ap {B = List Event} (λ x. x ++ contacts_sent_all l z ks) (none-sent l s k g (n tt)) ∙ (more.1 ∙ ap (λ w. sent_all l w qs) e),
            )
      ]) (λ t. t) (λ t. t)
