-- An accepted frame with pointer emulation (K6) writes nothing just where it has no contact event: no emulated event comes alone. Cited by link. Assumes
-- nothing.
use mathlib.Core.Path.{◌≡◌, refl, sym, ap, ◌∙◌}
use mathlib.Core.List.{List, [], ◌∷◌}
use Prim.Native.Nat.{ℕ, suc, ◌+◌}
use native.Mathlib.Omega.{arith}
use lib.Dec.{T, eqb}
use lib.IntN.{ℤ}
use lib.ListN.{length}
use borrow.Author.Tests.{ne_eqb}
use Rattle.model.proofs.PointerFrame.{none-none, count_adds}
use Rattle.model.proofs.PointerCalls.{pointer_accepted, pointer-taken}
use Rattle.model.specs.Panel.{Layout, panel_of, good_layout}
use Rattle.model.specs.Events.{Event}
use Rattle.model.specs.Calls.{is_accepted, frame_events}
use Rattle.model.specs.Pointing.{PointerState, pointer_verdict, PointerWritten, pointer_call}

no_more : (n : ℕ) (es : List Event) (m : ℕ) → n ≡ length es + m → (es ≡ [] → n ≡ 0) → eqb n 0 ≡ eqb (length es) 0
no_more n [] m e h = ap (λ k. eqb k 0) (h refl)
no_more n (x ∷ es) m e h = ne_eqb n 0 (λ z. omega arith) ∙ sym (ne_eqb (suc (length es)) 0 (λ z. omega arith))

module _ (l : Layout) (s : PointerState) (f : List ℤ) (at size : ℕ) (g : T (good_layout l)) (h : T (is_accepted (pointer_verdict l s f at size))) where
  abbrev contacts : List Event
  contacts = frame_events (panel_of l s.base.setup) s.base.writer f

  -- No contact event: nothing is counted.
  pub none-counted : contacts ≡ [] → (pointer_call l s f at size).count ≡ 0
  none-counted e =
      let a = pointer_accepted l s f at size h in
      ap (λ (w : PointerWritten). w.count) (pointer-taken l s f at size h) ∙ ap length (none-none l s f g a.good a.values e)

  -- And only then.
  pub none_alike : eqb (pointer_call l s f at size).count 0 ≡ eqb (length contacts) 0
  none_alike =
      let a = pointer_accepted l s f at size h in
      no_more _ contacts _ (ap (λ (w : PointerWritten). w.count) (pointer-taken l s f at size h) ∙ count_adds l s f g a.good a.values) none-counted
