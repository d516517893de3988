-- What the promise of `write` tells of pressure 0, for every answer that it allows: 4 if and only if the state and the frame's length are good and a
-- number is out of document 01's range or a contact does not press (K8). Cited by docs/PROMISES.md. Assumes nothing.
use mathlib.Core.Path.{refl, subst}
use mathlib.Core.List.{List, [], ◌∷◌}
use Prim.Native.Nat.{ℕ}
use lib.IntN.{ℤ}
use lib.ListN.{length}
use Rattle.model.specs.Panel.{base}
use Rattle.model.specs.Frame.{sized}
use Rattle.model.specs.Calls.{room_for}
use Rattle.model.specs.Refusals.{unless, Exact}
use Rattle.model.specs.Pointing.{pointer_good, pointer_need}
use Rattle.model.proofs.Presses.{values_press}
use Rattle.common.specs.Seen.{verdict_number}
use Rattle.panel.specs.Seen.{setup_of, panel_seen}
use Rattle.writer.specs.declared.WriterState.{WriterState}
use Rattle.writer.specs.declared.Written.{Written}
use Rattle.writer.specs.Seen as W
use Rattle.link.specs.Promises.{Wrote}
use Rattle.link.specs.Pointer.{press_rows}
use Rattle.link.proofs.Exact.{wrote_exact}

pub wrote-presses : (s : WriterState) (f : List ℤ) (at : ℕ) (buf : List ℕ) (r : Written) (after : List ℕ) → Wrote s f at buf r after
    → Exact (verdict_number r.verdict) (press_rows s f at (length buf))
wrote-presses s f at buf r after w =
    let p = panel_seen s.setup in
    let room = room_for (pointer_need base (W.seen s) f) at (length buf) in
    subst (λ b. Exact (verdict_number r.verdict) (unless 2 (pointer_good base (W.seen s)) ∷ unless 3 (sized p f) ∷ unless 4 b ∷ unless 5 room ∷ []))
    (values_press (setup_of s.setup) f refl) (wrote_exact s f at buf r after w)
