-- The display's promises leave no choice: each law is of the contract itself. Assumes nothing.
use mathlib.Core.Path.{◌≡◌, sym, ap, ◌∙◌}
use mathlib.Core.Bool.{Bool, true, false}
use mathlib.Core.List.{List}
use Prim.Native.Nat.{ℕ}
use Rattle.model.specs.Unique.{OneAnswer}
use Rattle.model.specs.Pointer.{pointed}
use Rattle.panel.specs.declared.Slot.{Slot}
use Rattle.panel.specs.Seen.{table_of}
use Rattle.pointer.specs.declared.Pointer.{Pointer}
use Rattle.pointer.specs.declared.Moved.{Moved}
use Rattle.pointer.specs.Seen.{pointer_of, pointer_from}
use Rattle.pointer.specs.Moved.{MovesBy}
use Rattle.pointer.proofs.live_count.Reads as live-count
use Rattle.pointer.proofs.ranks_good.Reads as ranks-good
use Rattle.pointer.proofs.oldest_slot.Reads as oldest-slot
use Rattle.pointer.proofs.ranks_after.Reads as ranks-after
use Rattle.pointer.proofs.ids_stay.Reads as ids-stay
use Rattle.pointer.proofs.pointed.Reads as pointed-by
use Rattle.pointer.proofs.placed.Reads as placed
use Rattle.pointer.proofs.pointers_same.Reads as pointers-same
use Rattle.pointer.proofs.pointing_ok.Reads as pointing-ok
use Rattle.pointer.proofs.move_on.Reads as move-on
use Rattle.pointer.proofs.emulated.Reads as emulated

pub live-count_one : OneAnswer live-count.Learnt
live-count_one κs a r q s t e g = e.0 ∙ sym g.0

pub ranks-good_one : OneAnswer ranks-good.Learnt
ranks-good_one κs a r q s t e g = e ∙ sym g

pub oldest_slot_one : OneAnswer oldest-slot.Learnt
oldest_slot_one κs a r q s t e g = e.1 ∙ sym g.1

pub ranks-after_one : OneAnswer ranks-after.Learnt
ranks-after_one κs a r q s t e g = e ∙ sym g

pub ids_stay_one : OneAnswer ids-stay.Learnt
ids_stay_one κs a r q s t e g = e ∙ sym g

pub pointed_one : OneAnswer pointed-by.Learnt
pointed_one κs a r q s t e g = ap pointer_from (e ∙ sym g)

pub placed_one : OneAnswer placed.Learnt
placed_one κs a r q s t e g = ap pointer_from (e ∙ sym g)

pub pointers_same_one : OneAnswer pointers-same.Learnt
pointers_same_one κs a r q s t e g = e ∙ sym g

pub pointing_ok_one : OneAnswer pointing-ok.Learnt
pointing_ok_one κs a r q s t e g = e ∙ sym g

pub moves_one : (on : Bool) (old new : List Slot) (rs : List ℕ) (q : Pointer) (r s : Moved) → MovesBy on old new rs q r → MovesBy on old new rs q s → r ≡ s
moves_one true old new rs q r s e g =
    let ranks = e.ranks ∙ sym g.ranks in
    let told = e.told ∙ ap (λ k. pointed (table_of new) k (pointer_of q)) ranks ∙ sym g.told in
    λ i. record { ranks = ranks i; told = ap pointer_from told i }
moves_one false old new rs q r s e g = e ∙ sym g

pub move_on_one : OneAnswer move-on.Learnt
move_on_one κs a r q s t e g =
    let last = a.1.1.1.1.1.0 in
    moves_one a.0 a.1.1.0 a.1.1.1.0 last.ranks last.told r q e g

pub emulated_one : OneAnswer emulated.Learnt
emulated_one κs a r q s t e g = e.0 ∙ sym g.0
