-- A packet by which of its numbers were told. Cited by the proofs of the walk's steps. Assumes nothing.
use mathlib.Core.Path.{◌≡◌, refl, sym, ap, ap₂, ◌∙◌}
use mathlib.Core.Bool.{Bool, true, false, cond, not, ◌&&◌, ◌||◌}
use mathlib.Core.List.{List, [], ◌∷◌}
use Prim.Native.Nat.{ℕ, ◌+◌}
use lib.IntN.{ℤ, pos}
use Rattle.model.specs.Records.{signed_of}
use Rattle.model.specs.Packets.{Told, lacking, told, blank, is_blank, is_whole, value_of, close, contact_good}
use Rattle.common.proofs.Signs.{and-true}
use Rattle.panel.specs.declared.Setup.{Setup}
use Rattle.panel.specs.Seen.{panel_seen}
use Rattle.packets.specs.declared.Number.{Number}
use Rattle.packets.specs.declared.Packets.{Packets}
use Rattle.packets.specs.Seen.{told_by}
use Rattle.packets.specs.Walk.{Walked, step, packets_at}

abbrev tells : Bool → ℤ → Told
tells b v = cond b (told v) lacking

pub some_told : (a b c : Bool) (x y p : ℤ) → (a || (b || c)) ≡ not (is_blank (tells a x ∷ tells b y ∷ tells c p ∷ []))
some_told true b c x y p = refl
some_told false true c x y p = refl
some_told false false true x y p = refl
some_told false false false x y p = refl

pub all_told : (a b c : Bool) (x y p : ℤ) → (a && (b && c)) ≡ is_whole (tells a x ∷ tells b y ∷ tells c p ∷ [])
all_told true true true x y p = refl
all_told true true false x y p = refl
all_told true false c x y p = refl
all_told false b c x y p = refl

-- ---- a number

pub is-told : (n : Number) → n.told ≡ true → value_of (told_by n) ≡ signed_of n.bits
is-told n e = rw e

pub not-told : (n : Number) → n.told ≡ false → value_of (told_by n) ≡ pos 0
not-told n e = rw e

-- ---- a step of the walk

pub closes_contact : (w : Walked) (b : Bool) → is_blank w.packet ≡ false → b ≡ is_whole w.packet
    → record { packet = blank; count = w.count + 1; sound = w.sound && not w.ended && b; ended = w.ended } ≡ step w close
closes_contact w b e f = rw (e, f)

pub closes_none : (w : Walked) → is_blank w.packet ≡ true
    → record { packet = blank; count = w.count; sound = w.sound && not w.ended; ended = w.ended } ≡ step w close
closes_none w e = rw e (ap (λ b. record { packet = blank; count = w.count; sound = b; ended = w.ended }) (sym (and-true (w.sound && not w.ended))))

abbrev packets_with : ℕ → List ℤ → List ℤ → List ℤ → Bool → Packets
packets_with n x y p b = record { count = n; x = x; y = y; pressure = p; sound = b }

not-not : (b : Bool) → not (not b) ≡ b
not-not true = refl
not-not false = refl

pub ended_as : (w : Walked) (x y p : List ℤ) (b : Bool) → b ≡ not (is_blank w.packet)
    → record { count = w.count; x = x; y = y; pressure = p; sound = w.sound && (w.ended && not b) } ≡ packets_at w x y p
ended_as w x y p b e = ap (λ a. packets_with w.count x y p (w.sound && (w.ended && a))) (ap not e ∙ not-not (is_blank w.packet))

-- ---- a contact's row

pub row_same : (u : Setup) {x y p x' y' p' : ℤ} → x' ≡ x → y' ≡ y → p' ≡ p
    → contact_good (panel_seen u) (x' ∷ y' ∷ p' ∷ []) ≡ contact_good (panel_seen u) (x ∷ y ∷ p ∷ [])
row_same u {x} {y} {p} {x'} {y'} {p'} ex ey ep =
    ap₂ (λ a b. contact_good (panel_seen u) (a ∷ b ∷ p' ∷ [])) ex ey ∙ ap (λ b. contact_good (panel_seen u) (x ∷ y ∷ b ∷ [])) ep
