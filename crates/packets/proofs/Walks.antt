-- The walk in one pass is the model's reading: its packet, its count, and whether the frame is finished. Cited by Turns. Assumes nothing.
use mathlib.Core.Path.{◌≡◌, refl, sym, ◌∙◌}
use mathlib.Core.Bool.{Bool, true, false, cond, ◌&&◌}
use mathlib.Core.List.{List, [], ◌∷◌, ◌++◌}
use Prim.Native.Nat.{ℕ, ◌+◌}
use native.Mathlib.Omega.{arith}
use lib.ListN.{set, length, length-append}
use Rattle.model.specs.Packets.{Said, number, close, report, loss, told, Packet, blank, is_blank, is_whole, contact_in, closed, left_open}
use Rattle.model.specs.Packets.{all_whole, lossless, silent, ends_once, finished}
use Rattle.common.proofs.Signs.{and-false}
use Rattle.packets.specs.Walk.{Walked, step, walks}

-- The start: nothing open, nothing closed, nothing wrong, no SYN_REPORT.
abbrev pub start : Walked
start = record { packet = blank; count = 0; sound = true; ended = false }

-- ---- one part after the other

pub walks-on : (w : Walked) (a b : List Said) → walks w (a ++ b) ≡ walks (walks w a) b
walks-on w [] b = refl
walks-on w (s ∷ a) b = walks-on (step w s) a b

-- ---- the packet and the count

pub walked_packet : (w : Walked) (l : List Said) → (walks w l).packet ≡ left_open w.packet l
walked_packet w [] = refl
walked_packet w (number i v ∷ l) = walked_packet (step w (number i v)) l
walked_packet w (close ∷ l) = walked_packet (step w close) l
walked_packet w (report ∷ l) = walked_packet (step w report) l
walked_packet w (loss ∷ l) = walked_packet (step w loss) l

one_more : (b : Bool) (p : Packet) (n : ℕ) → cond b n (n + 1) ≡ n + length (cond b [] (p ∷ []))
one_more true p n = omega arith
one_more false p n = omega arith

pub walked_count : (w : Walked) (l : List Said) → (walks w l).count ≡ w.count + length (closed w.packet l)
walked_count w [] = omega arith
walked_count w (number i v ∷ l) = walked_count (step w (number i v)) l
walked_count w (close ∷ l) =
    let c = closed blank l in
    let i = contact_in w.packet in
    let n : (walks (step w close) l).count ≡ cond (is_blank w.packet) w.count (w.count + 1) + length c = walked_count (step w close) l in
    omega (arith, n, one_more (is_blank w.packet) w.packet w.count, length-append i c)
walked_count w (report ∷ l) = walked_count (step w report) l
walked_count w (loss ∷ l) = walked_count (step w loss) l

-- ---- whether the frame is finished

abbrev at : Packet → ℕ → Bool → Bool → Walked
at p n s e = record { packet = p; count = n; sound = s; ended = e }

-- What the walk says at its end.
abbrev pub said_at : Walked → Bool
said_at w = w.sound && (w.ended && is_blank w.packet)

-- What is still asked of the rest, where the SYN_REPORT came or not.
abbrev ends_from : Bool → List Said → Bool
ends_from true l = silent l
ends_from false l = ends_once l

abbrev whole-closed : Packet → List Said → Bool
whole-closed p l = all_whole (closed p l) && is_blank (left_open p l)

abbrev rest_fine : Packet → Bool → List Said → Bool
rest_fine p e l = whole-closed p l && lossless l && ends_from e l

at_end : (b : Bool) → b ≡ (b && true && true)
at_end true = refl
at_end false = refl

within : (x d : Bool) → (x && false && d) ≡ false
within true d = refl
within false d = refl

regroup : (q a b c d : Bool) → (q && (a && b && c && d)) ≡ (q && a && b && c && d)
regroup true a b c d = refl
regroup false a b c d = refl

-- Nothing may come after the SYN_REPORT.
late : (p : Packet) (a : Said) (l : List Said) → false ≡ rest_fine p true (a ∷ l)
late p a l = sym (and-false (whole-closed p (a ∷ l) && lossless (a ∷ l)) false refl)

soundly : (l : List Said) (p : Packet) (n : ℕ) (s e : Bool) → said_at (walks (at p n s e) l) ≡ (s && rest_fine p e l)
soundly [] p n false e = refl
soundly [] p n true true = at_end (is_blank p)
soundly [] p n true false = sym (and-false (is_blank p && true) false refl)
soundly (number i v ∷ l) p n false e = soundly l (set p i (told v)) n false e
soundly (number i v ∷ l) p n true true = soundly l (set p i (told v)) n false true ∙ late p (number i v) l
soundly (number i v ∷ l) p n true false = soundly l (set p i (told v)) n true false
soundly (close ∷ l) p n false e = soundly l blank (cond (is_blank p) n (n + 1)) false e
soundly (close ∷ l) p n true true = soundly l blank (cond (is_blank p) n (n + 1)) false true ∙ late p close l
soundly (close ∷ l) p n true false =
    elim (is_blank p) as (λ b. said_at (walks (at blank (cond b n (n + 1)) (cond b true (is_whole p)) false) l)
    ≡ (all_whole (cond b [] (p ∷ []) ++ closed blank l) && is_blank (left_open blank l) && lossless l && ends_once l)) [
      | true ↦ soundly l blank n true false
      | false ↦ soundly l blank (n + 1) (is_whole p) false ∙ regroup (is_whole p) (all_whole (closed blank l)) _ _ _
    ]
soundly (report ∷ l) p n false e = soundly l p n false true
soundly (report ∷ l) p n true true = soundly l p n false true ∙ late p report l
soundly (report ∷ l) p n true false = soundly l p n true true
soundly (loss ∷ l) p n false e = soundly l p n false e
soundly (loss ∷ l) p n true e = soundly l p n false e ∙ sym (within (whole-closed p l) (ends_from e (loss ∷ l)))

pub finishes : (l : List Said) → said_at (walks start l) ≡ finished l
finishes l = soundly l blank 0 true false
