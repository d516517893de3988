-- Slots one behind the other in lent bytes: how many they are, where each lies, that they go by their own bytes alone, one of them stored, and all of them stored and read again. Assumes nothing.
use mathlib.Core.Path.{◌≡◌, refl, sym, ap, ap₂, ◌∙◌}
use mathlib.Core.List.{List, [], ◌∷◌, ◌++◌, append_assoc, append-nil}
use Prim.Native.Nat.{ℕ, zero, suc, ◌+◌, ◌*◌, ◌≤◌, ◌<◌}
use native.Mathlib.Omega.{arith}
use lib.ListN.{length, get_or, set, take, drop, length-append}
use lib.Seq.{get_or-take, get_or-drop, length-take-le, drop-length, drop-drop, take-add, take-suc}
use Rattle.model.specs.Records.{lay}
use Rattle.records.proofs.Over.{lay_nil, lay-length, lay-lay}
use Rattle.panel.specs.declared.Slot.{Slot}
use Rattle.panel.specs.Seen.{blank}
use Rattle.lent.specs.Lent.{slot_size, slot_in, slots_from, slot_bytes, table_bytes, Bytes, SlotFits, SlotsFit}
use Rattle.lent.proofs.Slots.{Alike, later, slot_same, byte_before, byte_after, slot-kept-before, slot-length, slot_back, slot-bytes_back, slot-fits, bytes_nil, bytes_append, bytes-slot}

-- ---- how many, and where

pub slots_length : (n : ℕ) (b : List ℕ) (at : ℕ) → length (slots_from n b at) ≡ n
unfolding slots_from
slots_length zero b at = refl
slots_length (suc n) b at = ap suc (slots_length n b (at + slot_size))

pub slot-of : (n : ℕ) (b : List ℕ) (at i : ℕ) → i < n → get_or (slots_from n b at) i blank ≡ slot_in b (at + slot_size * i)
unfolding slots_from
slot-of zero b at i h = absurd (omega arith)
slot-of (suc n) b at zero h =
    let z : at + slot_size * 0 ≡ at = omega arith in
    ap (slot_in b) (sym z)
slot-of (suc n) b at (suc i) h =
    let z : at + slot_size + slot_size * i ≡ at + slot_size * suc i = omega arith in
    slot-of n b (at + slot_size) i (omega arith) ∙ ap (slot_in b) z

pub slots-none : (b : List ℕ) (at : ℕ) → slots_from 0 b at ≡ []
unfolding slots_from
slots-none b at = refl

-- One slot more.
pub slots-more : (n : ℕ) (b : List ℕ) (at : ℕ) → slots_from (suc n) b at ≡ slots_from n b at ++ (slot_in b (at + slot_size * n) ∷ [])
unfolding slots_from
slots-more zero b at =
    let z : at + slot_size * 0 ≡ at = omega arith in
    ap (λ k. slot_in b k ∷ []) (sym z)
slots-more (suc n) b at =
    let z : at + slot_size + slot_size * n ≡ at + slot_size * suc n = omega arith in
    ap {B = List Slot} (λ t. slot_in b at ∷ t) (slots-more n b (at + slot_size) ∙ ap (λ k. slots_from n b (at + slot_size) ++ (slot_in b k ∷ [])) z)

-- ---- bytes alone decide

pub slots_same : (n : ℕ) (a : List ℕ) (at : ℕ) (b : List ℕ) (to : ℕ) → Alike (slot_size * n) a at b to → slots_from n a at ≡ slots_from n b to
unfolding slots_from
slots_same zero a at b to e = refl
slots_same (suc n) a at b to e =
    ap₂ {C = List Slot} (λ s t. s ∷ t)
    (slot_same a at b to (λ i h. e i (omega arith)))
    (slots_same n a (at + slot_size) b (to + slot_size) (later (slot_size * n) slot_size a at b to (λ i h. e i (omega arith))))

pub slots-part : (n : ℕ) (b : List ℕ) (at : ℕ) → at + slot_size * n ≤ length b → slots_from n b at ≡ slots_from n (take (slot_size * n) (drop at b)) 0
slots-part n b at h =
    slots_same n b at (take (slot_size * n) (drop at b)) 0
    (λ i k. let z : 0 + i ≡ i = omega arith in rw z (sym (get_or-take (slot_size * n) (drop at b) i 0 k ∙ get_or-drop at b i 0)))

-- ---- beside bytes that are laid

module _ (at : ℕ) (bs b : List ℕ) (room : at ≤ length b) (n to : ℕ) where
  pub slots-before : to + slot_size * n ≤ at → slots_from n (lay at bs b) to ≡ slots_from n b to
  slots-before h = slots_same n (lay at bs b) to b to (λ i k. byte_before at bs b room (to + i) (omega arith))

  pub slots-after : at + length bs ≤ to → slots_from n (lay at bs b) to ≡ slots_from n b to
  slots-after h = slots_same n (lay at bs b) to b to (λ i k. byte_after at bs b room (to + i) (omega arith))

-- ---- one slot stored

pub table-set : (n : ℕ) (b : List ℕ) (at i : ℕ) (w : Slot) → SlotFits w → i < n → at + slot_size * n ≤ length b
    → slots_from n (lay (at + slot_size * i) (slot_bytes w) b) at ≡ set (slots_from n b at) i w
unfolding slots_from
table-set zero b at i w f h room = absurd (omega arith)
table-set (suc n) b at zero w f h room =
    let z : at + slot_size * 0 ≡ at = omega arith in
    let l : length (slot_bytes w) ≡ slot_size = slot-length w in
    rw z (ap₂ {C = List Slot} (λ s t. s ∷ t) (slot_back at w b f (omega arith)) (slots-after at (slot_bytes w) b (omega arith) n (at + slot_size) (omega arith)))
table-set (suc n) b at (suc i) w f h room =
    let to = at + slot_size * suc i in
    let z : at + slot_size + slot_size * i ≡ to = omega arith in
    let first : slot_in (lay to (slot_bytes w) b) at ≡ slot_in b at = slot-kept-before to (slot_bytes w) b (omega arith) at (omega arith) in
    let others = ap (λ k. slots_from n (lay k (slot_bytes w) b) (at + slot_size)) (sym z) ∙ table-set n b (at + slot_size) i w f (omega arith) (omega arith) in
    ap₂ {C = List Slot} (λ s t. s ∷ t) first others

-- ---- all of them stored

pub table-length : (t : List Slot) → length (table_bytes t) ≡ slot_size * length t
unfolding table_bytes
table-length [] = refl
table-length (s ∷ t) = length-append (slot_bytes s) (table_bytes t) ∙ omega (arith, slot-length s, table-length t)

-- One slot more.
pub table_more : (t : List Slot) (s : Slot) → table_bytes (t ++ (s ∷ [])) ≡ table_bytes t ++ slot_bytes s
unfolding table_bytes
table_more [] s = append-nil (slot_bytes s)
table_more (u ∷ t) s = ap (λ l. slot_bytes u ++ l) (table_more t s) ∙ sym (append_assoc (slot_bytes u) (table_bytes t) (slot_bytes s))

-- The first slots of a table, as a loop stores them from a position on.

pub front_none : (t : List Slot) (at : ℕ) (b : List ℕ) → b ≡ lay at (table_bytes (take 0 t)) b
unfolding table_bytes
front_none t at b = sym (lay_nil at b)

pub front_length : (i : ℕ) (t : List Slot) → i ≤ length t → length (table_bytes (take i t)) ≡ slot_size * i
front_length i t h = table-length (take i t) ∙ ap (λ k. slot_size * k) (length-take-le i t h)

pub front_more : (i : ℕ) (t : List Slot) (at : ℕ) (b : List ℕ) → i < length t → at + slot_size * i ≤ length b
    → lay (at + slot_size * i) (slot_bytes (get_or t i blank)) (lay at (table_bytes (take i t)) b) ≡ lay at (table_bytes (take (suc i) t)) b
front_more i t at b h room =
    let A = table_bytes (take i t) in
    let s = get_or t i blank in
    let l : length A ≡ slot_size * i = front_length i t (omega arith) in
    let more : table_bytes (take (suc i) t) ≡ A ++ slot_bytes s = ap table_bytes (take-suc t i blank h) ∙ table_more (take i t) s in
    ap (λ k. lay (at + k) (slot_bytes s) (lay at A b)) (sym l) ∙ lay-lay at A (slot_bytes s) b (omega arith) ∙ ap (λ x. lay at x b) (sym more)

pub table-laid : (at : ℕ) (t : List Slot) (b : List ℕ) → SlotsFit t → at + slot_size * length t ≤ length b → slots_from (length t) (lay at (table_bytes t) b) at ≡ t
unfolding slots_from table_bytes
table-laid at [] b f room = refl
table-laid at (s ∷ t) b f room =
    let n = length t in
    let A = slot_bytes s in
    let B = table_bytes t in
    let c = lay at A b in
    let l : length A ≡ slot_size = slot-length s in
    let m : length c ≡ length b = lay-length at A b (omega arith) in
    let e : lay at (A ++ B) b ≡ lay (at + slot_size) B c = sym (lay-lay at A B b (omega arith)) ∙ ap (λ k. lay (at + k) B c) l in
    let first : slot_in (lay (at + slot_size) B c) at ≡ slot_in c at = slot-kept-before (at + slot_size) B c (omega arith) at (omega arith) in
    rw e (ap₂ {C = List Slot} (λ u v. u ∷ v) (first ∙ slot_back at s b f.0 (omega arith)) (table-laid (at + slot_size) t c f.1 (omega arith)))

lay_self : (b : List ℕ) → lay 0 b b ≡ b
unfolding lay
lay_self b =
    let z : 0 + length b ≡ length b = omega arith in
    rw (z, drop-length b) (append-nil b)

pub table_back : (t : List Slot) → SlotsFit t → slots_from (length t) (table_bytes t) 0 ≡ t
table_back t f =
    let b = table_bytes t in
    let room : 0 + slot_size * length t ≤ length b = omega (arith, table-length t) in
    ap (λ l. slots_from (length t) l 0) (sym (lay_self b)) ∙ table-laid 0 t b f room

pub table-bytes_back : (n : ℕ) (b : List ℕ) (at : ℕ) → Bytes b → at + slot_size * n ≤ length b → table_bytes (slots_from n b at) ≡ take (slot_size * n) (drop at b)
unfolding slots_from table_bytes
table-bytes_back zero b at s room = refl
table-bytes_back (suc n) b at s room =
    let z : slot_size + slot_size * n ≡ slot_size * suc n = omega arith in
    let others = table-bytes_back n b (at + slot_size) s (omega arith) ∙ ap (take (slot_size * n)) (sym (drop-drop slot_size at b)) in
    ap₂ {C = List ℕ} (λ u v. u ++ v) (slot-bytes_back b at s (omega arith)) others ∙ sym (take-add slot_size (slot_size * n) (drop at b)) ∙ ap (λ k. take k (drop at b)) z

pub slots_fit : (n : ℕ) (b : List ℕ) (at : ℕ) → Bytes b → SlotsFit (slots_from n b at)
unfolding slots_from
slots_fit zero b at s = tt
slots_fit (suc n) b at s = (slot-fits b at s, slots_fit n b (at + slot_size) s)

pub bytes-table : (t : List Slot) → Bytes (table_bytes t)
unfolding table_bytes
bytes-table [] = bytes_nil
bytes-table (s ∷ t) = bytes_append (slot_bytes s) (table_bytes t) (bytes-slot s) (bytes-table t)
