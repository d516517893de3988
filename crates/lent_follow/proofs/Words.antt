-- One number of a slot of the pending table stored where it lies, by its four bytes: the slot has it then, and all else stays. Cited by the proof of `follow`. Assumes nothing.
use mathlib.Core.Path.{◌≡◌, sym, ap, ap₂, ◌∙◌}
use mathlib.Core.List.{List, ◌∷◌}
use Prim.Native.Nat.{ℕ, zero, suc, ◌+◌, ◌*◌, ◌^◌, ◌≤◌, ◌<◌}
use native.Mathlib.Omega.{arith}
use lib.ListN.{length, get_or, set}
use Rattle.model.specs.Panel.{records}
use Rattle.model.specs.Records.{signed_of, low_bytes, lay}
use Rattle.panel.specs.declared.Slot.{Slot}
use Rattle.panel.specs.Seen.{blank}
use Rattle.lent.specs.Lent.{word_size, slot_size, table_size, slot_in, slots_from}
use Rattle.lent.proofs.Slots.{slot-kept-before, word_back, word-before, word_after}
use Rattle.lent.proofs.Tables.{slot-of, slots-before, slots-after}
use Rattle.lent_follow.specs.InPlace.{both_size, shown_in, pending_in, Holds}

-- Bytes laid inside slot i of n slots change that slot alone.
pub slot-changed : (n : ℕ) (b : List ℕ) (at i to : ℕ) (bs : List ℕ) → i < n → at + slot_size * n ≤ length b
    → at + slot_size * i ≤ to → to + length bs ≤ at + slot_size * i + slot_size
    → slots_from n (lay to bs b) at ≡ set (slots_from n b at) i (slot_in (lay to bs b) (at + slot_size * i))
unfolding slots_from
slot-changed zero b at i to bs h room low high = absurd (omega arith)
slot-changed (suc n) b at zero to bs h room low high =
    let z : at + slot_size * 0 ≡ at = omega arith in
    rw z (ap {B = List Slot} (λ t. slot_in (lay to bs b) at ∷ t) (slots-after to bs b (omega arith) n (at + slot_size) (omega arith)))
slot-changed (suc n) b at (suc i) to bs h room low high =
    let z : at + slot_size + slot_size * i ≡ at + slot_size * suc i = omega arith in
    let first : slot_in (lay to bs b) at ≡ slot_in b at = slot-kept-before to bs b (omega arith) at (omega arith) in
    let others = slot-changed n b (at + slot_size) i to bs (omega arith) (omega arith) (omega arith) (omega arith) in
    ap₂ {C = List Slot} (λ s t. s ∷ t) first (others ∙ ap (λ k. set (slots_from n b (at + slot_size)) i (slot_in (lay to bs b) k)) z)

-- ---- a slot with one number

abbrev pub with_id : ℕ → Slot → Slot
with_id v o = record { id = record { 0 = signed_of v }; x = o.x; y = o.y; pressure = o.pressure; major = o.major; minor = o.minor }

abbrev pub with_x : ℕ → Slot → Slot
with_x v o = record { id = o.id; x = v; y = o.y; pressure = o.pressure; major = o.major; minor = o.minor }

abbrev pub with_y : ℕ → Slot → Slot
with_y v o = record { id = o.id; x = o.x; y = v; pressure = o.pressure; major = o.major; minor = o.minor }

abbrev pub with_pressure : ℕ → Slot → Slot
with_pressure v o = record { id = o.id; x = o.x; y = o.y; pressure = v; major = o.major; minor = o.minor }

abbrev pub with_major : ℕ → Slot → Slot
with_major v o = record { id = o.id; x = o.x; y = o.y; pressure = o.pressure; major = v; minor = o.minor }

abbrev pub with_minor : ℕ → Slot → Slot
with_minor v o = record { id = o.id; x = o.x; y = o.y; pressure = o.pressure; major = o.major; minor = v }

-- ---- the pending table

module _ (t : List ℕ) (c v : ℕ) (size : length t ≡ both_size) (below : c < records) (fits : v < 2 ^ 32) where
  -- Where the slot lies.
  abbrev at : ℕ
  at = table_size + slot_size * c

  room : at + slot_size ≤ length t
  room = omega (arith, size, below)

  -- The bytes with the number laid at `to`.
  abbrev laid : ℕ → List ℕ
  laid to = lay to (low_bytes 4 v) t

  -- The tables with it, where f puts it into a slot.
  abbrev Stored : (Slot → Slot) → List ℕ → Type 0
  Stored f after = Holds (shown_in t) (set (pending_in t) c (f (get_or (pending_in t) c blank))) after

  stored : (f : Slot → Slot) (to : ℕ) → at ≤ to → to + word_size ≤ at + slot_size → slot_in (laid to) at ≡ f (slot_in t at) → (after : List ℕ) → after ≡ laid to → Stored f after
  stored f to low high e after is = record {
    shown = ap shown_in is ∙ slots-before to (low_bytes 4 v) t (omega (arith, room)) records 0 (omega arith);
    pending =
        ap pending_in is
        ∙ slot-changed records t table_size c to (low_bytes 4 v) below (omega (arith, size)) low high
        ∙ ap (set (pending_in t) c) (e ∙ ap f (sym (slot-of records t table_size c below)));
  }

  pub id-stored : (after : List ℕ) → after ≡ laid at → Stored (with_id v) after
  id-stored =
      let r = room in
      let h : at + word_size ≤ length t = omega arith in
      stored (with_id v) at (omega arith) (omega arith)
      (rw (word_back at v t fits h, word_after at (at + 4) v t h (omega arith), word_after at (at + 8) v t h (omega arith), word_after at (at + 12) v t h (omega arith), word_after at (at + 16) v t h (omega arith), word_after at (at + 20) v t h (omega arith)))

  pub x-stored : (after : List ℕ) → after ≡ laid (at + 4) → Stored (with_x v) after
  x-stored =
      let r = room in
      let h : at + 4 + word_size ≤ length t = omega arith in
      stored (with_x v) (at + 4) (omega arith) (omega arith)
      (rw (word-before (at + 4) at v t h (omega arith), word_back (at + 4) v t fits h, word_after (at + 4) (at + 8) v t h (omega arith), word_after (at + 4) (at + 12) v t h (omega arith), word_after (at + 4) (at + 16) v t h (omega arith), word_after (at + 4) (at + 20) v t h (omega arith)))

  pub y-stored : (after : List ℕ) → after ≡ laid (at + 8) → Stored (with_y v) after
  y-stored =
      let r = room in
      let h : at + 8 + word_size ≤ length t = omega arith in
      stored (with_y v) (at + 8) (omega arith) (omega arith)
      (rw (word-before (at + 8) at v t h (omega arith), word-before (at + 8) (at + 4) v t h (omega arith), word_back (at + 8) v t fits h, word_after (at + 8) (at + 12) v t h (omega arith), word_after (at + 8) (at + 16) v t h (omega arith), word_after (at + 8) (at + 20) v t h (omega arith)))

  pub pressure-stored : (after : List ℕ) → after ≡ laid (at + 12) → Stored (with_pressure v) after
  pressure-stored =
      let r = room in
      let h : at + 12 + word_size ≤ length t = omega arith in
      stored (with_pressure v) (at + 12) (omega arith) (omega arith)
      (rw (word-before (at + 12) at v t h (omega arith), word-before (at + 12) (at + 4) v t h (omega arith), word-before (at + 12) (at + 8) v t h (omega arith), word_back (at + 12) v t fits h, word_after (at + 12) (at + 16) v t h (omega arith), word_after (at + 12) (at + 20) v t h (omega arith)))

  pub major-stored : (after : List ℕ) → after ≡ laid (at + 16) → Stored (with_major v) after
  major-stored =
      let r = room in
      let h : at + 16 + word_size ≤ length t = omega arith in
      stored (with_major v) (at + 16) (omega arith) (omega arith)
      (rw (word-before (at + 16) at v t h (omega arith), word-before (at + 16) (at + 4) v t h (omega arith), word-before (at + 16) (at + 8) v t h (omega arith), word-before (at + 16) (at + 12) v t h (omega arith), word_back (at + 16) v t fits h, word_after (at + 16) (at + 20) v t h (omega arith)))

  pub minor-stored : (after : List ℕ) → after ≡ laid (at + 20) → Stored (with_minor v) after
  minor-stored =
      let r = room in
      let h : at + 20 + word_size ≤ length t = omega arith in
      stored (with_minor v) (at + 20) (omega arith) (omega arith)
      (rw (word-before (at + 20) at v t h (omega arith), word-before (at + 20) (at + 4) v t h (omega arith), word-before (at + 20) (at + 8) v t h (omega arith), word-before (at + 20) (at + 12) v t h (omega arith), word-before (at + 20) (at + 16) v t h (omega arith), word_back (at + 20) v t fits h))
