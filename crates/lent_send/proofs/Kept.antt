-- A table whose changed slots are stored one by one becomes the new one, and its bytes with it. Cited by the proof of `keep`. Assumes nothing.
use mathlib.Core.Path.{◌≡◌, refl, sym, ap, ap₂, ◌∙◌}
use mathlib.Core.Bool.{Bool, true, false}
use mathlib.Core.List.{List, [], ◌∷◌, ◌++◌, map}
use Prim.Native.Nat.{ℕ, zero, suc, ◌+◌, ◌-◌, ◌*◌, ◌/◌, ◌%◌, ◌^◌, ◌≤◌, ◌<◌}
use native.Mathlib.Omega.{arith}
use lib.Bits.{bit_and, and_le_r}
use lib.Count.{count_trailing_zeros}
use lib.ListN.{length, get_or, set}
use lib.Seq.{take_all}
use Rattle.model.specs.Panel.{records}
use Rattle.model.specs.Records.{lay}
use Rattle.model.specs.Sending.{one_unless, same_slot, changed_mask}
use Rattle.model.specs.Order.{if_bit, of_mask}
use Rattle.model.proofs.Bools.{holds}
use Rattle.model.proofs.Count.{one_unless_le}
use Rattle.model.proofs.Order.{mask_none, mask_next, trailing_below}
use Rattle.model.proofs.Tables.{eq_slot→eq}
use Rattle.panel.specs.declared.Slot.{Slot}
use Rattle.panel.specs.Seen.{slot_of, table_of, slot_from, blank}
use Rattle.records.proofs.Over.{lay-length}
use Rattle.lent.specs.Lent.{slot_size, table_size, slot_in, slot_bytes, table_in, table_bytes, Bytes}
use Rattle.lent.proofs.Slots.{slot-fits, slot-length}
use Rattle.lent.proofs.Tables.{slots_length, table-set, table-bytes_back}
use Rattle.lent_send.proofs.Slots.{slot-in}

-- ---- the slots that a number names, stored one by one

abbrev alone : ℕ → List ℕ
alone s = s ∷ []

abbrev kept : List ℕ → List Slot → List Slot → List Slot
kept [] new t = t
kept (s ∷ l) new t = kept l new (set t s (get_or new s blank))

-- Of the slots that m names.
abbrev pub kept_by : ℕ → List Slot → List Slot → List Slot
kept_by m new t = kept (of_mask records m alone) new t

-- ---- all that changed, and nothing else

later-kept : (l : List ℕ) (o v : Slot) (t new : List Slot) → kept (map suc l) (v ∷ new) (o ∷ t) ≡ o ∷ kept l new t
later-kept [] o v t new = refl
later-kept (s ∷ l) o v t new = later-kept l o v (set t s (get_or new s blank)) new

bit-later : (d s : ℕ) (l k : List ℕ) → l ≡ map suc k → if_bit d (suc s ∷ []) ++ l ≡ map suc (if_bit d (s ∷ []) ++ k)
bit-later zero s l k e = e
bit-later (suc d) s l k e = ap {B = List ℕ} (λ x. suc s ∷ x) e

later : (w m : ℕ) (f : ℕ → ℕ) → of_mask w m (λ j. suc (f j) ∷ []) ≡ map suc (of_mask w m (λ j. f j ∷ []))
unfolding of_mask
later zero m f = refl
later (suc w) m f = bit-later (m % 2) (f 0) (of_mask w (m / 2) (λ j. suc (f (suc j)) ∷ [])) (of_mask w (m / 2) (λ j. f (suc j) ∷ [])) (later w (m / 2) (λ j. f (suc j)))

low_bit : (b m : ℕ) → b ≤ 1 → (b + 2 * m) % 2 ≡ b
low_bit b m h = omega arith

high_bits : (b m : ℕ) → b ≤ 1 → (b + 2 * m) / 2 ≡ m
high_bits b m h = omega arith

-- The first slot by its bit, and then the others.
named : (w b m : ℕ) → b ≤ 1 → of_mask (suc w) (b + 2 * m) alone ≡ if_bit b (0 ∷ []) ++ map suc (of_mask w m alone)
unfolding of_mask
named w b m h =
    ap₂ (λ d y. if_bit d (0 ∷ []) ++ of_mask w y (λ j. suc j ∷ [])) (low_bit b m h) (high_bits b m h)
    ∙ ap (λ l. if_bit b (0 ∷ []) ++ l) (later w m (λ j. j))

same-slot : (o v : Slot) → same_slot (slot_of o) (slot_of v) ≡ true → o ≡ v
same-slot o v e = ap slot_from (eq_slot→eq (slot_of o) (slot_of v) (holds _ e))

first-kept : (b : Bool) (o v : Slot) (t new : List Slot) (l : List ℕ) → (b ≡ true → o ≡ v)
    → kept (if_bit (one_unless b) (0 ∷ []) ++ map suc l) (v ∷ new) (o ∷ t) ≡ v ∷ kept l new t
first-kept true o v t new l e = later-kept l o v t new ∙ ap {B = List Slot} (λ s. s ∷ kept l new t) (e refl)
first-kept false o v t new l e = later-kept l v v t new

all_kept : (t new : List Slot) → length t ≡ length new → kept (of_mask (length t) (changed_mask (table_of t) (table_of new)) alone) new t ≡ new
all_kept [] [] e = ap (λ l. kept l [] []) (mask_none 0 alone)
all_kept [] (v ∷ new) e = absurd (omega arith)
all_kept (o ∷ t) [] e = absurd (omega arith)
all_kept (o ∷ t) (v ∷ new) e =
    let b = same_slot (slot_of o) (slot_of v) in
    let m = changed_mask (table_of t) (table_of new) in
    ap (λ l. kept l (v ∷ new) (o ∷ t)) (named (length t) (one_unless b) m (one_unless_le b))
    ∙ first-kept b o v t new (of_mask (length t) m alone) (same-slot o v)
    ∙ ap {B = List Slot} (λ l. v ∷ l) (all_kept t new (omega arith))

-- ---- in lent bytes

-- The table that whole bytes hold, stored again, is those bytes.
pub table-whole : (b : List ℕ) → Bytes b → length b ≡ table_size → table_bytes (table_in b) ≡ b
table-whole b f e = table-bytes_back records b 0 f (omega arith) ∙ take_all table_size b (omega arith)

-- Bytes that hold the same table are the same.
pub same_bytes : (a b : List ℕ) → Bytes a → Bytes b → length a ≡ table_size → length b ≡ table_size → table_in a ≡ table_in b → a ≡ b
same_bytes a b f g h k e = sym (table-whole a f h) ∙ ap table_bytes e ∙ table-whole b g k

-- With the slots that m still names, t is the new table.
pub record Keeps (new t : List ℕ) (m : ℕ) : Type 0 where
  pub bits : m < 2 ^ records
  pub size : length t ≡ table_size
  pub bytes : Bytes t
  pub rest : kept_by m (table_in new) (table_in t) ≡ table_in new

module _ (new : List ℕ) (made : Bytes new) (full : length new ≡ table_size) where
  pub keeps_start : (t : List ℕ) (m : ℕ) → m < 2 ^ records → Bytes t → length t ≡ table_size → m ≡ changed_mask (table_of (table_in t)) (table_of (table_in new)) → Keeps new t m
  keeps_start t m h f e c = record {
    bits = h;
    size = e;
    bytes = f;
    rest =
        ap₂ (λ w d. kept (of_mask w d alone) (table_in new) (table_in t)) (sym (slots_length records t 0)) c
        ∙ all_kept (table_in t) (table_in new) (slots_length records t 0 ∙ sym (slots_length records new 0));
  }

  module _ (t : List ℕ) (m : ℕ) (k : Keeps new t m) where
    pub keeps_over : m ≡ 0 → t ≡ new
    keeps_over e =
        let none = ap (λ d. of_mask records d alone) e ∙ mask_none records alone in
        same_bytes t new k.bytes made k.size full (sym (ap (λ l. kept l (table_in new) (table_in t)) none) ∙ k.rest)

    abbrev z : ℕ
    z = count_trailing_zeros records m

    -- The lowest slot that m names is stored.
    pub keeps_turn : (after : List ℕ) → 0 < m → Bytes after → after ≡ lay (slot_size * z) (slot_bytes (slot_in new (slot_size * z))) t → Keeps new after (bit_and m (m - 1))
    keeps_turn after p f e =
        let w = slot_in new (slot_size * z) in
        let below = trailing_below records m p k.bits in
        let at : 0 + slot_size * z ≡ slot_size * z = omega arith in
        let fits : 0 + slot_size * records ≤ length t = omega (arith, k.size) in
        let laid = ap (λ i. lay i (slot_bytes w) t) (sym at) in
        let stored : table_in after ≡ set (table_in t) z (get_or (table_in new) z blank) =
        ap table_in (e ∙ laid) ∙ table-set records t 0 z w (slot-fits new (slot_size * z) made) below fits ∙ ap (set (table_in t) z) (slot-in new z below)
        in
        record {
          bits = omega (arith, and_le_r m (m - 1), k.bits);
          size = ap length e ∙ lay-length (slot_size * z) (slot_bytes w) t (omega (arith, slot-length w, k.size)) ∙ k.size;
          bytes = f;
          rest =
              ap (kept (of_mask records (bit_and m (m - 1)) alone) (table_in new)) stored
              ∙ sym (ap (λ l. kept l (table_in new) (table_in t)) (mask_next records m alone p k.bits)) ∙ k.rest;
        }
