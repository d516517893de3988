-- Bytes that are a state's are the bytes of the state that they hold, and a state is what its bytes hold; and what is stored in place. Cited by the proofs of `write`. Assumes nothing.
use mathlib.Core.Path.{◌≡◌, refl, sym, ap, ap₂, ◌∙◌}
use mathlib.Core.Bool.{Bool, true, false, cond}
use mathlib.Core.List.{List, [], ◌∷◌, ◌++◌, append-nil}
use Prim.Native.Nat.{ℕ, zero, suc, ◌+◌, ◌*◌, ◌/◌, ◌%◌, ◌<◌, ◌≤◌, ◌^◌}
use native.Mathlib.Omega.{arith}
use lib.Dec.{eqb, leb}
use lib.ListN.{length, get_or, take, drop, length-append}
use lib.Seq.{take-add, drop-drop, drop-length, take_all, take_at, drop_at}
use borrow.Author.Tests.{eq-eqb}
use borrow.Rule.Slice.PartMut.{put_mid}
use Rattle.model.specs.Panel.{records}
use Rattle.model.specs.Records.{low_bytes, join16, join32, lay}
use Rattle.panel.specs.declared.Slot.{Slot}
use Rattle.pointer.specs.declared.Moved.{Moved}
use Rattle.writer.specs.declared.WriterState.{WriterState}
use Rattle.writer.specs.Seen.{last_of}
use Rattle.lent.specs.Lent.{slot_size, table_size, slots_from, table_in, setup_bytes, table_bytes, Bytes, SlotsFit, SetupFits}
use Rattle.lent.proofs.Slots.{word-bytes_back, setup-bytes_back}
use Rattle.lent.proofs.Tables.{table-length, table_back, table-bytes_back, slots-part, slots_length}
use Rattle.lent_writer.specs.Layout.{state_size, setup_at, current_at, counter_at, x_at, y_at, table_at, ranks_at, option_at}
use Rattle.lent_writer.specs.Seen.{byte_at, formed, told_in, ranks_in, unpacked, flag, head_bytes, packed}
use Rattle.lent_writer.specs.InPlace.{changed_to, moved_to, moved_in}
use Rattle.lent_writer.proofs.Forms.{Formed, form, formed_by}
use Rattle.lent_writer.proofs.Stored.{packed-length}

-- ---- bytes to a state and back

-- Two parts, one behind the other.
joined : (b : List ℕ) (at n m : ℕ) (A B : List ℕ) → A ≡ take n (drop at b) → B ≡ take m (drop (at + n) b) → A ++ B ≡ take (n + m) (drop at b)
joined b at n m A B ea eb =
    ap₂ (λ x y. x ++ y) ea (eb ∙ ap (take m) (sym (drop-drop n at b))) ∙ sym (take-add n m (drop at b))

-- The first eight bytes, one by one.
eight : (b : List ℕ) → 8 ≤ length b → take 8 (drop 0 b) ≡ get_or b 0 0 ∷ get_or b 1 0 ∷ get_or b 2 0 ∷ get_or b 3 0 ∷ get_or b 4 0 ∷ get_or b 5 0 ∷ get_or b 6 0 ∷ get_or b 7 0 ∷ []
eight (a ∷ b ∷ c ∷ d ∷ e ∷ f ∷ g ∷ h ∷ l) n = refl
eight [] n = absurd (omega arith)
eight (a ∷ []) n = absurd (omega arith)
eight (a ∷ b ∷ []) n = absurd (omega arith)
eight (a ∷ b ∷ c ∷ []) n = absurd (omega arith)
eight (a ∷ b ∷ c ∷ d ∷ []) n = absurd (omega arith)
eight (a ∷ b ∷ c ∷ d ∷ e ∷ []) n = absurd (omega arith)
eight (a ∷ b ∷ c ∷ d ∷ e ∷ f ∷ []) n = absurd (omega arith)
eight (a ∷ b ∷ c ∷ d ∷ e ∷ f ∷ g ∷ []) n = absurd (omega arith)

flag_back : (v : ℕ) → v ≤ 1 → flag (eqb v 1) ≡ v
flag_back zero h = refl
flag_back (suc zero) h = refl
flag_back (suc (suc v)) h = absurd (omega arith)

module _ (b : List ℕ) (bytes : Bytes b) where
  head_back : Formed b → head_bytes (eqb (byte_at b option_at) 1) (told_in b) ≡ take 8 (drop 0 b)
  head_back f =
      let low : join16 (get_or b 4 0) (get_or b 5 0) % 256 ≡ get_or b 4 0 = omega (arith, (bytes 4).fits) in
      let whole : join16 (get_or b 4 0) (get_or b 5 0) / 256 ≡ get_or b 5 0 = omega (arith, (bytes 4).fits) in
      let small : get_or b 5 0 % 256 ≡ get_or b 5 0 = omega (arith, (bytes 5).fits) in
      let high = ap (λ v. v % 256) whole ∙ small in
      let v = f.version in
      let k = f.kind in
      let o = flag_back (byte_at b option_at) f.option in
      let z = f.zero in
      let y = f.next in
      (λ i. sym v i ∷ sym k i ∷ o i ∷ get_or b 3 0 ∷ low i ∷ high i ∷ sym z i ∷ sym y i ∷ []) ∙ sym (eight b (omega (arith, f.size)))

  pub packed_back : formed b ≡ true → packed (unpacked b) ≡ b
  unfolding packed
  packed_back e =
      let f = form b e in
      let size = f.size in
      let S = setup-bytes_back b setup_at bytes (omega arith) in
      let C = word-bytes_back b current_at bytes (omega arith) in
      let K = word-bytes_back b counter_at bytes (omega arith) in
      let X = word-bytes_back b x_at bytes (omega arith) in
      let Y = word-bytes_back b y_at bytes (omega arith) in
      let N = joined b setup_at 36 4 _ _ (joined b setup_at 32 4 _ _ (joined b setup_at 28 4 _ _ (joined b setup_at 24 4 _ _ S C) K) X) Y in
      let T = table-bytes_back records b table_at bytes (omega arith) in
      joined b 0 816 32 _ _ (joined b 0 48 768 _ _ (joined b 0 8 40 _ _ (head_back f) N) T) refl ∙ take_all 848 b (omega arith)

-- ---- a state to bytes and back

-- A state whose numbers are of as many bits as the bytes hold, and whose table and ranks are whole.
pub record StateFits (s : WriterState) : Type 0 where
  pub full : length s.table ≡ records
  pub slots : SlotsFit s.table
  pub ranked : length s.ranks ≡ records
  pub setup : SetupFits s.setup
  pub current : s.current.0 < 2 ^ 32
  pub counter : s.counter < 2 ^ 32
  pub x : s.told.x < 2 ^ 32
  pub y : s.told.y < 2 ^ 32
  pub tool : s.told.tool < 2 ^ 16

four : (v : ℕ) → v < 2 ^ 32 → join32 (v % 256) (v / 256 % 256) (v / 256 / 256 % 256) (v / 256 / 256 / 256 % 256) ≡ v
four v h = omega arith

two : (v : ℕ) → v < 2 ^ 16 → join16 (v % 256) (v / 256 % 256) ≡ v
two v h = omega arith

option_back : (on : Bool) → eqb (flag on) 1 ≡ on
option_back true = refl
option_back false = refl

module _ (s : WriterState) (h : StateFits s) where
  table-size : length (table_bytes s.table) ≡ 768
  table-size = omega (arith, table-length s.table, h.full)

  behind : drop table_at (packed s) ≡ table_bytes s.table ++ s.ranks
  unfolding packed setup_bytes
  behind = refl

  packed_long : table_at + slot_size * records ≤ length (packed s)
  packed_long = omega (arith, packed-length s h.full h.ranked)

  table_again : slots_from records (packed s) table_at ≡ s.table
  table_again =
      slots-part records (packed s) table_at packed_long
      ∙ ap (λ l. slots_from records l 0) (ap (take 768) behind ∙ take_at (table_bytes s.table) s.ranks 768 table-size)
      ∙ ap (λ n. slots_from n (table_bytes s.table) 0) (sym h.full) ∙ table_back s.table h.slots

  ranks_again : ranks_in (packed s) ≡ s.ranks
  ranks_again =
      ap (take records) (sym (drop-drop 768 table_at (packed s)) ∙ ap (drop 768) behind ∙ drop_at (table_bytes s.table) s.ranks 768 table-size)
      ∙ take_all records s.ranks (omega (arith, h.ranked))

  pub unpacked_back : unpacked (packed s) ≡ s
  unfolding packed setup_bytes
  unpacked_back =
      let u = s.setup in
      let f = h.setup in
      let n = four u.n f.n.fits in
      let x = four u.x f.x.fits in
      let y = four u.y f.y.fits in
      let p = four u.pressure f.pressure.fits in
      let a = four u.major f.major.fits in
      let i = four u.minor f.minor.fits in
      let c = four s.current.0 h.current in
      let k = four s.counter h.counter in
      let tx = four s.told.x h.x in
      let ty = four s.told.y h.y in
      let t = two s.told.tool h.tool in
      let o = option_back s.pointer in
      λ j. record {
        table = table_again j;
        ranks = ranks_again j;
        setup = record { n = n j; x = x j; y = y j; pressure = p j; major = a j; minor = i j };
        current = record { 0 = c j };
        counter = k j;
        told = record { x = tx j; y = ty j; tool = t j; touch = s.told.touch };
        pointer = o j;
      }

  flag_small : (on : Bool) → leb (flag on) 1 ≡ true
  flag_small true = refl
  flag_small false = refl

  pub packed-formed : formed (packed s) ≡ true
  unfolding packed setup_bytes
  packed-formed = formed_by (packed s) true true true true true true (eq-eqb (length (packed s)) state_size (packed-length s h.full h.ranked)) refl refl (flag_small s.pointer) refl refl

-- ---- stored in place

-- A table's bytes as the state holds it, and those of a whole table.
pub table_long : (b : List ℕ) → length (table_bytes (unpacked b).table) ≡ table_size
table_long b = omega (arith, table-length (unpacked b).table, slots_length records b table_at)

pub table-held : (t : List ℕ) → Bytes t → length t ≡ table_size → table_bytes (table_in t) ≡ t
table-held t bytes e = table-bytes_back records t 0 bytes (omega (arith, e)) ∙ take_all table_size t (omega (arith, e))

-- A new table's bytes in place of the old one's, and then a current slot and a counter.
pub stored_in_place : (s : WriterState) (b new : List ℕ) (t : List Slot) (c k : ℕ) → b ≡ packed s → length (table_bytes s.table) ≡ table_size → new ≡ table_bytes t
    → lay counter_at (low_bytes 4 k) (lay current_at (low_bytes 4 c) (put_mid table_at table_size b new)) ≡ packed (changed_to s t c k)
unfolding packed setup_bytes lay
stored_in_place s b new t c k eb size en =
    let rest = drop_at (table_bytes s.table) s.ranks 768 size in
    ap₂ (λ x y. lay counter_at (low_bytes 4 k) (lay current_at (low_bytes 4 c) (put_mid table_at table_size x y))) eb en
    ∙ ap (λ r. head_bytes s.pointer s.told ++ (setup_bytes s.setup ++ low_bytes 4 c ++ low_bytes 4 k ++ low_bytes 4 s.told.x ++ low_bytes 4 s.told.y) ++ (table_bytes t ++ r)) rest

-- The last part in place of another that is as long.
last-laid : (A R Q : List ℕ) (n : ℕ) → length A ≡ n → length Q ≡ length R → lay n Q (A ++ R) ≡ A ++ Q
unfolding lay
last-laid A R Q n ea eq =
    let whole : n + length Q ≡ length (A ++ R) = omega (arith, ea, eq, length-append A R) in
    ap₂ (λ x y. x ++ (Q ++ y)) (take_at A R n ea) (ap (λ k. drop k (A ++ R)) whole ∙ drop-length (A ++ R)) ∙ ap (λ l. A ++ l) (append-nil Q)

-- Other ranks and another display in a state's bytes; with the option off they are the same.
module _ (s : WriterState) (m : Moved) (size : length (table_bytes s.table) ≡ table_size) (ranked : length s.ranks ≡ records) (made : length m.ranks ≡ records) where
  abbrev numbers : List ℕ
  numbers = setup_bytes s.setup ++ low_bytes 4 s.current.0 ++ low_bytes 4 s.counter ++ low_bytes 4 m.told.x ++ low_bytes 4 m.told.y

  front_length : length (head_bytes true m.told ++ numbers ++ table_bytes s.table) ≡ ranks_at
  unfolding setup_bytes
  front_length = omega (arith, size, length-append (head_bytes true m.told ++ numbers) (table_bytes s.table))

  moved_on : s.pointer ≡ true → moved_in m (packed s) ≡ packed (moved_to s m)
  unfolding packed setup_bytes lay
  moved_on e =
      let T = table_bytes s.table in
      let laid = lay ranks_at m.ranks (head_bytes true m.told ++ numbers ++ T ++ s.ranks) in
      ap (λ v. cond (eqb (flag v) 1) laid (packed s)) e
      ∙ last-laid (head_bytes true m.told ++ numbers ++ T) s.ranks m.ranks ranks_at front_length (made ∙ sym ranked)
      ∙ ap (λ v. head_bytes v m.told ++ numbers ++ T ++ m.ranks) (sym e)

  moved-off : s.pointer ≡ false → m ≡ last_of s → moved_in m (packed s) ≡ packed (moved_to s m)
  unfolding packed setup_bytes
  moved-off e h =
      let laid = lay ranks_at m.ranks (lay y_at (low_bytes 4 m.told.y) (lay x_at (low_bytes 4 m.told.x) (lay 0 (head_bytes true m.told) (packed s)))) in
      ap (λ v. cond (eqb (flag v) 1) laid (packed s)) e ∙ ap (λ x. packed (moved_to s x)) (sym h)

  pub moved_in_place : (b : List ℕ) → b ≡ packed s → (s.pointer ≡ false → m ≡ last_of s) → moved_in m b ≡ packed (moved_to s m)
  moved_in_place b eb h =
      ap (moved_in m) eb
      ∙ (elim s.pointer as (λ on. s.pointer ≡ on → moved_in m (packed s) ≡ packed (moved_to s m)) [
        | true ↦ λ e. moved_on e
        | false ↦ λ e. moved-off e (h e)
      ]) refl
