-- What was stored is read again, and formed bytes are those of the state that they hold: so a call over bytes loses nothing. Cited by lent_line and export. Assumes nothing.
use mathlib.Core.Path.{◌≡◌, refl, sym, ap, ap₂, ◌∙◌}
use mathlib.Core.Bool.{true, ◌&&◌}
use mathlib.Core.List.{List, [], ◌∷◌, ◌++◌, append-nil}
use Prim.Native.Nat.{ℕ, zero, suc, ◌+◌, ◌≤◌}
use native.Mathlib.Omega.{arith}
use lib.Dec.{eqb, leb}
use lib.ListN.{length, get_or, take, drop, length-append, length-drop, take-append-drop}
use lib.Seq.{take-add, take_all, drop-drop, take-append_seam, drop-append_seam}
use borrow.Author.Tests.{eqb-true, eq-eqb, leb-true}
use Rattle.model.specs.Panel.{records}
use Rattle.model.specs.Records.{low_bytes, lay}
use Rattle.model.proofs.Bools.{and_left, and_right}
use Rattle.records.specs.Seen.{word_at}
use Rattle.records.proofs.Over.{lay-length}
use Rattle.common.specs.declared.Mode.{Mode}
use Rattle.common.specs.declared.Mode.TheVariants.{Following, Dropped, Stale}
use Rattle.reader.specs.declared.ReaderState.{ReaderState}
use Rattle.lent.specs.Lent.{slots_from, setup_in, setup_bytes, table_bytes, Bytes}
use Rattle.lent.proofs.Slots.{word-kept-before, setup-kept-before, word_back, setup_back, setup-length, word_fits, setup-fits, word-bytes_back, setup-bytes_back}
use Rattle.lent.proofs.Tables.{slots-before, slots_length, table-length, table-laid, table-bytes_back, slots_fit}
use Rattle.lent_reader.specs.Layout.{version, reader_kind, mode_at, spare_at, current_at, setup_at, shown_at, pending_at, head_size, body_size, reader_size, last_mode, mode_in, mode_byte, begun, formed, unpacked, head_bytes, body_bytes, packed, StateFits}
use Rattle.lent_reader.proofs.Laid.{body-laid, body-length, packed-length}
use Rattle.lent_reader.proofs.Stored.{formed-length}

-- ---- the mode

pub mode_again : (m : Mode) → mode_in (mode_byte m) ≡ m
mode_again Following = refl
mode_again Dropped = refl
mode_again Stale = refl

mode_byte_again : (v : ℕ) → v ≤ 2 → mode_byte (mode_in v) ≡ v
mode_byte_again zero h = refl
mode_byte_again (suc zero) h = refl
mode_byte_again (suc (suc zero)) h = refl
mode_byte_again (suc (suc (suc n))) h = absurd (omega (arith, h))

-- ---- what was stored is read again

-- Bytes laid where they stand change nothing.
pub lay-same : (A B C : List ℕ) → lay (length A) B (A ++ (B ++ C)) ≡ A ++ (B ++ C)
unfolding lay
lay-same A B C =
    let n : drop (length A + length B) (A ++ (B ++ C)) ≡ C =
    sym (drop-drop (length B) (length A) (A ++ (B ++ C))) ∙ ap (drop (length B)) (drop-append_seam A (B ++ C)) ∙ drop-append_seam B C in
    ap₂ (λ x y. x ++ (B ++ y)) (take-append_seam A (B ++ C)) n

-- The parts of a state behind its head, laid over bytes that have room.
module _ (s : ReaderState) (f : StateFits s) (b : List ℕ) (room : reader_size ≤ length b) where
  abbrev w₁ : List ℕ
  w₁ = lay 4 (low_bytes 4 s.current.0) b

  abbrev w₂ : List ℕ
  w₂ = lay 8 (setup_bytes s.setup) w₁

  abbrev w₃ : List ℕ
  w₃ = lay 32 (table_bytes s.shown) w₂

  abbrev w₄ : List ℕ
  w₄ = lay 800 (table_bytes s.pending) w₃

  whole : w₄ ≡ lay 4 (body_bytes s) b
  whole = body-laid s f.whole b w₁ w₂ w₃ w₄ room refl refl refl refl

  long₁ : length w₁ ≡ length b
  long₁ = lay-length 4 (low_bytes 4 s.current.0) b (omega arith)

  long₂ : length w₂ ≡ length b
  long₂ = lay-length 8 (setup_bytes s.setup) w₁ (omega (arith, long₁, setup-length s.setup)) ∙ long₁

  long₃ : length w₃ ≡ length b
  long₃ = lay-length 32 (table_bytes s.shown) w₂ (omega (arith, long₂, table-length s.shown, f.whole)) ∙ long₂

  pub current-read : word_at (lay 4 (body_bytes s) b) 4 ≡ s.current.0
  current-read =
      ap (λ l. word_at l 4) (sym whole)
      ∙ word-kept-before 800 (table_bytes s.pending) w₃ (omega (arith, long₃)) 4 (omega arith)
      ∙ word-kept-before 32 (table_bytes s.shown) w₂ (omega (arith, long₂)) 4 (omega arith)
      ∙ word-kept-before 8 (setup_bytes s.setup) w₁ (omega (arith, long₁)) 4 (omega arith)
      ∙ word_back 4 s.current.0 b f.current (omega arith)

  pub setup-read : setup_in (lay 4 (body_bytes s) b) 8 ≡ s.setup
  setup-read =
      ap (λ l. setup_in l 8) (sym whole)
      ∙ setup-kept-before 800 (table_bytes s.pending) w₃ (omega (arith, long₃)) 8 (omega arith)
      ∙ setup-kept-before 32 (table_bytes s.shown) w₂ (omega (arith, long₂)) 8 (omega arith)
      ∙ setup_back 8 s.setup w₁ f.setup (omega (arith, long₁))

  pub shown_read : slots_from records (lay 4 (body_bytes s) b) 32 ≡ s.shown
  shown_read =
      ap (λ l. slots_from records l 32) (sym whole)
      ∙ slots-before 800 (table_bytes s.pending) w₃ (omega (arith, long₃)) records 32 (omega arith)
      ∙ ap (λ n. slots_from n w₃ 32) (sym f.whole)
      ∙ table-laid 32 s.shown w₂ f.shown (omega (arith, long₂, f.whole))

  pub pending-read : slots_from records (lay 4 (body_bytes s) b) 800 ≡ s.pending
  pending-read =
      ap (λ l. slots_from records l 800) (sym whole)
      ∙ ap (λ n. slots_from n w₄ 800) (sym f.whole_pending)
      ∙ table-laid 800 s.pending w₃ f.pending (omega (arith, long₃, f.whole_pending))

-- A state that stands in bytes as its head, its body and more is read there.
pub read_again : (s : ReaderState) → StateFits s → (kind more : ℕ) (rest : List ℕ) → unpacked (head_bytes kind s.mode more ++ (body_bytes s ++ rest)) ≡ s
read_again s f kind more rest =
    let head = head_bytes kind s.mode more in
    let b = head ++ (body_bytes s ++ rest) in
    let same : b ≡ lay head_size (body_bytes s) b = sym (lay-same head (body_bytes s) rest) in
    let room : reader_size ≤ length b = omega (arith, length-append (body_bytes s) rest, body-length s f.whole f.whole_pending) in
    let shown = ap (λ l. slots_from records l shown_at) same ∙ shown_read s f b room in
    let pending = ap (λ l. slots_from records l pending_at) same ∙ pending-read s f b room in
    let setup = ap (λ l. setup_in l setup_at) same ∙ setup-read s f b room in
    let current = ap (λ l. word_at l current_at) same ∙ current-read s f b room in
    λ i. record { shown = shown i; pending = pending i; setup = setup i; current = record { 0 = current i }; mode = mode_again s.mode i }

pub unpacked_back : (s : ReaderState) → StateFits s → unpacked (packed s) ≡ s
unfolding packed
unpacked_back s f =
    let head = head_bytes reader_kind s.mode 0 in
    ap (λ l. unpacked (head ++ l)) (sym (append-nil (body_bytes s))) ∙ read_again s f reader_kind 0 []

-- A mode's byte is one.
pub mode-last : (m : Mode) → leb (mode_byte m) last_mode ≡ true
mode-last Following = refl
mode-last Dropped = refl
mode-last Stale = refl

pub packed-formed : (s : ReaderState) → StateFits s → formed (packed s) ≡ true
unfolding packed
packed-formed s f =
    ap₂ (λ x y. x && ((true && (true && y)) && true)) (eq-eqb (length (head_bytes reader_kind s.mode 0 ++ body_bytes s)) reader_size (packed-length s f.whole f.whole_pending)) (mode-last s.mode)

-- ---- formed bytes are those of the state that they hold

-- The bytes behind the head.
pub body_again : (b : List ℕ) → Bytes b → reader_size ≤ length b → body_bytes (unpacked b) ≡ take body_size (drop head_size b)
unfolding body_bytes
body_again b bytes room =
    let two : take 1536 (drop 32 b) ≡ take 768 (drop 32 b) ++ take 768 (drop 800 b) = take-add 768 768 (drop 32 b) ∙ ap (λ l. take 768 (drop 32 b) ++ take 768 l) (drop-drop 768 32 b) in
    let three : take 1560 (drop 8 b) ≡ take 24 (drop 8 b) ++ take 1536 (drop 32 b) = take-add 24 1536 (drop 8 b) ∙ ap (λ l. take 24 (drop 8 b) ++ take 1536 l) (drop-drop 24 8 b) in
    let four : take 1564 (drop 4 b) ≡ take 4 (drop 4 b) ++ take 1560 (drop 8 b) = take-add 4 1560 (drop 4 b) ∙ ap (λ l. take 4 (drop 4 b) ++ take 1560 l) (drop-drop 4 4 b) in
    ap₂ (λ x y. x ++ y) (word-bytes_back b 4 bytes (omega arith))
    (ap₂ (λ x y. x ++ y) (setup-bytes_back b 8 bytes (omega arith))
    (ap₂ (λ x y. x ++ y) (table-bytes_back records b 32 bytes (omega arith)) (table-bytes_back records b 800 bytes (omega arith)) ∙ sym two) ∙ sym three)
    ∙ sym four

-- The head of bytes that begin as a state of this kind.
pub head_again : (kind : ℕ) (b : List ℕ) → 4 ≤ length b → begun kind b ≡ true → head_bytes kind (mode_in (get_or b 2 0)) (get_or b 3 0) ≡ take head_size b
head_again kind [] h e = absurd (omega (arith, h))
head_again kind (x ∷ []) h e = absurd (omega (arith, h))
head_again kind (x ∷ y ∷ []) h e = absurd (omega (arith, h))
head_again kind (x ∷ y ∷ z ∷ []) h e = absurd (omega (arith, h))
head_again kind (x ∷ y ∷ z ∷ t ∷ b) h e =
    let first = and_left (eqb x version) _ e in
    let more = and_right (eqb x version) _ e in
    let second = and_left (eqb y kind) _ more in
    let third = leb-true z 2 (and_right (eqb y kind) _ more) in
    rw (eqb-true x version first, eqb-true y kind second, mode_byte_again z third)

pub packed_back : (b : List ℕ) → formed b ≡ true → Bytes b → packed (unpacked b) ≡ b
unfolding packed
packed_back b e bytes =
    let more = and_right (eqb (length b) reader_size) _ e in
    let n = formed-length b e in
    let spare : 0 ≡ get_or b spare_at 0 = sym (eqb-true (get_or b spare_at 0) 0 (and_right (begun reader_kind b) _ more)) in
    let all : length (drop head_size b) ≤ body_size = omega (arith, length-drop head_size b, n) in
    ap₂ (λ k l. head_bytes reader_kind (mode_in (get_or b mode_at 0)) k ++ l) spare (body_again b bytes (omega (arith, n)))
    ∙ ap₂ (λ x y. x ++ y) (head_again reader_kind b (omega (arith, n)) (and_left (begun reader_kind b) _ more)) (take_all body_size (drop head_size b) all)
    ∙ take-append-drop head_size b

-- The numbers that bytes hold fit.
pub unpacked-fits : (b : List ℕ) → Bytes b → StateFits (unpacked b)
unpacked-fits b bytes = record {
  whole = slots_length records b shown_at;
  whole_pending = slots_length records b pending_at;
  shown = slots_fit records b shown_at bytes;
  pending = slots_fit records b pending_at bytes;
  setup = setup-fits b setup_at bytes;
  current = (word_fits b current_at bytes).fits;
}
