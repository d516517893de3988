-- Words, slots and setups in lent bytes: what was stored is read, what is read is stored as it lay, and what lies elsewhere stays. Cited by the crates above. Assumes nothing.
use mathlib.Core.Path.{◌≡◌, refl, sym, ap, ap₂, ◌∙◌}
use mathlib.Core.List.{List, [], ◌∷◌, ◌++◌}
use Prim.Native.Nat.{ℕ, zero, suc, ◌+◌, ◌-◌, ◌*◌, ◌/◌, ◌%◌, ◌^◌, ◌<◌, ◌≤◌}
use native.Mathlib.Omega.{arith}
use lib.IntN.{ℤ}
use lib.ListN.{length, get_or, take, drop, get_or-append}
use lib.Seq.{length-take-le, get_or-append-add, get_or-take, get_or-drop, drop-cons, drop-drop, take-add}
use mir.Syntax.{w8, w32}
use mir.Val.{Fits, SFits, to_z}
use mir.ValLaws.{to_z-of_z, to_z-Fits}
use Rattle.model.specs.Records.{bits_of, signed_of, low_bytes, join32, lay}
use Rattle.model.proofs.Bytes.{four, bits-signed}
use Rattle.records.specs.Seen.{word_at}
use Rattle.records.proofs.Bits.{bits-same, bits_fit, signed_same}
use Rattle.records.proofs.Over.{lay-lay}
use Rattle.panel.specs.declared.Slot.{Slot}
use Rattle.panel.specs.declared.Setup.{Setup}
use Rattle.lent.specs.Lent.{word_size, slot_size, setup_size, slot_in, setup_in, slot_bytes, setup_bytes, Bytes, SlotFits, SetupFits}

-- ---- six words, one behind the other

-- Their bytes: a slot is stored so, and a setup.
abbrev pub six_bytes : ℕ → ℕ → ℕ → ℕ → ℕ → ℕ → List ℕ
six_bytes a b c d e f = low_bytes 4 a ++ (low_bytes 4 b ++ (low_bytes 4 c ++ (low_bytes 4 d ++ (low_bytes 4 e ++ low_bytes 4 f))))

-- Six words that are stored one after the other.
pub six_laid : (at a b c d e f : ℕ) (w₀ w₁ w₂ w₃ w₄ w₅ w₆ : List ℕ) → at + 24 ≤ length w₀
    → w₁ ≡ lay at (low_bytes 4 a) w₀ → w₂ ≡ lay (at + 4) (low_bytes 4 b) w₁ → w₃ ≡ lay (at + 8) (low_bytes 4 c) w₂
    → w₄ ≡ lay (at + 12) (low_bytes 4 d) w₃ → w₅ ≡ lay (at + 16) (low_bytes 4 e) w₄ → w₆ ≡ lay (at + 20) (low_bytes 4 f) w₅
    → w₆ ≡ lay at (six_bytes a b c d e f) w₀
six_laid at a b c d e f w₀ w₁ w₂ w₃ w₄ w₅ w₆ h e₁ e₂ e₃ e₄ e₅ e₆ =
    let A = low_bytes 4 a in
    let B = A ++ low_bytes 4 b in
    let C = B ++ low_bytes 4 c in
    let D = C ++ low_bytes 4 d in
    let E = D ++ low_bytes 4 e in
    let two : w₂ ≡ lay at B w₀ = e₂ ∙ ap (lay (at + 4) (low_bytes 4 b)) e₁ ∙ lay-lay at A (low_bytes 4 b) w₀ (omega arith) in
    let three : w₃ ≡ lay at C w₀ = e₃ ∙ ap (lay (at + 8) (low_bytes 4 c)) two ∙ lay-lay at B (low_bytes 4 c) w₀ (omega arith) in
    let four : w₄ ≡ lay at D w₀ = e₄ ∙ ap (lay (at + 12) (low_bytes 4 d)) three ∙ lay-lay at C (low_bytes 4 d) w₀ (omega arith) in
    let five : w₅ ≡ lay at E w₀ = e₅ ∙ ap (lay (at + 16) (low_bytes 4 e)) four ∙ lay-lay at D (low_bytes 4 e) w₀ (omega arith) in
    e₆ ∙ ap (lay (at + 20) (low_bytes 4 f)) five ∙ lay-lay at E (low_bytes 4 f) w₀ (omega arith)

-- ---- bytes alone decide

-- The next k bytes of a from `at` on are those of b from `to` on.
abbrev pub Alike : ℕ → List ℕ → ℕ → List ℕ → ℕ → Type 0
Alike k a at b to = (i : ℕ) → i < k → get_or a (at + i) 0 ≡ get_or b (to + i) 0

pub later : (k j : ℕ) (a : List ℕ) (at : ℕ) (b : List ℕ) (to : ℕ) → Alike (j + k) a at b to → Alike k a (at + j) b (to + j)
later k j a at b to e i h =
    let x : at + j + i ≡ at + (j + i) = omega arith in
    let y : to + j + i ≡ to + (j + i) = omega arith in
    rw (x, y) (e (j + i) (omega arith))

pub word_same : (a : List ℕ) (at : ℕ) (b : List ℕ) (to : ℕ) → Alike word_size a at b to → word_at a at ≡ word_at b to
word_same a at b to e =
    let x : at + 0 ≡ at = omega arith in
    let y : to + 0 ≡ to = omega arith in
    let z : get_or a at 0 ≡ get_or b to 0 = rw (x, y) at (e 0 (omega arith)) in
    rw (z, e 1 (omega arith), e 2 (omega arith), e 3 (omega arith))

module _ (a : List ℕ) (at : ℕ) (b : List ℕ) (to : ℕ) (e : Alike slot_size a at b to) where
  part : (j : ℕ) → j + 4 ≤ slot_size → word_at a (at + j) ≡ word_at b (to + j)
  part j h = word_same a (at + j) b (to + j) (later 4 j a at b to (λ i k. e i (omega arith)))

  first : word_at a at ≡ word_at b to
  first = word_same a at b to (λ i h. e i (omega arith))

  pub slot_same : slot_in a at ≡ slot_in b to
  slot_same = rw (first, part 4 (omega arith), part 8 (omega arith), part 12 (omega arith), part 16 (omega arith), part 20 (omega arith))

  pub setup-same : setup_in a at ≡ setup_in b to
  setup-same = rw (first, part 4 (omega arith), part 8 (omega arith), part 12 (omega arith), part 16 (omega arith), part 20 (omega arith))

-- ---- bytes laid over others

module _ (at : ℕ) (bs b : List ℕ) (room : at ≤ length b) where
  -- A byte of those laid, or one behind them.
  laid_or_behind : (i : ℕ) → get_or (lay at bs b) (at + i) 0 ≡ get_or (bs ++ drop (at + length bs) b) i 0
  unfolding lay
  laid_or_behind i =
      let n : length (take at b) ≡ at = length-take-le at b room in
      ap (λ k. get_or (take at b ++ (bs ++ drop (at + length bs) b)) (k + i) 0) (sym n) ∙ get_or-append-add (take at b) (bs ++ drop (at + length bs) b) i 0

  byte_laid : (i : ℕ) → i < length bs → get_or (lay at bs b) (at + i) 0 ≡ get_or bs i 0
  byte_laid i h = laid_or_behind i ∙ get_or-append bs (drop (at + length bs) b) 0 i h

  pub byte_before : (i : ℕ) → i < at → get_or (lay at bs b) i 0 ≡ get_or b i 0
  unfolding lay
  byte_before i h =
      get_or-append (take at b) (bs ++ drop (at + length bs) b) 0 i (omega (arith, length-take-le at b room)) ∙ get_or-take at b i 0 h

  behind : (i : ℕ) → get_or (lay at bs b) (at + (length bs + i)) 0 ≡ get_or b (at + length bs + i) 0
  behind i = laid_or_behind (length bs + i) ∙ get_or-append-add bs (drop (at + length bs) b) i 0 ∙ get_or-drop (at + length bs) b i 0

  pub byte_after : (i : ℕ) → at + length bs ≤ i → get_or (lay at bs b) i 0 ≡ get_or b i 0
  byte_after i h =
      let k = i - (at + length bs) in
      let e : at + (length bs + k) ≡ i = omega arith in
      let f : at + length bs + k ≡ i = omega arith in
      ap (λ j. get_or (lay at bs b) j 0) (sym e) ∙ behind k ∙ ap (λ j. get_or b j 0) f

  -- What lies before them, what lies behind them, and they.
  before : (to k : ℕ) → to + k ≤ at → Alike k (lay at bs b) to b to
  before to k h i l = byte_before (to + i) (omega arith)

  after : (to k : ℕ) → at + length bs ≤ to → Alike k (lay at bs b) to b to
  after to k h i l = byte_after (to + i) (omega arith)

  laid : (k : ℕ) → k ≤ length bs → Alike k (lay at bs b) at bs 0
  laid k h i l = let z : 0 + i ≡ i = omega arith in rw z (byte_laid i (omega arith))

  pub word-kept-before : (to : ℕ) → to + word_size ≤ at → word_at (lay at bs b) to ≡ word_at b to
  word-kept-before to h = word_same (lay at bs b) to b to (before to word_size h)

  pub word-kept-after : (to : ℕ) → at + length bs ≤ to → word_at (lay at bs b) to ≡ word_at b to
  word-kept-after to h = word_same (lay at bs b) to b to (after to word_size h)

  pub slot-kept-before : (to : ℕ) → to + slot_size ≤ at → slot_in (lay at bs b) to ≡ slot_in b to
  slot-kept-before to h = slot_same (lay at bs b) to b to (before to slot_size h)

  pub slot-kept-after : (to : ℕ) → at + length bs ≤ to → slot_in (lay at bs b) to ≡ slot_in b to
  slot-kept-after to h = slot_same (lay at bs b) to b to (after to slot_size h)

  pub setup-kept-before : (to : ℕ) → to + setup_size ≤ at → setup_in (lay at bs b) to ≡ setup_in b to
  setup-kept-before to h = setup-same (lay at bs b) to b to (before to setup_size h)

  pub setup-kept-after : (to : ℕ) → at + length bs ≤ to → setup_in (lay at bs b) to ≡ setup_in b to
  setup-kept-after to h = setup-same (lay at bs b) to b to (after to setup_size h)

  -- What lies at their start.
  pub word-laid : word_size ≤ length bs → word_at (lay at bs b) at ≡ word_at bs 0
  word-laid h = word_same (lay at bs b) at bs 0 (laid word_size h)

  pub slot-laid : slot_size ≤ length bs → slot_in (lay at bs b) at ≡ slot_in bs 0
  slot-laid h = slot_same (lay at bs b) at bs 0 (laid slot_size h)

  pub setup-laid : setup_size ≤ length bs → setup_in (lay at bs b) at ≡ setup_in bs 0
  setup-laid h = setup-same (lay at bs b) at bs 0 (laid setup_size h)

-- ---- what was stored is read

-- Signed numbers of 32 bits.
pub signed_back : (z : ℤ) → SFits w32 z → signed_of (bits_of z) ≡ z
signed_back z f = sym (signed_same (bits_of z)) ∙ ap (to_z w32) (sym (bits-same z)) ∙ to_z-of_z w32 z f

pub word_back : (at v : ℕ) (b : List ℕ) → v < 2 ^ 32 → at + word_size ≤ length b → word_at (lay at (low_bytes 4 v) b) at ≡ v
word_back at v b h room = word-laid at (low_bytes 4 v) b (omega arith) (omega arith) ∙ four v h

pub word-before : (at to v : ℕ) (b : List ℕ) → at + word_size ≤ length b → to + word_size ≤ at → word_at (lay at (low_bytes 4 v) b) to ≡ word_at b to
word-before at to v b room h = word-kept-before at (low_bytes 4 v) b (omega arith) to h

pub word_after : (at to v : ℕ) (b : List ℕ) → at + word_size ≤ length b → at + word_size ≤ to → word_at (lay at (low_bytes 4 v) b) to ≡ word_at b to
word_after at to v b room h = word-kept-after at (low_bytes 4 v) b (omega arith) to h

pub slot-length : (s : Slot) → length (slot_bytes s) ≡ slot_size
unfolding slot_bytes
slot-length s = refl

slot_again : (s : Slot) → SlotFits s → slot_in (slot_bytes s) 0 ≡ s
unfolding slot_bytes
slot_again s h =
    let z = s.id.0 in
    rw (four (bits_of z) (bits_fit z h.id), signed_back z h.id, four s.x h.x.fits, four s.y h.y.fits, four s.pressure h.pressure.fits, four s.major h.major.fits, four s.minor h.minor.fits)

pub slot_back : (at : ℕ) (s : Slot) (b : List ℕ) → SlotFits s → at + slot_size ≤ length b → slot_in (lay at (slot_bytes s) b) at ≡ s
slot_back at s b h room = slot-laid at (slot_bytes s) b (omega arith) (omega (arith, slot-length s)) ∙ slot_again s h

pub slot-before : (at to : ℕ) (s : Slot) (b : List ℕ) → at + slot_size ≤ length b → to + slot_size ≤ at → slot_in (lay at (slot_bytes s) b) to ≡ slot_in b to
slot-before at to s b room h = slot-kept-before at (slot_bytes s) b (omega arith) to h

pub slot-after : (at to : ℕ) (s : Slot) (b : List ℕ) → at + slot_size ≤ length b → at + slot_size ≤ to → slot_in (lay at (slot_bytes s) b) to ≡ slot_in b to
slot-after at to s b room h = slot-kept-after at (slot_bytes s) b (omega arith) to (omega (arith, slot-length s))

pub setup-length : (u : Setup) → length (setup_bytes u) ≡ setup_size
unfolding setup_bytes
setup-length u = refl

setup_again : (u : Setup) → SetupFits u → setup_in (setup_bytes u) 0 ≡ u
unfolding setup_bytes
setup_again u h =
    rw (four u.n h.n.fits, four u.x h.x.fits, four u.y h.y.fits, four u.pressure h.pressure.fits, four u.major h.major.fits, four u.minor h.minor.fits)

pub setup_back : (at : ℕ) (u : Setup) (b : List ℕ) → SetupFits u → at + setup_size ≤ length b → setup_in (lay at (setup_bytes u) b) at ≡ u
setup_back at u b h room = setup-laid at (setup_bytes u) b (omega arith) (omega (arith, setup-length u)) ∙ setup_again u h

pub setup-before : (at to : ℕ) (u : Setup) (b : List ℕ) → at + setup_size ≤ length b → to + setup_size ≤ at → setup_in (lay at (setup_bytes u) b) to ≡ setup_in b to
setup-before at to u b room h = setup-kept-before at (setup_bytes u) b (omega arith) to h

pub setup-after : (at to : ℕ) (u : Setup) (b : List ℕ) → at + setup_size ≤ length b → at + setup_size ≤ to → setup_in (lay at (setup_bytes u) b) to ≡ setup_in b to
setup-after at to u b room h = setup-kept-after at (setup_bytes u) b (omega arith) to (omega (arith, setup-length u))

-- ---- what is read fits

pub word_fits : (b : List ℕ) (at : ℕ) → Bytes b → Fits w32 (word_at b at)
word_fits b at small =
    record { fits = omega (arith, (small at).fits, (small (at + 1)).fits, (small (at + 2)).fits, (small (at + 3)).fits) }

pub slot-fits : (b : List ℕ) (at : ℕ) → Bytes b → SlotFits (slot_in b at)
slot-fits b at small =
    record {
      id = rw (← signed_same (word_at b at)) (to_z-Fits w32 (word_at b at) (word_fits b at small));
      x = word_fits b (at + 4) small;
      y = word_fits b (at + 8) small;
      pressure = word_fits b (at + 12) small;
      major = word_fits b (at + 16) small;
      minor = word_fits b (at + 20) small;
    }

pub setup-fits : (b : List ℕ) (at : ℕ) → Bytes b → SetupFits (setup_in b at)
setup-fits b at small =
    record {
      n = word_fits b at small;
      x = word_fits b (at + 4) small;
      y = word_fits b (at + 8) small;
      pressure = word_fits b (at + 12) small;
      major = word_fits b (at + 16) small;
      minor = word_fits b (at + 20) small;
    }

-- ---- what is read is stored as it lay

-- A part is its first byte and the rest.
byte_and_rest : (b : List ℕ) (at to n : ℕ) → at < length b → at + 1 ≡ to → take (suc n) (drop at b) ≡ get_or b at 0 ∷ take n (drop to b)
byte_and_rest b at to n h e =
    let next : suc at ≡ to = omega arith in
    ap (take (suc n)) (drop-cons b at 0 h) ∙ ap {B = List ℕ} (λ k. get_or b at 0 ∷ take n (drop k b)) next

-- The four bytes from a position on.
four-at : (b : List ℕ) (at : ℕ) → at + word_size ≤ length b
    → take 4 (drop at b) ≡ get_or b at 0 ∷ (get_or b (at + 1) 0 ∷ (get_or b (at + 2) 0 ∷ (get_or b (at + 3) 0 ∷ [])))
four-at b at h =
    let one = byte_and_rest b at (at + 1) 3 (omega arith) refl in
    let two = byte_and_rest b (at + 1) (at + 2) 2 (omega arith) (omega arith) in
    let three = byte_and_rest b (at + 2) (at + 3) 1 (omega arith) (omega arith) in
    let last = byte_and_rest b (at + 3) (at + 4) 0 (omega arith) (omega arith) in
    rw (one, two, three, last)

-- The bytes of four bytes' number are these bytes.
four_back : (a b c d : ℕ) → a < 256 → b < 256 → c < 256 → d < 256 → low_bytes 4 (join32 a b c d) ≡ a ∷ (b ∷ (c ∷ (d ∷ [])))
four_back a b c d ha hb hc hd =
    let n = join32 a b c d in
    let one : n % 256 ≡ a = omega arith in
    let rest : n / 256 ≡ b + 256 * c + 65_536 * d = omega arith in
    let two : (b + 256 * c + 65_536 * d) % 256 ≡ b = omega arith in
    let more : (b + 256 * c + 65_536 * d) / 256 ≡ c + 256 * d = omega arith in
    let three : (c + 256 * d) % 256 ≡ c = omega arith in
    let top : (c + 256 * d) / 256 ≡ d = omega arith in
    let last : d % 256 ≡ d = omega arith in
    rw (one, rest, two, more, three, top, last)

pub word-bytes_back : (b : List ℕ) (at : ℕ) → Bytes b → at + word_size ≤ length b → low_bytes 4 (word_at b at) ≡ take word_size (drop at b)
word-bytes_back b at small h =
    four_back (get_or b at 0) (get_or b (at + 1) 0) (get_or b (at + 2) 0) (get_or b (at + 3) 0) (small at).fits (small (at + 1)).fits (small (at + 2)).fits (small (at + 3)).fits
    ∙ sym (four-at b at h)

-- A part is its first word's bytes and the rest.
word_and_rest : (b : List ℕ) (at to n : ℕ) (rest : List ℕ) → Bytes b → at + word_size ≤ length b → at + 4 ≡ to → rest ≡ take n (drop to b)
    → low_bytes 4 (word_at b at) ++ rest ≡ take (4 + n) (drop at b)
word_and_rest b at to n rest small h next e =
    let there : drop to b ≡ drop 4 (drop at b) = ap (λ k. drop k b) (sym next) ∙ sym (drop-drop 4 at b) in
    ap₂ (λ w l. w ++ l) (word-bytes_back b at small h) (e ∙ ap (take n) there) ∙ sym (take-add 4 n (drop at b))

six_back : (b : List ℕ) (at : ℕ) → Bytes b → at + 24 ≤ length b
    → six_bytes (word_at b at) (word_at b (at + 4)) (word_at b (at + 8)) (word_at b (at + 12)) (word_at b (at + 16)) (word_at b (at + 20)) ≡ take 24 (drop at b)
six_back b at small h =
    let F = low_bytes 4 (word_at b (at + 20)) in
    let E = low_bytes 4 (word_at b (at + 16)) ++ F in
    let D = low_bytes 4 (word_at b (at + 12)) ++ E in
    let C = low_bytes 4 (word_at b (at + 8)) ++ D in
    let B = low_bytes 4 (word_at b (at + 4)) ++ C in
    let f : F ≡ take 4 (drop (at + 20) b) = word-bytes_back b (at + 20) small (omega arith) in
    let e : E ≡ take 8 (drop (at + 16) b) = word_and_rest b (at + 16) (at + 20) 4 F small (omega arith) (omega arith) f in
    let d : D ≡ take 12 (drop (at + 12) b) = word_and_rest b (at + 12) (at + 16) 8 E small (omega arith) (omega arith) e in
    let c : C ≡ take 16 (drop (at + 8) b) = word_and_rest b (at + 8) (at + 12) 12 D small (omega arith) (omega arith) d in
    let o : B ≡ take 20 (drop (at + 4) b) = word_and_rest b (at + 4) (at + 8) 16 C small (omega arith) (omega arith) c in
    word_and_rest b at (at + 4) 20 B small (omega arith) refl o

pub slot-bytes_back : (b : List ℕ) (at : ℕ) → Bytes b → at + slot_size ≤ length b → slot_bytes (slot_in b at) ≡ take slot_size (drop at b)
unfolding slot_bytes
slot-bytes_back b at small h =
    ap (λ v. six_bytes v (word_at b (at + 4)) (word_at b (at + 8)) (word_at b (at + 12)) (word_at b (at + 16)) (word_at b (at + 20))) (bits-signed (word_at b at) (word_fits b at small).fits)
    ∙ six_back b at small h

pub setup-bytes_back : (b : List ℕ) (at : ℕ) → Bytes b → at + setup_size ≤ length b → setup_bytes (setup_in b at) ≡ take setup_size (drop at b)
unfolding setup_bytes
setup-bytes_back b at small h = six_back b at small h

-- ---- bytes stay bytes

pub bytes_nil : Bytes []
bytes_nil i = record { fits = omega arith }

pub bytes_cons : (x : ℕ) (xs : List ℕ) → Fits w8 x → Bytes xs → Bytes (x ∷ xs)
bytes_cons x xs f h zero = f
bytes_cons x xs f h (suc i) = h i

pub bytes_append : (xs ys : List ℕ) → Bytes xs → Bytes ys → Bytes (xs ++ ys)
bytes_append [] ys f g = g
bytes_append (x ∷ xs) ys f g = bytes_cons x (xs ++ ys) (f 0) (bytes_append xs ys (λ i. f (suc i)) g)

pub bytes_take : (n : ℕ) (b : List ℕ) → Bytes b → Bytes (take n b)
bytes_take zero b h = bytes_nil
bytes_take (suc n) [] h = bytes_nil
bytes_take (suc n) (x ∷ xs) h = bytes_cons x (take n xs) (h 0) (bytes_take n xs (λ i. h (suc i)))

pub bytes_drop : (n : ℕ) (b : List ℕ) → Bytes b → Bytes (drop n b)
bytes_drop zero b h = h
bytes_drop (suc n) [] h = bytes_nil
bytes_drop (suc n) (x ∷ xs) h = bytes_drop n xs (λ i. h (suc i))

pub bytes-lay : (at : ℕ) (xs b : List ℕ) → Bytes b → Bytes xs → Bytes (lay at xs b)
unfolding lay
bytes-lay at xs b h f =
    bytes_append (take at b) (xs ++ drop (at + length xs) b) (bytes_take at b h) (bytes_append xs (drop (at + length xs) b) f (bytes_drop (at + length xs) b h))

pub bytes_low : (k v : ℕ) → Bytes (low_bytes k v)
bytes_low zero v = bytes_nil
bytes_low (suc k) v = bytes_cons (v % 256) (low_bytes k (v / 256)) (record { fits = omega arith }) (bytes_low k (v / 256))

bytes_six : (a b c d e f : ℕ) → Bytes (six_bytes a b c d e f)
bytes_six a b c d e f =
    let E = low_bytes 4 e ++ low_bytes 4 f in
    let D = low_bytes 4 d ++ E in
    let C = low_bytes 4 c ++ D in
    let B = low_bytes 4 b ++ C in
    let ends : Bytes E = bytes_append (low_bytes 4 e) (low_bytes 4 f) (bytes_low 4 e) (bytes_low 4 f) in
    bytes_append (low_bytes 4 a) B (bytes_low 4 a)
    (bytes_append (low_bytes 4 b) C (bytes_low 4 b) (bytes_append (low_bytes 4 c) D (bytes_low 4 c) (bytes_append (low_bytes 4 d) E (bytes_low 4 d) ends)))

pub bytes-slot : (s : Slot) → Bytes (slot_bytes s)
unfolding slot_bytes
bytes-slot s = bytes_six (bits_of s.id.0) s.x s.y s.pressure s.major s.minor

pub bytes-setup : (u : Setup) → Bytes (setup_bytes u)
unfolding setup_bytes
bytes-setup u = bytes_six u.n u.x u.y u.pressure u.major u.minor
