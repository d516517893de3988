-- Packets that are written: read back, wherever they stand, and the one byte form that each report has. Cited by ForceAltered and ForceCalls.
-- Assumes nothing.
use mathlib.Core.Path.{◌≡◌, refl, sym, ap, ap₂, ◌∙◌}
use mathlib.Core.Bool.{true, cond}
use mathlib.Core.List.{List, [], ◌∷◌, ◌++◌, append_assoc}
use Prim.Native.Nat.{ℕ, zero, suc, ◌+◌, ◌-◌, ◌*◌, ◌/◌, ◌%◌, ◌≤◌, ◌<◌}
use native.Mathlib.Omega.{arith}
use lib.Dec.{leb}
use lib.ListN.{length, get_or, take, drop, length-append, length-drop, drop_of_length-le}
use lib.Seq.{take_at, drop_at, get_or_at, drop-cons, drop-drop}
use borrow.Author.Tests.{eq-eqb, le-leb, leb-true}
use Rattle.model.proofs.Bools.{and_left}
use Rattle.model.proofs.Bytes.{two}
use Rattle.model.specs.Force.{Bytes, stick_op, stick_data, most_data, head_bytes, packet_bytes, stick_bytes, check_of, before_check, packet}
use Rattle.model.specs.Force.{word_values, byte_values, most_buttons, most_hat, signed_in, bits_in, Report, Sized, good_report, report_of, data_of, packet_of}
use Rattle.model.specs.Force.{report, wrong_check, meant, Read, refusing, data_in, passing, contents, good_check, packet_in}
use Rattle.model.specs.Force.{no_mark, mark_from, moved_by, read_at}
use Rattle.model.proofs.ForceBits.{bits_below, signed-bits, bits-signed, signed-fits, buttons_back, hat_back, shared_back, low_back}
use Rattle.model.proofs.ForcePackets.{packet-whole}
use Rattle.model.proofs.ForceReads.{read_found, mark_skipped}

-- ---- any packet

module _ (op : ℕ) (bytes rest : List ℕ) where
  -- A packet and what follows it, up to CS and from CS on.
  at-check : packet op bytes ++ rest ≡ before_check op bytes ++ check_of (before_check op bytes) ∷ rest
  at-check = append_assoc (before_check op bytes) (check_of (before_check op bytes) ∷ []) rest

  before-length : length (before_check op bytes) ≡ head_bytes + length bytes
  before-length = omega arith

  -- Its data bytes are those that it was made of,
  data_there : data_in (packet op bytes ++ rest) ≡ bytes
  data_there = ap data_in at-check ∙ take_at bytes (check_of (before_check op bytes) ∷ rest) (length bytes) refl

  -- and its CS is good.
  check-there : good_check (packet op bytes ++ rest) ≡ true
  check-there =
      let cs = check_of (before_check op bytes) in
      let n = head_bytes + length bytes in
      rw at-check
      (eq-eqb (get_or (before_check op bytes ++ cs ∷ rest) n 0) (check_of (take n (before_check op bytes ++ cs ∷ rest)))
      (get_or_at (before_check op bytes) cs rest 0 n before-length ∙ ap check_of (sym (take_at (before_check op bytes) (cs ∷ rest) n before-length))))

  -- A packet of any OP and any data bytes, 16 at most, is read: OP 01 with 8 is a report, every other is not for us.
  pub packet-read : length bytes ≤ most_data → packet_in (packet op bytes ++ rest) ≡ passing (length bytes) (meant op (length bytes) bytes)
  packet-read h =
      let t = packet op bytes ++ rest in
      let room : packet_bytes (length bytes) ≤ length t =
      omega (arith, length-append (packet op bytes) rest, length-append (before_check op bytes) (check_of (before_check op bytes) ∷ [])) in
      packet-whole t h room
      ∙ ap (λ g. cond g (passing (length bytes) (contents t)) (refusing wrong_check)) check-there
      ∙ ap (λ d. passing (length bytes) (meant op (length bytes) d)) data_there

-- Wherever it stands in an input, and whatever bytes without a 0x2B stand between the position and it.
pub packet_stands : (input skipped bytes rest : List ℕ) (op at : ℕ) → drop at input ≡ skipped ++ (packet op bytes ++ rest) → no_mark skipped ≡ true
    → length bytes ≤ most_data → read_at input at ≡ record { answer = meant op (length bytes) bytes; next = at + length skipped + packet_bytes (length bytes) }
packet_stands input skipped bytes rest op at e n h =
    let t = packet op bytes ++ rest in
    let z : at + length skipped + 0 ≡ at + length skipped = omega arith in
    let place : mark_from input at ≡ at + length skipped = mark_skipped input skipped t at e n ∙ z in
    let left : length input - at ≡ length skipped + length t = sym (length-drop at input) ∙ ap length e ∙ length-append skipped t in
    let here : drop (at + length skipped) input ≡ t =
    sym (drop-drop (length skipped) at input) ∙ ap (drop (length skipped)) e ∙ drop_at skipped t (length skipped) refl in
    read_found input at (omega (arith, place, left))
    ∙ ap (λ p. moved_by p (packet_in (drop p input))) place
    ∙ ap (λ l. moved_by (at + length skipped) (packet_in l)) here
    ∙ ap (moved_by (at + length skipped)) (packet-read op bytes rest h)

-- ---- a report's data bytes

-- There are eight of them, so its packet has twelve bytes.
pub data_length : (r : Report) → length (data_of r) ≡ stick_data
unfolding data_of
data_length r = refl

pub packet-length : (r : Report) → length (packet_of r) ≡ stick_bytes
unfolding packet_of data_of
packet-length r = refl

-- They give the report back.
pub report_back : (r : Report) → Sized r → good_report r ≡ true → report_of (data_of r) ≡ r
unfolding data_of
report_back r s g =
    let b = leb-true r.buttons most_buttons (and_left (leb r.buttons most_buttons) (leb r.hat most_hat) g) in
    rw (
      two (bits_in word_values r.x) (bits_below word_values (omega arith) r.x s.x),
      two (bits_in word_values r.y) (bits_below word_values (omega arith) r.y s.y),
      signed-bits word_values (omega arith) r.x s.x,
      signed-bits word_values (omega arith) r.y s.y,
      signed-bits byte_values (omega arith) r.rudder s.rudder,
      buttons_back r.buttons r.hat b,
      hat_back r.buttons r.hat b,
    )

-- A list from a place on, number by number.
abbrev cells : ℕ → ℕ → List ℕ → List ℕ
cells zero i l = []
cells (suc n) i l = get_or l i 0 ∷ cells n (suc i) l

drop_cells : (n i : ℕ) (l : List ℕ) → length l ≡ i + n → drop i l ≡ cells n i l
drop_cells zero i l e = drop_of_length-le l {i = i} (omega arith)
drop_cells (suc n) i l e = drop-cons l i 0 (omega arith) ∙ ap (λ m. get_or l i 0 ∷ m) (drop_cells n (suc i) l (omega arith))

-- Two bytes joined have those two bytes.
module _ (a b : ℕ) (h : a < 256) (k : b < 256) where
  word-bits : bits_in word_values (signed_in word_values (a + 256 * b)) ≡ a + 256 * b
  word-bits = bits-signed word_values (omega arith) (a + 256 * b) (omega arith)

  word_low : (a + 256 * b) % 256 ≡ a
  word_low = omega arith

  word-high : (a + 256 * b) / 256 % 256 ≡ b
  word-high = let upper : (a + 256 * b) / 256 ≡ b = omega arith in rw upper (omega arith)

-- Eight bytes are those of the report that they give,
pub data_back : (bytes : List ℕ) → length bytes ≡ stick_data → Bytes bytes → data_of (report_of bytes) ≡ bytes
unfolding data_of
data_back bytes e b =
    let d : ℕ → ℕ = λ i. get_or bytes i 0 in
    rw (
      word-bits (d 0) (d 1) (b 0) (b 1),
      word_low (d 0) (d 1) (b 0) (b 1),
      word-high (d 0) (d 1) (b 0) (b 1),
      word-bits (d 2) (d 3) (b 2) (b 3),
      word_low (d 2) (d 3) (b 2) (b 3),
      word-high (d 2) (d 3) (b 2) (b 3),
      low_back (d 5) (d 6) (b 5),
      shared_back (d 5) (d 6) (b 5),
      bits-signed byte_values (omega arith) (d 7) (b 7),
    ) (sym (drop_cells 8 0 bytes e))

-- and its numbers have their widths and fit their bits.
pub report-sized : (bytes : List ℕ) → Bytes bytes → Sized (report_of bytes)
report-sized bytes b = record {
  x = signed-fits 32_768 (get_or bytes 0 0 + 256 * get_or bytes 1 0) (omega arith) (omega (arith, b 0, b 1));
  y = signed-fits 32_768 (get_or bytes 2 0 + 256 * get_or bytes 3 0) (omega arith) (omega (arith, b 2, b 3));
  throttle = b 4;
  rudder = signed-fits 128 (get_or bytes 7 0) (omega arith) (b 7);
}

pub report-good : (bytes : List ℕ) → Bytes bytes → good_report (report_of bytes) ≡ true
report-good bytes b =
    rw (le-leb (get_or bytes 5 0 + 256 * (get_or bytes 6 0 % 16)) most_buttons (omega (arith, b 5, b 6)), le-leb (get_or bytes 6 0 / 16) 15 (omega (arith, b 6)))

-- ---- reading a written packet gives it back

-- What the packet of a report says is that report.
says_report : (r : Report) → Sized r → good_report r ≡ true → meant stick_op (length (data_of r)) (data_of r) ≡ report r
says_report r s g = rw (data_length r) (ap report (report_back r s g))

-- By itself, whatever follows it.
pub report-read : (r : Report) (rest : List ℕ) → Sized r → good_report r ≡ true → packet_in (packet_of r ++ rest) ≡ passing stick_data (report r)
unfolding packet_of
report-read r rest s g =
    packet-read stick_op (data_of r) rest (rw (data_length r) (omega arith)) ∙ ap₂ passing (data_length r) (says_report r s g)

-- Wherever it stands, as any packet.
pub written_read : (input skipped rest : List ℕ) (r : Report) (at : ℕ) → drop at input ≡ skipped ++ (packet_of r ++ rest) → no_mark skipped ≡ true
    → Sized r → good_report r ≡ true → read_at input at ≡ record { answer = report r; next = at + length skipped + stick_bytes }
unfolding packet_of
written_read input skipped rest r at e n s g =
    packet_stands input skipped (data_of r) rest stick_op at e n (rw (data_length r) (omega arith))
    ∙ ap₂ {C = Read} (λ a k. record { answer = a; next = at + length skipped + packet_bytes k }) (says_report r s g) (data_length r)
