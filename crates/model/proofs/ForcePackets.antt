-- A packet at the start of bytes: its answer by cases, when it waits for more, how far reading goes on, and that more bytes do not change an
-- answer that was given. Cited by ForceReads and by the crate force. Assumes nothing.
use mathlib.Core.Path.{◌≡◌, refl, sym, ap, ap₂, ◌∙◌}
use mathlib.Core.Bool.{Bool, true, false, cond, ◌&&◌, false≢true}
use mathlib.Core.List.{List, ◌++◌}
use Prim.Native.Nat.{ℕ, ◌+◌, ◌≤◌, ◌<◌}
use native.Mathlib.Omega.{arith}
use lib.Dec.{ltb, eqb}
use lib.ListN.{length, take, drop, get_or-append, length-append, length-drop}
use lib.Seq.{take-append-le, drop-append-le}
use borrow.Author.Tests.{ltb-true, ltb-false, lt-ltb, le-ltb}
use Rattle.model.specs.Force.{most_data, head_bytes, packet_bytes, stick_op, stick_data, Answer, report, not_for_us, length_over, wrong_check, waits, refuses}
use Rattle.model.specs.Force.{Read, op_in, len_in, data_in, judged_by, staying, refusing, passing, report_of, contents, good_check, checked, packet_in}

-- Brought in so that the sheet is checked before any law on packets: a wrong definition then fails at a row of it, by computing.

-- ---- the bytes that it takes to answer

-- They are the head at least,
pub judged_head : (len : ℕ) → head_bytes ≤ judged_by len
judged_head len = by_length (ltb most_data len)
  where
    by_length : (t : Bool) → head_bytes ≤ cond t head_bytes (packet_bytes len)
    by_length true = omega arith
    by_length false = omega arith

-- and all of the packet where LEN is not over 16.
pub judged-whole : (len : ℕ) → len ≤ most_data → judged_by len ≡ packet_bytes len
judged-whole len h = rw (le-ltb most_data len h)

-- ---- by cases

-- The answer to all bytes of a packet.
abbrev pub whole : List ℕ → Read
whole bytes = checked (len_in bytes) (good_check bytes) (contents bytes)

module _ (bytes : List ℕ) where
  -- Too few bytes: the packet is unfinished.
  pub packet-short : length bytes < judged_by (len_in bytes) → packet_in bytes ≡ staying
  unfolding packet_in
  packet-short h = rw (lt-ltb (length bytes) (judged_by (len_in bytes)) h)

  -- LEN is there, and over 16.
  pub packet-over : head_bytes ≤ length bytes → most_data < len_in bytes → packet_in bytes ≡ refusing length_over
  unfolding packet_in
  packet-over h o = rw (lt-ltb most_data (len_in bytes) o, le-ltb (length bytes) head_bytes h)

  -- All bytes are there.
  pub packet-whole : len_in bytes ≤ most_data → packet_bytes (len_in bytes) ≤ length bytes → packet_in bytes ≡ whole bytes
  unfolding packet_in
  packet-whole h o = rw (le-ltb most_data (len_in bytes) h, le-ltb (length bytes) (packet_bytes (len_in bytes)) o)

  -- What holds in each of the three cases holds.
  pub by_packet : (P : Read → Type 0)
      → (length bytes < judged_by (len_in bytes) → P staying)
      → (head_bytes ≤ length bytes → most_data < len_in bytes → P (refusing length_over))
      → (len_in bytes ≤ most_data → packet_bytes (len_in bytes) ≤ length bytes → P (whole bytes))
      → P (packet_in bytes)
  by_packet P short over full = by_length (ltb most_data (len_in bytes)) refl
    where
      by_room : len_in bytes ≤ most_data → (t : Bool) → ltb (length bytes) (packet_bytes (len_in bytes)) ≡ t → P (packet_in bytes)
      by_room h true e =
          let l : length bytes < judged_by (len_in bytes) = rw (judged-whole (len_in bytes) h) (ltb-true (length bytes) (packet_bytes (len_in bytes)) e) in
          rw (packet-short l) (short l)
      by_room h false e =
          let l = ltb-false (length bytes) (packet_bytes (len_in bytes)) e in
          rw (packet-whole h l) (full h l)

      by_head : most_data < len_in bytes → (t : Bool) → ltb (length bytes) head_bytes ≡ t → P (packet_in bytes)
      by_head o true e =
          let l : length bytes < judged_by (len_in bytes) = omega (arith, ltb-true (length bytes) head_bytes e, judged_head (len_in bytes)) in
          rw (packet-short l) (short l)
      by_head o false e =
          let l = ltb-false (length bytes) head_bytes e in
          rw (packet-over l o) (over l o)

      by_length : (t : Bool) → ltb most_data (len_in bytes) ≡ t → P (packet_in bytes)
      by_length true e = by_head (ltb-true most_data (len_in bytes) e) (ltb (length bytes) head_bytes) refl
      by_length false e = by_room (ltb-false most_data (len_in bytes) e) (ltb (length bytes) (packet_bytes (len_in bytes))) refl

  -- A packet with a good CS is a report or not for us.
  pub by_contents : (P : Answer → Type 0) → ((r : _) → P (report r)) → ((op len : ℕ) → P (not_for_us op len)) → P (contents bytes)
  by_contents P ours others = by_kind (eqb (op_in bytes) stick_op && eqb (len_in bytes) stick_data)
    where
      by_kind : (t : Bool) → P (cond t (report (report_of (data_in bytes))) (not_for_us (op_in bytes) (len_in bytes)))
      by_kind true = ours (report_of (data_in bytes))
      by_kind false = others (op_in bytes) (len_in bytes)

  -- Of all its bytes it is that, or CS is wrong.
  pub by_check : (P : Read → Type 0)
      → (good_check bytes ≡ true → P (passing (len_in bytes) (contents bytes)))
      → (good_check bytes ≡ false → P (refusing wrong_check))
      → P (whole bytes)
  by_check P good bad = by_test (good_check bytes) refl
    where
      by_test : (t : Bool) → good_check bytes ≡ t → P (cond t (passing (len_in bytes) (contents bytes)) (refusing wrong_check))
      by_test true e = good e
      by_test false e = bad e

  -- Each by CS.
  pub checked-good : good_check bytes ≡ true → whole bytes ≡ passing (len_in bytes) (contents bytes)
  checked-good e = ap (λ g. checked (len_in bytes) g (contents bytes)) e

  pub checked-bad : good_check bytes ≡ false → whole bytes ≡ refusing wrong_check
  checked-bad e = ap (λ g. checked (len_in bytes) g (contents bytes)) e

  whole_goes_on : waits (whole bytes).answer ≡ false
  whole_goes_on =
      by_check (λ r. waits r.answer ≡ false) (λ e. by_contents (λ a. waits a ≡ false) (λ r. refl) (λ op len. refl)) (λ e. refl)

  -- It waits exactly when there are too few bytes to answer.
  pub packet-waits : waits (packet_in bytes).answer ≡ ltb (length bytes) (judged_by (len_in bytes))
  packet-waits =
      by_packet (λ r. waits r.answer ≡ ltb (length bytes) (judged_by (len_in bytes)))
      (λ l. sym (lt-ltb (length bytes) (judged_by (len_in bytes)) l))
      (λ l o. sym (rw (lt-ltb most_data (len_in bytes) o) (le-ltb (length bytes) head_bytes l)))
      (λ l o. whole_goes_on ∙ sym (rw (judged-whole (len_in bytes) l) (le-ltb (length bytes) (packet_bytes (len_in bytes)) o)))

  -- Where it does not, reading goes on at a later byte, or at the end,
  pub packet-on : waits (packet_in bytes).answer ≡ false → (0 < (packet_in bytes).next) × ((packet_in bytes).next ≤ length bytes)
  packet-on =
      by_packet (λ r. waits r.answer ≡ false → (0 < r.next) × (r.next ≤ length bytes))
      (λ l e. absurd (false≢true (sym e)))
      (λ l o e. (omega arith, omega arith))
      (λ l o e. by_check (λ r. (0 < r.next) × (r.next ≤ length bytes)) (λ g. (omega arith, omega arith)) (λ g. (omega arith, omega arith)))

  -- at the very next byte where it is refused,
  pub packet-refused : refuses (packet_in bytes).answer ≡ true → (packet_in bytes).next ≡ 1
  packet-refused =
      by_packet (λ r. refuses r.answer ≡ true → r.next ≡ 1)
      (λ l e. absurd (false≢true e))
      (λ l o e. refl)
      (λ l o.
      by_check (λ r. refuses r.answer ≡ true → r.next ≡ 1)
      (λ g e. absurd (false≢true (sym (by_contents (λ a. refuses a ≡ false) (λ r. refl) (λ op len. refl)) ∙ e)))
      (λ g e. refl))

  -- and stays at its 0x2B where it waits.
  pub packet-stays : waits (packet_in bytes).answer ≡ true → packet_in bytes ≡ staying
  packet-stays e = packet-short (ltb-true (length bytes) (judged_by (len_in bytes)) (sym packet-waits ∙ e))

-- ---- more bytes

module _ (bytes more : List ℕ) where
  -- OP, LEN and the data bytes are what they were,
  op_longer : head_bytes ≤ length bytes → op_in (bytes ++ more) ≡ op_in bytes
  op_longer h = get_or-append bytes more 0 1 (omega arith)

  pub len_longer : head_bytes ≤ length bytes → len_in (bytes ++ more) ≡ len_in bytes
  len_longer h = get_or-append bytes more 0 2 (omega arith)

  data_longer : packet_bytes (len_in bytes) ≤ length bytes → data_in (bytes ++ more) ≡ data_in bytes
  data_longer h =
      let n = len_in bytes in
      let part : n ≤ length (drop head_bytes bytes) = rw (length-drop head_bytes bytes) (omega arith) in
      ap₂ (λ k l. take k l) (len_longer (omega arith)) (drop-append-le head_bytes bytes more (omega arith)) ∙ take-append-le n (drop head_bytes bytes) more part

  -- and so is the whole packet.
  whole_longer : packet_bytes (len_in bytes) ≤ length bytes → whole (bytes ++ more) ≡ whole bytes
  whole_longer h =
      let n = len_in bytes in
      let head : head_bytes ≤ length bytes = omega arith in
      let before = take-append-le (head_bytes + n) bytes more (omega arith) in
      let cs = get_or-append bytes more 0 (head_bytes + n) (omega arith) in
      rw (data_longer h, op_longer head, len_longer head, before, cs)

  -- An answer that was given stays.
  pub packet_longer : waits (packet_in bytes).answer ≡ false → packet_in (bytes ++ more) ≡ packet_in bytes
  packet_longer =
      by_packet bytes (λ r. waits r.answer ≡ false → packet_in (bytes ++ more) ≡ r)
      (λ l e. absurd (false≢true (sym e)))
      (λ l o e. packet-over (bytes ++ more) (omega (arith, length-append bytes more)) (rw (len_longer l) o))
      (λ l o e.
      let same = len_longer (omega arith) in
      packet-whole (bytes ++ more) (rw same l) (rw same (omega (arith, length-append bytes more))) ∙ whole_longer o)
