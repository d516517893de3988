-- Writing a packet: the answer by the first test that fails, exact refusals, and what an accepted write leaves in the buffer: the packet, read
-- back from any place before it with no 0x2B between. Cited by the crate force. Assumes nothing.
use mathlib.Core.Path.{◌≡◌, refl, sym, ap, ◌∙◌}
use mathlib.Core.Bool.{Bool, true, false, cond, ◌&&◌}
use mathlib.Core.List.{List, ◌++◌}
use Prim.Native.Nat.{ℕ, ◌+◌, ◌-◌, ◌≤◌, ◌<◌}
use native.Mathlib.Omega.{arith}
use lib.Dec.{leb}
use lib.ListN.{length, take, drop, set}
use lib.Seq.{length-take-le, drop-append-le, drop_at, take_at, take-add, drop-set-add, set-append_left}
use borrow.Author.Tests.{leb-true}
use Rattle.model.proofs.Exact.{exact}
use Rattle.model.specs.Records.{lay}
use Rattle.model.specs.Calls.{accepted, value, no_room, verdict_number, check, room_for}
use Rattle.model.specs.Refusals.{Exact}
use Rattle.model.specs.Force.{stick_bytes, Report, Sized, good_report, packet_of, report, no_mark, read_at}
use Rattle.model.specs.Force.{write_verdict, write_call, write_buffer, force_rows}
use Rattle.model.proofs.ForceWritten.{packet-length, written_read}

module _ (r : Report) (at size : ℕ) where
  -- Refusal 4, whatever room there is,
  pub bad-value : good_report r ≡ false → write_call r at size ≡ record { verdict = value; need = 0 }
  unfolding write_verdict write_call
  bad-value g = rw g

  -- then 5, with the need.
  pub without_room : good_report r ≡ true → room_for stick_bytes at size ≡ false → write_call r at size ≡ record { verdict = no_room; need = stick_bytes }
  unfolding write_verdict write_call
  without_room g h = rw (g, h)

  pub taken : good_report r ≡ true → room_for stick_bytes at size ≡ true → write_call r at size ≡ record { verdict = accepted; need = 0 }
  unfolding write_verdict write_call
  taken g h = rw (g, h)

  -- VALUE and NO ROOM, in this order, and no other.
  pub force_exact : Exact (verdict_number (write_call r at size).verdict) (force_rows r at size)
  unfolding write_verdict write_call
  force_exact = exact (force_rows r at size) _ tt (by_tests (good_report r) (room_for stick_bytes at size))
    where
      by_tests : (g h : Bool) → verdict_number (check g value (check h no_room accepted)) ≡ cond g (cond h 0 5) 4
      by_tests true true = refl
      by_tests true false = refl
      by_tests false h = refl

  -- What an accepted write says of its report and of the room.
  pub accepted-good : verdict_number (write_call r at size).verdict ≡ 0 → (good_report r ≡ true) × (at + stick_bytes ≤ size)
  unfolding write_verdict write_call
  accepted-good = by_tests (good_report r) (leb at size) (leb stick_bytes (size - at)) refl refl refl
    where
      by_tests : (g h k : Bool) → good_report r ≡ g → leb at size ≡ h → leb stick_bytes (size - at) ≡ k
          → verdict_number (check g value (check (h && k) no_room accepted)) ≡ 0 → (good_report r ≡ true) × (at + stick_bytes ≤ size)
      by_tests true true true e f q n = (e, omega (arith, leb-true at size f, leb-true stick_bytes (size - at) q))
      by_tests true true false e f q n = absurd (omega arith)
      by_tests true false k e f q n = absurd (omega arith)
      by_tests false h k e f q n = absurd (omega arith)

module _ (r : Report) (at : ℕ) (buf : List ℕ) where
  -- A refusal touches no byte of the buffer.
  pub untouched : (verdict_number (write_call r at (length buf)).verdict ≡ 0 → ⊥) → write_buffer r at buf ≡ buf
  unfolding write_verdict write_call write_buffer
  untouched n = by_tests (good_report r) (room_for stick_bytes at (length buf)) n
    where
      by_tests : (g h : Bool) → (verdict_number (check g value (check h no_room accepted)) ≡ 0 → ⊥)
          → cond (lib.Dec.eqb (verdict_number (check g value (check h no_room accepted))) 0) (lay at (packet_of r) buf) buf ≡ buf
      by_tests true true n = absurd (n refl)
      by_tests true false n = refl
      by_tests false h n = refl

  -- What is accepted is laid on the buffer.
  pub laid : verdict_number (write_call r at (length buf)).verdict ≡ 0 → write_buffer r at buf ≡ lay at (packet_of r) buf
  unfolding write_verdict write_call write_buffer
  laid e = rw e

  module _ (ok : verdict_number (write_call r at (length buf)).verdict ≡ 0) where
    -- From a place before the packet on: the bytes between, the packet, and those after it.
    pub laid_from : (from : ℕ) → from ≤ at
        → drop from (write_buffer r at buf) ≡ take (at - from) (drop from buf) ++ (packet_of r ++ drop (at + stick_bytes) buf)
    unfolding lay
    laid_from from h =
        let room = (accepted-good r at (length buf) ok).1 in
        let front : length (take at buf) ≡ at = length-take-le at buf (omega arith) in
        let skip : length (take from buf) ≡ from = length-take-le from buf (omega arith) in
        let sum : from + (at - from) ≡ at = omega arith in
        let between : drop from (take at buf) ≡ take (at - from) (drop from buf) =
        ap (λ n. drop from (take n buf)) (sym sum)
        ∙ ap (drop from) (take-add from (at - from) buf)
        ∙ drop_at (take from buf) (take (at - from) (drop from buf)) from skip in
        ap (drop from) (laid ok)
        ∙ drop-append-le from (take at buf) (packet_of r ++ drop (at + length (packet_of r)) buf) (omega arith)
        ∙ rw (between, packet-length r)

    -- Reading what was written gives it back, from any place before it with no 0x2B between.
    pub written_back : Sized r → (from : ℕ) → from ≤ at → no_mark (take (at - from) (drop from buf)) ≡ true
        → read_at (write_buffer r at buf) from ≡ record { answer = report r; next = at + stick_bytes }
    written_back s from h n =
        let good = accepted-good r at (length buf) ok in
        let skipped = take (at - from) (drop from buf) in
        let size : length skipped ≡ at - from = length-take-le (at - from) (drop from buf) (rw (lib.ListN.length-drop from buf) (omega (arith, good.1))) in
        let place : from + length skipped + stick_bytes ≡ at + stick_bytes = omega (arith, size) in
        written_read (write_buffer r at buf) skipped (drop (at + stick_bytes) buf) r from (laid_from from h) n s good.0
        ∙ ap (λ k. record { answer = report r; next = k }) place

    -- The twelve bytes at the position are the report's packet, and one of them altered is that packet with one byte altered.
    pub laid-at : drop at (write_buffer r at buf) ≡ packet_of r ++ drop (at + stick_bytes) buf
    laid-at = let z : at - at ≡ 0 = omega arith in laid_from at (omega arith) ∙ rw z

    pub laid-form : take stick_bytes (drop at (write_buffer r at buf)) ≡ packet_of r
    laid-form = ap (take stick_bytes) laid-at ∙ take_at (packet_of r) (drop (at + stick_bytes) buf) stick_bytes (packet-length r)

    pub laid_altered : (i b : ℕ) → i < stick_bytes → drop at (set (write_buffer r at buf) (at + i) b) ≡ set (packet_of r) i b ++ drop (at + stick_bytes) buf
    laid_altered i b h =
        drop-set-add at (write_buffer r at buf) i b
        ∙ ap (λ l. set l i b) laid-at
        ∙ set-append_left (packet_of r) (drop (at + stick_bytes) buf) i b (omega (arith, packet-length r))
