-- What `write` promises, by the first test that fails. Cited by its proof; assumes nothing.
use mathlib.Core.Path.{◌≡◌, sym, ap, ◌∙◌}
use mathlib.Core.Bool.{true, false}
use mathlib.Core.List.{List}
use Prim.Native.Nat.{ℕ}
use native.Mathlib.Omega.{arith}
use lib.ListN.{length}
use Rattle.model.specs.Records.{lay}
use Rattle.model.specs.Calls.{verdict_number, room_for}
use Rattle.model.specs.Force as M
use Rattle.model.specs.Force.{stick_bytes, good_report, packet_of, write_call}
use Rattle.model.proofs.ForceCalls.{bad-value, without_room, taken, untouched, laid}
use Rattle.common.specs.declared.Verdict.TheVariants.{Accepted, Value, NoRoom}
use Rattle.force.specs.declared.Report.{Report}
use Rattle.force.specs.Seen.{seen, written_from, Wrote}

module _ (r : Report) (at : ℕ) (buf : List ℕ) where
  number : {w : M.Written} → write_call (seen r) at (length buf) ≡ w → verdict_number (write_call (seen r) at (length buf)).verdict ≡ verdict_number w.verdict
  number e = ap (λ (w : M.Written). verdict_number w.verdict) e

  pub refused-value : good_report (seen r) ≡ false → Wrote r at buf (record { verdict = Value; need = 0 }) buf
  refused-value g =
      let e = bad-value (seen r) at (length buf) g in
      record { answer = sym (ap written_from e); buffer = sym (untouched (seen r) at buf (λ z. omega (arith, number e, z))) }

  pub refused-room : good_report (seen r) ≡ true → room_for stick_bytes at (length buf) ≡ false
      → Wrote r at buf (record { verdict = NoRoom; need = stick_bytes }) buf
  refused-room g h =
      let e = without_room (seen r) at (length buf) g h in
      record { answer = sym (ap written_from e); buffer = sym (untouched (seen r) at buf (λ z. omega (arith, number e, z))) }

  pub written : good_report (seen r) ≡ true → room_for stick_bytes at (length buf) ≡ true → (after : List ℕ) → after ≡ lay at (packet_of (seen r)) buf
      → Wrote r at buf (record { verdict = Accepted; need = 0 }) after
  written g h after l =
      let e = taken (seen r) at (length buf) g h in
      record { answer = sym (ap written_from e); buffer = l ∙ sym (laid (seen r) at buf (number e)) }
