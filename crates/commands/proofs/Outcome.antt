-- What `write` promises, by the first test that fails. Cited by its proof; assumes nothing.
use mathlib.Core.Path.{◌≡◌, sym, ap, ◌∙◌}
use mathlib.Core.Bool.{true, false}
use mathlib.Core.List.{List}
use Prim.Native.Nat.{ℕ}
use native.Mathlib.Omega.{arith}
use lib.ListN.{length}
use Rattle.model.specs.Records.{lay}
use Rattle.model.specs.Calls.{verdict_number, room_for}
use Rattle.model.specs.Pod.{well_formed}
use Rattle.model.specs.Commands as M
use Rattle.model.specs.Commands.{good_command, command_bytes, size_of, state_after, write_call}
use Rattle.model.proofs.CommandCalls.{bad-state, without_room, bad-command, taken, untouched, laid}
use Rattle.common.specs.declared.Verdict.TheVariants as W
use Rattle.pod.specs.declared.PodState.{PodState}
use Rattle.pod.specs.Seen as Pod
use Rattle.commands.specs.declared.Command.{Command}
use Rattle.commands.specs.declared.Written.{Written}
use Rattle.commands.specs.Seen.{seen, written_from, Wrote}

module _ (state : PodState) (command : Command) (at : ℕ) (buf : List ℕ) where
  abbrev call : M.Written
  call = write_call (Pod.seen state) (seen command) at (length buf)

  number : {w : M.Written} → call ≡ w → verdict_number call.verdict ≡ verdict_number w.verdict
  number e = ap (λ (w : M.Written). verdict_number w.verdict) e

  pub refused-state : well_formed (Pod.seen state) ≡ false → (r : Written) → r ≡ record { verdict = W.State; state = state; need = 0 }
      → Wrote state command at buf r buf
  refused-state w r q =
      let e = bad-state (Pod.seen state) (seen command) at (length buf) w in
      record { answer = q ∙ sym (ap written_from e); buffer = sym (untouched (Pod.seen state) (seen command) at buf (λ z. omega (arith, number e, z))) }

  pub refused-room : well_formed (Pod.seen state) ≡ true → room_for (size_of (seen command)) at (length buf) ≡ false
      → (r : Written) → r ≡ record { verdict = W.NoRoom; state = state; need = size_of (seen command) } → Wrote state command at buf r buf
  refused-room w h r q =
      let e = without_room (Pod.seen state) (seen command) at (length buf) w h in
      record { answer = q ∙ sym (ap written_from e); buffer = sym (untouched (Pod.seen state) (seen command) at buf (λ z. omega (arith, number e, z))) }

  pub refused-command : well_formed (Pod.seen state) ≡ true → room_for (size_of (seen command)) at (length buf) ≡ true → good_command (seen command) ≡ false
      → (r : Written) → r ≡ record { verdict = W.Command; state = state; need = 0 } → Wrote state command at buf r buf
  refused-command w h g r q =
      let e = bad-command (Pod.seen state) (seen command) at (length buf) w h g in
      record { answer = q ∙ sym (ap written_from e); buffer = sym (untouched (Pod.seen state) (seen command) at buf (λ z. omega (arith, number e, z))) }

  pub written : well_formed (Pod.seen state) ≡ true → room_for (size_of (seen command)) at (length buf) ≡ true → good_command (seen command) ≡ true
      → (next : PodState) (after : List ℕ) → next ≡ Pod.held (state_after (seen command) (Pod.seen state)) → after ≡ lay at (command_bytes (seen command)) buf
      → Wrote state command at buf (record { verdict = W.Accepted; state = next; need = 0 }) after
  written w h g next after q l =
      let e = taken (Pod.seen state) (seen command) at (length buf) w h g in
      record {
        answer = ap (λ (s : PodState). record { verdict = W.Accepted; state = s; need = 0 }) q ∙ sym (ap written_from e);
        buffer = l ∙ sym (laid (Pod.seen state) (seen command) at buf (number e));
      }
