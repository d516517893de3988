-- Writing a command: the answer by the first test that fails, exact refusals, the pod's state, and what an accepted write leaves in the buffer: the
-- command, read back where it stands. Cited by the crate commands. Assumes nothing.
use mathlib.Core.Path.{◌≡◌, refl, ap, ◌∙◌}
use mathlib.Core.Bool.{Bool, true, false, cond, ◌&&◌}
use mathlib.Core.List.{List, ◌++◌}
use Prim.Native.Nat.{ℕ, ◌+◌, ◌-◌, ◌≤◌}
use native.Mathlib.Omega.{arith}
use lib.Dec.{leb, eqb}
use lib.ListN.{length, take, drop}
use lib.Seq.{length-take-le, drop_at, take_at}
use borrow.Author.Tests.{leb-true}
use Rattle.model.proofs.Exact.{exact}
use Rattle.model.specs.Records.{lay}
use Rattle.model.specs.Calls as C
use Rattle.model.specs.Calls.{verdict_number, check, room_for}
use Rattle.model.specs.Refusals.{Exact}
use Rattle.model.specs.Pod as P
use Rattle.model.specs.Commands.{Command, reset, buttons, relative, absolute, threshold, scale, interrogate, load, set_clock, ask_clock}
use Rattle.model.specs.Commands.{good_command, sized, command_bytes, command_number, size_of, command, read_at}
use Rattle.model.specs.Commands.{write_verdict, state_after, write_call, write_buffer, command_rows}
use Rattle.model.proofs.CommandForms.{bytes-length, written_read}

module _ (s : P.State) (c : Command) (at size : ℕ) where
  -- Refusal 2, whatever room there is and whatever the command,
  pub bad-state : P.well_formed s ≡ false → write_call s c at size ≡ record { verdict = C.state; state = s; need = 0 }
  unfolding write_verdict write_call
  bad-state w = rw w

  -- then 5, with the need, whatever the command's numbers,
  pub without_room : P.well_formed s ≡ true → room_for (size_of c) at size ≡ false → write_call s c at size ≡ record { verdict = C.no_room; state = s; need = size_of c }
  unfolding write_verdict write_call
  without_room w h = rw (w, h)

  -- then 11.
  pub bad-command : P.well_formed s ≡ true → room_for (size_of c) at size ≡ true → good_command c ≡ false
      → write_call s c at size ≡ record { verdict = C.command; state = s; need = 0 }
  unfolding write_verdict write_call
  bad-command w h g = rw (w, h, g)

  pub taken : P.well_formed s ≡ true → room_for (size_of c) at size ≡ true → good_command c ≡ true
      → write_call s c at size ≡ record { verdict = C.accepted; state = state_after c s; need = 0 }
  unfolding write_verdict write_call
  taken w h g = rw (w, h, g)

  -- STATE, NO ROOM and COMMAND, in this order, and no other.
  pub command_exact : Exact (verdict_number (write_call s c at size).verdict) (command_rows s c at size)
  unfolding write_verdict write_call
  command_exact = exact (command_rows s c at size) _ tt (by_tests (P.well_formed s) (room_for (size_of c) at size) (good_command c))
    where
      by_tests : (w h g : Bool)
          → verdict_number (check w C.state (check h C.no_room (check g C.command C.accepted))) ≡ cond w (cond h (cond g 0 11) 5) 2
      by_tests true true true = refl
      by_tests true true false = refl
      by_tests true false g = refl
      by_tests false h g = refl

  -- What an accepted write says of the pod's state, the room and the command.
  pub accepted-good : verdict_number (write_call s c at size).verdict ≡ 0
      → (P.well_formed s ≡ true) × (at + size_of c ≤ size) × (good_command c ≡ true)
  unfolding write_verdict write_call
  accepted-good = by_tests (P.well_formed s) (leb at size) (leb (size_of c) (size - at)) (good_command c) refl refl refl refl
    where
      by_tests : (w h k g : Bool) → P.well_formed s ≡ w → leb at size ≡ h → leb (size_of c) (size - at) ≡ k → good_command c ≡ g
          → verdict_number (check w C.state (check (h && k) C.no_room (check g C.command C.accepted))) ≡ 0
          → (P.well_formed s ≡ true) × (at + size_of c ≤ size) × (good_command c ≡ true)
      by_tests true true true true ew eh ek eg n = (ew, omega (arith, leb-true at size eh, leb-true (size_of c) (size - at) ek), eg)
      by_tests true true true false ew eh ek eg n = absurd (omega arith)
      by_tests true true false g ew eh ek eg n = absurd (omega arith)
      by_tests true false k g ew eh ek eg n = absurd (omega arith)
      by_tests false h k g ew eh ek eg n = absurd (omega arith)

  -- The state of a refused write is the one that came.
  pub state-kept : (verdict_number (write_call s c at size).verdict ≡ 0 → ⊥) → (write_call s c at size).state ≡ s
  unfolding write_verdict write_call
  state-kept = by_tests (P.well_formed s) (room_for (size_of c) at size) (good_command c)
    where
      by_tests : (w h g : Bool) → (let v = check w C.state (check h C.no_room (check g C.command C.accepted)) in
          (verdict_number v ≡ 0 → ⊥) → cond (eqb (verdict_number v) 0) (state_after c s) s ≡ s)
      by_tests true true true n = absurd (n refl)
      by_tests true true false n = refl
      by_tests true false g n = refl
      by_tests false h g n = refl

  -- An accepted one has the state after its command.
  pub state-after : verdict_number (write_call s c at size).verdict ≡ 0 → (write_call s c at size).state ≡ state_after c s
  unfolding write_verdict write_call
  state-after e = rw e

-- Every command but a reset leaves the pod's state as it came.
pub state-same : (c : Command) (s : P.State) → (command_number c ≡ 0 → ⊥) → state_after c s ≡ s
state-same reset s n = absurd (n refl)
state-same (buttons action) s n = refl
state-same relative s n = refl
state-same (absolute x y) s n = refl
state-same (threshold x y) s n = refl
state-same (scale x y) s n = refl
state-same interrogate s n = refl
state-same (load x y) s n = refl
state-same (set_clock c) s n = refl
state-same ask_clock s n = refl

module _ (s : P.State) (c : Command) (at : ℕ) (buf : List ℕ) where
  -- A refusal touches no byte of the buffer.
  pub untouched : (verdict_number (write_call s c at (length buf)).verdict ≡ 0 → ⊥) → write_buffer s c at buf ≡ buf
  unfolding write_verdict write_call write_buffer
  untouched = by_tests (P.well_formed s) (room_for (size_of c) at (length buf)) (good_command c)
    where
      by_tests : (w h g : Bool) → (let v = check w C.state (check h C.no_room (check g C.command C.accepted)) in
          (verdict_number v ≡ 0 → ⊥) → cond (eqb (verdict_number v) 0) (lay at (command_bytes c) buf) buf ≡ buf)
      by_tests true true true n = absurd (n refl)
      by_tests true true false n = refl
      by_tests true false g n = refl
      by_tests false h g n = refl

  -- What is accepted is laid on the buffer.
  pub laid : verdict_number (write_call s c at (length buf)).verdict ≡ 0 → write_buffer s c at buf ≡ lay at (command_bytes c) buf
  unfolding write_verdict write_call write_buffer
  laid e = rw e

  module _ (ok : verdict_number (write_call s c at (length buf)).verdict ≡ 0) where
    -- The command stands at the position, and what stood after it still does.
    pub laid-at : drop at (write_buffer s c at buf) ≡ command_bytes c ++ drop (at + size_of c) buf
    unfolding lay
    laid-at =
        let room = (accepted-good s c at (length buf) ok).1 in
        ap (drop at) (laid ok)
        ∙ drop_at (take at buf) (command_bytes c ++ drop (at + length (command_bytes c)) buf) at (length-take-le at buf (omega arith))
        ∙ rw (bytes-length c)

    pub laid-form : take (size_of c) (drop at (write_buffer s c at buf)) ≡ command_bytes c
    laid-form = ap (take (size_of c)) laid-at ∙ take_at (command_bytes c) (drop (at + size_of c) buf) (size_of c) (bytes-length c)

    -- Reading what was written gives it back.
    pub written_back : sized c ≡ true → read_at (write_buffer s c at buf) at ≡ record { answer = command c; next = at + size_of c }
    written_back f = written_read (write_buffer s c at buf) (drop (at + size_of c) buf) at c laid-at (accepted-good s c at (length buf) ok).2 f
