-- Commands that a host writes one after the other, each call as the contract of `write` allows it, read back one after the other as `read` allows it:
-- the list comes back. Assumes nothing.
use mathlib.Core.Path.{◌≡◌, refl, sym, ap, ap₂, ◌∙◌, subst}
use mathlib.Core.Bool.{true}
use mathlib.Core.List.{List, [], ◌∷◌, ◌++◌, append_assoc}
use Prim.Native.Nat.{ℕ, ◌+◌, ◌≤◌}
use native.Mathlib.Omega.{arith}
use lib.ListN.{length, take, drop}
use lib.Seq.{length-take-le, drop_at, drop-drop}
use Rattle.model.specs.Records.{lay}
use Rattle.model.specs.Commands.{good_command, command_bytes, size_of, all_bytes}
use Rattle.model.proofs.CommandForms.{bytes-length, all_length, written_read}
use Rattle.model.proofs.CommandCalls.{accepted-good, laid}
use Rattle.records.proofs.Over.{lay_nil, lay-length, lay-lay}
use Rattle.pod.specs.Seen as Pod
use Rattle.commands.specs.declared.Answer.TheVariants as A
use Rattle.commands.specs.declared.ReadAnswer.{ReadAnswer}
use Rattle.commands.specs.Seen.{seen, held_read, Call, place_after, WritesOn, Fits, buffer_after, commands_of, ReadsEach, told}
use Rattle.commands.proofs.Answers.{command-held}
use Rattle.commands.proofs.Back.{call_ok}

-- One call: its command is good, has room, and is laid on the buffer.
record Took (buf : List ℕ) (at : ℕ) (c : Call) : Type 0 where
  good : good_command (seen c.command) ≡ true
  room : at + length (command_bytes (seen c.command)) ≤ length buf
  left : c.after ≡ lay at (command_bytes (seen c.command)) buf

took : (buf : List ℕ) (at : ℕ) (c : Call) (cs : List Call) → WritesOn buf at (c ∷ cs) → Took buf at c
took buf at c cs h =
    let k = seen c.command in
    let ok = call_ok c.pod c.command at buf c.answer c.after h.0 h.1 in
    let g = accepted-good (Pod.seen c.pod) k at (length buf) ok in
    record {
      good = g.2;
      room = omega (arith, g.1, bytes-length k);
      left = h.0.buffer ∙ laid (Pod.seen c.pod) k at buf ok;
    }

-- All commands of the calls are laid one after the other, and have room.
pub laid_all : (cs : List Call) (buf : List ℕ) (at : ℕ) → at ≤ length buf → WritesOn buf at cs
    → (buffer_after buf cs ≡ lay at (all_bytes (commands_of cs)) buf) × (at + length (all_bytes (commands_of cs)) ≤ length buf)
laid_all [] buf at l h = (sym (lay_nil at buf), omega arith)
laid_all (c ∷ cs) buf at l h =
    let k = seen c.command in
    let t = took buf at c cs h in
    let size = bytes-length k in
    let same : length c.after ≡ length buf = ap length t.left ∙ lay-length at (command_bytes k) buf t.room in
    let rest = laid_all cs c.after (place_after at c) (omega (arith, same, t.room, size)) h.2 in
    let all = all_length k (commands_of cs) in (
      rest.0
          ∙ ap₂ (λ n b. lay (at + n) (all_bytes (commands_of cs)) b) (sym size) t.left
          ∙ lay-lay at (command_bytes k) (all_bytes (commands_of cs)) buf t.room,
      omega (arith, rest.1, same, all),
    )

-- Each is good, since it was accepted.
abbrev AllGood : List Call → Type 0
AllGood [] = Unit {0}
AllGood (c ∷ cs) = (good_command (seen c.command) ≡ true) × AllGood cs

all_good : (cs : List Call) (buf : List ℕ) (at : ℕ) → WritesOn buf at cs → AllGood cs
all_good [] buf at h = tt
all_good (c ∷ cs) buf at h = ((took buf at c cs h).good, all_good cs c.after (place_after at c) h.2)

-- Where the bytes of the commands stand, whatever follows them, reading gives each.
each_back : (cs : List Call) (input rest : List ℕ) (at : ℕ) → drop at input ≡ all_bytes (commands_of cs) ++ rest → AllGood cs → Fits cs
    → (rs : List ReadAnswer) → ReadsEach input at rs → length rs ≡ length cs → rs ≡ told at cs
each_back [] input rest at e g f [] h n = refl
each_back [] input rest at e g f (r ∷ rs) h n = absurd (omega arith)
each_back (c ∷ cs) input rest at e g f [] h n = absurd (omega arith)
each_back (c ∷ cs) input rest at e g f (r ∷ rs) h n =
    let k = seen c.command in
    let others = all_bytes (commands_of cs) ++ rest in
    let here : drop at input ≡ command_bytes k ++ others = e ∙ append_assoc (command_bytes k) (all_bytes (commands_of cs)) rest in
    let first : r ≡ record { answer = A.Command c.command; next = place_after at c } =
    h.0.answer
    ∙ ap held_read (written_read input others at k here g.0 f.0)
    ∙ ap (λ x. record { answer = A.Command x; next = place_after at c }) (command-held c.command) in
    let next : drop (place_after at c) input ≡ others =
    sym (drop-drop (size_of k) at input) ∙ ap (drop (size_of k)) here ∙ drop_at (command_bytes k) others (size_of k) (bytes-length k) in
    let place : r.next ≡ place_after at c = ap (λ (x : ReadAnswer). x.next) first in
    let more = each_back cs input rest (place_after at c) next g.1 f.1 rs (subst (λ p. ReadsEach input p rs) place h.1) (omega arith) in
    ap₂ (λ x xs. x ∷ xs) first more

-- A list of commands, written one after the other from a position on, reads back from there as the list, each with the place where it ends.
pub lists_back : (cs : List Call) (buf : List ℕ) (at : ℕ) → at ≤ length buf → WritesOn buf at cs → Fits cs
    → (rs : List ReadAnswer) → ReadsEach (buffer_after buf cs) at rs → length rs ≡ length cs → rs ≡ told at cs
unfolding lay
lists_back cs buf at l h f rs e n =
    let all = all_bytes (commands_of cs) in
    let stands : drop at (buffer_after buf cs) ≡ all ++ drop (at + length all) buf =
    ap (drop at) (laid_all cs buf at l h).0 ∙ drop_at (take at buf) (all ++ drop (at + length all) buf) at (length-take-le at buf l) in
    each_back cs (buffer_after buf cs) (drop (at + length all) buf) at stands (all_good cs buf at h) f rs e n
