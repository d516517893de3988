-- What the promises of `write` and `read` settle together, for every answer that they allow: exact refusals; the pod's state; a written command is
-- read back where it stands; each command has one byte form, in both directions. Assumes nothing.
use mathlib.Core.Path.{◌≡◌, sym, ap, ◌∙◌, subst}
use mathlib.Core.Bool.{true, cond}
use mathlib.Core.List.{List, ◌++◌}
use Prim.Native.Nat.{ℕ, ◌+◌}
use lib.Dec.{eqb}
use lib.ListN.{length, take, drop, take-append-drop}
use Rattle.model.specs.Calls as C
use Rattle.model.specs.Refusals.{Exact}
use Rattle.model.specs.Force.{Bytes}
use Rattle.model.specs.Commands as M
use Rattle.model.specs.Commands.{command_number, sized, command_bytes, size_of, read_at, Stands, state_after, write_call, command_rows}
use Rattle.model.proofs.CommandOnes.{read-form, one_command}
use Rattle.model.proofs.CommandCalls.{command_exact, accepted-good, state-kept, state-after, state-same, untouched, written_back, laid-form}
use Rattle.common.specs.Seen.{verdict_number}
use Rattle.common.proofs.Back.{number-seen}
use Rattle.pod.specs.declared.PodState.{PodState}
use Rattle.pod.specs.Seen as Pod
use Rattle.commands.specs.declared.Command.{Command}
use Rattle.commands.specs.declared.Answer.TheVariants as A
use Rattle.commands.specs.declared.ReadAnswer.{ReadAnswer}
use Rattle.commands.specs.declared.Written.{Written}
use Rattle.commands.specs.Seen.{seen, held, answer_seen, held_read, AnswersAs, IsAccepted, Wrote}
use Rattle.commands.proofs.Answers.{command-held}
use Rattle.commands.proofs.Promises.{answer-is, next-is}
use Rattle.commands.proofs.write.Reads as write

-- The claim of which the laws below speak is the contract of `write` itself.
pub write_is : (κs : _) (a : _) (r : Written) (t : _) → write.Learnt κs a r t
    → Wrote a.0 a.1.0 a.1.1.1.0 a.1.1.0.now r t.1.1.0.now
write_is κs a r t e = e

module _ (pod : PodState) (command : Command) (at : ℕ) (buf : List ℕ) (w : Written) (after : List ℕ) (h : Wrote pod command at buf w after) where
  abbrev call : M.Written
  call = write_call (Pod.seen pod) (seen command) at (length buf)

  number_is : verdict_number w.verdict ≡ C.verdict_number call.verdict
  number_is = ap (λ (x : Written). verdict_number x.verdict) h.answer ∙ number-seen call.verdict

  -- 2, then 5, then 11 are answered if and only if their tests fail and the earlier pass, and 0 if and only if all pass.
  pub write_exact : Exact (verdict_number w.verdict) (command_rows (Pod.seen pod) (seen command) at (length buf))
  write_exact =
      subst (λ n. Exact n (command_rows (Pod.seen pod) (seen command) at (length buf))) (sym number_is)
      (command_exact (Pod.seen pod) (seen command) at (length buf))

  -- The need is the command's bytes with 5, and 0 else.
  pub write_need : w.need ≡ cond (eqb (verdict_number w.verdict) 5) (size_of (seen command)) 0
  unfolding write_call
  write_need = ap (λ (x : Written). x.need) h.answer ∙ ap (λ n. cond (eqb n 5) (size_of (seen command)) 0) (sym number_is)

  -- A refusal touches no byte, and hands the state back as it came.
  pub write_untouched : (IsAccepted w → ⊥) → after ≡ buf
  write_untouched n = h.buffer ∙ untouched (Pod.seen pod) (seen command) at buf (λ e. n (number_is ∙ e))

  pub write_kept : (IsAccepted w → ⊥) → w.state ≡ pod
  write_kept n =
      ap (λ (x : Written). x.state) h.answer
      ∙ ap Pod.held (state-kept (Pod.seen pod) (seen command) at (length buf) (λ e. n (number_is ∙ e)))

  module _ (ok : IsAccepted w) where
    pub call_ok : C.verdict_number call.verdict ≡ 0
    call_ok = sym number_is ∙ ok

    now_is : w.state ≡ Pod.held (state_after (seen command) (Pod.seen pod))
    now_is = ap (λ (x : Written). x.state) h.answer ∙ ap Pod.held (state-after (Pod.seen pod) (seen command) at (length buf) call_ok)

    -- A written reset hands back the fresh state of K3, whatever report was unfinished,
    pub reset-fresh : seen command ≡ M.reset → w.state ≡ Pod.fresh_state
    reset-fresh e = now_is ∙ ap (λ c. Pod.held (state_after c (Pod.seen pod))) e

    -- and every other command the state as it came.
    pub others_keep : (command_number (seen command) ≡ 0 → ⊥) → w.state ≡ pod
    others_keep n = now_is ∙ ap Pod.held (state-same (seen command) (Pod.seen pod) n)

    -- Reading a written command gives it back, wherever it stands in the buffer.
    pub reads_back : sized (seen command) ≡ true → (r : ReadAnswer) → AnswersAs after at r
        → r ≡ record { answer = A.Command command; next = at + size_of (seen command) }
    reads_back s r e =
        e.answer
        ∙ ap (λ b. held_read (read_at b at)) h.buffer
        ∙ ap held_read (written_back (Pod.seen pod) (seen command) at buf call_ok s)
        ∙ ap (λ c. record { answer = A.Command c; next = at + size_of (seen command) }) (command-held command)

    -- The bytes at the position are the command's.
    pub writes_form : take (size_of (seen command)) (drop at after) ≡ command_bytes (seen command)
    writes_form = ap (λ b. take (size_of (seen command)) (drop at b)) h.buffer ∙ laid-form (Pod.seen pod) (seen command) at buf call_ok

-- ---- one byte form

-- Whatever is read as a command stands there as it is written, up to the place where reading goes on.
pub reads-form : (input : List ℕ) (at : ℕ) (r : ReadAnswer) (command : Command) → AnswersAs input at r → r.answer ≡ A.Command command → Bytes input
    → Stands (seen command) input at × (r.next ≡ at + size_of (seen command))
reads-form input at r command h e b =
    let f = read-form input at (seen command) b (sym (answer-is input at r h) ∙ ap answer_seen e) in
    (f.0, next-is input at r h ∙ f.1)

-- So it is what is written for it,
pub form-written : (input : List ℕ) (from : ℕ) (r : ReadAnswer) (command : Command) → AnswersAs input from r → r.answer ≡ A.Command command → Bytes input
    → (pod : PodState) (at : ℕ) (buf : List ℕ) (w : Written) (after : List ℕ) → Wrote pod command at buf w after → IsAccepted w
    → take (size_of (seen command)) (drop from input) ≡ take (size_of (seen command)) (drop at after)
form-written input from r command h e b pod at buf w after g ok =
    (reads-form input from r command h e b).0.form ∙ sym (writes_form pod command at buf w after g ok)

-- and it can be written: the writer refuses it with nothing but 2 and 5.
pub read-good : (input : List ℕ) (at : ℕ) (r : ReadAnswer) (command : Command) → AnswersAs input at r → r.answer ≡ A.Command command → Bytes input
    → M.good_command (seen command) ≡ true
read-good input at r command h e b = (reads-form input at r command h e b).0.good

-- Two commands whose bytes begin alike are one command: no byte form is another's, nor begins it.
pub forms_apart : (a b : Command) (r s : List ℕ) → command_bytes (seen a) ++ r ≡ command_bytes (seen b) ++ s
    → M.good_command (seen a) ≡ true → sized (seen a) ≡ true → M.good_command (seen b) ≡ true → sized (seen b) ≡ true → (a ≡ b) × (r ≡ s)
forms_apart a b r s e g f k l =
    let o = one_command (seen a) (seen b) r s e g f k l in
    (sym (command-held a) ∙ ap held o.0 ∙ command-held b, o.1)

-- So two commands that are written alike are one.
pub written_alike : (a b : Command) (p q : PodState) (at to : ℕ) (buf dst : List ℕ) (w v : Written) (after later : List ℕ)
    → Wrote p a at buf w after → IsAccepted w → Wrote q b to dst v later → IsAccepted v → sized (seen a) ≡ true → sized (seen b) ≡ true
    → drop at after ≡ drop to later → a ≡ b
written_alike a b p q at to buf dst w v after later h ok g fine s t e =
    let good = (accepted-good (Pod.seen p) (seen a) at (length buf) (call_ok p a at buf w after h ok)).2 in
    let well = (accepted-good (Pod.seen q) (seen b) to (length dst) (call_ok q b to dst v later g fine)).2 in
    let first : command_bytes (seen a) ++ drop (size_of (seen a)) (drop at after) ≡ drop at after =
    ap (λ l. l ++ drop (size_of (seen a)) (drop at after)) (sym (writes_form p a at buf w after h ok)) ∙ take-append-drop (size_of (seen a)) (drop at after) in
    let second : command_bytes (seen b) ++ drop (size_of (seen b)) (drop to later) ≡ drop to later =
    ap (λ l. l ++ drop (size_of (seen b)) (drop to later)) (sym (writes_form q b to dst v later g fine)) ∙ take-append-drop (size_of (seen b)) (drop to later) in
    (forms_apart a b (drop (size_of (seen a)) (drop at after)) (drop (size_of (seen b)) (drop to later)) (first ∙ e ∙ sym second) good s well t).0
