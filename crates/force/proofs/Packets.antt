-- What the promises of `write` and `read` settle together, for every answer that they allow: exact refusals; a written packet is read back,
-- wherever it stands; each report has one byte form; one altered byte of a written packet is not read as its report. Assumes nothing.
use mathlib.Core.Path.{◌≡◌, sym, ap, ◌∙◌, subst}
use mathlib.Core.Bool.{true, cond}
use mathlib.Core.List.{List, ◌++◌}
use Prim.Native.Nat.{ℕ, ◌+◌, ◌-◌, ◌≤◌, ◌<◌}
use lib.Dec.{eqb}
use lib.ListN.{length, get_or, take, drop, set}
use lib.Seq.{get_or-take, get_or-drop}
use Rattle.model.specs.Calls as C
use Rattle.model.specs.Refusals.{Exact}
use Rattle.model.specs.Force as M
use Rattle.model.specs.Force.{Bytes, stick_op, stick_bytes, Sized, packet_of, not_for_us, good_check, judged, no_mark, moved_by, read_at, Stands, write_call, force_rows}
use Rattle.model.proofs.ForceForms.{read-form, one_report}
use Rattle.model.proofs.ForceAltered.{altered_mark, altered_len, altered_other, altered_never}
use Rattle.model.proofs.ForceCalls.{force_exact, accepted-good, untouched, written_back, laid-form, laid_altered}
use Rattle.common.specs.Seen.{verdict_number}
use Rattle.common.proofs.Back.{number-seen}
use Rattle.force.specs.declared.Report.{Report}
use Rattle.force.specs.declared.Answer.TheVariants as A
use Rattle.force.specs.declared.ReadAnswer.{ReadAnswer}
use Rattle.force.specs.declared.Written.{Written}
use Rattle.force.specs.Seen.{seen, held, answer_seen, held_read, AnswersAs, IsAccepted, Wrote}
use Rattle.force.proofs.Promises.{answer-is, next-is}
use Rattle.force.proofs.write.Reads as write

-- The claim of which the laws below speak is the contract of `write` itself.
pub write_is : (κs : _) (a : _) (r : Written) (t : _) → write.Learnt κs a r t → Wrote a.0 a.1.1.0 a.1.0.now r t.1.0.now
write_is κs a r t e = e

module _ (report : Report) (at : ℕ) (buf : List ℕ) (w : Written) (after : List ℕ) (h : Wrote report at buf w after) where
  abbrev call : M.Written
  call = write_call (seen report) at (length buf)

  number_is : verdict_number w.verdict ≡ C.verdict_number call.verdict
  number_is = ap (λ (x : Written). verdict_number x.verdict) h.answer ∙ number-seen call.verdict

  -- 4 and then 5 are answered if and only if their tests fail, and 0 if and only if both pass.
  pub write_exact : Exact (verdict_number w.verdict) (force_rows (seen report) at (length buf))
  write_exact = subst (λ n. Exact n (force_rows (seen report) at (length buf))) (sym number_is) (force_exact (seen report) at (length buf))

  -- The need is a packet's twelve bytes with 5, and 0 else.
  pub write_need : w.need ≡ cond (eqb (verdict_number w.verdict) 5) stick_bytes 0
  unfolding write_call
  write_need = ap (λ (x : Written). x.need) h.answer ∙ ap (λ n. cond (eqb n 5) stick_bytes 0) (sym number_is)

  -- A refusal touches no byte.
  pub write_untouched : (IsAccepted w → ⊥) → after ≡ buf
  write_untouched n = h.buffer ∙ untouched (seen report) at buf (λ e. n (number_is ∙ e))

  module _ (ok : IsAccepted w) where
    call_ok : C.verdict_number call.verdict ≡ 0
    call_ok = sym number_is ∙ ok

    -- Reading a written packet gives it back, wherever it stands and whatever bytes without a 0x2B stand between the position and it.
    pub reads_back : Sized (seen report) → (from : ℕ) → from ≤ at → no_mark (take (at - from) (drop from buf)) ≡ true
        → (r : ReadAnswer) → AnswersAs after from r → r ≡ record { answer = A.Report report; next = at + stick_bytes }
    reads_back s from l n r e =
        e.answer
        ∙ ap (λ b. held_read (read_at b from)) h.buffer
        ∙ ap held_read (written_back (seen report) at buf call_ok s from l n)

    -- The twelve bytes at the position are the packet of the report.
    pub writes_form : take stick_bytes (drop at after) ≡ packet_of (seen report)
    writes_form = ap (λ b. take stick_bytes (drop at b)) h.buffer ∙ laid-form (seen report) at buf call_ok

    -- One of them is altered.
    module _ (i b : ℕ) (inside : i < stick_bytes) (other : b ≡ get_or after (at + i) 0 → ⊥) where
      abbrev spoilt : List ℕ
      spoilt = set after (at + i) b

      rest : List ℕ
      rest = drop (at + stick_bytes) buf

      spoilt_is : drop at spoilt ≡ set (packet_of (seen report)) i b ++ rest
      unfolding rest
      spoilt_is = ap (λ l. drop at (set l (at + i) b)) h.buffer ∙ laid_altered (seen report) at buf call_ok i b inside

      another : b ≡ get_or (packet_of (seen report)) i 0 → ⊥
      another e =
          other
          (e ∙ ap (λ l. get_or l i 0) (sym writes_form) ∙ get_or-take stick_bytes (drop at after) i 0 inside ∙ get_or-drop at after i 0)

      module _ (r : ReadAnswer) (e : AnswersAs spoilt at r) where
        -- The 0x2B: the answer is the one from the next byte on.
        pub spoilt_mark : i ≡ 0 → (q : ReadAnswer) → AnswersAs spoilt (at + 1) q → r ≡ q
        spoilt_mark z q g =
            e.answer ∙ ap held_read (altered_mark spoilt at (seen report) i b rest spoilt_is inside another z) ∙ sym g.answer

        -- LEN: it is judged as a packet of OP 01 with the other LEN, which is not for us.
        pub spoilt_len : i ≡ 2
            → r ≡ held_read (moved_by at (judged (length (drop at spoilt)) b (good_check (drop at spoilt)) (not_for_us stick_op b)))
        spoilt_len z =
            e.answer
            ∙ ap held_read (altered_len spoilt at (seen report) i b rest spoilt_is inside another z)
            ∙ ap (λ l. held_read (moved_by at (judged (length l) b (good_check l) (not_for_us stick_op b)))) (sym spoilt_is)

        -- OP, a data byte or CS: CS is wrong, and reading resumes at the very next byte.
        pub spoilt_other : (i ≡ 0 → ⊥) → (i ≡ 2 → ⊥) → r ≡ record { answer = A.WrongCheck; next = at + 1 }
        spoilt_other n m = e.answer ∙ ap held_read (altered_other spoilt at (seen report) i b rest spoilt_is inside another n m)

        -- So it is never read as a report that ends with it or before; and only where the 0x2B was altered is one read at all.
        pub spoilt_never : (q : Report) → r.answer ≡ A.Report q → (i ≡ 0) × (at + stick_bytes < r.next)
        spoilt_never q z =
            let n = altered_never spoilt at (seen report) i b rest spoilt_is inside another (seen q) (sym (answer-is spoilt at r e) ∙ ap answer_seen z) in
            (n.0, rw (next-is spoilt at r e) n.1)

-- ---- each report has one byte form

-- Whatever is read as a report is its packet, up to the place where reading goes on.
pub reads-form : (input : List ℕ) (at : ℕ) (r : ReadAnswer) (report : Report) → AnswersAs input at r → r.answer ≡ A.Report report → Bytes input
    → Stands (seen report) input r.next
reads-form input at r report h e b =
    subst (Stands (seen report) input) (sym (next-is input at r h)) (read-form input at (seen report) b (sym (answer-is input at r h) ∙ ap answer_seen e))

-- So it is what is written for it,
pub form-written : (input : List ℕ) (from : ℕ) (r : ReadAnswer) (report : Report) → AnswersAs input from r → r.answer ≡ A.Report report → Bytes input
    → (at : ℕ) (buf : List ℕ) (w : Written) (after : List ℕ) → Wrote report at buf w after → IsAccepted w
    → take stick_bytes (drop (r.next - stick_bytes) input) ≡ take stick_bytes (drop at after)
form-written input from r report h e b at buf w after g ok =
    (reads-form input from r report h e b).form ∙ sym (writes_form report at buf w after g ok)

-- and two reports that are written alike are one.
pub written_alike : (a b : Report) (at to : ℕ) (buf dst : List ℕ) (w v : Written) (after later : List ℕ)
    → Wrote a at buf w after → IsAccepted w → Wrote b to dst v later → IsAccepted v → Sized (seen a) → Sized (seen b)
    → take stick_bytes (drop at after) ≡ take stick_bytes (drop to later) → a ≡ b
written_alike a b at to buf dst w v after later h ok g fine s t e =
    let good = (accepted-good (seen a) at (length buf) (call_ok a at buf w after h ok)).0 in
    let well = (accepted-good (seen b) to (length dst) (call_ok b to dst v later g fine)).0 in
    ap held (one_report (seen a) (seen b) s good t well (sym (writes_form a at buf w after h ok) ∙ e ∙ writes_form b to dst v later g fine))
