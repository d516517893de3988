-- What is known of an accepted answer: its state is well formed, so that bytes can hold its numbers. Cited by the proofs of the calls. Assumes nothing.
use mathlib.Core.Path.{◌≡◌, sym, ap, ◌∙◌, subst}
use mathlib.Core.Bool.{true}
use mathlib.Core.List.{List}
use Prim.Native.Nat.{ℕ}
use native.Mathlib.Omega.{arith}
use lib.Dec.{T, eqb}
use lib.IntN.{ℤ}
use lib.ListN.{length}
use Rattle.model.specs.Panel.{base}
use Rattle.model.specs.Calls as C
use Rattle.model.specs.Calls.{is_accepted}
use Rattle.model.specs.Pointing.{PointerWritten, pointer_good, pointer_call}
use Rattle.model.specs.Anonymous.{anonymous_frame, anonymous_call}
use Rattle.model.proofs.Bools.{holds, is_true}
use Rattle.model.proofs.PointerCalls.{pointer_accepted, pointer_has}
use Rattle.model.proofs.AnonymousCalls.{anonymous_writes, anonymous_passed}
use Rattle.common.specs.Seen.{verdict_from, verdict_number}
use Rattle.common.proofs.Back.{verdict-seen}
use Rattle.writer.specs.declared.WriterState.{WriterState}
use Rattle.writer.specs.declared.Written.{Written}
use Rattle.writer.specs.Seen.{seen, written_from}
use Rattle.writer.proofs.Demands.{steady}
use Rattle.writer.proofs.States.{good-size, good-current}
use Rattle.lent_writer.specs.Seen.{accepted, Held}

-- The number of an answer's verdict is the model's.
number_is : (v : C.Verdict) → verdict_number (verdict_from v) ≡ C.verdict_number v
number_is v = ap C.verdict_number (verdict-seen v)

taken : (a : PointerWritten) → accepted (written_from a) ≡ true → T (is_accepted a.verdict)
taken a e = holds (is_accepted a.verdict) (sym (ap (λ n. eqb n 0) (number_is a.verdict)) ∙ e)

held : (s : WriterState) (f : List ℤ) (at : ℕ) (buf : List ℕ) → Held (written_from (pointer_call base (seen s) f at (length buf)))
held s f at buf e =
    let size = length buf in
    let a = pointer_call base (seen s) f at size in
    let passed = subst (λ v. T (is_accepted v)) (pointer_has base (seen s) f at size) (taken a e) in
    let good = is_true (pointer_good base (seen (written_from a).state)) (steady s f buf at (pointer_accepted base (seen s) f at size passed).good) in
    (omega (arith, good-size (written_from a).state good), omega (arith, good-current (written_from a).state good))

pub held-frame : (s : WriterState) (f : List ℤ) (at : ℕ) (buf : List ℕ) (w : Written) → w ≡ written_from (pointer_call base (seen s) f at (length buf)) → Held w
held-frame s f at buf w ew = subst (λ x. Held x) (sym ew) (held s f at buf)

pub held_anonymous : (s : WriterState) (bs : List ℕ) (at : ℕ) (buf : List ℕ) (w : Written) → w ≡ written_from (anonymous_call base (seen s) bs at (length buf)) → Held w
held_anonymous s bs at buf w ew e =
    let size = length buf in
    let e' = subst (λ x. accepted x ≡ true) ew e in
    let passed = anonymous_passed (seen s) bs at size (taken (anonymous_call base (seen s) bs at size) e') in
    let same = anonymous_writes (seen s) bs at size passed in
    held-frame s (anonymous_frame base (seen s) bs) at buf w (ew ∙ ap written_from same) e
