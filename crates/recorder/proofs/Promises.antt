-- What the recorder's promises settle: refusals exactly as stated, what was laid reads back, and what was altered or moved is refused. Each law is of
-- claims that are the contracts themselves, which the first three check. Cited by docs/PROMISES.md. Assumes nothing.
use mathlib.Core.Path.{◌≡◌, sym, ap, ◌∙◌, subst}
use mathlib.Core.Logic.{◌≢◌}
use mathlib.Core.Bool.{◌&&◌}
use mathlib.Core.List.{List, [], ◌∷◌}
use Prim.Native.Nat.{ℕ, ◌-◌, ◌≤◌, ◌<◌}
use native.Mathlib.Omega.{arith}
use lib.Dec.{T, leb, leb→le}
use lib.ListN.{length, get_or, set}
use Rattle.std.specs.Prelude.{Result, Ok, Err}
use Rattle.model.specs.Refusals.{Exact}
use Rattle.model.specs.Numbers.{between}
use Rattle.model.specs.Recorder as M
use Rattle.model.specs.Recorder.{block_length, number_limit, AllBytes}
use Rattle.model.proofs.Bools.{is_true, both_left, both_right}
use Rattle.model.proofs.Blocks.{Good, good-read, read-good, read_exact, altered_refused, written-good, written_read, written-said, block-bytes}
use Rattle.model.proofs.Weights.{check-below}
use Rattle.model.proofs.Laying as L
use Rattle.common.specs.declared.Verdict.TheVariants.{Accepted}
use Rattle.common.specs.Seen.{verdict_number}
use Rattle.common.proofs.Back.{number-seen}
use Rattle.recorder.specs.declared.BlockMade.{BlockMade}
use Rattle.recorder.specs.declared.BlocksLaid.{BlocksLaid}
use Rattle.recorder.specs.declared.Run.{Run}
use Rattle.recorder.specs.declared.BlockRefusal.{BlockRefusal}
use Rattle.recorder.specs.declared.BlockRefusal.TheVariants.{WrongCheck}
use Rattle.recorder.specs.Seen.{made_from, LaysAs, held_read, read_seen, name_of, values_of, AnswersAs}
use Rattle.recorder.specs.Host.{ReadsBack}
use Rattle.recorder.proofs.Laws.{read-seen}
use Rattle.recorder.proofs.Outcome.{made}
use Rattle.recorder.proofs.make_block.Reads as make-block
use Rattle.recorder.proofs.lay_blocks.Reads as lay-blocks
use Rattle.recorder.proofs.read_block.Reads as read-block

-- ---- the claims are the contracts

pub makes : (κs : _) (a : _) (r : BlockMade) (t : _) → make-block.Learnt κs a r t → r ≡ made_from (M.block_call a.0 a.1.0.now)
makes κs a r t e = e

pub lays : (κs : _) (a : _) (r : BlocksLaid) (t : _) → lay-blocks.Learnt κs a r t
    → LaysAs a.0 a.1.0.now a.1.1.1.0 a.1.1.0.now t.1.1.0.now r
lays κs a r t e = e

pub reads : (κs : _) (a : _) (r : Result Run BlockRefusal) (t : _) → read-block.Learnt κs a r t → AnswersAs a.1.0 a.0.now r
reads κs a r t e = e

-- ---- refused exactly when

-- `make_block`: 4, 6.
pub made_exact : (n : ℕ) (es : List ℕ) (r : BlockMade) → r ≡ made_from (M.block_call n es) → Exact (verdict_number r.verdict) (M.block_rows n es)
made_exact n es r e =
    subst (λ v. Exact v (M.block_rows n es)) (sym (ap (λ (x : BlockMade). verdict_number x.verdict) e ∙ number-seen (M.block_call n es).verdict))
    (L.block_exact n es)

-- `lay_blocks`: 4, 5, 6.
pub laid_exact : (n : ℕ) (es : List ℕ) (at : ℕ) (buf after : List ℕ) (r : BlocksLaid) → LaysAs n es at buf after r
    → Exact (verdict_number r.verdict) (M.lay_rows n es at (length buf))
laid_exact n es at buf after r l =
    let call = M.lay_call n es at (length buf) in
    subst (λ v. Exact v (M.lay_rows n es at (length buf)))
    (sym (ap (λ (x : BlocksLaid). verdict_number x.verdict) l.answer ∙ number-seen call.verdict))
    (L.lay_exact n es at (length buf))

-- `read_block`: document 02's four names, in its order.
pub named_exact : (n : ℕ) (p : List ℕ) (r : Result Run BlockRefusal) → AnswersAs n p r → Exact (name_of r) (M.read_rows n p)
named_exact n p r a = subst (λ v. Exact v (M.read_rows n p)) (sym a.name) (read_exact n p)

-- ---- a block that is made, and one that is read

-- What is answered with its events is good.
answered-good : (n : ℕ) (p : List ℕ) (r : Result Run BlockRefusal) (run : Run) → AnswersAs n p r → r ≡ Ok run → Good n p
answered-good n p r run a e = read-good n p run.at run.count (sym (read-seen (M.read_block n p)) ∙ ap read_seen (sym a.answer ∙ e))

-- A block that was made is the model's, of a number, events and whole records that the call takes.
made-is : (n : ℕ) (es : List ℕ) (r : BlockMade) → r ≡ made_from (M.block_call n es) → r.verdict ≡ Accepted
    → T (M.block_good n es && M.whole_records es) × (r.block ≡ M.block_of n es)
made-is n es r e ok =
    let all = (made_exact n es r e).1.1.0 (ap verdict_number ok) in
    let good = both_left (M.block_good n es) _ all in
    let numbered = is_true _ (both_left (between 1 (number_limit - 1) n) _ good) in
    let sized = is_true _ (both_right (between 1 (number_limit - 1) n) _ good) in
    (all, ap (λ (x : BlockMade). x.block) (e ∙ sym (made n es numbered sized (is_true _ (both_right (M.block_good n es) _ all)))))

-- Its check fits, and it reads back to its events.
pub made_reads : (n : ℕ) (es : List ℕ) (r : BlockMade) (q : Result Run BlockRefusal) → r ≡ made_from (M.block_call n es)
    → r.verdict ≡ Accepted → AllBytes es → AnswersAs n r.block q → ReadsBack es r.block q
made_reads n es r q e ok bytes a =
    let m = made-is n es r e ok in
    let b = M.block_of n es in
    let good = both_left (M.block_good n es) _ m.0 in
    let whole = both_right (M.block_good n es) _ m.0 in
    let top = leb→le n (number_limit - 1) (both_right (leb 1 n) _ (both_left (between 1 (number_limit - 1) n) _ good)) in
    let few = leb→le (length es) M.full_run (both_right (leb 1 (length es)) _ (both_right (between 1 (number_limit - 1) n) _ good)) in
    let a' : AnswersAs n b q = subst (λ x. AnswersAs n x q) m.1 a in
    let seen : read_seen q ≡ M.read_block n b = ap read_seen a'.answer ∙ read-seen (M.read_block n b) in
    let small : n < number_limit = omega arith in
    subst (λ x. ReadsBack es x q) (sym m.1)
    (record {
      below = check-below b (block-bytes n es few bytes);
      held = (written-good n es few small bytes whole).check;
      answer = a'.answer ∙ ap held_read (written_read n es few small bytes whole);
      said = ap (λ x. M.said x b) seen ∙ written-said n es few small bytes whole;
    })

-- The events of an answer are inside the block: behind the header, and at most 62.
pub events_within : (n : ℕ) (p : List ℕ) (r : Result Run BlockRefusal) (run : Run) → AnswersAs n p r → r ≡ Ok run
    → (run.at ≡ M.header_length) × (run.count ≤ M.most_in_block) × (length p ≡ block_length)
events_within n p r run a e =
    let good = answered-good n p r run a e in
    let values : run.at ∷ run.count ∷ [] ≡ M.header_length ∷ M.count_in p ∷ [] = ap values_of (sym e) ∙ a.values ∙ ap M.read_values (good-read n p good) in
    let k : run.count ≡ M.count_in p = ap (λ l. get_or l 1 0) values in
    (ap (λ l. get_or l 0 0) values, omega (arith, good.count), good.size)

-- ---- one altered byte

-- Whatever block `read_block` answers with its events, and whatever byte of it is altered: it is refused by its check, whatever number is expected.
pub altered_block : (n m : ℕ) (p : List ℕ) (r q : Result Run BlockRefusal) (run : Run) (i v : ℕ) → AnswersAs n p r → r ≡ Ok run
    → i < block_length → v ≢ get_or p i 0 → AnswersAs m (set p i v) q → q ≡ Err WrongCheck
altered_block n m p r q run i v a e h d b =
    b.answer ∙ ap held_read (altered_refused n m p i v (answered-good n p r run a e) h d)
