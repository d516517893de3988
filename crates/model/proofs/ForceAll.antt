-- A reader of all packets of an input: it ends, and it goes on over a cut as if there were none. Assumes nothing.
use mathlib.Core.Path.{◌≡◌, refl, sym, ap, ◌∙◌}
use mathlib.Core.Bool.{Bool, true, false, cond, false≢true}
use mathlib.Core.List.{List, [], ◌∷◌, ◌++◌}
use Prim.Native.Nat.{ℕ, zero, suc, ◌+◌, ◌-◌, ◌≤◌, ◌<◌}
use native.Mathlib.Omega.{arith}
use lib.ListN.{length}
use Rattle.model.specs.Force.{waits, Read, read_at, reads_by, reads, ends_waiting, told, place_after}
use Rattle.model.proofs.ForceReads.{read-on}
use Rattle.model.proofs.ForceCut.{read_longer, read-later}

-- What holds after an answer that waits, and after one that does not, holds.
by_wait : (r : Read) (P : Bool → Type 0) → (waits r.answer ≡ true → P true) → (waits r.answer ≡ false → P false) → P (waits r.answer)
by_wait r P waiting given = go (waits r.answer) refl
  where
    go : (t : Bool) → waits r.answer ≡ t → P t
    go true e = waiting e
    go false e = given e

-- More turns than bytes from the position on are enough: the last answer waits, and no other does,
pub reads_end : (turns : ℕ) (input : List ℕ) (at : ℕ) → length input - at < turns → ends_waiting (reads_by turns input at) ≡ true
reads_end zero input at h = absurd (omega arith)
reads_end (suc turns) input at h =
    let r = read_at input at in
    by_wait r (λ t. ends_waiting (r ∷ cond t [] (reads_by turns input r.next)) ≡ true) (λ e. e)
    (λ e. let on = read-on input at e in one_more r (reads_by turns input r.next) e (reads_end turns input r.next (omega (arith, on))))
  where
    one_more : (r : Read) (rs : List Read) → waits r.answer ≡ false → ends_waiting rs ≡ true → ends_waiting (r ∷ rs) ≡ true
    one_more r [] e q = absurd (false≢true q)
    one_more r (x ∷ rs) e q = rw e q

-- and still more change nothing.
pub reads_more : (turns extra : ℕ) (input : List ℕ) (at : ℕ) → length input - at < turns → reads_by (turns + extra) input at ≡ reads_by turns input at
reads_more zero extra input at h = absurd (omega arith)
reads_more (suc turns) extra input at h =
    let r = read_at input at in
    let n : suc turns + extra ≡ suc (turns + extra) = omega arith in
    ap (λ k. reads_by k input at) n
    ∙ by_wait r (λ t. ◌≡◌ {A = List Read} (r ∷ cond t [] (reads_by (turns + extra) input r.next)) (r ∷ cond t [] (reads_by turns input r.next))) (λ e. refl)
    (λ e. let on = read-on input at e in ap (λ rs. r ∷ rs) (reads_more turns extra input r.next (omega (arith, on))))

-- So all packets of an input are read, from any position on.
pub all_end : (input : List ℕ) (at : ℕ) → ends_waiting (reads input at) ≡ true
all_end input at = reads_end (suc (length input)) input at (omega arith)

-- The first of them, and all from where it says.
pub reads-step : (input : List ℕ) (at : ℕ)
    → reads input at ≡ read_at input at ∷ cond (waits (read_at input at).answer) [] (reads input (read_at input at).next)
reads-step input at =
    let r = read_at input at in
    let n = length input in
    by_wait r (λ t. ◌≡◌ {A = List Read} (r ∷ cond t [] (reads_by n input r.next)) (r ∷ cond t [] (reads input r.next))) (λ e. refl)
    (λ e.
    let on = read-on input at e in
    let one : n + 1 ≡ suc n = omega arith in
    ap (λ rs. r ∷ rs) (sym (reads_more n 1 input r.next (omega (arith, on))) ∙ ap (λ k. reads_by k input r.next) one))

-- All packets of an input whose rest comes later: those told before the cut, and all of the whole input from the place where reading stopped.
pub reads-cut : (input more : List ℕ) (at : ℕ) → at ≤ length input
    → reads (input ++ more) at ≡ told (reads input at) ++ reads (input ++ more) (place_after at (reads input at))
reads-cut input more at h = by_turns (suc (length input)) at h (omega arith)
  where
    waiting : (at : ℕ) → at ≤ length input → waits (read_at input at).answer ≡ true → reads (input ++ more) at ≡ reads (input ++ more) (read_at input at).next
    waiting at a e =
        let n = length (input ++ more) in
        ap (λ (r : Read). r ∷ cond (waits r.answer) [] (reads_by n (input ++ more) r.next)) (read-later input more at a e)

    given : (at : ℕ) → waits (read_at input at).answer ≡ false → reads (input ++ more) at ≡ read_at input at ∷ reads (input ++ more) (read_at input at).next
    given at e =
        reads-step (input ++ more) at
        ∙ ap (λ (r : Read). r ∷ cond (waits r.answer) [] (reads (input ++ more) r.next)) (read_longer input more at e)
        ∙ ap (λ t. read_at input at ∷ cond t [] (reads (input ++ more) (read_at input at).next)) e

    by_turns : (turns at : ℕ) → at ≤ length input → length input - at < turns
        → reads (input ++ more) at ≡ told (reads_by turns input at) ++ reads (input ++ more) (place_after at (reads_by turns input at))
    by_turns zero at a l = absurd (omega arith)
    by_turns (suc turns) at a l =
        let r = read_at input at in
        let whole : ℕ → List Read = reads (input ++ more) in
        by_wait r
        (λ t. whole at ≡ told (r ∷ cond t [] (reads_by turns input r.next)) ++ whole (place_after at (r ∷ cond t [] (reads_by turns input r.next))))
        (λ e. rw e (waiting at a e))
        (λ e.
        let on = read-on input at e in
        rw e (given at e ∙ ap (λ rs. r ∷ rs) (by_turns turns r.next on.1 (omega (arith, on)))))
