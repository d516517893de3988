-- `write_frames::write_on` takes no more records from the page than the writer may have put there. Assumes nothing.
use Rattle.std.proofs.Common.{◌≡◌, ℕ, ◌+◌, ◌≤◌, true, false, cond, List, get_or, ℤ, sym, subst, arith}
use Rattle.model.specs.Panel.{base}
use Rattle.model.specs.Calls.{most_events}
use Rattle.model.specs.Pointing.{pointer_call}
use Rattle.model.proofs.Instances.{base-good}
use Rattle.model.proofs.PointerCalls.{pointer_limits}
use Rattle.common.specs.declared.Verdict.TheVariants.{State}
use Rattle.writer.specs.Seen.{seen, written_from, not_written_by}
use Rattle.lent_writer.specs.Seen.{formed, unpacked, told_of, written}
use Rattle.write_frames.proofs.write_on.Goals as goal

-- No answer of `write` has more events than a frame may have.
few : (b : List ℕ) (f : List ℤ) (at n : ℕ) → (written b f at n).count ≤ most_events base + 4
unfolding written
few b f at n =
    let w = written_from (pointer_call base (seen (unpacked b)) f at n) in
    elim (formed b) as (λ g. (cond g w (not_written_by State (unpacked b) 0)).count ≤ most_events base + 4)
    [ true ↦ (pointer_limits base (seen (unpacked b)) f at n base-good).0 | false ↦ omega arith ]

few-told : (b : List ℕ) (f : List ℤ) (at n : ℕ) (told : List ℕ) → told ≡ told_of (written b f at n) → get_or told 0 0 ≤ most_events base + 4
few-told b f at n told e = subst (λ (l : List ℕ). get_or l 0 0 ≤ most_events base + 4) (sym e) (few b f at n)

pub length_of-bytes-requires : goal.length_of-bytes-requires
length_of-bytes-requires c = few-told _ _ _ _ _ c.write-number.ensures.answer
