-- What `force_write` answers by its numbers: each law shows the whole promise from what the code found. Assumes nothing.
use mathlib.Core.Path.{◌≡◌, ap, ◌∙◌}
use mathlib.Core.Bool.{true, false}
use mathlib.Core.List.{List, [], ◌∷◌}
use Prim.Native.Nat.{ℕ}
use lib.IntN.{ℤ}
use lib.ListN.{length}
use Rattle.model.specs.Force as M
use Rattle.common.specs.Seen.{verdict_number}
use Rattle.force.specs.declared.Report.{Report}
use Rattle.force.specs.declared.Written as W
use Rattle.force.specs.Seen.{seen, written_from, Wrote}
use Rattle.lent_devices.specs.Sticks.{typed, report_in, ForceWritten}
use Rattle.lent_devices.proofs.Made.{number-seen}

-- A number is none of its type's.
pub untyped : (l : List ℤ) (at : ℕ) (b : List ℕ) (r : ℕ) → typed l ≡ false → r ≡ 4 → ForceWritten l at b r (0 ∷ []) b
untyped l at b r e z = record { number = rw e z; answer = rw e; buffer = rw e }

-- The library's answer of the report.
pub written : (l : List ℤ) (at : ℕ) (b after : List ℕ) (report : Report) (w : W.Written) (r : ℕ) → typed l ≡ true → seen report ≡ report_in l
    → Wrote report at b w after → r ≡ verdict_number w.verdict → ForceWritten l at b r (w.need ∷ []) after
written l at b after report w r e s h z =
    let q : w ≡ written_from (M.write_call (report_in l) at (length b)) = h.answer ∙ ap (λ x. written_from (M.write_call x at (length b))) s in record {
      number = rw e (z ∙ ap (λ (x : W.Written). verdict_number x.verdict) q ∙ number-seen (M.write_call (report_in l) at (length b)).verdict);
      answer = rw e (ap (λ (x : W.Written). x.need ∷ []) q);
      buffer = rw e (h.buffer ∙ ap (λ x. M.write_buffer x at b) s);
    }
