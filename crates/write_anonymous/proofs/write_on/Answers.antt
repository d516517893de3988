-- `write_anonymous::write_on` takes no more records from the page than the library may have put there. Assumes nothing.
use Rattle.std.proofs.Common.{◌≡◌, ℕ, ◌+◌, ◌≤◌, List, sym, subst}
use Rattle.model.specs.Panel.{base}
use Rattle.model.specs.Calls.{most_events}
use Rattle.model.specs.Pointing.{PointerState}
use Rattle.model.specs.Anonymous.{anonymous_call}
use Rattle.model.proofs.AnonymousCalls.{anonymous_limits}
use Rattle.writer.specs.declared.Written.{Written}
use Rattle.writer.specs.Seen.{written_from}
use Rattle.write_anonymous.proofs.write_on.Goals as goal

-- No answer of `write` has more events than a frame may have.
few : (p : PointerState) (bs : List ℕ) (at n : ℕ) (r : Written) → r ≡ written_from (anonymous_call base p bs at n) → r.count ≤ most_events base + 4
few p bs at n r e = subst (λ (w : Written). w.count ≤ most_events base + 4) (sym e) (anonymous_limits p bs at n).0

pub length_of-bytes-requires : goal.length_of-bytes-requires
length_of-bytes-requires c = few _ _ _ _ _ c.write-answer.ensures.0
