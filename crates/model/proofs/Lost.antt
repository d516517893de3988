-- What takes a reader off the track, that no event leads it back to following, and that a lost reader answers "unknown".
-- Cited by Loss, Least and Chain. Assumes nothing.
use mathlib.Core.Path.{◌≡◌, refl, sym, subst}
use mathlib.Core.Bool.{not}
use mathlib.Core.List.{List, [], ◌∷◌, map}
use lib.Dec.{T}
use Rattle.model.proofs.Bools.{is_false}
use Rattle.model.specs.Panel.{Panel}
use Rattle.model.specs.Table.{Slot, ids_differ}
use Rattle.model.specs.Events.{Event, Act, skip, bad, report, loss, slot, number, classify}
use Rattle.model.specs.Reader.{Mode, following, dropped, stale, Lost, Reader, reported, step_in, step, steps, read}
use Rattle.model.specs.Calls.{asked_in, unknown}

-- ---- what takes a reader off the track

-- A loss, in whatever mode it is found, leaves the reader lost.
pub lost_by_loss : (m : Mode) (r : Reader) → r.mode ≡ m → Lost (step_in m r loss).mode
lost_by_loss following r e = tt
lost_by_loss dropped r e = subst Lost (sym e) tt
lost_by_loss stale r e = tt

-- So does a bad value.
pub lost_by_bad : (m : Mode) (r : Reader) → r.mode ≡ m → Lost (step_in m r bad).mode
lost_by_bad following r e = tt
lost_by_bad dropped r e = subst Lost (sym e) tt
lost_by_bad stale r e = subst Lost (sym e) tt

-- So does a report while the pending live ids repeat.
pub lost_by_report : (m : Mode) (r : Reader) → r.mode ≡ m → T (not (ids_differ r.pending)) → Lost (step_in m r report).mode
lost_by_report following r e d = subst (λ b. Lost (reported b r).mode) (sym (is_false (ids_differ r.pending) d)) tt
lost_by_report dropped r e d = tt
lost_by_report stale r e d = subst Lost (sym e) tt

-- ---- and nothing brings it back

-- One act found in a lost mode leaves it lost.
lost_step : (m : Mode) (r : Reader) (x : Act) → r.mode ≡ m → Lost m → Lost (step_in m r x).mode
lost_step following r x e l = absurd l
lost_step dropped r (skip w t c) e l = subst Lost (sym e) l
lost_step dropped r bad e l = subst Lost (sym e) l
lost_step dropped r report e l = tt
lost_step dropped r loss e l = subst Lost (sym e) l
lost_step dropped r (slot k) e l = subst Lost (sym e) l
lost_step dropped r (number i v) e l = subst Lost (sym e) l
lost_step stale r (skip w t c) e l = subst Lost (sym e) l
lost_step stale r bad e l = subst Lost (sym e) l
lost_step stale r report e l = subst Lost (sym e) l
lost_step stale r loss e l = tt
lost_step stale r (slot k) e l = subst Lost (sym e) l
lost_step stale r (number i v) e l = subst Lost (sym e) l

pub lost_steps : (r : Reader) (xs : List Act) → Lost r.mode → Lost (steps r xs).mode
lost_steps r [] l = l
lost_steps r (x ∷ xs) l = lost_steps (step r x) xs (lost_step r.mode r x refl l)

-- From dropped or stale no events lead back to following.
pub lost_reads : (p : Panel) (r : Reader) (es : List Event) → Lost r.mode → Lost (read p r es).mode
lost_reads p r es l = lost_steps r (map (classify p) es) l

pub never_follows : (r : Reader) (xs : List Act) → Lost r.mode → (steps r xs).mode ≡ following → ⊥
never_follows r xs l e = subst Lost e (lost_steps r xs l)

-- A slot of a lost reader is answered "unknown".
pub lost_unknown : (m : Mode) (s : Slot) → Lost m → asked_in m s ≡ unknown
lost_unknown following s l = absurd l
lost_unknown dropped s l = refl
lost_unknown stale s l = refl
