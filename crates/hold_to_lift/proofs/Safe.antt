-- NO EVENT IS NOT NO FINGER: from the promise of `may_lift` itself, a reader that lost track never lifts. Cited by README.md alone. Assumes nothing.
use mathlib.Core.Path.{◌≡◌, refl, ◌∙◌}
use mathlib.Core.Bool.{Bool, true, false, cond}
use mathlib.Core.List.{[]}
use lib.Dec.{ltb}
use lib.ListN.{get_or}
use Rattle.model.specs.Panel.{base}
use Rattle.model.specs.Table.{Slot}
use Rattle.model.specs.Reader.{Mode, following, dropped, stale, Lost}
use Rattle.model.specs.States.{reader_good}
use Rattle.model.specs.Calls.{asked_in, no_such_slot, refused, state, ask_call}
use Rattle.common.specs.Seen.{mode_of}
use Rattle.reader.specs.States.{seen}
use Rattle.reader.specs.declared.ReaderState.{ReaderState}
use Rattle.reader.specs.Seen.{asked_from}
use Rattle.hold_to_lift.specs.Key.{lifts}
use Rattle.hold_to_lift.proofs.may_lift.Reads as may-lift

-- Well formed or not, with such a slot or without.
by_mode : (m : Mode) (good there : Bool) (s : Slot) → Lost m
    → lifts (asked_from (cond good (cond there (asked_in m s) no_such_slot) (refused state))) ≡ false
by_mode following good there s l = absurd l
by_mode dropped true true s l = refl
by_mode dropped true false s l = refl
by_mode dropped false there s l = refl
by_mode stale true true s l = refl
by_mode stale true false s l = refl
by_mode stale false there s l = refl

lost_asked : (s : ReaderState) → Lost (mode_of s.mode) → lifts (asked_from (ask_call base (seen s) 0)) ≡ false
unfolding ask_call
lost_asked s l = by_mode (mode_of s.mode) (reader_good base (seen s)) (ltb 0 s.setup.n) (get_or (seen s).reader.shown 0 []) l

-- Whatever `may_lift` may answer for a reader that lost track, it is no.
pub lost_is_no : (κs : _) (a : _) (r : Bool) (t : _) → may-lift.Learnt κs a r t → Lost (mode_of a.0.mode) → r ≡ false
lost_is_no κs a r t e l = e ∙ lost_asked a.0 l
