-- K12's cases, computed: the definitions give every row. Cited by docs/PROMISES.md. Assumes nothing.
use mathlib.Core.Path.{◌≡◌, refl}
use Rattle.model.specs.Pairing.{distance, best_choice, best_pairing, placed}
use Rattle.model.specs.AnonymousSheet.{sheet, given, all_due}

pub sheet-holds : given sheet ≡ all_due sheet
unfolding distance best_choice best_pairing placed
sheet-holds = refl
