-- A frame's values by document 01's rule and K8's beside it, told by the frame's own numbers: the theorem on refusal 4 speaks of them. Assumes nothing.
use Rattle.std.specs.Prelude.{Bool, true, not, ◌&&◌, ◌||◌, List, [], ◌∷◌, ℤ, pos, get_or}
use Rattle.model.specs.Numbers.{eq_z}
use Rattle.model.specs.Panel.{Field}
use Rattle.model.specs.Table.{numbers_of, good_slot}
use Rattle.model.specs.Frame.{kind_of}

-- Document 01: kind 0, or kind 1 or 2 with every number in its range, 0 included.
abbrev pub in_ranges : List Field → List ℤ → Bool
in_ranges axes g = eq_z (kind_of g) (pos 0) || ((eq_z (kind_of g) (pos 1) || eq_z (kind_of g) (pos 2)) && good_slot axes (numbers_of g))

-- K8: kind 0, or a pressure, the row's fourth number, other than 0.
abbrev pub presses : List ℤ → Bool
presses g = eq_z (kind_of g) (pos 0) || not (eq_z (get_or g 3 (pos 0)) (pos 0))

-- Both, of all rows.
abbrev pub all_press : List Field → List (List ℤ) → Bool
all_press axes [] = true
all_press axes (g ∷ fr) = (in_ranges axes g && presses g) && all_press axes fr
