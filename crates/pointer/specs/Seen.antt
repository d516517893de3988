-- What an old display was told, as the model's pointer and back, and what becomes of a record by its ids. The contracts go through it. Assumes nothing.
use Rattle.std.specs.Prelude.{cond, List, [], ◌∷◌, ℕ, ℤ, pos}
use Rattle.model.specs.Numbers.{eq_z}
use Rattle.model.specs.Table.{live}
use Rattle.model.specs.Frame.{Fate, none, goes_on, begins}
use Rattle.model.specs.Pointer as M
use Rattle.model.specs.Pointing as Q
use Rattle.common.specs.Seen.{natural}
use Rattle.pointer.specs.declared.Pointer.{Pointer}

-- ---- the numbers that were told

-- A pointer's numbers.
abbrev pub pointer_of : Pointer → M.Pointer
pointer_of p = record { touch = p.touch; tool = p.tool; x = pos p.x; y = pos p.y }

-- And back.
abbrev pub pointer_from : M.Pointer → Pointer
pointer_from q = record { x = natural q.x; y = natural q.y; tool = q.tool; touch = q.touch }

-- Ranks, and the numbers that were told last.
abbrev pub pointing_of : List ℕ → Pointer → Q.Pointing
pointing_of rs p = record { ranks = rs; last = pointer_of p }

-- ---- fates by ids

-- What became of a record that had the id a and has b: a contact that begins never takes the id that its slot had.
abbrev pub fate_by : ℤ → ℤ → Fate
fate_by a b = cond (live b) (cond (eq_z a b) goes_on begins) none

-- So it is of all records.
abbrev pub fates_by : List ℤ → List ℤ → List Fate
fates_by [] k = []
fates_by (a ∷ l) [] = []
fates_by (a ∷ l) (b ∷ k) = fate_by a b ∷ fates_by l k
