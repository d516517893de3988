-- Which slots a changed-slot number names, in the order of sending. Cited by the laws Order and by the writer's crates. Assumes nothing.
use Rattle.std.specs.Prelude.{List, [], ◌++◌, ℕ, zero, suc, ◌/◌, ◌%◌}

-- The list, if its slot's bit is set.
abbrev pub if_bit {ℓ} : {A : Type ℓ} → ℕ → List A → List A
if_bit zero l = []
if_bit (suc b) l = l

-- The lists f 0, f 1, .. of the slots whose bit is set in m, in rising order, of w slots.
unfoldable pub of_mask {ℓ} : {A : Type ℓ} → ℕ → ℕ → (ℕ → List A) → List A
of_mask zero m f = []
of_mask (suc w) m f = if_bit (m % 2) (f 0) ++ of_mask w (m / 2) (λ j. f (suc j))
