-- Ranks as the code makes them: flags for the numbers that are held, how many are held below each number, and a contact's age. Assumes nothing.
use Rattle.std.specs.Prelude.{◌≡◌, Bool, true, ◌&&◌, List, ℕ, zero, suc, ◌<◌, eqb, ℤ, length, get_or}
use Rattle.model.specs.Panel.{records}
use Rattle.model.specs.Frame.{Fate, none, goes_on, begins}
use Rattle.model.specs.Ranks.{among, one_more_if}

-- Flag c of m is 1 exactly where c is in k.
pub record Marks (m k : List ℕ) : Type 0 where
  pub tells : (c : ℕ) → c < length m → eqb (get_or m c 0) 1 ≡ among c k

-- The first b flags are all 1.
abbrev pub marked : ℕ → List ℕ → Bool
marked zero m = true
marked (suc b) m = eqb (get_or m b 0) 1 && marked b m

-- Number b of s is how many of the first b flags are 1.
pub record Sums (m s : List ℕ) : Type 0 where
  pub first : get_or s 0 0 ≡ 0
  pub more : (b : ℕ) → b < records → get_or s (suc b) 0 ≡ one_more_if (eqb (get_or m b 0) 1) (get_or s b 0)

-- Ids before and after a frame and the ranks before it: one of each for each record, and a rank may index a table.
pub record Told (old new : List ℤ) (rs : List ℕ) : Type 0 where
  pub before : length old ≡ records
  pub after : length new ≡ records
  pub ranked : length rs ≡ records
  pub small : (i : ℕ) → i < records → get_or rs i 0 < records

-- The age by which a record's rank is counted: the old rank of a contact that goes on, past all ranks for one that begins, and 0 without a contact.
abbrev pub age_by : Fate → ℕ → ℕ
age_by none r = 0
age_by goes_on r = r
age_by begins r = records
