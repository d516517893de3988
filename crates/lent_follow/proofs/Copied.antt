-- One of two tables in lent bytes copied over the other, byte by byte: the start, a turn, and the end. Cited by the proofs of `take_back` and `show_all`. Assumes nothing.
use mathlib.Core.Path.{◌≡◌, refl, ◌∙◌}
use mathlib.Core.Bool.{Bool, true, false}
use mathlib.Core.List.{List}
use Prim.Native.Nat.{ℕ, ◌+◌, ◌≤◌, ◌<◌}
use native.Mathlib.Omega.{arith}
use borrow.Author.Tests.{eqb-true, eqb-false}
use lib.Dec.{eqb}
use lib.ListN.{length, get_or, set, length-set}
use lib.Seq.{get_or-set_same, get_or-set_other}
use Rattle.model.specs.Panel.{records}
use Rattle.lent.specs.Lent.{table_size, slots_from}
use Rattle.lent.proofs.Slots.{Alike}
use Rattle.lent.proofs.Tables.{slots_same}
use Rattle.lent_follow.specs.InPlace.{both_size}

-- i bytes of the table that lies from `here` on are copied to `there`; old are the bytes before the copying.
pub record Copied (here there : ℕ) (old t : List ℕ) (i : ℕ) : Type 0 where
  pub inside : i ≤ table_size
  pub size : length t ≡ both_size
  pub kept : Alike table_size t here old here
  pub made : Alike i t there old here

-- The two tables share no byte.
abbrev Apart : ℕ → ℕ → Type 0
Apart here there = (j k : ℕ) → j < table_size → k < table_size → here + j ≡ there + k → ⊥

pub copied_none : (here there : ℕ) (t : List ℕ) → length t ≡ both_size → Copied here there t t 0
copied_none here there t e = record { inside = omega arith; size = e; kept = λ j h. refl; made = λ j h. absurd (omega arith) }

module _ (here there : ℕ) (old t : List ℕ) (i : ℕ) (c : Copied here there old t i) where
  -- The next byte.
  pub copied_more : Apart here there → there + table_size ≤ both_size → i < table_size → (a b : ℕ) → here + i ≡ a → there + i ≡ b
      → Copied here there old (set t b (get_or t a 0)) (i + 1)
  copied_more apart room h a b ea eb = rw (← ea, ← eb) record {
    inside = omega arith;
    size = length-set t (there + i) v ∙ c.size;
    kept = λ j l. get_or-set_other t (there + i) (here + j) v 0 (apart j i l h) ∙ c.kept j l;
    made = λ j l. made_at j (eqb j i) refl l;
  }
    where
      v : ℕ
      v = get_or t (here + i) 0

      made_at : (j : ℕ) (b : Bool) → eqb j i ≡ b → j < i + 1 → get_or (set t (there + i) v) (there + j) 0 ≡ get_or old (here + j) 0
      made_at j true e l =
          let q : j ≡ i = eqb-true j i e in
          rw q (get_or-set_same t (there + i) v 0 (omega (arith, c.size)) ∙ c.kept i h)
      made_at j false e l =
          let n = eqb-false j i e in
          let less : j < i = omega (arith, n) in
          get_or-set_other t (there + i) (there + j) v 0 (λ q. n (omega arith)) ∙ c.made j less

  pub copied_all : table_size ≤ i → (slots_from records t here ≡ slots_from records old here) × (slots_from records t there ≡ slots_from records old here)
  copied_all h = (
    slots_same records t here old here c.kept,
    slots_same records t there old here (λ j l. c.made j (omega arith)),
  )
