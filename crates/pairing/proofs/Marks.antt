-- The marks of what a pairing holds, number by number. Cited by `marks_of` and `left_of`. Assumes nothing.
use mathlib.Core.Path.{◌≡◌, refl, sym, ap, ◌∙◌}
use mathlib.Core.Bool.{Bool, true, false, ◌||◌}
use mathlib.Core.List.{List, [], ◌∷◌, ◌++◌}
use Prim.Native.Nat.{ℕ, ◌+◌, ◌<◌, ◌≤◌}
use native.Mathlib.Numerals.{add-one}
use lib.Dec.{eqb}
use lib.ListN.{length, get_or, set, take}
use lib.Seq.{take-suc, take_all}
use borrow.Author.Tests.{eq-eqb}
use Rattle.model.specs.Ranks.{among}
use Rattle.pairing.specs.Cells.{marks, Numbers}
use Rattle.pairing.proofs.Sets.{below5, up_to5}

hit : (d : ℕ) (l : List ℕ) → among d (l ++ (d ∷ [])) ≡ true
hit d [] = rw (eq-eqb d d refl)
hit d (b ∷ l) = rw (hit d l) (any (eqb d b))
  where
    any : (t : Bool) → (t || true) ≡ true
    any true = refl
    any false = refl

miss : (d c : ℕ) → eqb d c ≡ false → (l : List ℕ) → among d (l ++ (c ∷ [])) ≡ among d l
miss d c e [] = rw e
miss d c e (b ∷ l) = ap (λ t. eqb d b || t) (miss d c e l)

six : {a b c d e f a₁ b₁ c₁ d₁ e₁ f₁ : Bool} → a₁ ≡ a → b₁ ≡ b → c₁ ≡ c → d₁ ≡ d → e₁ ≡ e → f₁ ≡ f
    → ◌≡◌ {A = List Bool} (a ∷ b ∷ c ∷ d ∷ e ∷ f ∷ []) (a₁ ∷ b₁ ∷ c₁ ∷ d₁ ∷ e₁ ∷ f₁ ∷ [])
six p q r s t u = cc

mark : (l : List ℕ) (c : ℕ) → c ≤ 5 → set (marks l) c true ≡ marks (l ++ (c ∷ []))
mark l =
    up_to5 (λ c. set (marks l) c true ≡ marks (l ++ (c ∷ [])))
    (six (hit 0 l) (miss 1 0 refl l) (miss 2 0 refl l) (miss 3 0 refl l) (miss 4 0 refl l) (miss 5 0 refl l))
    (six (miss 0 1 refl l) (hit 1 l) (miss 2 1 refl l) (miss 3 1 refl l) (miss 4 1 refl l) (miss 5 1 refl l))
    (six (miss 0 2 refl l) (miss 1 2 refl l) (hit 2 l) (miss 3 2 refl l) (miss 4 2 refl l) (miss 5 2 refl l))
    (six (miss 0 3 refl l) (miss 1 3 refl l) (miss 2 3 refl l) (hit 3 l) (miss 4 3 refl l) (miss 5 3 refl l))
    (six (miss 0 4 refl l) (miss 1 4 refl l) (miss 2 4 refl l) (miss 3 4 refl l) (hit 4 l) (miss 5 4 refl l))
    (six (miss 0 5 refl l) (miss 1 5 refl l) (miss 2 5 refl l) (miss 3 5 refl l) (miss 4 5 refl l) (hit 5 l))

-- One number more.
pub mark-next : (cs : List ℕ) (i : ℕ) (ms : List Bool) → Numbers cs → i < length cs → ms ≡ marks (take i cs) → set ms (get_or cs i 0) true ≡ marks (take (i + 1) cs)
mark-next cs i ms n h e = ap (λ m. set m (get_or cs i 0) true) e ∙ mark (take i cs) (get_or cs i 0) (n i) ∙ ap marks (sym (take-suc cs i 0 h)) ∙ ap (λ j. marks (take j cs)) (sym (add-one i))

pub mark_end : (cs : List ℕ) (i : ℕ) (ms : List Bool) → length cs ≤ i → ms ≡ marks (take i cs) → ms ≡ marks cs
mark_end cs i ms h e = e ∙ ap marks (take_all i cs h)

-- A contact's mark.
pub mark-at : (cs : List ℕ) (c : ℕ) → c < 5 → get_or (marks cs) c false ≡ among c cs
mark-at cs = below5 (λ c. get_or (marks cs) c false ≡ among c cs) refl refl refl refl refl
