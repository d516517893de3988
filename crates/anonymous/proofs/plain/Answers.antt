-- `anonymous::plain`: five numbers by their naturals. Assumes nothing.
use borrow.Author.Rules.{rules}
use mathlib.Core.Path.{◌≡◌, refl, ap, ◌∙◌}
use mathlib.Core.List.{List, [], ◌∷◌, map}
use Prim.Native.Nat.{ℕ}
use native.Mathlib.Omega.{arith}
use lib.IntN.{ℤ, pos}
use lib.ListN.{length, get_or}
use mir.Syntax.{w32}
use mir.Val.{SFits, to_z, of_z}
use mir.ValLaws.{to_z-of_z}
use Rattle.common.specs.Seen.{natural}
use Rattle.anonymous.proofs.plain.Goals as goal

-- A signed number that is read.
own : {n : ℕ} (z : ℤ) → SFits w32 z → n ≡ natural (to_z w32 (of_z w32 z)) → n ≡ natural z
own z f e = e ∙ ap natural (to_z-of_z w32 z f)

five : (l : List ℤ) → length l ≡ 5
    → natural (get_or l 0 (pos 0)) ∷ natural (get_or l 1 (pos 0)) ∷ natural (get_or l 2 (pos 0)) ∷ natural (get_or l 3 (pos 0)) ∷ natural (get_or l 4 (pos 0)) ∷ [] ≡ map natural l
five [] e = absurd (omega (arith, e))
five (a ∷ []) e = absurd (omega (arith, e))
five (a ∷ b ∷ []) e = absurd (omega (arith, e))
five (a ∷ b ∷ c ∷ []) e = absurd (omega (arith, e))
five (a ∷ b ∷ c ∷ d ∷ []) e = absurd (omega (arith, e))
five (a ∷ b ∷ c ∷ d ∷ f ∷ []) e = refl
five (a ∷ b ∷ c ∷ d ∷ f ∷ g ∷ l) e = absurd (omega (arith, e))

pub returns : goal.returns
returns c =
    let p = c in
    let l = p.args.a in
    let e₀ = own (get_or l 0 (pos 0)) (search rules) p.nat_of.ensures in
    let e₁ = own (get_or l 1 (pos 0)) (search rules) c.nat_of-2.ensures in
    let e₂ = own (get_or l 2 (pos 0)) (search rules) c.nat_of-3.ensures in
    let e₃ = own (get_or l 3 (pos 0)) (search rules) c.nat_of-4.ensures in
    let e₄ = own (get_or l 4 (pos 0)) (search rules) c.nat_of-5.ensures in
    (λ i. e₀ i ∷ e₁ i ∷ e₂ i ∷ e₃ i ∷ e₄ i ∷ []) ∙ five l (search rules)
