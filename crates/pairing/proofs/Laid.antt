-- An array of 32 that is filled from the front, with `alone` behind. Cited by what is said of the pairing, of those left over and of the slots. Assumes nothing.
use mathlib.Core.Path.{◌≡◌, refl, sym, ap, ◌∙◌}
use mathlib.Core.List.{List, [], ◌∷◌, ◌++◌, append_assoc}
use Prim.Native.Nat.{ℕ, suc, ◌+◌, ◌-◌, ◌<◌}
use native.Mathlib.Omega.{arith}
use lib.ListN.{length, set, replicate, length-append}
use lib.Seq.{set_at}
use Rattle.model.specs.Pairing.{alone}

pub record Laid (part out : List ℕ) (i : ℕ) : Type 0 where
  pub sized : length part ≡ i
  pub is : out ≡ part ++ replicate (32 - i) alone

pub laid-start : Laid [] (replicate 32 alone) 0
laid-start = record { sized = refl; is = refl }

pub laid_next : (part out : List ℕ) (i v : ℕ) → i < 32 → Laid part out i → Laid (part ++ (v ∷ [])) (set out i v) (i + 1)
laid_next part out i v h l =
    let z : 32 - i ≡ suc (32 - (i + 1)) = omega arith in
    let e : out ≡ part ++ (alone ∷ replicate (32 - (i + 1)) alone) = rw z at l.is in
    record {
      sized = length-append part (v ∷ []) ∙ omega (arith, l.sized);
      is = ap (λ o. set o i v) e ∙ set_at part alone (replicate (32 - (i + 1)) alone) v i l.sized ∙ sym (append_assoc part (v ∷ []) (replicate (32 - (i + 1)) alone));
    }
