-- The form of a pod's state, test by test. Assumes nothing.
use mathlib.Core.Path.{◌≡◌}
use mathlib.Core.Bool.{true, ◌&&◌}
use mathlib.Core.List.{List}
use Prim.Native.Nat.{ℕ, ◌≤◌}
use lib.Dec.{leb, eqb}
use lib.ListN.{length, get_or}
use borrow.Author.Tests.{eqb-true, leb-true}
use Rattle.model.proofs.Bools.{and_left, and_right}
use Rattle.lent_pod.specs.Pods.{pod_size, version, pod_kind, formed}

-- What bytes of the form are.
pub record Formed (b : List ℕ) : Type 0 where
  pub size : length b ≡ pod_size
  pub version : get_or b 0 0 ≡ version
  pub kind : get_or b 1 0 ≡ pod_kind
  pub wait : get_or b 2 0 ≤ 1
  pub tenth : get_or b 10 0 ≡ 0
  pub last : get_or b 11 0 ≡ 0

pub facts : (b : List ℕ) → formed b ≡ true → Formed b
unfolding formed
facts b e =
    let t₀ = eqb (length b) pod_size in
    let t₁ = eqb (get_or b 0 0) version in
    let t₂ = eqb (get_or b 1 0) pod_kind in
    let t₃ = leb (get_or b 2 0) 1 in
    let t₄ = eqb (get_or b 10 0) 0 in
    let t₅ = eqb (get_or b 11 0) 0 in
    let r₁ = and_right t₀ (t₁ && (t₂ && (t₃ && (t₄ && t₅)))) e in
    let r₂ = and_right t₁ (t₂ && (t₃ && (t₄ && t₅))) r₁ in
    let r₃ = and_right t₂ (t₃ && (t₄ && t₅)) r₂ in
    let r₄ = and_right t₃ (t₄ && t₅) r₃ in record {
      size = eqb-true (length b) pod_size (and_left t₀ (t₁ && (t₂ && (t₃ && (t₄ && t₅)))) e);
      version = eqb-true (get_or b 0 0) version (and_left t₁ (t₂ && (t₃ && (t₄ && t₅))) r₁);
      kind = eqb-true (get_or b 1 0) pod_kind (and_left t₂ (t₃ && (t₄ && t₅)) r₂);
      wait = leb-true (get_or b 2 0) 1 (and_left t₃ (t₄ && t₅) r₃);
      tenth = eqb-true (get_or b 10 0) 0 (and_left t₄ t₅ r₄);
      last = eqb-true (get_or b 11 0) 0 (and_right t₄ t₅ r₄);
    }

pub formed-length : (b : List ℕ) → formed b ≡ true → length b ≡ pod_size
formed-length b e = (facts b e).size
