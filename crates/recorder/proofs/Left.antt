-- What is left to lay of a recording's blocks, block by block. Cited by the proof of `put_blocks`. Assumes nothing.
use mathlib.Core.Path.{◌≡◌, ap, ap₂, ◌∙◌}
use mathlib.Core.List.{List, [], ◌∷◌, ◌++◌}
use Prim.Native.Nat.{ℕ, zero, suc, ◌+◌, ◌-◌, ◌*◌, ◌<◌, min}
use native.Mathlib.Nat.{zero-min, min-zero, suc-min-suc}
use native.Mathlib.Omega.{arith}
use lib.ListN.{length, take, drop, length-drop}
use lib.Seq.{drop-drop}
use Rattle.model.specs.Recorder.{block_length, full_run, block_of, blocks_from, joined}
use Rattle.model.proofs.Recordings.{blocks-count, blocks_long, joined_length}

-- The bytes of the blocks from block k on.
abbrev pub left : ℕ → List ℕ → ℕ → ℕ → List ℕ
left number es blocks k = joined (blocks_from (blocks - k) (number + k) (drop (full_run * k) es))

pub left_all : (number : ℕ) (es : List ℕ) (blocks : ℕ) → left number es blocks 0 ≡ joined (blocks_from blocks number es)
left_all number es blocks =
    let z : blocks - 0 ≡ blocks = omega arith in
    let n : number + 0 ≡ number = omega arith in
    rw (z, n)

pub left-none : (number : ℕ) (es : List ℕ) (blocks : ℕ) → left number es blocks blocks ≡ []
left-none number es blocks = let z : blocks - blocks ≡ 0 = omega arith in rw z

pub left-length : (number : ℕ) (es : List ℕ) (blocks k : ℕ) → length (left number es blocks k) ≡ block_length * (blocks - k)
left-length number es blocks k =
    let d = drop (full_run * k) es in
    joined_length (blocks_from (blocks - k) (number + k) d) (blocks_long (blocks - k) (number + k) d)
    ∙ ap (λ n. block_length * n) (blocks-count (blocks - k) (number + k) d)

-- Block k, and then those after it.
pub left-next : (number : ℕ) (es : List ℕ) (blocks k : ℕ) → k < blocks
    → left number es blocks k ≡ block_of (number + k) (take full_run (drop (full_run * k) es)) ++ left number es blocks (k + 1)
left-next number es blocks k h =
    let d = drop (full_run * k) es in
    let z : blocks - k ≡ suc (blocks - (k + 1)) = omega arith in
    let n : suc (number + k) ≡ number + (k + 1) = omega arith in
    let s : full_run * k + full_run ≡ full_run * (k + 1) = omega arith in
    ap (λ m. joined (blocks_from m (number + k) d)) z
    ∙ ap₂ (λ m e. block_of (number + k) (take full_run d) ++ joined (blocks_from (blocks - (k + 1)) m e)) n
    (drop-drop full_run (full_run * k) es ∙ ap (λ i. drop i es) s)

take_min : (n : ℕ) (d : List ℕ) → take (min n (length d)) d ≡ take n d
take_min zero d = ap (λ k. take k d) (zero-min (length d))
take_min (suc n) [] = ap (λ k. take k []) (min-zero (suc n))
take_min (suc n) (x ∷ d) = rw (suc-min-suc n (length d)) (ap (λ l. x ∷ l) (take_min n d))

-- A run that ends where the events end is as long as one of 62 events that are not all there.
pub run_is : (es : List ℕ) (from end : ℕ) → end ≡ from + min full_run (length es - from) → take (end - from) (drop from es) ≡ take full_run (drop from es)
run_is es from end e =
    let z : end - from ≡ min full_run (length (drop from es)) = omega (arith, length-drop from es) in
    ap (λ n. take n (drop from es)) z ∙ take_min full_run (drop from es)
