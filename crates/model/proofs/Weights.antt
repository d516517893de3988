-- The recorder's check, a sum of bytes that are weighed by their places: how it grows, that it fits 32 bits, and that no single byte and no two
-- bytes in each other's place leave it as it was. Cited by Blocks and by the crate recorder. Assumes nothing.
use mathlib.Core.Path.{◌≡◌, sym, ap, ◌∙◌}
use mathlib.Core.Logic.{◌≢◌}
use mathlib.Core.List.{List, [], ◌∷◌, ◌++◌}
use Prim.Native.Nat.{ℕ, zero, suc, ◌+◌, ◌-◌, ◌*◌, ◌/◌, ◌≤◌, ◌<◌}
use native.Mathlib.Nat.{mul-le-mul, mul-div_cancel, mul-add}
use native.Mathlib.Omega.{arith}
use lib.ListN.{length, get_or, take, set, length-set, length-take}
use lib.Seq.{get_or-set_other}
use Rattle.model.specs.Recorder.{AllBytes, weighed, check_of, check_place, number_limit}

-- Brought in so that the worked cases are checked before any law: a wrong definition then fails at a row of them, by computing.

-- ---- how it grows

-- One byte more at the end weighs its place.
pub weighed-more : (w : ℕ) (xs : List ℕ) (b : ℕ) → weighed w (xs ++ b ∷ []) ≡ weighed w xs + b * (w + length xs)
weighed-more w [] b = let z : w + 0 ≡ w = omega arith in rw z (omega arith)
weighed-more w (x ∷ xs) b =
    let e = weighed-more (suc w) xs b in
    let p : suc w + length xs ≡ w + suc (length xs) = omega arith in
    ap (λ n. x * w + n) (e ∙ ap (λ k. weighed (suc w) xs + b * k) p) ∙ omega arith

-- ---- how large it is

-- Up to place 507 a byte adds at most 255 times 508.
pub product_small : {b w : ℕ} → b < 256 → w ≤ 508 → b * w ≤ 129_540
product_small {b} {w} h k = mul-le-mul {n₁ = b} {m₁ = w} {n₂ = 255} {m₂ = 508} (omega arith) k

pub weighed-small : (w : ℕ) (xs : List ℕ) → w + length xs ≤ 509 → AllBytes xs → weighed w xs ≤ 129_540 * length xs
weighed-small w [] h bytes = omega arith
weighed-small w (x ∷ xs) h bytes =
    omega (arith, product_small {b = x} {w = w} (bytes 0) (omega arith), weighed-small (suc w) xs (omega arith) (λ i. bytes (suc i)))

-- The first bytes of bytes are bytes.
pub bytes_take : (n : ℕ) (xs : List ℕ) → AllBytes xs → AllBytes (take n xs)
bytes_take zero xs h i = omega arith
bytes_take (suc n) [] h i = h i
bytes_take (suc n) (x ∷ xs) h zero = h 0
bytes_take (suc n) (x ∷ xs) h (suc i) = bytes_take n xs (λ k. h (suc k)) i

-- The check of any bytes is below 2^32, so that the four bytes that hold it hold all of it.
pub check-below : (b : List ℕ) → AllBytes b → check_of b < number_limit
check-below b h =
    let t = take check_place b in
    let few : length t ≤ 508 = omega (arith, length-take check_place b) in
    omega (arith, weighed-small 1 t (omega arith) (bytes_take check_place b h))

-- ---- one altered byte

-- What one altered byte takes away and adds.
pub weighed-set : (w : ℕ) (xs : List ℕ) (i v : ℕ) → i < length xs → weighed w (set xs i v) + get_or xs i 0 * (w + i) ≡ weighed w xs + v * (w + i)
weighed-set w [] i v h = absurd (omega arith)
weighed-set w (x ∷ xs) zero v h = let z : w + 0 ≡ w = omega arith in rw z (omega arith)
weighed-set w (x ∷ xs) (suc i) v h =
    let e = weighed-set (suc w) xs i v (omega arith) in
    let p : suc w + i ≡ w + suc i = omega arith in
    let e' : weighed (suc w) (set xs i v) + get_or xs i 0 * (w + suc i) ≡ weighed (suc w) xs + v * (w + suc i) = rw p at e in
    omega arith

cancelled : (a b k : ℕ) → 0 < k → a * k ≡ b * k → a ≡ b
cancelled a b k h e = sym (mul-div_cancel a h) ∙ ap (λ n. n / k) e ∙ mul-div_cancel b h

-- Another byte at one place is another sum.
pub weighed_differs : (w : ℕ) (xs : List ℕ) (i v : ℕ) → 0 < w → i < length xs → v ≢ get_or xs i 0 → weighed w (set xs i v) ≢ weighed w xs
weighed_differs w xs i v p h n e =
    let q : v * (w + i) ≡ get_or xs i 0 * (w + i) = omega (arith, weighed-set w xs i v h) in
    n (cancelled v (get_or xs i 0) (w + i) (omega arith) q)

-- ---- two bytes in each other's place: what the weights are for

crossed : (x y p d : ℕ) → 0 < d → y * (p + d) + x * p ≡ y * p + x * (p + d) → x ≡ y
crossed x y p d h e =
    let e' : y * p + y * d + x * p ≡ y * p + (x * p + x * d) = rw (mul-add y p d, mul-add x p d) at e in
    cancelled x y d h (omega arith)

-- Two bytes that differ and change places are another sum.
pub weighed_swapped : (w : ℕ) (xs : List ℕ) (i j : ℕ) → i < j → j < length xs → get_or xs i 0 ≢ get_or xs j 0
    → weighed w (set (set xs i (get_or xs j 0)) j (get_or xs i 0)) ≢ weighed w xs
weighed_swapped w xs i j h k n e =
    let x = get_or xs i 0 in
    let y = get_or xs j 0 in
    let p = w + i in
    let d = j - i in
    let o : get_or (set xs i y) j 0 ≡ y = get_or-set_other xs i j y 0 (λ q. omega arith) in
    let one : weighed w (set xs i y) + x * p ≡ weighed w xs + y * p = weighed-set w xs i y (omega arith) in
    let l : j < length (set xs i y) = rw (length-set xs i y) k in
    let two = weighed-set w (set xs i y) j x l in
    let s : w + j ≡ p + d = omega arith in
    let two' : weighed w xs + y * (p + d) ≡ weighed w (set xs i y) + x * (p + d) = rw (o, s, e) at two in
    n (crossed x y p d (omega arith) (omega arith))
