-- Bytes written at the start of a buffer, then at the start of its rest, and from a position on. Cited by the writer's crates. Assumes nothing.
use mathlib.Core.Path.{◌≡◌, refl, sym, ap, ap₂, ◌∙◌}
use mathlib.Core.List.{List, [], ◌++◌, append_assoc, append-nil}
use Prim.Native.Nat.{ℕ, ◌+◌, ◌-◌, ◌≤◌}
use native.Mathlib.Omega.{arith}
use lib.ListN.{length, take, drop, length-append, length-drop, take-append-drop, drop_of_length-le}
use lib.Seq.{drop-append_seam, take-append_seam, take-length, drop-length, drop-drop, take_all, length-take-le, drop_at, take_at}
use borrow.Rule.Slice.PartMut.{put_mid}
use Rattle.model.specs.Records.{record_bytes, lay}
use Rattle.records.specs.Seen.{over}

pub record_length : (t c v : ℕ) → length (record_bytes t c v) ≡ 8
unfolding record_bytes
record_length t c v = refl

-- ---- the rest of a buffer at whose start A was written

module _ (A old : List ℕ) where
  over-length : length (over A old) ≡ length A + (length old - length A)
  unfolding over
  over-length = simp (length-append, length-drop)

  pub over-same : length A ≤ length old → length (over A old) ≡ length old
  over-same h = omega (arith, over-length)

  pub over-start : length A ≤ length (over A old)
  over-start = omega (arith, over-length)

  pub over-rest : take (length (over A old) - length A) (drop (length A) (over A old)) ≡ drop (length A) old
  unfolding over
  over-rest =
      let x = drop (length A) old in
      let n : length (A ++ x) - length A ≡ length x = omega (arith, length-append A x) in
      rw (drop-append_seam A x, n) (take-length x)

  pub over_put : (p : List ℕ) → put_mid (length A) (length (over A old) - length A) (over A old) p ≡ A ++ p
  unfolding over
  over_put p =
      let x = drop (length A) old in
      let n : length (A ++ x) - length A ≡ length x = omega (arith, length-append A x) in
      rw (take-append_seam A x, drop-append_seam A x, n, drop-length x, append-nil p)

  pub over-over : (B : List ℕ) → A ++ over B (drop (length A) old) ≡ over (A ++ B) old
  unfolding over
  over-over B = rw (drop-drop (length B) (length A) old, length-append A B) (sym (append_assoc A B (drop (length A + length B) old)))

pub over_nil : (old : List ℕ) → over [] old ≡ old
unfolding over
over_nil old = refl

-- k bytes A are written, which leaves W, and then B at the start of the rest, which leaves P there
module _ (A B old W : List ℕ) (k : ℕ) (ek : k ≡ length A) (eW : W ≡ over A old) where
  pub two-start : k ≤ length W
  two-start = rw (ek, eW) (over-start A old)

  pub two-room : length (A ++ B) ≤ length old → length B ≤ length (take (length W - k) (drop k W))
  two-room h = rw (ek, eW, over-rest A old) (omega (arith, length-drop (length A) old, length-append A B))

  pub two_put : (P : List ℕ) → P ≡ over B (take (length W - k) (drop k W)) → put_mid k (length W - k) W P ≡ over (A ++ B) old
  two_put P e =
      let e' : P ≡ over B (drop (length A) old) = rw (ek, eW, over-rest A old) at e in
      rw (ek, eW) (over_put A old P ∙ ap (λ l. A ++ l) e' ∙ over-over A old B)

-- ---- a position in the middle

pub lay-start : (bs old : List ℕ) → lay 0 bs old ≡ over bs old
unfolding lay over
lay-start bs old = let z : 0 + length bs ≡ length bs = omega arith in rw z

pub lay_nil : (at : ℕ) (old : List ℕ) → lay at [] old ≡ old
unfolding lay
lay_nil at old = let z : at + 0 ≡ at = omega arith in rw z (take-append-drop at old)

pub lay-length : (at : ℕ) (bs old : List ℕ) → at + length bs ≤ length old → length (lay at bs old) ≡ length old
unfolding lay
lay-length at bs old h =
    length-append (take at old) (bs ++ drop (at + length bs) old)
    ∙ omega (arith, length-append bs (drop (at + length bs) old), length-drop (at + length bs) old, length-take-le at old (omega arith))

-- what is lent from a position to the end
pub rest_all : (at : ℕ) (W : List ℕ) → take (length W - at) (drop at W) ≡ drop at W
rest_all at W = take_all (length W - at) (drop at W) (omega (arith, length-drop at W))

pub lay_put : (at : ℕ) (bs W P : List ℕ) → at ≤ length W → P ≡ over bs (take (length W - at) (drop at W)) → put_mid at (length W - at) W P ≡ lay at bs W
unfolding lay over
lay_put at bs W P h e =
    let p : P ≡ bs ++ drop (at + length bs) W = e ∙ ap (λ l. bs ++ drop (length bs) l) (rest_all at W) ∙ ap (λ l. bs ++ l) (drop-drop (length bs) at W) in
    let q : drop (length W - at) (drop at W) ≡ [] = let g : length (drop at W) ≤ length W - at = omega (arith, length-drop at W) in drop_of_length-le (drop at W) g in
    ap₂ (λ x y. take at W ++ (x ++ y)) p q ∙ ap (λ l. take at W ++ l) (append-nil (bs ++ drop (at + length bs) W))

-- one after the other
pub lay-lay : (at : ℕ) (A B old : List ℕ) → at + length A ≤ length old → lay (at + length A) B (lay at A old) ≡ lay at (A ++ B) old
unfolding lay
lay-lay at A B old h =
    let T = take at old in
    let D = drop (at + length A) old in
    let tl : length T ≡ at = length-take-le at old (omega arith) in
    let front : (T ++ A) ++ D ≡ T ++ (A ++ D) = append_assoc T A D in
    let len : length (T ++ A) ≡ at + length A = length-append T A ∙ ap (λ n. n + length A) tl in
    let s1 : take (at + length A) (T ++ (A ++ D)) ≡ T ++ A = ap (take (at + length A)) (sym front) ∙ take_at (T ++ A) D (at + length A) len in
    let s2 : drop (at + length A) (T ++ (A ++ D)) ≡ D = ap (drop (at + length A)) (sym front) ∙ drop_at (T ++ A) D (at + length A) len in
    let sum : at + length A + length B ≡ at + length (A ++ B) = omega (arith, length-append A B) in
    let s3 : drop (at + length A + length B) (T ++ (A ++ D)) ≡ drop (at + length (A ++ B)) old =
    sym (drop-drop (length B) (at + length A) (T ++ (A ++ D))) ∙ ap (drop (length B)) s2 ∙ drop-drop (length B) (at + length A) old ∙ ap (λ n. drop n old) sum
    in
    ap₂ (λ x y. x ++ (B ++ y)) s1 s3 ∙ append_assoc T A (B ++ drop (at + length (A ++ B)) old) ∙ ap (λ l. T ++ l) (sym (append_assoc A B (drop (at + length (A ++ B)) old)))

-- A is written from a position on by way of the part that is lent from there, and R is still to come
module _ (at k : ℕ) (A R W P : List ℕ) (ek : k ≡ length A) (room : at + length (A ++ R) ≤ length W) where
  pub turn-start : at ≤ length W
  turn-start = omega (arith, length-append A R)

  pub turn-room : length A ≤ length (take (length W - at) (drop at W))
  turn-room = rw (rest_all at W) (omega (arith, length-drop at W, length-append A R))

  pub turn_put : P ≡ over A (take (length W - at) (drop at W)) → put_mid at (length W - at) W P ≡ lay at A W
  turn_put e = lay_put at A W P turn-start e

  pub turn-length : P ≡ over A (take (length W - at) (drop at W)) → length (put_mid at (length W - at) W P) ≡ length W
  turn-length e = ap length (turn_put e) ∙ lay-length at A W (omega (arith, length-append A R))

  pub turn_more : P ≡ over A (take (length W - at) (drop at W)) → at + k + length R ≤ length (put_mid at (length W - at) W P)
  turn_more e = omega (arith, turn-length e, length-append A R)

  pub turn-lay : P ≡ over A (take (length W - at) (drop at W)) → lay at (A ++ R) W ≡ lay (at + k) R (put_mid at (length W - at) W P)
  turn-lay e = sym (ap₂ (λ n l. lay (at + n) R l) ek (turn_put e) ∙ lay-lay at A R W (omega (arith, length-append A R)))

pub two_sum : (A B : List ℕ) (k n : ℕ) → k ≡ length A → n ≡ length B → k + n ≡ length (A ++ B)
two_sum A B k n e f = omega (arith, length-append A B)

-- A at the start and B after it, written from a position on
pub over-lay : (A B old W X : List ℕ) (k : ℕ) → k ≡ length A → W ≡ over A old → X ≡ lay k B W → length A ≤ length old → X ≡ over (A ++ B) old
over-lay A B old W X k ek eW eX h =
    let z : 0 + length A ≡ length A = omega arith in
    eX ∙ ap₂ (λ n l. lay n B l) (ek ∙ sym z) (eW ∙ sym (lay-start A old)) ∙ lay-lay 0 A B old (omega arith) ∙ lay-start (A ++ B) old
