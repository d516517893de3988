-- A block that is built from 512 zeros: what is stored step by step is the model's block. Cited by the proof of `build`. Assumes nothing.
use mathlib.Core.Path.{◌≡◌, sym, ap, ap₂, ◌∙◌}
use mathlib.Core.List.{List, [], ◌++◌, append_assoc, append-nil}
use Prim.Native.Nat.{ℕ, zero, suc, ◌+◌, ◌-◌, ◌/◌, ◌%◌, ◌≤◌}
use native.Mathlib.Nat.{zero-add, suc-add}
use native.Mathlib.Omega.{arith}
use lib.ListN.{length, take, drop, set, replicate, replicate-append-replicate, length-append, length-replicate}
use lib.Seq.{take_at, drop-append-add}
use borrow.Rule.Slice.PartMut.{put_mid}
use Rattle.model.specs.Records.{low_bytes, lay}
use Rattle.model.specs.Recorder.{block_length, header_length, check_place, full_run, weighed, check_of, header, unchecked, block_of}
use Rattle.model.proofs.Blocks.{unchecked-length}
use Rattle.records.specs.Seen.{over}
use Rattle.records.proofs.Over.{lay_put}

-- A part of a block that was lent and written at its start.
pub part_put : (at k : ℕ) (bs W P : List ℕ) → length W ≡ at + k → P ≡ over bs (take k (drop at W)) → put_mid at k W P ≡ lay at bs W
part_put at k bs W P h e =
    let z : length W - at ≡ k = omega arith in
    let e' : P ≡ over bs (take (length W - at) (drop at W)) = rw z e in
    ap (λ n. put_mid at n W P) (sym z) ∙ lay_put at bs W P (omega arith) e'

-- Zeros, as the code lays them.
abbrev zeroed : ℕ → List ℕ
zeroed n = replicate n 0

drop-zeros : (k m : ℕ) → drop k (zeroed (k + m)) ≡ zeroed m
drop-zeros zero m = ap zeroed (zero-add m)
drop-zeros (suc k) m = ap (λ n. drop (suc k) (zeroed n)) (suc-add k m) ∙ drop-zeros k m

module _ (n : ℕ) (es : List ℕ) (few : length es ≤ full_run) where
  abbrev head : List ℕ
  head = header n (length es / 8)

  abbrev padding : List ℕ
  padding = zeroed (check_place - header_length - length es)

  -- The number and the count are stored.
  headed : set (over (low_bytes 4 n) (zeroed block_length)) 4 (length es / 8) ≡ head ++ zeroed 504
  unfolding over
  headed =
      let low : length es / 8 % 256 ≡ length es / 8 = omega arith in
      let high : length es / 8 / 256 % 256 ≡ 0 = omega arith in
      rw (low, high)

  -- Then the events.
  filled : lay header_length es (head ++ zeroed 504) ≡ unchecked n es ++ zeroed 4
  unfolding lay
  filled =
      let z : length es + (504 - length es) ≡ 504 = omega arith in
      let p : check_place - header_length - length es + 4 ≡ 504 - length es = omega arith in
      let behind : drop (header_length + length es) (head ++ zeroed 504) ≡ padding ++ zeroed 4 =
      drop-append-add head (zeroed 504) (length es) ∙ ap (λ k. drop (length es) (zeroed k)) (sym z) ∙ drop-zeros (length es) (504 - length es)
      ∙ sym (replicate-append-replicate {A = ℕ} (check_place - header_length - length es) 4 0 ∙ ap zeroed p) in
      ap (λ l. head ++ (es ++ l)) behind ∙ ap (λ l. head ++ l) (sym (append_assoc es padding (zeroed 4)))
      ∙ sym (append_assoc head (es ++ padding) (zeroed 4))

  -- Then the check.
  closed : (B : List ℕ) → B ≡ unchecked n es ++ zeroed 4 → lay check_place (low_bytes 4 (check_of B)) B ≡ block_of n es
  unfolding lay block_of
  closed B e =
      let u = unchecked n es in
      let front : take check_place B ≡ u = ap (take check_place) e ∙ take_at u (zeroed 4) check_place (unchecked-length n es few) in
      let l = unchecked-length n es few in
      let back : drop (check_place + 4) B ≡ [] =
      ap (drop (check_place + 4)) e ∙ ap (λ k. drop (k + 4) (u ++ zeroed 4)) (sym l) ∙ drop-append-add u (zeroed 4) 4 in
      ap₂ (λ x y. x ++ (low_bytes 4 (weighed 1 x) ++ y)) front back ∙ ap (λ y. u ++ y) (append-nil (low_bytes 4 (weighed 1 u)))

  -- All three, as the parts of a block are lent and come back.
  module _ (A : List ℕ) (a : A ≡ over (low_bytes 4 n) (zeroed block_length)) where
    abbrev H : List ℕ
    H = set A 4 (length es / 8)

    head_is : H ≡ head ++ zeroed 504
    head_is = ap (λ l. set l 4 (length es / 8)) a ∙ headed

    pub head_length : length H ≡ block_length
    head_length = ap length head_is ∙ omega (arith, length-replicate {A = ℕ} 504 0)

    module _ (P : List ℕ) (p : P ≡ over es (take 504 (drop header_length H))) where
      abbrev B : List ℕ
      B = put_mid header_length 504 H P

      body_is : B ≡ unchecked n es ++ zeroed 4
      body_is = part_put header_length 504 es H P head_length p ∙ ap (lay header_length es) head_is ∙ filled

      pub body-length : length B ≡ block_length
      body-length = ap length body_is ∙ length-append (unchecked n es) (zeroed 4) ∙ omega (arith, unchecked-length n es few)

      pub built : (sum : ℕ) (Q : List ℕ) → sum ≡ check_of B → Q ≡ over (low_bytes 4 sum) (take 4 (drop check_place B)) → put_mid check_place 4 B Q ≡ block_of n es
      built sum Q s q =
          part_put check_place 4 (low_bytes 4 sum) B Q body-length q ∙ ap (λ k. lay check_place (low_bytes 4 k) B) s ∙ closed B body_is
