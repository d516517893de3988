-- `pointer::sums_of` counts the flags below each number. The loop has summed up j flags. Assumes nothing.
use mathlib.Core.Path.{◌≡◌, sym, ap, ◌∙◌}
use mathlib.Core.Bool.{Bool, true, false, not}
use mathlib.Core.List.{List}
use Prim.Native.Nat.{ℕ, suc, ◌≤◌, ◌<◌, ◌+◌}
use native.Mathlib.Omega.{arith}
use lib.Dec.{T, eqb, ltb, ltb→lt, nltb→le}
use lib.ListN.{length, get_or, set, length-set}
use lib.Seq.{get_or-set_same, get_or-set_other}
use Rattle.model.specs.Ranks.{one_more_if}
use borrow.Author.Rules.{rules}
use Rattle.pointer.proofs.sums_of.Goals as goal

one-higher : (b : Bool) (n v j : ℕ) → v ≡ one_more_if b n → n ≤ j → v ≤ j + 1
one-higher true n v j e h = omega (arith, e)
one-higher false n v j e h = omega (arith, e)

more_by : (s : List ℕ) (v j : ℕ) (m : List ℕ) (b : ℕ) → ((b : ℕ) → b < j → get_or s (suc b) 0 ≡ one_more_if (eqb (get_or m b 0) 1) (get_or s b 0)) → b < j + 1
    → j + 1 < length s → v ≡ one_more_if (eqb (get_or m j 0) 1) (get_or s j 0)
    → get_or (set s (j + 1) v) (suc b) 0 ≡ one_more_if (eqb (get_or m b 0) 1) (get_or (set s (j + 1) v) b 0)
more_by s v j m b H h room e =
    let old : get_or (set s (j + 1) v) b 0 ≡ get_or s b 0 = get_or-set_other s (j + 1) b v 0 (λ q. omega arith) in
    (elim (ltb b j) as (λ d. (T d → b < j) → (T (not d) → j ≤ b) → get_or (set s (j + 1) v) (suc b) 0 ≡ one_more_if (eqb (get_or m b 0) 1) (get_or (set s (j + 1) v) b 0)) [
      | true ↦ λ y n. get_or-set_other s (j + 1) (suc b) v 0 (λ q. omega (arith, y tt)) ∙ H b (y tt) ∙ ap (one_more_if (eqb (get_or m b 0) 1)) (sym old)
      | false ↦ λ y n.
          let z : b ≡ j = omega (arith, n tt) in
          let up : suc b ≡ j + 1 = omega (arith, n tt) in
          ap (λ k. get_or (set s (j + 1) v) k 0) up ∙ get_or-set_same s (j + 1) v 0 room ∙ e ∙ ap (λ k. one_more_if (eqb (get_or m k 0) 1) (get_or s k 0)) (sym z) ∙ ap (one_more_if (eqb (get_or m b 0) 1)) (sym old)
    ]) (ltb→lt b j) (nltb→le b j)

pub loop-j-preserved : goal.loop-j-preserved
loop-j-preserved c =
    let l = c.loop-j in
    let m = c.args.m.now in
    let j = l.j in
    let v = c.one_more.result in
    let s = l.s in
    let i = l.invariant in
    let room : j + 1 < length s = omega (arith, i.full) in
    let here : get_or (set s (j + 1) v) (j + 1) 0 ≡ v = get_or-set_same s (j + 1) v 0 room in
    let low : v ≤ j + 1 = one-higher (eqb (get_or m j 0) 1) (get_or s j 0) v j c.one_more.ensures i.small in
    record {
      inside = search rules;
      full = length-set s (j + 1) v ∙ i.full;
      small = omega (arith, here, low);
      first = get_or-set_other s (j + 1) 0 v 0 (λ e. omega arith) ∙ i.first;
      more = λ b h. more_by s v j m b i.more h room c.one_more.ensures;
    }

pub returns : goal.returns
returns c =
    let l = c.loop-j in
    record { first = l.invariant.first; more = λ b h. l.invariant.more b (omega arith) }
