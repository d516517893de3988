-- `pointer::ranks_after` are the ranks after a frame. The loop has made i of them. Assumes nothing.
use mathlib.Core.Path.{◌≡◌, refl, sym, ap, ap₂, ◌∙◌}
use mathlib.Core.Bool.{true, false, not}
use mathlib.Core.List.{List}
use Prim.Native.Nat.{ℕ, zero, suc, ◌≤◌, ◌<◌, ◌+◌}
use native.Mathlib.Omega.{arith}
use lib.Dec.{T, ltb, ltb→lt, nltb→le}
use lib.IntN.{ℤ, pos}
use lib.ListN.{length, get_or, set, replicate, length-set}
use lib.Seq.{get_or-set_same, get_or-set_other}
use mir.Syntax.{w32}
use mir.Val.{SFits}
use mir.ValLaws.{to_z-of_z}
use Rattle.model.specs.Panel.{records}
use Rattle.pointer.specs.Seen.{fate_by}
use Rattle.pointer.specs.Marks.{Sums, age_by}
use Rattle.pointer.specs.Moved.{Idle}
use Rattle.pointer.proofs.Idle.{idle_at}
use Rattle.pointer.proofs.Ranked.{summed}
use borrow.Author.Rules.{rules}
use Rattle.pointer.proofs.ranks_after.Invariants.{aged}
use Rattle.pointer.proofs.ranks_after.Goals.{After-age}
use Rattle.pointer.proofs.ranks_after.Goals as goal

zero-at : (n b : ℕ) → ◌≡◌ {A = ℕ} (get_or (replicate n 0) b 0) 0
zero-at zero b = refl
zero-at (suc n) zero = refl
zero-at (suc n) (suc b) = zero-at n b

found : (c : After-age) → (let a = c.args in let i = c.loop-i.i in c.age.result ≡ aged a.old.now a.new.now a.ranks.now i)
found c =
    let a = c.args in
    let i = c.loop-i.i in
    let was = get_or a.old.now i (pos 0) in
    let is = get_or a.new.now i (pos 0) in
    let f : SFits w32 was = search rules in
    let g : SFits w32 is = search rules in
    c.age.ensures ∙ ap₂ (λ x y. age_by (fate_by x y) (get_or a.ranks.now i 0)) (to_z-of_z w32 was f) (to_z-of_z w32 is g)

-- One rank more.
more-told : (old new : List ℤ) (ranks below l : List ℕ) (i v : ℕ) → i < length l → v ≡ get_or below (aged old new ranks i) 0
    → ((b : ℕ) → b < i → get_or l b 0 ≡ get_or below (aged old new ranks b) 0) → (b : ℕ) → b < i + 1 → get_or (set l i v) b 0 ≡ get_or below (aged old new ranks b) 0
more-told old new ranks below l i v room e H b h =
    (elim (ltb b i) as (λ d. (T d → b < i) → (T (not d) → i ≤ b) → get_or (set l i v) b 0 ≡ get_or below (aged old new ranks b) 0) [
      | true ↦ λ y n. get_or-set_other l i b v 0 (λ q. omega (arith, y tt)) ∙ H b (y tt)
      | false ↦ λ y n.
          let z : b ≡ i = omega (arith, n tt) in
          ap (λ k. get_or (set l i v) k 0) z ∙ get_or-set_same l i v 0 room ∙ e ∙ ap (λ k. get_or below (aged old new ranks k) 0) (sym z)
    ]) (ltb→lt b i) (nltb→le b i)

pub loop-i-init : goal.loop-i-init
loop-i-init c = record { inside = search rules; full = refl; told = λ b h. absurd (omega arith); zeros = λ b h. zero-at records b }

pub loop-i-preserved : goal.loop-i-preserved
loop-i-preserved c =
    let a = c.args in
    let l = c.loop-i in
    let below = c.sums_of-below.result in
    record {
      inside = search rules;
      full = length-set l.l l.i _ ∙ l.invariant.full;
      told = more-told a.old.now a.new.now a.ranks.now below l.l l.i _ (omega (arith, l.invariant.full)) (ap (λ k. get_or below k 0) (found (goal.at.loop-i-preserved c).After-age)) l.invariant.told;
      zeros = λ b h. get_or-set_other l.l l.i b _ 0 (λ q. omega (arith, h, q)) ∙ l.invariant.zeros b (omega (arith, h));
    }

-- Past the slots no contact is live, and the rank is 0.
rank_at : (old new : List ℤ) (ranks below l : List ℕ) (n : ℕ) → {m : ℕ} {flags : List ℕ} → Idle m new → n ≡ m → Sums flags below → ((b : ℕ) → b < n → get_or l b 0 ≡ get_or below (aged old new ranks b) 0)
    → ((b : ℕ) → n ≤ b → get_or l b 0 ≡ 0) → (b : ℕ) → b < records → get_or l b 0 ≡ get_or below (aged old new ranks b) 0
rank_at old new ranks below l n {m} idle e sums told zeros b h =
    (elim (ltb b n) as (λ d. (T d → b < n) → (T (not d) → n ≤ b) → get_or l b 0 ≡ get_or below (aged old new ranks b) 0) [
      | true ↦ λ y k. told b (y tt)
      | false ↦ λ y k.
          let none = ap (λ v. age_by (fate_by (get_or old b (pos 0)) v) (get_or ranks b 0)) (idle_at m new idle b (omega (arith, k tt, e)) h) in
          zeros b (k tt) ∙ sym (ap (λ a. get_or below a 0) none ∙ sums.first)
    ]) (ltb→lt b n) (nltb→le b n)

pub returns : goal.returns
returns c =
    let s = c in
    let a = s.args in
    let l = c.loop-i in
    let sums = c in
    let m = sums.marks_of-m.result in
    let em : length m ≡ records = search rules in
    summed a.old.now a.new.now a.ranks.now m sums.sums_of-below.result l.l s.requires.0 s.requires.1 em sums.marks_of-m.ensures sums.sums_of-below.ensures l.invariant.full
    (λ i h. rank_at a.old.now a.new.now a.ranks.now sums.sums_of-below.result l.l l.i s.requires.2 (omega (arith, l.invariant.inside, c.loop-i-test.false)) sums.sums_of-below.ensures l.invariant.told l.invariant.zeros i h)
