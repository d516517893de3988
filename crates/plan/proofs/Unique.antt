-- The plan's promises leave no choice: each law is of the contract itself. The table is seen, and what is seen of a table and held again is the table; what changed is told of it. Assumes nothing.
use mathlib.Core.Path.{◌≡◌, sym, ap, ◌∙◌}
use mathlib.Core.Bool.{Bool, true, false, false≢true}
use mathlib.Core.List.{List}
use Prim.Native.Nat.{ℕ, ◌<◌}
use native.Mathlib.Omega.{arith}
use lib.IntN.{ℤ}
use Rattle.model.specs.Unique.{OneAnswer}
use Rattle.model.specs.Panel.{per_slot}
use Rattle.model.specs.Frame as F
use Rattle.model.specs.Frame.{values_good}
use Rattle.model.specs.Sending.{changed_mask, changed_numbers}
use Rattle.panel.specs.declared.Slot.{Slot}
use Rattle.panel.specs.Seen.{table_of, table_from, panel_seen}
use Rattle.panel.proofs.Back.{table_back}
use Rattle.plan.specs.declared.Planned.{Planned}
use Rattle.plan.specs.Quiet.{NextLoud}
use Rattle.plan.specs.Walk.{PlansBy}
use Rattle.plan.proofs.first_loud.Reads as first-loud
use Rattle.plan.proofs.plan_frame.Reads as plan-frame

-- One next loud row is not before another.
not-before : (from n : ℕ) (t : List Slot) (frame : List ℤ) (r q : ℕ) → NextLoud from n t frame r → NextLoud from n t frame q → r < q → ⊥
not-before from n t frame r q e g l = false≢true (sym (e.loud (omega (arith, l, g.inside))) ∙ (g.quiet r e.after l).is)

pub next_one : (from n : ℕ) (t : List Slot) (frame : List ℤ) (r q : ℕ) → NextLoud from n t frame r → NextLoud from n t frame q → r ≡ q
next_one from n t frame r q e g = omega (arith, not-before from n t frame r q e g, not-before from n t frame q r g e)

pub first-loud_one : OneAnswer first-loud.Learnt
first-loud_one κs a r q s t e g = next_one _ _ _ _ r q e g

plans_one : (v : Bool) (n : ℕ) (old : List Slot) (k : ℕ) (p : F.Planned) (r q : Planned) → PlansBy v n old k p r → PlansBy v n old k p q → r ≡ q
plans_one true n old k p r q e g =
    let same = e.plan ∙ sym g.plan in
    let seen = ap (λ (x : F.Planned). x.table) same in
    let table = sym (table_back r.table) ∙ ap table_from seen ∙ table_back q.table in
    let counter = ap (λ (x : F.Planned). x.counter) same in
    let slots = e.tells.slots ∙ ap (changed_mask (table_of old)) seen ∙ sym g.tells.slots in
    let numbers = e.tells.numbers ∙ ap (changed_numbers (table_of old)) seen ∙ sym g.tells.numbers in
    let good = e.good ∙ sym g.good in
    λ i. record { table = table i; counter = counter i; changes = record { slots = slots i; numbers = numbers i }; good = good i }
plans_one false n old k p r q e g = e ∙ sym g

-- Whether a plan is good is the verdict that it was made by.
pub verdict_of : (v : Bool) (n : ℕ) (old : List Slot) (k : ℕ) (p : F.Planned) (r : Planned) → PlansBy v n old k p r → r.good ≡ v
verdict_of true n old k p r e = e.good
verdict_of false n old k p r e = ap (λ (x : Planned). x.good) e

pub plan-frame_one : OneAnswer plan-frame.Learnt
plan-frame_one κs a r q s t e g =
    let u = a.0 in
    let old = a.1.0 in
    let k = a.1.1.0 in
    let frame = a.1.1.1.0.now in
    plans_one (values_good (panel_seen u) frame) u.n old k (F.framed k (F.rows_from per_slot u.n frame 0) (table_of old)) r q e g
