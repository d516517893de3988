-- The promise of `plan_frame` leaves no choice in its answer, nor in the table where the frame's values are good. Where one is bad the table is the caller's to throw away, and nothing is promised of it. Assumes nothing.
use mathlib.Core.Path.{◌≡◌, sym, ap, subst, ◌∙◌}
use mathlib.Core.Bool.{Bool, true, false}
use mathlib.Core.List.{List}
use Prim.Native.Nat.{ℕ}
use Rattle.model.specs.Unique.{OneAnswer}
use Rattle.model.specs.Panel.{per_slot}
use Rattle.model.specs.Frame as F
use Rattle.model.specs.Frame.{values_good}
use Rattle.model.specs.Sending.{changed_mask, changed_numbers}
use Rattle.panel.specs.declared.Slot.{Slot}
use Rattle.panel.specs.Seen.{table_of, table_from, panel_seen}
use Rattle.panel.proofs.Back.{table_back}
use Rattle.lent.specs.Lent.{table_in}
use Rattle.lent_plan.specs.declared.Plan.{Plan}
use Rattle.lent_plan.specs.InPlace.{PlansIn}
use Rattle.lent_plan.proofs.plan_frame.Reads as plan-frame

module _ (n : ℕ) (old : List Slot) (k : ℕ) (p : F.Planned) (r q : Plan) (a b : List Slot) where
  seen_one : PlansIn true n old k p r a → PlansIn true n old k p q b → table_of a ≡ table_of b
  seen_one e g = ap (λ (x : F.Planned). x.table) (e.plan ∙ sym g.plan)

  table_one : PlansIn true n old k p r a → PlansIn true n old k p q b → a ≡ b
  table_one e g = sym (table_back a) ∙ ap table_from (seen_one e g) ∙ table_back b

  answer_one : (v : Bool) → PlansIn v n old k p r a → PlansIn v n old k p q b → r ≡ q
  answer_one true e g =
      let seen = seen_one e g in
      let counter = ap (λ (x : F.Planned). x.counter) (e.plan ∙ sym g.plan) in
      let slots = e.tells.slots ∙ ap (changed_mask (table_of old)) seen ∙ sym g.tells.slots in
      let numbers = e.tells.numbers ∙ ap (changed_numbers (table_of old)) seen ∙ sym g.tells.numbers in
      let good = e.good ∙ sym g.good in
      λ i. record { counter = counter i; changes = record { slots = slots i; numbers = numbers i }; good = good i }
  answer_one false e g = e ∙ sym g

-- Whether a plan is good is the verdict that it was made by.
pub verdict_of : (v : Bool) (n : ℕ) (old : List Slot) (k : ℕ) (p : F.Planned) (r : Plan) (t : List Slot) → PlansIn v n old k p r t → r.good ≡ v
verdict_of true n old k p r t e = e.good
verdict_of false n old k p r t e = ap (λ (x : Plan). x.good) e

pub plan-frame_one : OneAnswer plan-frame.Learnt
plan-frame_one κs a r q s t e g =
    let u = a.0 in
    let k = a.1.0 in
    let frame = a.1.1.0.now in
    let old = table_in a.1.1.1.1.0.now in
    answer_one u.n old k (F.framed k (F.rows_from per_slot u.n frame 0) (table_of old)) r q (table_in s.1.1.1.1.1.0.now) (table_in t.1.1.1.1.1.0.now) (values_good (panel_seen u) frame) e g

-- The table in place, where the answer says that the values are good.
pub plan-frame-left : (κs : _) (a : _) (r q : Plan) (s t : _) → plan-frame.Learnt κs a r s → plan-frame.Learnt κs a q t → r.good ≡ true → table_in s.1.1.1.1.1.0.now ≡ table_in t.1.1.1.1.1.0.now
plan-frame-left κs a r q s t e g good =
    let u = a.0 in
    let k = a.1.0 in
    let frame = a.1.1.0.now in
    let old = table_in a.1.1.1.1.0.now in
    let p = F.framed k (F.rows_from per_slot u.n frame 0) (table_of old) in
    let new = table_in s.1.1.1.1.1.0.now in
    let other = table_in t.1.1.1.1.1.0.now in
    let v = values_good (panel_seen u) frame in
    let is : v ≡ true = sym (verdict_of v u.n old k p r new e) ∙ good in
    table_one u.n old k p r q new other (subst (λ x. PlansIn x u.n old k p r new) is e) (subst (λ x. PlansIn x u.n old k p q other) is g)
