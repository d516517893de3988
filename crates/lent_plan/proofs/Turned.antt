-- One slot more of a walk, where the slot was read out of its table before. Cited by the proofs of the two walks. Assumes nothing.
use mathlib.Core.Path.{◌≡◌, sym, ap, subst, ◌∙◌}
use mathlib.Core.Bool.{true, false}
use mathlib.Core.List.{List}
use Prim.Native.Nat.{ℕ, ◌+◌, ◌*◌, ◌<◌, ◌≤◌}
use native.Mathlib.Omega.{arith}
use lib.IntN.{ℤ, pos}
use lib.ListN.{length, get_or, set}
use lib.Seq.{set-get_or}
use Rattle.model.specs.Panel.{per_slot, records}
use Rattle.model.specs.Numbers.{eq_z}
use Rattle.model.specs.Table.{numbers_of, good_slot}
use Rattle.model.specs.Frame.{fate, free_id, slot_after, taken_after, counter_after}
use Rattle.model.specs.Sending.{changed_in}
use Rattle.model.proofs.Count.{one_unless_le}
use Rattle.model.proofs.Tries.{Same}
use Rattle.panel.specs.declared.Slot.{Slot}
use Rattle.panel.specs.declared.Setup.{Setup}
use Rattle.panel.specs.Seen.{slot_of, fields_of, blank}
use Rattle.panel.proofs.Setups.{small}
use Rattle.tally.specs.declared.Changed.{Changed}
use Rattle.tally.specs.Told.{with_slot, Tells}
use Rattle.tally.proofs.Told.{told-on, told-set}
use Rattle.plan.specs.Row.{begun}
use Rattle.plan.specs.Quiet.{quiet_row, Of32}
use Rattle.plan.specs.Walk.{Given, plan_from}
use Rattle.plan.proofs.Still.{Stays, still, slot-good, same-slot}
use Rattle.plan.proofs.Turn as Turn

-- Slot s is next, and was read: from it on the table t is still the old one.
pub record Next (u : Setup) (old t : List Slot) (k : ℕ) (frame : List ℤ) (s : ℕ) (c : Changed) (was : Slot) : Type 0 where
  pub given : Given u old k frame
  pub old_long : length old ≡ records
  pub long : length t ≡ records
  pub below : s < u.n
  pub tells : Tells s old t c
  pub is : was ≡ get_or t s blank

-- Slot s becomes w, where `taken` are the ids taken and k is the counter.
abbrev pub Becomes : List ℤ → ℕ → List ℤ → ℕ → Slot → Slot → Type 0
Becomes frame s taken k was w = slot_of w ≡ slot_after (fate (Turn.kind frame s) was.id.0) (free_id taken k) (slot_of was) (numbers_of (Turn.row frame s))

-- A slot has six numbers.
few-changed : (a b : Slot) → changed_in (slot_of a) (slot_of b) ≤ per_slot
few-changed a b =
    omega (arith, one_unless_le (eq_z a.id.0 b.id.0), one_unless_le (eq_z (pos a.x) (pos b.x)), one_unless_le (eq_z (pos a.y) (pos b.y)), one_unless_le (eq_z (pos a.pressure) (pos b.pressure)), one_unless_le (eq_z (pos a.major) (pos b.major)), one_unless_le (eq_z (pos a.minor) (pos b.minor)))

module _ {u : Setup} {old t : List Slot} {k : ℕ} {frame : List ℤ} {s : ℕ} {c : Changed} {was : Slot} (a : Next u old t k frame s c was) where
  few : u.n ≤ records
  few = (small u a.given.setup).n

  inside : s < length t
  inside = omega (arith, a.below, a.long, few)

  in_old : s < length old
  in_old = omega (arith, a.below, a.old_long, few)

  -- The slot is good, since the old table's is.
  pub was_good : good_slot (fields_of u) (slot_of was) ≡ true
  was_good =
      let same = ap slot_of a.is ∙ sym (same-slot old t s in_old inside a.tells.rest) in
      ap (good_slot (fields_of u)) same ∙ slot-good u old s a.below in_old a.given.slots

  -- Its row leaves it as it is.
  pub rests : Of32 (Turn.row frame s) → quiet_row was (Turn.row frame s) ≡ true → Stays u was (Turn.row frame s)
  rests fits q = still u was was_good a.given.setup frame (per_slot * s) fits q

  -- It stays, or becomes w in the table l: what is told then.
  pub tells-on : Tells (s + 1) old t c
  tells-on = told-on old t s in_old inside c a.tells

  pub tells-set : (w : Slot) (l : List Slot) → l ≡ set t s w → (r : Changed) → r ≡ with_slot c s (changed_in (slot_of was) (slot_of w)) → Tells (s + 1) old l r
  tells-set w l el r er =
      let told = told-set old t s in_old inside c a.tells w (changed_in (slot_of was) (slot_of w)) (few-changed was w) (ap (λ x. changed_in (slot_of x) (slot_of w)) a.is) in
      subst (λ x. Tells (s + 1) old x r) (sym el) (subst (λ x. Tells (s + 1) old (set t s w) x) (sym er) told)

  -- What is left to plan then: the ids taken are `more` and the counter is m.
  pub plan-on : (taken : List ℤ) (j : ℕ) (w : Slot) (more : List ℤ) (m : ℕ)
      → (let f = fate (Turn.kind frame s) was.id.0 in
      Becomes frame s taken j was w → Same (taken_after f (free_id taken j) taken) more → counter_after f (free_id taken j) j ≡ m
      → plan_from taken j u.n frame t s ≡ plan_from more m u.n frame (set t s w) (s + 1))
  plan-on taken j w more m =
      subst
      (λ x. Becomes frame s taken j x w → Same (taken_after (fate (Turn.kind frame s) x.id.0) (free_id taken j) taken) more → counter_after (fate (Turn.kind frame s) x.id.0) (free_id taken j) j ≡ m
      → plan_from taken j u.n frame t s ≡ plan_from more m u.n frame (set t s w) (s + 1))
      (sym a.is)
      (Turn.row_turn frame s u.n a.below taken j t inside w more m)

  -- Where no contact begins they stay.
  pub plan_steady : (taken : List ℤ) (j : ℕ) (w : Slot) → Becomes frame s taken j was w → begun (fate (Turn.kind frame s) was.id.0) ≡ false
      → plan_from taken j u.n frame t s ≡ plan_from taken j u.n frame (set t s w) (s + 1)
  plan_steady taken j w =
      subst
      (λ x. Becomes frame s taken j x w → begun (fate (Turn.kind frame s) x.id.0) ≡ false → plan_from taken j u.n frame t s ≡ plan_from taken j u.n frame (set t s w) (s + 1))
      (sym a.is)
      (Turn.steady_turn frame s u.n a.below taken j t inside w)

  -- So they do where the row leaves the slot as it is.
  pub plan_rests : (taken : List ℤ) (j : ℕ) → Stays u was (Turn.row frame s) → plan_from taken j u.n frame t s ≡ plan_from taken j u.n frame t (s + 1)
  plan_rests taken j r =
      let same = ap (λ x. set t s x) a.is ∙ set-get_or t s blank in
      plan_steady taken j was (r.slot (free_id taken j)) r.goes ∙ ap (λ l. plan_from taken j u.n frame l (s + 1)) same
