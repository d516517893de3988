-- Rows that are passed over leave what is to be judged and planned as it is. Cited by the proof of `plan_frame` and by the writer. Assumes nothing.
use mathlib.Core.Path.{◌≡◌, refl, ap, subst, ◌∙◌}
use mathlib.Core.List.{List}
use Prim.Native.Nat.{ℕ, zero, suc, ◌+◌, ◌*◌, ◌<◌, ◌≤◌}
use native.Mathlib.Omega.{arith}
use lib.IntN.{ℤ}
use lib.ListN.{length, get_or}
use lib.Seq.{set-get_or}
use Rattle.model.specs.Panel.{per_slot, records}
use Rattle.model.specs.Table.{ids}
use Rattle.model.specs.Frame.{free_id}
use Rattle.common.proofs.Signs.{first-true}
use Rattle.panel.specs.declared.Slot.{Slot}
use Rattle.panel.specs.declared.Setup.{Setup}
use Rattle.panel.specs.Seen.{table_of, blank}
use Rattle.panel.proofs.Setups.{small}
use Rattle.tally.specs.Told.{unchanged, Tells}
use Rattle.tally.proofs.Told.{none_told, told-on}
use Rattle.plan.specs.Quiet.{QuietAt}
use Rattle.plan.specs.Walk.{Given, rows_good, plan_from}
use Rattle.plan.proofs.Still.{still, slot-good}
use Rattle.plan.proofs.Turn as Turn

module _ (u : Setup) (old : List Slot) (k : ℕ) (frame : List ℤ) (g : Given u old k frame) (lo : length old ≡ records) where
  -- The rows before slot s are good, and leave the table as it is.
  pub record Skipped (s : ℕ) : Type 0 where
    pub good : rows_good u frame 0 ≡ rows_good u frame s
    pub whole : plan_from (ids (table_of old)) k u.n frame old 0 ≡ plan_from (ids (table_of old)) k u.n frame old s
    pub tells : Tells s old old unchanged

  one_more : (s : ℕ) → s < u.n → QuietAt frame old s → Skipped s → Skipped (s + 1)
  one_more s b q p =
      let taken = ids (table_of old) in
      let h : s < length old = omega (arith, b, lo, (small u g.setup).n) in
      let was = get_or old s blank in
      let rests = still u was (slot-good u old s b h g.slots) g.setup frame (per_slot * s) q.fits q.is in
      record {
        good = p.good ∙ Turn.good_turn frame s u.n b u ∙ first-true _ _ rests.good;
        whole = p.whole ∙ Turn.steady_turn frame s u.n b taken k old h was (rests.slot (free_id taken k)) rests.goes ∙ ap (λ t. plan_from taken k u.n frame t (s + 1)) (set-get_or old s blank);
        tells = told-on old old s h h unchanged p.tells;
      }

  pub skipped : (s : ℕ) → s ≤ u.n → ((i : ℕ) → i < s → QuietAt frame old i) → Skipped s
  skipped zero l q = record { good = refl; whole = refl; tells = none_told old }
  skipped (suc s) l q =
      let one : s + 1 ≡ suc s = omega arith in
      subst Skipped one (one_more s (omega arith) (q s (omega arith)) (skipped s (omega arith) (λ i h. q i (omega arith))))
