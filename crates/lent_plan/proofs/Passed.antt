-- Rows that are passed over, from a slot on up to the next loud one: they are good, and plan and change nothing. Cited by the proofs of the two walks. Assumes nothing.
use mathlib.Core.Path.{◌≡◌, refl, subst, ◌∙◌}
use mathlib.Core.List.{List}
use Prim.Native.Nat.{ℕ, zero, suc, ◌+◌, ◌-◌, ◌<◌, ◌≤◌}
use native.Mathlib.Omega.{arith}
use lib.IntN.{ℤ}
use lib.ListN.{length, get_or}
use Rattle.model.specs.Panel.{records}
use Rattle.common.proofs.Signs.{first-true}
use Rattle.panel.specs.declared.Slot.{Slot}
use Rattle.panel.specs.declared.Setup.{Setup}
use Rattle.panel.specs.Seen.{blank}
use Rattle.tally.specs.declared.Changed.{Changed}
use Rattle.tally.specs.Told.{Tells}
use Rattle.plan.specs.Quiet.{QuietAt, NextLoud}
use Rattle.plan.specs.Walk.{Given, rows_good, plan_from}
use Rattle.plan.proofs.Turn as Turn
use Rattle.lent_plan.proofs.Turned.{Next, rests, tells-on, plan_rests}

module _ (u : Setup) (old t : List Slot) (k : ℕ) (frame : List ℤ) (c : Changed) (g : Given u old k frame) (lo : length old ≡ records) (lt : length t ≡ records) (taken : List ℤ) (j from : ℕ) where
  -- The rows from `from` to s leave what is to be judged, planned and told as it is.
  pub record Passed (s : ℕ) : Type 0 where
    pub good : rows_good u frame from ≡ rows_good u frame s
    pub whole : plan_from taken j u.n frame t from ≡ plan_from taken j u.n frame t s
    pub tells : Tells s old t c

  one_more : (s : ℕ) → s < u.n → QuietAt frame t s → Passed s → Passed (s + 1)
  one_more s b q p =
      let a : Next u old t k frame s c (get_or t s blank) = record { given = g; old_long = lo; long = lt; below = b; tells = p.tells; is = refl } in
      let same = rests a q.fits q.is in
      record {
        good = p.good ∙ Turn.good_turn frame s u.n b u ∙ first-true _ _ same.good;
        whole = p.whole ∙ plan_rests a taken j same;
        tells = tells-on a;
      }

  several : (d : ℕ) → from + d ≤ u.n → ((i : ℕ) → from ≤ i → i < from + d → QuietAt frame t i) → Tells from old t c → Passed (from + d)
  several zero l q h =
      let z : from ≡ from + 0 = omega arith in
      subst Passed z (record { good = refl; whole = refl; tells = h })
  several (suc d) l q h =
      let z : from + d + 1 ≡ from + suc d = omega arith in
      subst Passed z (one_more (from + d) (omega arith) (q (from + d) (omega arith) (omega arith)) (several d (omega arith) (λ i f x. q i f (omega arith)) h))

  pub passed : (r : ℕ) → NextLoud from u.n t frame r → Tells from old t c → Passed r
  passed r x h =
      let z : from + (r - from) ≡ r = omega (arith, x.after) in
      subst Passed z (several (r - from) (omega (arith, x.after, x.inside)) (λ i f y. x.quiet i f (omega (arith, y, x.after))) h)
