-- Of any answer of a write, accepted or refused: its changed-slot number is that of the tables before and after, and its events and the bytes that
-- it needs are no more than document 01 says. Cited by link. Assumes nothing.
use mathlib.Core.Path.{◌≡◌, refl, sym, ap, ◌∙◌}
use mathlib.Core.Bool.{◌&&◌, cond}
use mathlib.Core.List.{List}
use Prim.Native.Nat.{ℕ, ◌*◌, ◌≤◌}
use native.Mathlib.Omega.{arith}
use lib.Dec.{T, eqb, eqb→eq}
use lib.IntN.{ℤ}
use Rattle.model.proofs.Bools.{both_left, both_right}
use Rattle.model.proofs.Calls.{by_verdict, write_accepted, frame_limit}
use Rattle.model.proofs.Ones.{mask_self}
use Rattle.model.proofs.Exact.{write_has, write_exact}
use Rattle.model.specs.Panel.{Layout, panel_of, good_layout}
use Rattle.model.specs.Frame.{sized, values_good}
use Rattle.model.specs.Sending.{changed_mask}
use Rattle.model.specs.States.{WriterState, writer_good}
use Rattle.model.specs.Calls.{verdict_number, is_accepted, need_of, most_events, write_verdict, Written, write_call}

module _ (l : Layout) (s : WriterState) (f : List ℤ) (at size : ℕ) where
  -- The changed-slot number is of the table that came in and the table that is answered.
  pub changed-is : (write_call l s f at size).changed ≡ changed_mask s.writer.table (write_call l s f at size).state.writer.table
  unfolding write_call
  changed-is =
      by_verdict (λ (a : Written). a.changed ≡ changed_mask s.writer.table a.state.writer.table) (is_accepted (write_verdict l s f at size)) _ _
      (λ _. refl)
      (sym (mask_self s.writer.table))

  -- With NO ROOM the state and the frame were good.
  without_room : T (eqb (verdict_number (write_verdict l s f at size)) 5) → T (writer_good l s) × T (values_good (panel_of l s.setup) f)
  without_room t =
      let g = writer_good l s in
      let z = sized (panel_of l s.setup) f in
      let v = values_good (panel_of l s.setup) f in
      let n = ap verdict_number (write_has l s f at size) ∙ eqb→eq (verdict_number (write_verdict l s f at size)) 5 t in
      let before = both_left (g && z && v) _ ((write_exact l s f at size).1.1.1.0.0 n) in
      (both_left g z (both_left (g && z) v before), both_right (g && z) v before)

  need_limit : T (good_layout l) → cond (eqb (verdict_number (write_verdict l s f at size)) 5) (need_of (panel_of l s.setup) s.writer f) 0 ≤ 8 * most_events l
  need_limit g =
      by_verdict (λ n. n ≤ 8 * most_events l) (eqb (verdict_number (write_verdict l s f at size)) 5) (need_of (panel_of l s.setup) s.writer f) 0
      (λ t. let h = without_room t in omega (arith, frame_limit l s f g h.0 h.1))
      (omega arith)

  -- No answer has more than `most_events` events, or needs more than eight times as many bytes.
  pub limits : T (good_layout l) → ((write_call l s f at size).count ≤ most_events l) × ((write_call l s f at size).need ≤ 8 * most_events l)
  unfolding write_call
  limits g =
      by_verdict (λ (a : Written). (a.count ≤ most_events l) × (a.need ≤ 8 * most_events l)) (is_accepted (write_verdict l s f at size)) _ _
      (λ h. let a = write_accepted l s f at size h in (frame_limit l s f g a.good a.values, omega arith))
      (omega arith, need_limit g)
