-- What `fresh` and `write` answer, in the demands' words: refusals hand back, states stay well formed, live ids differ. Read back and fewest events stand
-- in the crate link. Assumes nothing.
use mathlib.Core.Path.{◌≡◌, sym, ap, ap₂, ◌∙◌, subst}
use mathlib.Core.Bool.{Bool, true, false, not}
use mathlib.Core.List.{List}
use Prim.Native.Nat.{ℕ}
use lib.Dec.{T}
use lib.IntN.{ℤ, pos}
use lib.ListN.{length}
use Rattle.model.specs.Numbers.{between_z}
use Rattle.model.specs.Panel.{base}
use Rattle.model.specs.Table.{Table, ids_differ}
use Rattle.model.specs.States as M
use Rattle.model.specs.States.{fresh_writer}
use Rattle.model.specs.Calls.{Verdict, is_accepted, fresh_verdict}
use Rattle.model.specs.Pointing.{Pointing, zero_pointing, good_pointing, PointerState, pointer_good, fresh_pointer_call}
use Rattle.model.specs.Pointing.{pointer_need, pointer_verdict, PointerWritten, pointer_refused, pointer_call, pointer_buffer}
use Rattle.model.proofs.Bools.{both_left, both_right}
use Rattle.model.proofs.Tables.{good-records}
use Rattle.model.proofs.Calls.{by_verdict, accepted-is, writer-state}
use Rattle.model.proofs.Pointing.{on_facts, off_only, pointer_facts}
use Rattle.model.proofs.PointerCalls.{fresh_call_good, accepted-good, pointer-refused, pointer_steady, pointer_left}
use Rattle.model.proofs.Instances.{base-good}
use Rattle.panel.specs.declared.Setup.{Setup}
use Rattle.panel.specs.Seen.{setup_of, panel_seen}
use Rattle.common.specs.Seen.{verdict_from}
use Rattle.panel.proofs.Back.{own-number, table-seen}
use Rattle.pointer.specs.Seen.{pointer_from, pointing_of}
use Rattle.writer.specs.declared.WriterState.{WriterState}
use Rattle.writer.specs.Seen.{seen, held, fresh_from, written_from, not_written_by}
use Rattle.writer.proofs.Back.{state_back}
use Rattle.writer.proofs.Outcome.{refusal_is}

-- ---- states

-- X and Y of a good state are in range, so natural: what the display was told is held and seen as it is.
pointing-seen : (on : Bool) (u : Setup) (t : Table) (q : Pointing) → T (good_pointing on (panel_seen u) t q) → pointing_of q.ranks (pointer_from q.last) ≡ q
pointing-seen true u t q g =
    let r = (on_facts (panel_seen u) t q g).ranges in
    let x = between_z (pos 0) (pos u.x) q.last.x in
    ap₂ (λ a b. record { ranks = q.ranks; last = record { touch = q.last.touch; tool = q.last.tool; x = a; y = b } })
    (own-number u.x q.last.x (both_left x _ r))
    (own-number u.y q.last.y (both_right x _ r))
pointing-seen false u t q g = let z = off_only (panel_seen u) t q g in ap (λ (p : Pointing). pointing_of p.ranks (pointer_from p.last)) z ∙ sym z

-- A state of a setup.
abbrev state_of : Bool → Setup → M.Writer → Pointing → PointerState
state_of on u w q = record { on = on; base = record { setup = setup_of u; writer = w }; pointing = q }

-- A good state that is held is seen as it is.
good-seen : (on : Bool) (u : Setup) (w : M.Writer) (q : Pointing) → T (pointer_good base (state_of on u w q)) → seen (held (state_of on u w q)) ≡ state_of on u w q
good-seen on u w q g =
    let facts = pointer_facts base (state_of on u w q) g in
    let good = (writer-state base (state_of on u w q).base facts.writer).writer.good in
    ap₂ (λ t z. state_of on u (record { table = t; current = w.current; counter = w.counter }) z)
    (table-seen u u.n w.table (good-records (panel_seen u) w.table good))
    (pointing-seen on u w.table q facts.pointing)

-- So it stays good on the way to the code and back.
good_through : (on : Bool) (u : Setup) (w : M.Writer) (q : Pointing) (x : PointerState) → x ≡ state_of on u w q → T (pointer_good base x)
    → T (pointer_good base (seen (held x)))
good_through on u w q x e g =
    let h = subst (λ y. T (pointer_good base y)) e g in
    subst (λ y. T (pointer_good base (seen (held y)))) (sym e) (subst (λ y. T (pointer_good base y)) (sym (good-seen on u w q h)) h)

module _ (u : Setup) (on : Bool) (h : T (is_accepted (fresh_pointer_call base on (setup_of u)).verdict)) where
  fresh-is : (fresh_pointer_call base on (setup_of u)).state ≡ state_of on u (fresh_writer (panel_seen u)) (zero_pointing base.records)
  unfolding fresh_pointer_call
  fresh-is = accepted-is (is_accepted (fresh_verdict base (setup_of u))) _ _ h

  -- A fresh writer that is not refused is well formed.
  pub fresh_steady : T (pointer_good base (seen (fresh_from (fresh_pointer_call base on (setup_of u))).state))
  fresh_steady =
      good_through on u (fresh_writer (panel_seen u)) (zero_pointing base.records) _ fresh-is (fresh_call_good base on (setup_of u) tt h)

module _ (s : WriterState) (f : List ℤ) (buf : List ℕ) (at : ℕ) where
  abbrev answer : PointerWritten
  answer = pointer_call base (seen s) f at (length buf)

  abbrev after : List ℕ
  after = pointer_buffer base (seen s) f at buf

  abbrev verdict : Verdict
  verdict = pointer_verdict base (seen s) f at (length buf)

  -- An accepted frame leaves a good state and a refused one the state as it came in, so that what is held of either is seen again.
  pub answer-seen : seen (written_from answer).state ≡ answer.state
  unfolding pointer_call
  answer-seen =
      by_verdict (λ (a : PointerWritten). seen (held a.state) ≡ a.state) (is_accepted verdict) _ _
      (λ h. good-seen s.pointer s.setup _ _ (accepted-good base (seen s) f at (length buf) base-good h))
      (ap seen (state_back s))

  -- Accepted or refused, the state of an answer to a well-formed state is well formed.
  pub steady : T (pointer_good base (seen s)) → T (pointer_good base (seen (written_from answer).state))
  steady g = subst (λ x. T (pointer_good base x)) (sym answer-seen) (pointer_steady base (seen s) f at (length buf) base-good g)

  -- So its live ids all differ.
  pub ids-apart : T (pointer_good base (seen s)) → T (ids_differ (seen (written_from answer).state).base.writer.table)
  ids-apart g = (writer-state base _ (pointer_facts base _ (steady g)).writer).writer.differs

  -- A refusal hands the state back, whatever it holds, with zeros and no need but at NO ROOM, and touches no byte.
  pub refused_back : T (not (is_accepted verdict))
      → (written_from answer ≡ not_written_by (verdict_from verdict) s (pointer_refused verdict (seen s) (pointer_need base (seen s) f)).need) × (after ≡ buf)
  refused_back h =
      let back = pointer-refused base (seen s) f at (length buf) h in
      (ap written_from back ∙ sym (refusal_is verdict s (pointer_need base (seen s) f)), (pointer_left base (seen s) f at buf h).1)
