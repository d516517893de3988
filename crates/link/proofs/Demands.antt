-- Demand 2, what is written reads back and what is loaded is shown, and demand 3, of the code: from the promises of the calls alone, in bytes.
-- Cited by docs/PROMISES.md. Assumes nothing.
use mathlib.Core.Path.{◌≡◌, sym, ap, ap₂, ◌∙◌, subst}
use mathlib.Core.Bool.{cond}
use mathlib.Core.List.{List, []}
use Prim.Native.Nat.{ℕ, ◌+◌, ◌*◌, ◌/◌, ◌≤◌, ◌<◌}
use native.Mathlib.Omega.{arith}
use lib.Dec.{T, eqb}
use lib.IntN.{ℤ}
use lib.ListN.{length, take, drop, get_or}
use Rattle.model.specs.Panel.{base}
use Rattle.model.specs.Frame.{rows_of}
use Rattle.model.specs.Sending.{fewest, changed_in}
use Rattle.model.specs.Reader.{following, nothing, one_shown}
use Rattle.model.specs.Calls.{is_accepted, run_call, accepted, load_verdict, load_call, asked_in, ask_call}
use Rattle.model.specs.Bench.{pupil}
use Rattle.model.specs.Pointer.{display, with_pointer}
use Rattle.model.specs.Pointing.{PointerState, pointer_verdict, pointer_call}
use Rattle.model.proofs.Instances.{base-good}
use Rattle.model.proofs.Calls.{load-shows}
use Rattle.model.proofs.Link.{no_fewer-records}
use Rattle.model.proofs.PointerCalls.{pointer_has}
use Rattle.model.proofs.PointerBytes.{pointer_runs, pointer_count}
use Rattle.model.proofs.PointerNone.{none_alike}
use Rattle.common.specs.declared.Verdict.TheVariants.{Accepted}
use Rattle.common.specs.declared.Counts.{Counts}
use Rattle.panel.specs.declared.Slot.{Slot}
use Rattle.panel.specs.Seen.{table_of, panel_seen}
use Rattle.common.specs.Seen.{verdict_of, mode_of, counts_from}
use Rattle.common.proofs.Back.{verdict-seen}
use Rattle.writer.specs.declared.WriterState.{WriterState}
use Rattle.writer.specs.declared.Written.{Written}
use Rattle.writer.specs.Seen as W
use Rattle.writer.proofs.Demands.{answer-seen}
use Rattle.pointer.specs.Seen.{pointer_of}
use Rattle.common.specs.declared.Mode.TheVariants.{Following}
use Rattle.reader.specs.declared.ReaderState.{ReaderState}
use Rattle.reader.specs.declared.RunAnswer.{RunAnswer}
use Rattle.reader.specs.States as R
use Rattle.reader.specs.States.{ran_from}
use Rattle.reader.specs.declared.SlotAnswer.{SlotAnswer}
use Rattle.reader.specs.declared.LoadAnswer.{LoadAnswer}
use Rattle.reader.specs.Seen.{asked_from}
use Rattle.reader.proofs.Held.{state_back}
use Rattle.reader.proofs.Promises.{run-state, load-state}
use Rattle.link.specs.Promises.{Wrote, Ran, Loaded, Asked, pupil_of}
use Rattle.link.specs.Pointer.{told_by, retold}
use Rattle.link.proofs.Steady.{was_accepted}

module _ (s : WriterState) (f : List ℤ) (at : ℕ) (buf : List ℕ) (r : Written) (after : List ℕ) (w : Wrote s f at buf r after) (h : r.verdict ≡ Accepted) where
  -- The model accepted it too.
  pub took : T (is_accepted (pointer_verdict base (W.seen s) f at (length buf)))
  took =
      subst (λ v. T (is_accepted v)) (pointer_has base (W.seen s) f at (length buf))
      (was_accepted (pointer_call base (W.seen s) f at (length buf)).verdict r.verdict (ap (λ (x : Written). x.verdict) w.0) h)

  counted : r.count ≡ (pointer_call base (W.seen s) f at (length buf)).count
  counted = ap (λ (x : Written). x.count) w.0

  -- The state that was answered is the model's.
  pub state-is : W.seen r.state ≡ (pointer_call base (W.seen s) f at (length buf)).state
  state-is = ap (λ (x : Written). W.seen x.state) w.0 ∙ answer-seen s f buf at

  -- Demand 2: the reader runs the bytes from the position on, eight for each event. It accepts them, follows, shows and holds pending the new table, has
  -- the new current slot, and counted one table shown if anything was written and none otherwise, the emulated events as skipped (K6), nothing bad or
  -- ignored.
  pub reads_back : (q : RunAnswer) → Ran (pupil_of s) (take (8 * r.count) (drop at after)) q
      → (let shown = cond (eqb r.count 0) nothing one_shown in
      q ≡ record { verdict = Accepted; state = pupil_of r.state; counts = counts_from (with_pointer (pointer_of s.told) (pointer_of r.state.told) shown) })
  unfolding took counted state-is
  reads_back q e =
      let answer = pointer_call base (W.seen s) f at (length buf) in
      let told = pointer_of s.told in
      let own : ℕ → PointerState → Counts = λ n x. counts_from (with_pointer told x.pointing.last (cond (eqb n 0) nothing one_shown)) in
      e
      ∙ ap₂ (λ (n : ℕ) (b : List ℕ). ran_from (run_call base (R.seen (pupil_of s)) (take (8 * n) (drop at b)))) counted w.1
      ∙ ap ran_from (pointer_runs base (W.seen s) f at buf base-good took tt)
      ∙ ap (λ b. record {
        verdict = Accepted;
        state = R.held (pupil answer.state.base);
        counts = counts_from (with_pointer told answer.state.pointing.last (cond b nothing one_shown));
      }) (sym (none_alike base (W.seen s) f at (length buf) base-good took))
      ∙ ap (λ (x : PointerState). record { verdict = Accepted; state = R.held (pupil x.base); counts = own answer.count x }) (sym state-is)
      ∙ ap₂ (λ (y : ReaderState) (n : ℕ). record { verdict = Accepted; state = y; counts = own n (W.seen r.state) })
      (state_back (pupil_of r.state)) (sym counted)

  -- Demand 3: the count is `fewest` between the tables before and after, that of the contact events, and one for each number of the display that changed (K6).
  pub fewest-events : r.count ≡ fewest s.current.0 (table_of s.table) (table_of r.state.table) + retold s r.state
  unfolding took counted state-is
  fewest-events =
      counted
      ∙ pointer_count base (W.seen s) f at buf base-good took
      ∙ sym
      (ap (λ (x : PointerState). fewest s.current.0 (table_of s.table) x.base.writer.table + changed_in (told_by s) (display x.pointing.last))
      state-is)

-- Demand 3: bytes of any kind and length that leave that reader following hold as many whole records at least as `fewest` says for the table that it then
-- shows.
pub none_shorter : (s : WriterState) (bs : List ℕ) (q : RunAnswer) → Ran (pupil_of s) bs q → q.state.mode ≡ Following
    → fewest s.current.0 (table_of s.table) (table_of q.state.shown) ≤ length bs / 8
none_shorter s bs q e m =
    let x = run-state (pupil_of s) bs q e in
    subst (λ z. fewest s.current.0 (table_of s.table) z.reader.shown ≤ length bs / 8) (sym x)
    (no_fewer-records base (W.plain s) bs (sym (ap (λ z. z.reader.mode) x) ∙ ap mode_of m))

-- So no bytes with fewer whole records than an accepted frame has contact events lead that reader to the frame's table and leave it following.
pub none-fewer : (s : WriterState) (f : List ℤ) (at : ℕ) (buf : List ℕ) (r : Written) (after : List ℕ) → Wrote s f at buf r after → r.verdict ≡ Accepted
    → (bs : List ℕ) (q : RunAnswer) → Ran (pupil_of s) bs q → q.state.mode ≡ Following → q.state.shown ≡ r.state.table
    → r.count ≤ length bs / 8 + retold s r.state
none-fewer s f at buf r after w h bs q e m t =
    let n : r.count ≡ fewest s.current.0 (table_of s.table) (table_of q.state.shown) + retold s r.state =
    fewest-events s f at buf r after w h
    ∙ ap (λ (l : List Slot). fewest s.current.0 (table_of s.table) (table_of l) + retold s r.state) (sym t) in
    omega (arith, n, none_shorter s bs q e m)

-- Demand 2: after an accepted load every slot of the panel is answered from the image's row, a contact with its numbers or empty.
pub shown_by_load : (s : ReaderState) (m : List ℤ) (c : ℕ) (q : LoadAnswer) (k : ℕ) (r : SlotAnswer) → Loaded s m c q → q.verdict ≡ Accepted
    → k < s.setup.n → Asked q.state k r
    → r ≡ asked_from (asked_in following (get_or (rows_of (panel_seen s.setup) m) k []))
unfolding load_call
shown_by_load s m c q k r e v b a =
    let v' : load_verdict base (R.seen s) m c ≡ accepted = sym (verdict-seen _) ∙ ap verdict_of (sym (ap (λ (x : LoadAnswer). x.verdict) e) ∙ v) in
    a
    ∙ ap (λ x. asked_from (ask_call base x k)) (load-state s m c q e)
    ∙ ap asked_from (load-shows base (R.seen s) m c k (subst (λ x. T (is_accepted x)) (sym v') tt) b)
