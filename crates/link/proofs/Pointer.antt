-- K6 of the code, from the promises of the calls alone: the option off, what any reader makes of the emulated events, how many there are, that states stay
-- well formed, and what a display was told. Cited by docs/PROMISES.md. Assumes nothing.
use mathlib.Core.Path.{◌≡◌, refl, sym, ap, ap₂, ◌∙◌, subst}
use mathlib.Core.Bool.{Bool, true, false, not}
use mathlib.Core.List.{List, [], ◌∷◌, ◌++◌}
use Prim.Native.Nat.{ℕ, ◌*◌, ◌%◌, ◌≤◌, ◌<◌}
use native.Mathlib.Omega.{arith}
use lib.Dec.{T}
use lib.IntN.{ℤ}
use lib.ListN.{length, take, drop}
use borrow.Author.Tests.{eq-eqb}
use Rattle.model.specs.Panel.{Layout, Panel, records, base, crane, panel_of, field_codes}
use Rattle.model.specs.Events.{Event}
use Rattle.model.specs.Records.{bytes_of, events_of}
use Rattle.model.specs.Frame.{rows_of, new_table, values_good}
use Rattle.model.specs.Sending.{fewest, changed_in}
use Rattle.model.specs.Reader as M
use Rattle.model.specs.Reader.{following, ignoring, plus, read, run}
use Rattle.model.specs.States as S
use Rattle.model.specs.States.{reader_good}
use Rattle.model.specs.Calls as C
use Rattle.model.specs.Calls.{is_accepted, fresh_writer_call, frame_events, write_call, write_buffer, run_call, ran}
use Rattle.model.specs.Shift.{wrote_all, written_all}
use Rattle.model.specs.Pointer.{pointable, unpointed, display, with_pointer, events_before, events_after, ended, skipped_in}
use Rattle.model.specs.Pointing.{Pointing, zero_pointing, PointerState, pointer_good, off, FreshPointer}
use Rattle.model.specs.Pointing.{pointer_events, pointer_after, pointer_need, pointer_verdict, PointerWritten, pointer_refused}
use Rattle.model.specs.Pointing.{pointer_call, pointer_buffer, off_fresh, off_written}
use Rattle.model.specs.PointerShift.{pointer_wrote_all, pointer_written_all}
use Rattle.model.proofs.Calls.{frame-count}
use Rattle.model.proofs.Answers.{run-bad-state, run-whole}
use Rattle.model.proofs.Bytes.{AllCarried, bytes-length, decoded}
use Rattle.model.proofs.Limits.{limits}
use Rattle.model.proofs.Instances.{base-good}
use Rattle.model.proofs.Pointing as P
use Rattle.model.proofs.Emulated.{contact-ended, last_event}
use Rattle.model.proofs.EmulatedCounts.{counts_any}
use Rattle.model.proofs.PointerFrame.{reads_same, each_changed, four-most, runs_following, runs_lost}
use Rattle.model.proofs.PointerCalls.{pointer_accepted, pointer-taken}
use Rattle.model.proofs.PointerCarried.{pointer_carried}
use Rattle.model.proofs.PointerBytes.{pointer_written-is}
use Rattle.model.proofs.PointerNone.{none-counted}
use Rattle.model.proofs.PointerPlain.{plain-accepted}
use Rattle.model.proofs.Off as Off
use Rattle.common.specs.declared.Verdict.TheVariants.{Accepted, State}
use Rattle.common.specs.declared.Mode.TheVariants.{Following}
use Rattle.common.specs.Seen.{verdict_from, mode_of, counts_of, counts_from}
use Rattle.common.proofs.Back.{counts-seen}
use Rattle.panel.specs.declared.Setup.{Setup}
use Rattle.panel.specs.Seen.{table_of, setup_of, panel_seen}
use Rattle.panel.proofs.Setups.{holds}
use Rattle.pointer.specs.Seen.{pointer_of, pointer_from}
use Rattle.writer.specs.declared.WriterState.{WriterState}
use Rattle.writer.specs.declared.FreshWriter.{FreshWriter}
use Rattle.writer.specs.declared.Written.{Written}
use Rattle.writer.specs.Seen as W
use Rattle.writer.specs.Seen.{not_written_by}
use Rattle.writer.proofs.Demands.{refused_back}
use Rattle.reader.specs.declared.ReaderState.{ReaderState}
use Rattle.reader.specs.declared.RunAnswer.{RunAnswer}
use Rattle.reader.specs.States as R
use Rattle.reader.proofs.Promises.{run-state}
use Rattle.crane_reader.specs.declared.ReaderState.{ReaderState as CraneState}
use Rattle.crane_reader.specs.declared.RunAnswer.{RunAnswer as CraneAnswer}
use Rattle.crane_reader.specs.States as K
use Rattle.link.specs.Cranes.{CraneRan}
use Rattle.link.specs.Promises.{WriterMade, Wrote, Ran, GoodReader, LostTrack, added}
use Rattle.link.specs.Shift.{WriteCall, AllWrote, writer_after, bytes_from}
use Rattle.link.specs.Pointer.{told_by, retold, NothingTold, option_off, contact_bytes, body_events, report_bytes, skipping}
use Rattle.link.proofs.Steady.{ran-good}
use Rattle.link.proofs.Demands.{took, state-is}
use Rattle.link.proofs.Shift.{all_handed, writer-is, bytes_are, fresh-is}

-- ---- the option off: all is as it was

plain-seen : (s : WriterState) → s.pointer ≡ false → NothingTold s → W.seen s ≡ off base (W.plain s)
plain-seen s o z = λ i. record { on = o i; base = W.plain s; pointing = record { ranks = z.ranks i; last = pointer_of (z.told i) } }

-- With the option off a fresh writer is the one of the call without the option.
pub off-made : (u : Setup) (r : FreshWriter) → WriterMade u false r → r ≡ W.fresh_from (off_fresh base (fresh_writer_call base (setup_of u)))
off-made u r e = e ∙ ap W.fresh_from (Off.off-fresh base (setup_of u))

module _ (s : WriterState) (f : List ℤ) (at : ℕ) (buf : List ℕ) (r : Written) (after : List ℕ) (w : Wrote s f at buf r after) (o : s.pointer ≡ false) where
  -- With the option off and all numbers and ranks 0 the answer, accepted or refused, and every byte of the buffer are those of the call without the option.
  pub off_writes : NothingTold s
      → (r ≡ W.written_from (off_written base (write_call base (W.plain s) f at (length buf)))) × (after ≡ write_buffer base (W.plain s) f at buf)
  off_writes z =
      let e = plain-seen s o z in (
        w.0 ∙ ap (λ x. W.written_from (pointer_call base x f at (length buf))) e ∙ ap W.written_from (Off.off_call base (W.plain s) f at (length buf)),
        w.1 ∙ ap (λ x. pointer_buffer base x f at buf) e ∙ Off.off-buffer base (W.plain s) f at buf,
      )

  -- With the option off a state that holds another number or rank than 0 is refused with 2 and handed back, and no byte is touched.
  pub off-refused : (NothingTold s → ⊥) → (r ≡ not_written_by State s 0) × (after ≡ buf)
  off-refused n =
      let other : (W.seen s).pointing ≡ zero_pointing base.records → ⊥ = λ e.
      n (record { ranks = ap (λ (x : Pointing). x.ranks) e; told = ap (λ (x : Pointing). pointer_from x.last) e }) in
      let v = pointer_verdict base (W.seen s) f at (length buf) in
      let is : v ≡ C.state = Off.off-refused base (W.seen s) f at (length buf) o other in
      let back = refused_back s f buf at (subst (λ x. T (not (is_accepted x))) (sym is) tt) in
      let need = pointer_need base (W.seen s) f in (
        w.0 ∙ back.0 ∙ ap (λ x. not_written_by (verdict_from x) s (pointer_refused x (W.seen s) need).need) is,
        w.1 ∙ back.1,
      )

-- From a fresh writer with the option off, after any calls, refused ones among them, the state and all bytes are those of the calls without the option.
pub off_shift : (u : Setup) (made : FreshWriter) (cs : List WriteCall) → WriterMade u false made → made.verdict ≡ Accepted → AllWrote made.state cs
    → (let first = (fresh_writer_call base (setup_of u)).state in
    (W.seen (writer_after made.state cs) ≡ off base (wrote_all base first (all_handed cs))) × (bytes_from cs ≡ written_all base first (all_handed cs)))
off_shift u made cs m v a =
    let first = (fresh_writer_call base (setup_of u)).state in
    let is : W.seen made.state ≡ off base first = fresh-is u false made m v ∙ ap (λ (x : FreshPointer). x.state) (Off.off-fresh base (setup_of u)) in (
      writer-is made.state cs a ∙ ap (λ x. pointer_wrote_all base x (all_handed cs)) is ∙ Off.off-wrote_all base first (all_handed cs),
      bytes_are made.state cs a ∙ ap (λ x. pointer_written_all base x (all_handed cs)) is ∙ Off.off-written_all base first (all_handed cs),
    )

bad_call : (s : PointerState) (f : List ℤ) (at size : ℕ) → pointer_good base s ≡ false
    → pointer_call base s f at size ≡ pointer_refused C.state s (pointer_need base s f)
unfolding pointer_verdict pointer_call
bad_call s f at size g = rw g

off_limits : (s : PointerState) (f : List ℤ) (at size : ℕ) → s.on ≡ false
    → ((pointer_call base s f at size).count ≤ 224) × ((pointer_call base s f at size).need ≤ 1_792)
off_limits s f at size o = by_good (pointer_good base s) refl
  where
    few : PointerWritten → Type 0
    few a = (a.count ≤ 224) × (a.need ≤ 1_792)

    by_good : (b : Bool) → pointer_good base s ≡ b → few (pointer_call base s f at size)
    by_good true g =
        subst few (sym (ap (λ x. pointer_call base x f at size) (Off.off-is base s o (holds _ g)) ∙ Off.off_call base s.base f at size))
        (limits base s.base f at size base-good)
    by_good false g = subst few (sym (bad_call s f at size g)) (omega arith, omega arith)

-- Of any answer with the option off: at most 224 events, so 1_792 bytes, and a need of 1_792 bytes at most.
pub off-most : (s : WriterState) (f : List ℤ) (at : ℕ) (buf : List ℕ) (r : Written) (after : List ℕ) → Wrote s f at buf r after → s.pointer ≡ false
    → (r.count ≤ 224) × (8 * r.count ≤ 1_792) × (r.need ≤ 1_792)
off-most s f at buf r after w o =
    let m = off_limits (W.seen s) f at (length buf) o in
    let count : r.count ≤ 224 = subst (λ (x : Written). x.count ≤ 224) (sym w.0) m.0 in
    let need : r.need ≤ 1_792 = subst (λ (x : Written). x.need ≤ 1_792) (sym w.0) m.1 in
    (count, omega arith, need)

-- ---- what any reader makes of an accepted frame

-- The contact events' bytes are what `write` writes with the option off.
pub contact-bytes : (s : WriterState) (f : List ℤ) (at : ℕ) (buf : List ℕ) (r : Written) (after : List ℕ) → Wrote (option_off s) f at buf r after
    → r.verdict ≡ Accepted → take (8 * r.count) (drop at after) ≡ contact_bytes s f
contact-bytes s f at buf r after w h =
    ap₂ (λ (n : ℕ) (b : List ℕ). take (8 * n) (drop at b)) (ap (λ (x : Written). x.count) w.0) w.1
    ∙ pointer_written-is base (W.seen (option_off s)) f at buf base-good (took (option_off s) f at buf r after w h)
    ∙ ap bytes_of (Off.off-same base (W.plain s) (zero_pointing records) f)

-- A well-formed reader over the bytes of events that records carry.
ran-events : (l : Layout) (t : S.ReaderState) (es : List Event) → reader_good l t ≡ true → AllCarried es
    → run_call l t (bytes_of es) ≡ ran t.setup (run (panel_of l t.setup) t.reader es)
ran-events l t es g c =
    run-whole l t (bytes_of es) g (eq-eqb (length (bytes_of es) % 8) 0 (omega (arith, bytes-length es)))
    ∙ ap (λ xs. ran t.setup (run (panel_of l t.setup) t.reader xs)) (decoded es c)

module _ (t : ReaderState) (es : List Event) (q : RunAnswer) (g : GoodReader t) (c : AllCarried es) (e : Ran t (bytes_of es) q) where
  -- Where it ends.
  ran-seen : R.seen q.state ≡ record { setup = setup_of t.setup; reader = read (panel_seen t.setup) (R.seen t).reader es }
  unfolding run
  ran-seen = run-state t (bytes_of es) q e ∙ ap (λ (x : C.Ran). x.state) (ran-events base (R.seen t) es g c)

  -- What it counts.
  ran-counts : q.counts ≡ counts_from (run (panel_seen t.setup) (R.seen t).reader es).counts
  ran-counts = ap (λ (x : RunAnswer). x.counts) e ∙ ap (λ (x : C.Ran). counts_from x.counts) (ran-events base (R.seen t) es g c)

-- No panel of the product has the codes of ABS_X and ABS_Y.
unpointed-seen : (t : ReaderState) → T (unpointed (field_codes (panel_seen t.setup).fields))
unpointed-seen t = P.panel-unpointed base (setup_of t.setup) tt

added_from : (a b : M.Counts) → added (counts_from a) (counts_from b) ≡ counts_from (plus a b)
added_from a b = ap₂ (λ x y. counts_from (plus x y)) (counts-seen a) (counts-seen b)

empty : (es : List Event) → length es ≡ 0 → es ≡ []
empty [] n = refl
empty (e ∷ es) n = absurd (omega (arith, n))

carried_first : (xs ys : List Event) → AllCarried (xs ++ ys) → AllCarried xs
carried_first [] ys c = tt
carried_first (x ∷ xs) ys c = (c.0, carried_first xs ys c.1)

carried_later : (xs ys : List Event) → AllCarried (xs ++ ys) → AllCarried ys
carried_later [] ys c = c
carried_later (x ∷ xs) ys c = carried_later xs ys c.1

module _ (s : WriterState) (f : List ℤ) (at : ℕ) (buf : List ℕ) (r : Written) (after : List ℕ) (w : Wrote s f at buf r after) (h : r.verdict ≡ Accepted) where
  abbrev p : Panel
  p = panel_seen s.setup

  abbrev own : List Event
  own = frame_events p (W.plain s).writer f

  good : T (pointer_good base (W.seen s))
  good = (pointer_accepted base (W.seen s) f at (length buf) (took s f at buf r after w h)).good

  values : T (values_good p f)
  values = (pointer_accepted base (W.seen s) f at (length buf) (took s f at buf r after w h)).values

  all_bytes : take (8 * r.count) (drop at after) ≡ bytes_of (pointer_events base (W.seen s) f)
  all_bytes =
      ap₂ (λ (n : ℕ) (b : List ℕ). take (8 * n) (drop at b)) (ap (λ (x : Written). x.count) w.0) w.1
      ∙ pointer_written-is base (W.seen s) f at buf base-good (took s f at buf r after w h)

  all-carried : AllCarried (pointer_events base (W.seen s) f)
  unfolding good values
  all-carried = pointer_carried base (W.seen s) f base-good good values

  own-carried : AllCarried own
  unfolding good values
  own-carried =
      let plain = subst T (sym (Off.off-state base (W.plain s))) (P.pointer_facts base (W.seen s) good).writer in
      subst AllCarried (Off.off-same base (W.plain s) (zero_pointing records) f) (pointer_carried base (off base (W.plain s)) f base-good plain values)

  -- The state that an accepted frame leaves is the model's.
  pub left_is : W.seen r.state ≡ pointer_after base (W.seen s) f
  left_is =
      state-is s f at buf r after w h
      ∙ ap (λ (x : PointerWritten). x.state) (pointer-taken base (W.seen s) f at (length buf) (took s f at buf r after w h))

  -- With the option off the same call is accepted too, so what it writes is the contact events' bytes.
  pub off_accepts : (x : Written) (b : List ℕ) → Wrote (option_off s) f at buf x b → x.verdict ≡ Accepted
  off_accepts x b e =
      let size = length buf in
      let plain = plain-accepted base (W.seen s) f at size base-good (took s f at buf r after w h) in
      let same = subst (λ v. T (is_accepted v)) (sym (Off.off-verdict base (W.plain s) f at size)) plain in
      ap (λ (y : Written). y.verdict) e.0
      ∙ ap (λ (y : PointerWritten). verdict_from y.verdict) (pointer-taken base (W.seen (option_off s)) f at size same)

  -- With `fewest-events` (Demands): beside the contact events there is one event for each number of the display that changed, four at most.
  pub most-four : retold s r.state ≤ 4
  unfolding good values left_is
  most-four =
      let each = each_changed base (W.seen s) f base-good good values in
      let four = four-most base (W.seen s) f base-good good values in
      subst (λ (x : PointerState). changed_in (told_by s) (display x.pointing.last) ≤ 4) (sym left_is) (omega (arith, each, four))

  -- None comes alone: with no contact event nothing is written.
  pub none-alone : fewest s.current.0 (table_of s.table) (table_of r.state.table) ≡ 0 → r.count ≡ 0
  unfolding left_is
  none-alone z =
      let n : length own ≡ 0 =
      frame-count base (W.plain s) f
      ∙ ap (λ (x : PointerState). fewest s.current.0 (table_of s.table) x.base.writer.table) (sym left_is)
      ∙ z in
      ap (λ (x : Written). x.count) w.0 ∙ none-counted base (W.seen s) f at (length buf) base-good (took s f at buf r after w h) (empty own n)

  -- What is written: BTN_TOUCH first, then the contact events, then the old tool's 0, the new tool's 1, X and Y, and the report last; nothing at all if
  -- there is none of them.
  pub sent_order : (let old = pointer_of s.told in
      let new = pointer_of r.state.told in
      events_of (take (8 * r.count) (drop at after)) ≡ ended (events_before old new ++ (body_events s f ++ events_after old new)))
  unfolding all_bytes all-carried left_is
  sent_order =
      let old = pointer_of s.told in
      let told = ap (λ (x : PointerState). x.pointing.last) (sym left_is) in
      ap events_of all_bytes
      ∙ decoded (pointer_events base (W.seen s) f) all-carried
      ∙ ap (λ new. ended (events_before old new ++ (body_events s f ++ events_after old new))) told

  -- A reader of any layout without the two codes.
  alike : (l : Layout) → T (pointable l) → (t : S.ReaderState)
      → (let x = run_call l t (bytes_of (pointer_events base (W.seen s) f)) in
      let y = run_call l t (bytes_of own) in
      (x.verdict ≡ y.verdict) × (x.state ≡ y.state))
  unfolding good values all-carried own-carried run
  alike l able t = by_good (reader_good l t) refl
    where
      by_good : (b : Bool) → reader_good l t ≡ b
          → (let x = run_call l t (bytes_of (pointer_events base (W.seen s) f)) in
          let y = run_call l t (bytes_of own) in
          (x.verdict ≡ y.verdict) × (x.state ≡ y.state))
      by_good true g =
          let x = ran-events l t (pointer_events base (W.seen s) f) g all-carried in
          let y = ran-events l t own g own-carried in
          let same = reads_same base (W.seen s) f base-good good values (panel_of l t.setup) t.reader (P.panel-unpointed l t.setup able) in (
            ap (λ (z : C.Ran). z.verdict) x ∙ sym (ap (λ (z : C.Ran). z.verdict) y),
            ap (λ (z : C.Ran). z.state) x ∙ ap (λ z. record { setup = t.setup; reader = z }) same ∙ sym (ap (λ (z : C.Ran). z.state) y),
          )
      by_good false g =
          let same = run-bad-state l t (bytes_of (pointer_events base (W.seen s) f)) g ∙ sym (run-bad-state l t (bytes_of own) g) in
          (ap (λ (z : C.Ran). z.verdict) same, ap (λ (z : C.Ran). z.state) same)

  -- A crane's reader, well formed or not, of any setup, tables and mode, ends with the same verdict, tables, current slot and mode as over the bytes of
  -- the contact events alone.
  pub same-crane : (t : CraneState) (q a : CraneAnswer) → CraneRan t (take (8 * r.count) (drop at after)) q → CraneRan t (contact_bytes s f) a
      → (q.verdict ≡ a.verdict) × (q.state ≡ a.state)
  unfolding all_bytes alike
  same-crane t q a e d =
      let same = alike crane tt (K.seen t) in
      let all = e ∙ ap (λ bs. K.ran_from (run_call crane (K.seen t) bs)) all_bytes in (
        ap (λ (z : CraneAnswer). z.verdict) all ∙ ap verdict_from same.0 ∙ sym (ap (λ (z : CraneAnswer). z.verdict) d),
        ap (λ (z : CraneAnswer). z.state) all ∙ ap K.held same.1 ∙ sym (ap (λ (z : CraneAnswer). z.state) d),
      )

  module _ (t : ReaderState) (q a : RunAnswer) (e : Ran t (take (8 * r.count) (drop at after)) q) (d : Ran t (contact_bytes s f) a) where
    all_ran : Ran t (bytes_of (pointer_events base (W.seen s) f)) q
    unfolding all_bytes
    all_ran = e ∙ ap (λ bs. R.ran_from (run_call base (R.seen t) bs)) all_bytes

    -- So does the product's, whatever it holds.
    pub same-reader : (q.verdict ≡ a.verdict) × (q.state ≡ a.state)
    unfolding alike all_ran
    same-reader =
        let same = alike base tt (R.seen t) in (
          ap (λ (z : RunAnswer). z.verdict) all_ran ∙ ap verdict_from same.0 ∙ sym (ap (λ (z : RunAnswer). z.verdict) d),
          ap (λ (z : RunAnswer). z.state) all_ran ∙ ap R.held same.1 ∙ sym (ap (λ (z : RunAnswer). z.state) d),
        )

    module _ (g : GoodReader t) where
      own-counts : counts_of a.counts ≡ (run (panel_seen t.setup) (R.seen t).reader own).counts
      unfolding own-carried
      own-counts = ap counts_of (ran-counts t own a g own-carried d) ∙ counts-seen _

      all_counts : q.counts ≡ counts_from (run (panel_seen t.setup) (R.seen t).reader (pointer_events base (W.seen s) f)).counts
      unfolding all-carried all_ran
      all_counts = ran-counts t (pointer_events base (W.seen s) f) q g all-carried all_ran

      -- If it follows after the contact events, each changed button is one more of an unknown type, a changed X or Y one more of an unknown code, and the
      -- first skipped is by the order of sending; no other count differs.
      pub following_counts : a.state.mode ≡ Following
          → q.counts ≡ counts_from (with_pointer (pointer_of s.told) (pointer_of r.state.told) (counts_of a.counts))
      unfolding good values own-carried left_is own-counts all_counts run
      following_counts m =
          let k = panel_seen t.setup in
          let x = (R.seen t).reader in
          let ends : (read k x own).mode ≡ following = sym (ap (λ (z : S.ReaderState). z.reader.mode) (ran-seen t own a g own-carried d)) ∙ ap mode_of m in
          let told = pointer_of s.told in
          all_counts
          ∙ ap (λ (z : M.Run). counts_from z.counts) (runs_following base (W.seen s) f base-good good values k x (unpointed-seen t) ends)
          ∙ ap₂ (λ (z : PointerState) c. counts_from (with_pointer told z.pointing.last c)) (sym left_is) (sym own-counts)

      -- If it had lost track before, it ignored one event more for each number of the display that changed; no other count differs.
      pub lost_counts : LostTrack t → q.counts ≡ added a.counts (counts_from (ignoring (retold s r.state)))
      unfolding good values left_is own-counts all_counts run
      lost_counts l =
          let k = panel_seen t.setup in
          let x = (R.seen t).reader in
          all_counts
          ∙ ap (λ (z : M.Run). counts_from z.counts) (runs_lost base (W.seen s) f base-good good values k x (unpointed-seen t) l)
          ∙ ap₂ (λ (z : PointerState) c. counts_from (plus c (ignoring (changed_in (told_by s) (display z.pointing.last))))) (sym left_is) (sym own-counts)
          ∙ ap (λ c. counts_from (plus (counts_of a.counts) c)) (sym (counts-seen (ignoring (retold s r.state))))

      -- In any mode, also if it loses track among them: BTN_TOUCH is counted in the mode that the frame finds, and the others in the mode that the contact
      -- events leave before their report. Here b runs over the contact events without the report, and c from there over the report.
      pub any_counts : (b c : RunAnswer) → 0 < r.count → Ran t (bytes_of (body_events s f)) b → Ran b.state report_bytes c
          → (let old = pointer_of s.told in
          let new = pointer_of r.state.told in
          q.counts ≡ added (skipping t (events_before old new)) (added b.counts (added (skipping b.state (events_after old new)) c.counts)))
      unfolding good values own-carried left_is all_counts run
      any_counts b c n eb ec = by_body (body_events s f) refl
        where
          by_body : (xs : List Event) → body_events s f ≡ xs
              → (let old = pointer_of s.told in
              let new = pointer_of r.state.told in
              q.counts ≡ added (skipping t (events_before old new)) (added b.counts (added (skipping b.state (events_after old new)) c.counts)))
          by_body [] z =
              let t₀ = table_of s.table in
              let none : own ≡ [] = contact-ended p s.current.0 t₀ (new_table s.counter (rows_of p f) t₀) ∙ ap ended z in
              let zero : r.count ≡ 0 =
              ap (λ (x : Written). x.count) w.0 ∙ none-counted base (W.seen s) f at (length buf) base-good (took s f at buf r after w h) none in
              absurd (omega arith)
          by_body (x ∷ xs) z =
              let k = panel_seen t.setup in
              let m = (R.seen t).reader in
              let c₀ = s.current.0 in
              let t₀ = table_of s.table in
              let t₁ = new_table s.counter (rows_of p f) t₀ in
              let old = pointer_of s.told in
              let new = (pointer_after base (W.seen s) f).pointing.last in
              let both = subst AllCarried (contact-ended p c₀ t₀ t₁ ∙ ap ended z) own-carried in
              let body = carried_first (x ∷ xs) last_event both in
              let last = carried_later (x ∷ xs) last_event both in
              let eb' : Ran t (bytes_of (x ∷ xs)) b = eb ∙ ap (λ ys. R.ran_from (run_call base (R.seen t) (bytes_of ys))) z in
              let mid = ran-seen t (x ∷ xs) b g body eb' in
              let b-is = ran-counts t (x ∷ xs) b g body eb' in
              let c-is = ran-counts b.state last_event c (ran-good t _ b eb' g) last ec
              ∙ ap (λ (y : S.ReaderState). counts_from (run (panel_of base y.setup) y.reader last_event).counts) mid in
              let skips = ap (λ (y : S.ReaderState). counts_from (skipped_in (panel_of base y.setup) y.reader.mode (events_after old new))) mid in
              let told = ap (λ (y : PointerState). y.pointing.last) left_is in
              let c1 = skipped_in k (mode_of t.mode) (events_before old new) in
              let c2 = (run k m (x ∷ xs)).counts in
              let c3 = skipped_in k (read k m (x ∷ xs)).mode (events_after old new) in
              let c4 = (run k (read k m (x ∷ xs)) last_event).counts in
              let rest = ap₂ added (ap (λ y. skipping b.state (events_after old y)) told ∙ skips) c-is ∙ added_from c3 c4 in
              all_counts
              ∙ ap counts_from (counts_any k p c₀ t₀ t₁ old new m x xs (unpointed-seen t) z).1
              ∙ sym (ap₂ added (ap (λ y. skipping t (events_before old y)) told) (ap₂ added b-is rest ∙ added_from c2 (plus c3 c4))
              ∙ added_from c1 (plus c2 (plus c3 c4)))
