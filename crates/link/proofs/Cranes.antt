-- K1 of the code, from the promises of the calls alone: a crane's reader that is given all bytes of the product's writer follows it, shows four numbers of
-- every slot, as the product's reader does, and skips the sizes and the emulated events (K6) alone. Cited by docs/PROMISES.md. Assumes nothing.
use mathlib.Core.Path.{◌≡◌, refl, sym, ap, ap₂, ◌∙◌}
use mathlib.Core.Bool.{Bool, false}
use mathlib.Core.List.{List, [], ◌∷◌, map}
use Prim.Native.Nat.{ℕ, zero, suc, ◌≤◌, ◌<◌}
use lib.Dec.{T}
use lib.ListN.{get_or, take, get_or-map}
use lib.Seq.{get_or-take}
use Rattle.model.specs.Panel.{setup_good, base, crane_records, crane}
use Rattle.model.specs.Records.{events_of}
use Rattle.model.specs.Calls as C
use Rattle.model.specs.Calls.{fresh_writer_call, fresh_reader_call, run_call}
use Rattle.model.specs.Bench.{pupil}
use Rattle.model.specs.Shift.{written_all}
use Rattle.model.specs.Narrow as N
use Rattle.model.specs.Narrow.{cut_table, short_counts}
use Rattle.model.specs.Pointing.{PointerState, FreshPointer, fresh_pointer_call}
use Rattle.model.specs.PointerShift.{pointer_wrote_all, pointer_written_all}
use Rattle.model.specs.PointerNarrow.{pointed_counts, pointed_ran}
use Rattle.model.proofs.Bools.{is_true}
use Rattle.model.proofs.Answers.{reader-made}
use Rattle.model.proofs.Instances.{base-good, crane-setup, crane-shows}
use Rattle.model.proofs.Off.{off-fresh, off-written_all}
use Rattle.model.proofs.PointerShift.{calls_fresh}
use Rattle.model.proofs.PointerNarrow.{crane-points}
use Rattle.common.specs.declared.Verdict.TheVariants.{Accepted}
use Rattle.common.specs.declared.Mode.TheVariants.{Following}
use Rattle.common.specs.declared.Counts.{Counts}
use Rattle.common.specs.Seen.{counts_from}
use Rattle.panel.specs.declared.Slot.{Slot}
use Rattle.panel.specs.declared.Setup.{Setup}
use Rattle.panel.specs.Seen.{table_of, setup_of, blank}
use Rattle.writer.specs.declared.WriterState.{WriterState}
use Rattle.writer.specs.declared.FreshWriter.{FreshWriter}
use Rattle.writer.specs.Seen as W
use Rattle.reader.specs.declared.ReaderState.{ReaderState}
use Rattle.reader.specs.declared.RunAnswer.{RunAnswer}
use Rattle.reader.specs.declared.FreshAnswer.{FreshAnswer}
use Rattle.reader.specs.States as R
use Rattle.reader.proofs.Held.{state_back}
use Rattle.crane_panel.specs.declared.Slot.{Slot as CraneSlot}
use Rattle.crane_panel.specs.Seen.{table_from, blank as crane_blank}
use Rattle.crane_reader.specs.declared.ReaderState.{ReaderState as CraneState}
use Rattle.crane_reader.specs.declared.FreshAnswer.{FreshAnswer as CraneFresh}
use Rattle.crane_reader.specs.declared.RunAnswer.{RunAnswer as CraneAnswer}
use Rattle.crane_reader.specs.States as K
use Rattle.link.specs.Promises.{WriterMade, ReaderMade, Ran, pupil_of}
use Rattle.link.specs.Shift.{WriteCall, AllWrote, writer_after, bytes_from}
use Rattle.link.specs.Cranes.{CraneMade, CraneRan, crane_setup, four, fours, CraneFollows, SizesAlone, Alike}
use Rattle.link.proofs.Shift.{all_handed, writer-is, bytes_are, fresh-setup, fresh-is}

-- ---- four numbers

fours-held : (m : ℕ) (t : List Slot) → table_from (cut_table 4 m (table_of t)) ≡ map four (take m t)
fours-held zero t = refl
fours-held (suc m) [] = refl
fours-held (suc m) (s ∷ t) = ap {B = List CraneSlot} (λ l. four s ∷ l) (fours-held m t)

-- Slot by slot, for every record of a crane.
pub four_of : (t : List Slot) (k : ℕ) → k < crane_records → get_or (fours t) k crane_blank ≡ four (get_or t k blank)
four_of t k h = get_or-map four (take crane_records t) k blank ∙ ap four (get_or-take crane_records t k blank h)

-- The crane's reader of a writer.
abbrev crane_of : Setup → WriterState → CraneState
crane_of u w = record { setup = crane_setup u; shown = fours w.table; pending = fours w.table; current = w.current; mode = Following }

-- What it is answered with, after these bytes.
abbrev crane_answer : Setup → WriterState → List ℕ → CraneAnswer
crane_answer u w bs = record { verdict = Accepted; state = crane_of u w; counts = counts_from (pointed_counts (0x30 ∷ 0x31 ∷ []) (events_of bs)) }

-- ---- fresh readers of a good setup

product_fresh : (u : Setup) (r : FreshAnswer) → T (setup_good base (setup_of u)) → ReaderMade u r → R.seen r.state ≡ (fresh_reader_call base (setup_of u)).state
product_fresh u r g e =
    let made = reader-made base (setup_of u) (is_true _ g) in
    ap (λ (x : FreshAnswer). R.seen x.state) e
    ∙ ap (λ (x : C.FreshReader). R.seen (R.held x.state)) made
    ∙ sym (ap (λ (x : C.FreshReader). x.state) made)

module _ (u : Setup) (r : CraneFresh) (g : T (setup_good base (setup_of u))) (few : u.n ≤ crane_records) (e : CraneMade (crane_setup u) r) where
  good : T (setup_good crane (N.crane_setup (setup_of u)))
  good = crane-setup (setup_of u) g few

  crane-taken : r.verdict ≡ Accepted
  unfolding good
  crane-taken =
      ap (λ (x : CraneFresh). x.verdict) e
      ∙ ap (λ (x : C.FreshReader). (K.fresh_from x).verdict) (reader-made crane (N.crane_setup (setup_of u)) (is_true _ good))

  crane-fresh : K.seen r.state ≡ (fresh_reader_call crane (N.crane_setup (setup_of u))).state
  unfolding good
  crane-fresh =
      let made = reader-made crane (N.crane_setup (setup_of u)) (is_true _ good) in
      ap (λ (x : CraneFresh). K.seen x.state) e
      ∙ ap (λ (x : C.FreshReader). K.seen (K.held x.state)) made
      ∙ sym (ap (λ (x : C.FreshReader). x.state) made)

-- ---- any calls of a fresh writer that was not refused

module _ (u : Setup) (on : Bool) (made : FreshWriter) (cs : List WriteCall) (m : WriterMade u on made) (v : made.verdict ≡ Accepted)
    (a : AllWrote made.state cs) where
  abbrev after : WriterState
  after = writer_after made.state cs

  abbrev first : PointerState
  first = (fresh_pointer_call base on (setup_of u)).state

  writer-seen : W.seen after ≡ pointer_wrote_all base first (all_handed cs)
  writer-seen = writer-is made.state cs a ∙ ap (λ x. pointer_wrote_all base x (all_handed cs)) (fresh-is u on made m v)

  bytes-seen : bytes_from cs ≡ pointer_written_all base first (all_handed cs)
  bytes-seen = bytes_are made.state cs a ∙ ap (λ x. pointer_written_all base x (all_handed cs)) (fresh-is u on made m v)

  -- The product's reader, fresh from the same setup and given all their bytes, follows, shows the writer's table, has its current slot, and nothing
  -- is pending.
  pub product_follows : (r : FreshAnswer) (p : RunAnswer) → ReaderMade u r → Ran r.state (bytes_from cs) p → p.state ≡ pupil_of after
  unfolding writer-seen bytes-seen
  product_follows r p e h =
      let g = fresh-setup u on made m v in
      ap (λ (x : RunAnswer). x.state) h
      ∙ ap₂ (λ s b. R.held (run_call base s b).state) (product_fresh u r g e) bytes-seen
      ∙ ap (λ (x : C.Ran). R.held x.state) (calls_fresh base base-good tt on (setup_of u) (all_handed cs) g)
      ∙ ap (λ (x : PointerState). R.held (pupil x.base)) (sym writer-seen)
      ∙ state_back (pupil_of after)

  module _ (few : u.n ≤ crane_records) (r : CraneFresh) (e : CraneMade (crane_setup u) r) where
    -- A crane's `fresh` accepts n, x, y and pressure of the setup.
    pub crane_accepts : r.verdict ≡ Accepted
    crane_accepts = crane-taken u r (fresh-setup u on made m v) few e

    module _ (q : CraneAnswer) (h : CraneRan r.state (bytes_from cs) q) where
      answer-is : q ≡ crane_answer u after (bytes_from cs)
      unfolding writer-seen bytes-seen
      answer-is =
          let g = fresh-setup u on made m v in
          let short = N.crane_setup (setup_of u) in
          h
          ∙ ap₂ (λ s b. K.ran_from (run_call crane s b)) (crane-fresh u r g few e) bytes-seen
          ∙ ap K.ran_from (crane-points on (setup_of u) g few (all_handed cs))
          ∙ ap₂ (λ (x : PointerState) b. K.ran_from (pointed_ran base crane short x.base (events_of b))) (sym writer-seen) (sym bytes-seen)
          ∙ ap (λ t. record {
            verdict = Accepted;
            state = record { setup = crane_setup u; shown = t; pending = t; current = after.current; mode = Following };
            counts = (crane_answer u after (bytes_from cs)).counts;
          }) (fours-held crane_records after.table)

      -- K1, with the option on or off: its `run` over all bytes so far, whatever was refused, tells the writer's state.
      pub crane-follows : CraneFollows after (bytes_from cs) q
      unfolding answer-is
      crane-follows =
          record {
            accepted = ap (λ (x : CraneAnswer). x.verdict) answer-is;
            follows = ap (λ (x : CraneAnswer). x.state.mode) answer-is;
            current = ap (λ (x : CraneAnswer). x.state.current) answer-is;
            shown = ap (λ (x : CraneAnswer). x.state.shown) answer-is;
            pending = ap (λ (x : CraneAnswer). x.state.pending) answer-is;
            reports = ap (λ (x : CraneAnswer). x.counts.shown) answer-is;
            types = ap (λ (x : CraneAnswer). x.counts.types) answer-is;
            codes = ap (λ (x : CraneAnswer). x.counts.codes) answer-is;
            first = ap (λ (x : CraneAnswer). x.counts.first) answer-is;
            bad = ap (λ (x : CraneAnswer). x.counts.bad) answer-is;
            ignored = ap (λ (x : CraneAnswer). x.counts.ignored) answer-is;
          }

      -- And the product's reader that is given the same bytes shows the same four numbers.
      pub crane_alike : (f : FreshAnswer) (p : RunAnswer) → ReaderMade u f → Ran f.state (bytes_from cs) p → Alike p q
      unfolding answer-is
      crane_alike f p d o =
          let own = sym (product_follows f p d o) in
          record {
            mode = ap (λ (x : CraneAnswer). x.state.mode) answer-is ∙ ap (λ (x : ReaderState). x.mode) own;
            current = ap (λ (x : CraneAnswer). x.state.current) answer-is ∙ ap (λ (x : ReaderState). x.current) own;
            shown = ap (λ (x : CraneAnswer). x.state.shown) answer-is ∙ ap (λ (x : ReaderState). fours x.shown) own;
            pending = ap (λ (x : CraneAnswer). x.state.pending) answer-is ∙ ap (λ (x : ReaderState). fours x.pending) own;
          }

-- With the option off it skipped the sizes alone, as it did before K6.
pub crane-sizes : (u : Setup) (made : FreshWriter) (cs : List WriteCall) → WriterMade u false made → made.verdict ≡ Accepted → AllWrote made.state cs
    → u.n ≤ crane_records → (r : CraneFresh) → CraneMade (crane_setup u) r → (q : CraneAnswer) → CraneRan r.state (bytes_from cs) q
    → SizesAlone (bytes_from cs) q
unfolding bytes-seen
crane-sizes u made cs m v a few r e q h =
    let g = fresh-setup u false made m v in
    let own = (fresh_writer_call base (setup_of u)).state in
    let plain : bytes_from cs ≡ written_all base own (all_handed cs) =
    bytes-seen u false made cs m v a
    ∙ ap (λ (x : FreshPointer). pointer_written_all base x.state (all_handed cs)) (off-fresh base (setup_of u))
    ∙ off-written_all base own (all_handed cs) in
    let told : q.counts ≡ counts_from (short_counts (0x30 ∷ 0x31 ∷ []) (events_of (bytes_from cs))) =
    ap (λ (x : CraneAnswer). x.counts) h
    ∙ ap₂ (λ s b. counts_from (run_call crane s b).counts) (crane-fresh u r g few e) plain
    ∙ ap (λ (x : C.Ran). counts_from x.counts) (crane-shows (setup_of u) g few (all_handed cs))
    ∙ ap (λ b. counts_from (short_counts (0x30 ∷ 0x31 ∷ []) (events_of b))) (sym plain) in
    record { types = ap (λ (c : Counts). c.types) told; sizes = ap (λ (c : Counts). c.codes) told; first = ap (λ (c : Counts). c.first) told }
