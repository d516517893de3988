-- K14 of the code, from the promises of the calls alone: at every moment of a shift a reader that is given all its bytes shows the writer's table, through the line's pieces and from a recording too; one that comes late and loads the writer's table shows it from there on; a crane's shows four of its numbers; no two live contacts share an id. The step is demand 2, as the model carries it over calls (its Long). Cited by docs/PROMISES.md. Assumes nothing.
use mathlib.Core.Path.{◌≡◌, refl, sym, ap, ap₂, subst, ◌∙◌}
use mathlib.Core.Bool.{Bool, true, false, cond, ◌||◌}
use mathlib.Core.Logic.{◌≢◌}
use mathlib.Core.List.{List, [], ◌∷◌, ◌++◌, map}
use Prim.Native.Nat.{ℕ, zero, suc, ◌+◌, ◌*◌, ◌/◌, ◌%◌, ◌≤◌, ◌<◌}
use native.Mathlib.Omega.{arith}
use lib.Dec.{T, eqb}
use lib.ListN.{length, get_or, take, drop, set, drop_of_length-le}
use lib.Seq.{take_all}
use Rattle.std.specs.Prelude.{Result}
use Rattle.model.specs.Panel.{base, crane_records, setup_good}
use Rattle.model.specs.Table.{ids, live_differ, ids_differ}
use Rattle.model.specs.Events.{Event}
use Rattle.model.specs.Records.{events_of, event_at}
use Rattle.model.specs.Loss.{is_dropped}
use Rattle.model.specs.Reader.{event, Skipped}
use Rattle.model.specs.Calls as C
use Rattle.model.specs.Calls.{fresh_reader_call, run_call}
use Rattle.model.specs.Bench.{pupil}
use Rattle.model.specs.Shift.{how_many, first_of}
use Rattle.model.specs.Narrow.{has_code}
use Rattle.model.specs.Recorder.{block_length, AllBytes, recording, joined, pieces, read_back}
use Rattle.model.specs.Pieces.{whole_bytes, left_bytes, fresh_line_call}
use Rattle.model.specs.Pointing.{PointerState, FreshPointer}
use Rattle.model.specs.PointerNarrow.{is_button, is_place, pointed_counts}
use Rattle.model.proofs.Bools.{holds, is_true}
use Rattle.model.proofs.Answers.{reader-made}
use Rattle.model.proofs.Instances.{base-good}
use Rattle.model.proofs.Long.{first-apart, long_run, late-load, calls_bytes, ids-apart}
use Rattle.model.proofs.Pieces.{line_facts}
use Rattle.model.proofs.PointerShift.{calls_whole, calls_setup}
use Rattle.model.proofs.PointerCalls.{pointer_made}
use Rattle.model.proofs.Calls.{reader-state}
use Rattle.model.proofs.Replayed.{back_whole, altered_begins, altered_lost}
use Rattle.common.specs.declared.Verdict.TheVariants.{Accepted}
use Rattle.common.specs.declared.Mode.TheVariants.{Stale}
use Rattle.common.specs.Seen.{counts_from, mode_of}
use Rattle.common.proofs.Signs.{and-false}
use Rattle.panel.specs.declared.Setup.{Setup}
use Rattle.panel.specs.declared.Slot.{Slot}
use Rattle.crane_panel.specs.Seen.{table_of as crane_table}
use Rattle.crane_reader.specs.declared.FreshAnswer.{FreshAnswer as CraneFresh}
use Rattle.crane_reader.specs.declared.RunAnswer.{RunAnswer as CraneAnswer}
use Rattle.pieces.specs.Seen.{seen}
use Rattle.panel.specs.Seen.{table_of, setup_of}
use Rattle.writer.specs.declared.WriterState.{WriterState}
use Rattle.writer.specs.declared.FreshWriter.{FreshWriter}
use Rattle.writer.specs.Seen as W
use Rattle.reader.specs.declared.ReaderState.{ReaderState}
use Rattle.reader.specs.declared.RunAnswer.{RunAnswer}
use Rattle.reader.specs.declared.FreshAnswer.{FreshAnswer}
use Rattle.reader.specs.declared.LoadAnswer.{LoadAnswer}
use Rattle.reader.specs.States as R
use Rattle.reader.specs.Seen.{loaded_from}
use Rattle.reader.proofs.Held.{state_back}
use Rattle.reader.specs.declared.SlotAnswer.{SlotAnswer}
use Rattle.reader.specs.declared.SlotAnswer.TheVariants.{Unknown}
use Rattle.pieces.specs.declared.FreshAnswer.{FreshAnswer as LineFresh}
use Rattle.recorder.specs.declared.Run.{Run}
use Rattle.recorder.specs.declared.BlockRefusal.{BlockRefusal}
use Rattle.recorder.specs.Host.{RecordingOf, Answered, heard, AllEvents}
use Rattle.recorder.proofs.Replay.{heard_back, reads_back, none-refused}
use Rattle.link.specs.Promises.{WriterMade, ReaderMade, Ran, Loaded, Asked, GoodWriter, GoodReader, pupil_of}
use Rattle.link.specs.Host.{HostCall, run, AllAllowed, state_after_all}
use Rattle.link.specs.Shift.{WriteCall, AllWrote, writer_after, bytes_from}
use Rattle.link.specs.Long.{Follows, FollowsLine, image_by, Joins, Replays, AtMoment}
use Rattle.link.specs.Pieces.{LineMade, Piece, AllTook, line_after, line_bytes, counted_all}
use Rattle.link.proofs.Shift.{all_handed, writer-is, bytes_are, fresh-setup, fresh-is}
use Rattle.link.proofs.Steady.{writer-made-good, reader-made-good, reader-made-setup, ran-good, calls_good}
use Rattle.link.proofs.Steady.{calls_setup as reader-setup}
use Rattle.link.proofs.Loss.{dropped_loses, unknown_until_load}
use Rattle.link.proofs.Cranes.{crane-follows}
use Rattle.link.proofs.PointerTold.{shift_good}
use Rattle.link.specs.Cranes.{CraneMade, CraneRan, crane_setup, four}
use Rattle.link.proofs.Pieces.{line-good}
use Rattle.link.proofs.PiecesCalls.{line-made-good, fresh-pieces}

-- ---- the counts, in fewer words

-- No event has one of no codes.
no_code : (e : Event) → has_code [] e ≡ false
no_code e = and-false (eqb e.type 3) false refl

places : (es : List Event) → how_many (λ e. has_code [] e || is_place e) es ≡ how_many is_place es
places [] = refl
places (e ∷ es) = ap₂ (λ b n. cond (b || is_place e) 1 0 + n) (no_code e) (places es)

firsts : (es : List Event) → first_of (λ e. is_button e || (has_code [] e || is_place e)) es ≡ first_of (λ e. is_button e || is_place e) es
firsts [] = refl
firsts (e ∷ es) = ap₂ {C = Skipped} (λ b n. cond (is_button e || (b || is_place e)) (event e.type e.code) n) (no_code e) (firsts es)

-- ---- any calls of any well-formed writer

module _ (s : WriterState) (cs : List WriteCall) (good : GoodWriter s) (a : AllWrote s cs) where
  abbrev after : WriterState
  after = writer_after s cs

  abbrev bytes : List ℕ
  bytes = bytes_from cs

  -- The writer's own reader that runs their bytes.
  own-answer : (q : RunAnswer) → Ran (pupil_of s) bytes q → q ≡ record { verdict = Accepted; state = pupil_of after; counts = counts_from (pointed_counts [] (events_of bytes)) }
  own-answer q h =
      let same = bytes_are s cs a in
      h
      ∙ ap (λ b. R.ran_from (run_call base (R.seen (pupil_of s)) b)) same
      ∙ ap R.ran_from (long_run base base-good tt (W.seen s) (all_handed cs) (holds _ good))
      ∙ ap₂ (λ (x : PointerState) b. record { verdict = Accepted; state = R.held (pupil x.base); counts = counts_from (pointed_counts [] (events_of b)) }) (sym (writer-is s cs a)) (sym same)
      ∙ ap (λ t. record { verdict = Accepted; state = t; counts = counts_from (pointed_counts [] (events_of bytes)) }) (state_back (pupil_of after))

  -- It shows the writer's table, has its current slot, follows, has nothing pending, and counted nothing bad or ignored.
  pub shift_read : (q : RunAnswer) → Ran (pupil_of s) bytes q → Follows after bytes q
  unfolding own-answer
  shift_read q h =
      let is = own-answer q h in
      let es = events_of bytes in
      record {
        accepted = ap (λ (x : RunAnswer). x.verdict) is;
        state = ap (λ (x : RunAnswer). x.state) is;
        reports = ap (λ (x : RunAnswer). x.counts.shown) is;
        types = ap (λ (x : RunAnswer). x.counts.types) is;
        codes = ap (λ (x : RunAnswer). x.counts.codes) is ∙ places es;
        first = ap (λ (x : RunAnswer). x.counts.first) is ∙ ap (λ (f : Skipped). (counts_from (record { shown = 0; types = 0; codes = 0; bad = 0; ignored = 0; first = f })).first) (firsts es);
        bad = ap (λ (x : RunAnswer). x.counts.bad) is;
        ignored = ap (λ (x : RunAnswer). x.counts.ignored) is;
      }

  -- No two contacts that are live after them share an id.
  pub live-apart : ids_differ (table_of after.table) ≡ true
  live-apart =
      ap (λ (x : PointerState). ids_differ x.base.writer.table) (writer-is s cs a)
      ∙ is_true _ (ids-apart base base-good tt (W.seen s) (all_handed cs) (holds _ good))

-- ---- ids that are shown

-- A well-formed reader shows no two live contacts with one id.
pub good-apart : (t : ReaderState) → GoodReader t → ids_differ (table_of t.shown) ≡ true
good-apart t good = is_true _ (reader-state base (R.seen t) (holds _ good)).reader.differs

-- A crane's slots have the ids of the product's.
fours-ids : (k : ℕ) (t : List Slot) → ids (crane_table (map four (take k t))) ≡ take k (ids (table_of t))
fours-ids zero t = refl
fours-ids (suc k) [] = refl
fours-ids (suc k) (s ∷ t) = ap (λ l. s.id.0 ∷ l) (fours-ids k t)

-- ---- from the fresh states, any calls

module _ (u : Setup) (on : Bool) (made : FreshWriter) (cs : List WriteCall) (m : WriterMade u on made) (v : made.verdict ≡ Accepted)
    (a : AllWrote made.state cs) where
  abbrev shift : WriterState
  shift = writer_after made.state cs

  begins-good : GoodWriter made.state
  begins-good = writer-made-good u on made m v

  good-setup : setup_good base (setup_of u) ≡ true
  good-setup = is_true _ (fresh-setup u on made m v)

  -- A reader fresh from the same setup is accepted too, and is the fresh writer's own.
  pub reader_accepts : (r : FreshAnswer) → ReaderMade u r → r.verdict ≡ Accepted
  reader_accepts r e = ap (λ (x : FreshAnswer). x.verdict) e ∙ ap (λ (x : C.FreshReader). (R.fresh_from x).verdict) (reader-made base (setup_of u) good-setup)

  pub fresh-pupil : (r : FreshAnswer) → ReaderMade u r → r.state ≡ pupil_of made.state
  fresh-pupil r e =
      ap (λ (x : FreshAnswer). x.state) e
      ∙ ap (λ (x : C.FreshReader). R.held x.state) (reader-made base (setup_of u) good-setup)
      ∙ sym (ap (λ (x : FreshPointer). pupil_of (W.held x.state)) (pointer_made base on (setup_of u) good-setup))
      ∙ sym (ap (λ (x : FreshWriter). pupil_of x.state) m)

  -- Given every byte that was written so far, in order, it follows the writer.
  shift_follows : (r : FreshAnswer) (q : RunAnswer) → ReaderMade u r → Ran r.state (bytes_from cs) q → Follows shift (bytes_from cs) q
  unfolding fresh-pupil begins-good
  shift_follows r q e h =
      shift_read made.state cs begins-good a q (h ∙ ap (λ t. R.ran_from (run_call base (R.seen t) (bytes_from cs))) (fresh-pupil r e))

  -- ---- however the line cuts the bytes

  module _ (line : LineFresh) (e : LineMade u line) where
    pub line_accepts : line.verdict ≡ Accepted
    unfolding fresh_line_call good-setup
    line_accepts = ap (λ (x : LineFresh). x.verdict) e ∙ ap (λ (x : C.FreshReader). (R.fresh_from x).verdict) (reader-made base (setup_of u) good-setup)

    shift_pieces : (ps : List Piece) → AllTook line.state ps → line_bytes ps ≡ bytes_from cs → FollowsLine shift line.state ps
    unfolding line_accepts shift_follows
    shift_pieces ps took same =
        let bs = bytes_from cs in
        let fresh = R.fresh_from (fresh_reader_call base (setup_of u)) in
        let q = R.ran_from (run_call base (R.seen fresh.state) bs) in
        let tells = shift_follows fresh q refl refl in
        let eight : length bs % 8 ≡ 0 =
        ap (λ b. length b % 8) (bytes_are made.state cs a) ∙ calls_whole base base-good (W.seen made.state) (all_handed cs) in
        let whole : whole_bytes (line_bytes ps) ≡ bs = ap whole_bytes same ∙ take_all (8 * (length bs / 8)) bs (omega (arith, eight)) in
        let read = fresh-pieces u line e line_accepts fresh ps q refl took (ap (λ b. R.ran_from (run_call base (R.seen fresh.state) b)) (sym whole)) in
        let counted : RunAnswer = record { verdict = Accepted; state = (line_after line.state ps).reader; counts = counted_all ps } in
        let answer : q ≡ counted =
        ap₂ (λ t c. record { verdict = q.verdict; state = t; counts = c }) (sym read.reader) (sym read.counts)
        ∙ ap (λ w. record { verdict = w; state = (line_after line.state ps).reader; counts = counted_all ps }) tells.accepted in
        let short : length bs ≤ 8 * (length bs / 8) = omega (arith, eight) in
        let none : left_bytes bs ≡ [] = drop_of_length-le bs short in
        record {
          accepted = read.accepted;
          follows = subst (λ b. Follows shift b counted) (sym same) (subst (Follows shift bs) answer tells);
          none = read.count ∙ ap (λ b. length (left_bytes b)) same ∙ ap length none;
        }

  -- ---- a reader that comes late

  shift_setup : setup_of shift.setup ≡ setup_of u
  shift_setup =
      ap (λ (x : PointerState). x.base.setup) (writer-is made.state cs a)
      ∙ calls_setup base (W.seen made.state) (all_handed cs)
      ∙ ap (λ (x : PointerState). x.base.setup) (fresh-is u on made m v)
      ∙ ap (λ (x : FreshPointer). x.state.base.setup) (pointer_made base on (setup_of u) good-setup)

  late_joins : (t : ReaderState) (l : LoadAnswer) → GoodReader t → t.mode ≡ Stale → t.setup ≡ u → Loaded t (image_by shift) shift.current.0 l → Joins shift l
  unfolding shift_setup begins-good
  late_joins t l good stale own load =
      let steady = shift_good made.state cs a begins-good in
      let lost = subst (λ o. T (C.is_stale (mode_of o))) (sym stale) tt in
      let is : l ≡ record { verdict = Accepted; state = pupil_of shift } =
      load
      ∙ ap loaded_from (late-load base base-good tt (W.seen shift) (R.seen t) (holds _ steady) (holds _ good) lost (ap setup_of own ∙ sym shift_setup))
      ∙ ap (λ x. record { verdict = Accepted; state = x }) (state_back (pupil_of shift)) in
      let shows = ap (λ (x : LoadAnswer). x.state) is in
      record {
        accepted = ap (λ (x : LoadAnswer). x.verdict) is;
        shows = shows;
        later = λ later q w h. shift_read shift later steady w q (h ∙ ap (λ x. R.ran_from (run_call base (R.seen x) (bytes_from later))) shows);
      }

  -- ---- a recording

  -- What was written can be recorded: every number of it is a byte, and it is whole records.
  pub written-bytes : AllBytes (bytes_from cs)
  written-bytes = subst AllBytes (sym (bytes_are made.state cs a)) (calls_bytes base base-good tt (W.seen made.state) (all_handed cs))

  module _ (n : ℕ) (s : List ℕ) (c : RecordingOf n (bytes_from cs) s) where
    replayed_whole : (rs : List (Result Run BlockRefusal)) (r : FreshAnswer) (q : RunAnswer) → Answered n (pieces s) rs → ReaderMade u r
        → Ran r.state (heard (pieces s) rs) q → AllEvents rs × Follows shift (bytes_from cs) q
    unfolding shift_follows
    replayed_whole rs r q b e h = (
      none-refused n (bytes_from cs) s c rs b,
      shift_follows r q e (h ∙ ap (λ x. R.ran_from (run_call base (R.seen r.state) x)) (reads_back n (bytes_from cs) s c rs b)),
    )

    module _ (i x k : ℕ) (rs : List (Result Run BlockRefusal)) (inside : i < length s) (other : x ≢ get_or s i 0)
        (b : Answered n (take k (pieces (set s i x))) rs) where
      abbrev ps : List (List ℕ)
      ps = take k (pieces (set s i x))

      there : i < length (joined (recording n (bytes_from cs)))
      there = subst (λ y. i < length y) c.laid inside

      differs : x ≢ get_or (joined (recording n (bytes_from cs))) i 0
      differs = subst (λ y. x ≢ get_or y i 0) c.laid other

      replayed_begins : k ≤ i / block_length → (rest : List ℕ) × (heard ps rs ++ rest ≡ bytes_from cs)
      unfolding there differs
      replayed_begins few =
          let es = bytes_from cs in
          let laid = joined (recording n es) in
          let same = heard_back n ps rs b ∙ ap (λ y. read_back n (take k (pieces (set y i x)))) c.laid in (
            read_back (n + k) (drop k (pieces laid)),
            ap (λ y. y ++ read_back (n + k) (drop k (pieces laid))) same
                ∙ altered_begins n es c.numbers c.bytes c.records i x there differs k few,
          )

      -- The record at which the loss is heard.
      abbrev lost_at : ℕ
      lost_at = length (read_back n (take (i / block_length) (pieces (set (joined (recording n (bytes_from cs))) i x)))) / 8

      hears-loss : i / block_length < k → (lost_at < length (heard ps rs) / 8) × T (is_dropped (event_at (heard ps rs) (8 * lost_at)))
      unfolding there differs
      hears-loss past =
          let es = bytes_from cs in
          let same = heard_back n ps rs b ∙ ap (λ y. read_back n (take k (pieces (set y i x)))) c.laid in
          subst (λ y. (lost_at < length y / 8) × T (is_dropped (event_at y (8 * lost_at)))) (sym same)
          (altered_lost n es c.numbers c.bytes c.records i x there differs k past)

      replayed_unknown : i / block_length < k → (r : FreshAnswer) (q : RunAnswer) → ReaderMade u r → Ran r.state (heard ps rs) q
          → (slot : ℕ) (y : SlotAnswer) → slot < u.n → Asked q.state slot y → y ≡ Unknown
      unfolding hears-loss reader_accepts
      replayed_unknown past r q e h slot y below asked =
          let bs = heard ps rs in
          let good = reader-made-good u r e (reader_accepts r e) in
          let loss = hears-loss past in
          let whole : length bs % 8 ≡ 0 = ap (λ l. length l % 8) (heard_back n ps rs b) ∙ back_whole n ps in
          let lost = dropped_loses r.state bs lost_at q good whole loss.0 loss.1 h in
          let setup : q.state.setup ≡ u = reader-setup r.state (run bs q ∷ []) (h, tt) ∙ reader-made-setup u r e (reader_accepts r e) in
          unknown_until_load q.state [] slot y (ran-good r.state bs q h good) lost tt tt (subst (λ (z : Setup). slot < z.n) (sym setup) below) asked

    replays : Replays u shift (bytes_from cs) n s
    unfolding replayed_whole replayed_begins replayed_unknown
    replays =
        record {
          whole = replayed_whole;
          begins = λ i x k rs inside other few b. replayed_begins i x k rs inside other b few;
          unknown = λ i x k rs inside other past b. replayed_unknown i x k rs inside other b past;
        }

  -- ---- no two live contacts share an id

  shown-apart : (r : FreshAnswer) (xs : List HostCall) → ReaderMade u r → AllAllowed r.state xs
      → ids_differ (table_of (state_after_all r.state xs).shown) ≡ true
  unfolding reader_accepts
  shown-apart r xs e h = good-apart (state_after_all r.state xs) (calls_good r.state xs h (reader-made-good u r e (reader_accepts r e)))

  pieces-apart : (r : LineFresh) (ps : List Piece) → LineMade u r → AllTook r.state ps → ids_differ (table_of (line_after r.state ps).reader.shown) ≡ true
  unfolding line_accepts
  pieces-apart r ps e took =
      let good = line-good r.state ps took (line-made-good u r e (line_accepts r e)) in
      good-apart (line_after r.state ps).reader (is_true _ (line_facts base (seen (line_after r.state ps)) (holds _ good)).reader)

  crane-apart : u.n ≤ crane_records → (r : CraneFresh) (q : CraneAnswer) → CraneMade (crane_setup u) r → CraneRan r.state (bytes_from cs) q
      → ids_differ (crane_table q.state.shown) ≡ true
  unfolding begins-good
  crane-apart few r q e h =
      ap (λ l. ids_differ (crane_table l)) (crane-follows u on made cs m v a few r e q h).shown
      ∙ ap live_differ (fours-ids crane_records shift.table)
      ∙ first-apart crane_records (ids (table_of shift.table)) (live-apart made.state cs begins-good a)

  -- ---- all of it, at every moment

  -- The calls so far are any list, so this holds after each of them.
  pub every_moment : AtMoment u shift (bytes_from cs)
  unfolding shift_follows shift_pieces late_joins replays shown-apart pieces-apart crane-apart begins-good
  every_moment =
      record {
        reader = shift_follows;
        line = λ r ps e took same. shift_pieces r e ps took same;
        late = late_joins;
        recorded = replays;
        crane = λ few r q e h. crane-follows u on made cs m v a few r e q h;
        apart = live-apart made.state cs begins-good a;
        shown = shown-apart;
        shown_in_pieces = pieces-apart;
        shown_by_crane = crane-apart;
      }
