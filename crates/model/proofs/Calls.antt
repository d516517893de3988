-- The theorems said of each call: what is accepted and refused, steady, demands 2 and 3, and what a load shows. Assumes nothing.
use mathlib.Core.Path.{◌≡◌, refl, sym, ap, ◌∙◌, subst}
use mathlib.Core.Bool.{Bool, true, false, not, cond, ◌&&◌}
use mathlib.Core.List.{List, [], ◌∷◌}
use Prim.Native.Nat.{ℕ, zero, suc, ◌+◌, ◌*◌, ◌-◌, ◌≤◌, ◌<◌}
use native.Mathlib.Omega.{arith}
use native.Mathlib.Nat.{mul-le-mul_right}
use lib.Dec.{T, ltb, ltb→lt, lt→ltb}
use lib.IntN.{ℤ}
use lib.ListN.{length, get_or, replicate, get_or-append}
use Rattle.model.proofs.Bools.{is_false, both, both_left, both_right}
use Rattle.model.proofs.Exact.{exact}
use Rattle.model.proofs.Count.{event-count}
use Rattle.model.proofs.ReaderSteady.{SteadyReader, reader_facts, facts_reader, read_steady}
use Rattle.model.proofs.WriterSteady.{SteadyWriter, writer_facts, facts_writer, rows_steady}
use Rattle.model.proofs.FreshSteady.{fresh-writer, fresh-reader, setup-slots}
use Rattle.model.proofs.Ones.{event_limit}
use Rattle.model.proofs.Bytes.{reads_back_bytes}
use Rattle.model.proofs.Layouts.{few-records, panel-tellable, fields-length}
use Rattle.model.specs.Numbers.{between}
use Rattle.model.specs.Panel.{Layout, Setup, Panel, setup_good, panel_of, good_layout}
use Rattle.model.specs.Table.{Slot, id_of, live, ids_differ, unused_slot, good_table}
use Rattle.model.specs.Events.{Event}
use Rattle.model.specs.Records.{bytes_of, events_of}
use Rattle.model.specs.Frame.{rows_from, rows_of, sized, values_good}
use Rattle.model.specs.Sending.{fewest}
use Rattle.model.specs.Reader.{Mode, Reader, following, dropped, stale, follow, settled_at, read, run as run_over}
use Rattle.model.specs.States.{WriterState, writer_good, ReaderState, reader_good, fresh_writer, fresh_reader, zero_writer, zero_reader}
use Rattle.model.specs.Refusals.{Exact, state_rows}
use Rattle.model.specs.Calls.{Verdict, accepted, setup, state, frame, value, no_room, not_stale, image, check, is_accepted, fresh_verdict, fresh_writer_call, fresh_reader_call, writer_after, frame_events, need_of, most_events, room_for, write_verdict, Written, not_written, taken, write_call, write_buffer, run_verdict, Ran, ran, not_run, run_call, step_call, is_stale, image_table, image_good, load_verdict, load_call, Asked, contact, empty, no_such_slot, refused, asked_number, asked_values, asked_in, asked, ask_call}

-- ---- verdicts

-- What passes a chain of checks passed each of them.
pub passed : (b : Bool) (why more : Verdict) → T (not (is_accepted why)) → T (is_accepted (check b why more)) → T b × T (is_accepted more)
passed true why more n h = (tt, h)
passed false why more n h = absurd (clash (is_accepted why) n h)
  where
    clash : (t : Bool) → T (not t) → T t → ⊥
    clash true n h = n
    clash false n h = h

-- A branch by a verdict keeps what both branches have.
pub by_verdict : {A : Type 0} (P : A → Type 0) (b : Bool) (x y : A) → (T b → P x) → P y → P (cond b x y)
by_verdict P true x y f g = f tt
by_verdict P false x y f g = g

-- An accepted call gives the first branch, a refused one the second.
pub accepted-is : {A : Type 0} (b : Bool) (x y : A) → T b → cond b x y ≡ x
accepted-is true x y t = refl
accepted-is false x y t = absurd t

pub refused-is : {A : Type 0} (b : Bool) (x y : A) → T (not b) → cond b x y ≡ y
refused-is true x y t = absurd t
refused-is false x y t = refl

accepted_has : {A : Type 0} (P : A → Type 0) (b : Bool) (x y : A) → T b → P x → P (cond b x y)
accepted_has P b x y t h = subst P (sym (accepted-is b x y t)) h

-- ---- the parts of a well-formed state

pub record WriterFacts (l : Layout) (s : WriterState) : Type 0 where
  pub setup : T (setup_good l s.setup)
  pub writer : SteadyWriter (panel_of l s.setup) s.writer

pub writer-state : (l : Layout) (s : WriterState) → T (writer_good l s) → WriterFacts l s
unfolding writer_good
writer-state l s g = record { setup = both_left (setup_good l s.setup) _ g; writer = writer_facts _ _ (both_right (setup_good l s.setup) _ g) }

pub state-writer : (l : Layout) (s : WriterState) → WriterFacts l s → T (writer_good l s)
unfolding writer_good
state-writer l s f = both (setup_good l s.setup) _ f.setup (facts_writer _ _ f.writer)

pub record ReaderFacts (l : Layout) (s : ReaderState) : Type 0 where
  pub setup : T (setup_good l s.setup)
  pub reader : SteadyReader (panel_of l s.setup) s.reader

pub reader-state : (l : Layout) (s : ReaderState) → T (reader_good l s) → ReaderFacts l s
unfolding reader_good
reader-state l s g = record { setup = both_left (setup_good l s.setup) _ g; reader = reader_facts _ _ (both_right (setup_good l s.setup) _ g) }

pub state-reader : (l : Layout) (s : ReaderState) → ReaderFacts l s → T (reader_good l s)
unfolding reader_good
state-reader l s f = both (setup_good l s.setup) _ f.setup (facts_reader _ _ f.reader)

-- ---- fresh

-- An accepted fresh writer is well formed.
pub fresh-writer-good : (l : Layout) (u : Setup) → T (is_accepted (fresh_writer_call l u).verdict) → T (writer_good l (fresh_writer_call l u).state)
unfolding fresh_writer_call
fresh-writer-good l u h =
    accepted_has (λ a. T (writer_good l a)) (is_accepted (fresh_verdict l u)) _ _ h (state-writer l (record { setup = u; writer = fresh_writer (panel_of l u) }) (record { setup = (passed (setup_good l u) setup accepted tt h).0; writer = fresh-writer l u (passed (setup_good l u) setup accepted tt h).0 }))

-- An accepted fresh reader is well formed.
pub fresh-reader-good : (l : Layout) (u : Setup) → T (is_accepted (fresh_reader_call l u).verdict) → T (reader_good l (fresh_reader_call l u).state)
unfolding fresh_reader_call
fresh-reader-good l u h =
    accepted_has (λ a. T (reader_good l a)) (is_accepted (fresh_verdict l u)) _ _ h (state-reader l (record { setup = u; reader = fresh_reader (panel_of l u) }) (record { setup = (passed (setup_good l u) setup accepted tt h).0; reader = fresh-reader l u (passed (setup_good l u) setup accepted tt h).0 }))

-- With refusal 1 a state's place holds zeros and mode following.
pub fresh-refused : (l : Layout) (u : Setup) → T (not (setup_good l u))
    → (fresh_writer_call l u ≡ record { verdict = setup; state = zero_writer l }) × (fresh_reader_call l u ≡ record { verdict = setup; state = zero_reader l })
unfolding fresh_writer_call fresh_reader_call
fresh-refused l u h = (rw (is_false (setup_good l u) h), rw (is_false (setup_good l u) h))

-- ---- writing

pub length-rows_from : (k n : ℕ) (f : List ℤ) (at : ℕ) → length (rows_from k n f at) ≡ n
unfolding rows_from
length-rows_from k zero f at = refl
length-rows_from k (suc n) f at = ap suc (length-rows_from k n f (at + k))

-- What an accepted frame passed.
pub record Accepted (l : Layout) (s : WriterState) (f : List ℤ) (at size : ℕ) : Type 0 where
  pub good : T (writer_good l s)
  pub length : T (sized (panel_of l s.setup) f)
  pub values : T (values_good (panel_of l s.setup) f)
  pub room : T (room_for (need_of (panel_of l s.setup) s.writer f) at size)

pub write_accepted : (l : Layout) (s : WriterState) (f : List ℤ) (at size : ℕ) → T (is_accepted (write_verdict l s f at size)) → Accepted l s f at size
unfolding write_verdict
write_accepted l s f at size h =
    let a = passed (writer_good l s) state _ tt h in
    let b = passed (sized (panel_of l s.setup) f) frame _ tt a.1 in
    let c = passed (values_good (panel_of l s.setup) f) value _ tt b.1 in
    record { good = a.0; length = b.0; values = c.0; room = (passed (room_for (need_of (panel_of l s.setup) s.writer f) at size) no_room accepted tt c.1).0 }

-- The writer after good rows is well formed.
pub after_steady : (l : Layout) (s : WriterState) (f : List ℤ) → T (good_layout l) → WriterFacts l s → T (values_good (panel_of l s.setup) f)
    → SteadyWriter (panel_of l s.setup) (writer_after (panel_of l s.setup) s.writer f)
after_steady l s f g w v =
    let p = panel_of l s.setup in
    rows_steady s.setup.slots l.records _ s.writer (rows_of p f) (few-records l g) (omega (arith, length-rows_from (length p.fields) p.slots f 0)) v w.writer

-- So an accepted frame leaves a well-formed state.
pub frame_steady : (l : Layout) (s : WriterState) (f : List ℤ) (at size : ℕ) → T (good_layout l) → T (is_accepted (write_verdict l s f at size)) → T (writer_good l (taken (panel_of l s.setup) s f).state)
frame_steady l s f at size g h =
    let a = write_accepted l s f at size h in
    let facts = writer-state l s a.good in
    state-writer l _ (record { setup = facts.setup; writer = after_steady l s f g facts a.values })

-- Writing a frame keeps a writer's state well formed, whether it is accepted or refused.
pub write_steady : (l : Layout) (s : WriterState) (f : List ℤ) (at size : ℕ) → T (good_layout l) → T (writer_good l s) → T (writer_good l (write_call l s f at size).state)
unfolding write_call
write_steady l s f at size g w = by_verdict (λ (a : Written). T (writer_good l a.state)) (is_accepted (write_verdict l s f at size)) _ _ (frame_steady l s f at size g) w

-- A refused frame gives back the state as it came in, zero counts and changed slots, no need but with NO ROOM, and touches no byte.
pub write_refused : (l : Layout) (s : WriterState) (f : List ℤ) (at : ℕ) (buf : List ℕ) → T (not (is_accepted (write_verdict l s f at (length buf))))
    → (write_call l s f at (length buf) ≡ not_written (write_verdict l s f at (length buf)) s (need_of (panel_of l s.setup) s.writer f)) × (write_buffer l s f at buf ≡ buf)
unfolding write_call write_buffer
write_refused l s f at buf h = (refused-is (is_accepted (write_verdict l s f at (length buf))) _ _ h, refused-is (is_accepted (write_verdict l s f at (length buf))) _ _ h)

-- Demand 2 for an accepted frame: a following reader with the same setup, table and current slot and nothing pending that reads the frame's bytes
-- follows, shows and holds pending the writer's new table, and has its current slot.
pub frame-reads_back : (l : Layout) (s : WriterState) (f : List ℤ) → T (good_layout l) → T (writer_good l s) → T (values_good (panel_of l s.setup) f)
    → read (panel_of l s.setup) (follow s.writer.table s.writer.table s.writer.current) (events_of (bytes_of (frame_events (panel_of l s.setup) s.writer f)))
    ≡ (let w = writer_after (panel_of l s.setup) s.writer f in follow w.table w.table w.current)
frame-reads_back l s f g w v =
    let facts = writer-state l s w in
    let after = after_steady l s f g facts v in
    reads_back_bytes (panel_of l s.setup) s.writer.table _ s.writer.current (panel-tellable l s.setup g facts.setup) facts.writer.good after.good after.differs

-- Demand 3 for an accepted frame: its count is `fewest` between the old and the new table. Least says that no list of events is shorter.
pub frame-count : (l : Layout) (s : WriterState) (f : List ℤ)
    → length (frame_events (panel_of l s.setup) s.writer f) ≡ fewest s.writer.current s.writer.table (writer_after (panel_of l s.setup) s.writer f).table
frame-count l s f = event-count (panel_of l s.setup) s.writer.current s.writer.table _

-- An accepted frame has 1 + kn + (n - 1) events at most, so `most_events` whatever the setup.
pub frame_limit : (l : Layout) (s : WriterState) (f : List ℤ) → T (good_layout l) → T (writer_good l s) → T (values_good (panel_of l s.setup) f)
    → length (frame_events (panel_of l s.setup) s.writer f) ≤ most_events l
frame_limit l s f g w v =
    let facts = writer-state l s w in
    let p = panel_of l s.setup in
    let k = fields-length l.axes s.setup.largest (both_right (between 1 l.records s.setup.slots) _ facts.setup) in
    let n = (setup-slots l s.setup facts.setup).1 in
    let limit : length (frame_events p s.writer f) ≤ 1 + s.setup.slots * length p.fields + (s.setup.slots - 1) =
    event_limit p s.writer.current s.writer.table (writer_after p s.writer f).table facts.writer.below facts.writer.good (after_steady l s f g facts v).good in
    let wide : s.setup.slots * length p.fields ≤ l.records * (1 + length l.axes) =
    subst (λ m. s.setup.slots * length p.fields ≤ l.records * m) (omega (arith, k)) (mul-le-mul_right (length p.fields) n) in
    omega arith

-- ---- reading

-- Reading any events keeps a reader's state well formed.
pub events_steady : (l : Layout) (s : ReaderState) (es : List Event) → T (reader_good l s) → T (reader_good l (ran s.setup (run_over (panel_of l s.setup) s.reader es)).state)
unfolding run_over
events_steady l s es g =
    let facts = reader-state l s g in
    state-reader l _ (record { setup = facts.setup; reader = read_steady (panel_of l s.setup) es s.reader facts.reader })

-- A run keeps a reader's state well formed, whether it is accepted or refused.
pub run_steady : (l : Layout) (s : ReaderState) (bs : List ℕ) → T (reader_good l s) → T (reader_good l (run_call l s bs).state)
unfolding run_call
run_steady l s bs g = by_verdict (λ (a : Ran). T (reader_good l a.state)) (is_accepted (run_verdict l s bs)) _ _ (λ h. events_steady l s (events_of bs) g) g

-- So does one event by itself.
pub step_steady : (l : Layout) (s : ReaderState) (e : Event) → T (reader_good l s) → T (reader_good l (step_call l s e).state)
unfolding step_call
step_steady l s e g = by_verdict (λ (a : Ran). T (reader_good l a.state)) (is_accepted (check (reader_good l s) state accepted)) _ _ (λ h. events_steady l s (e ∷ []) g) g

-- A refused run gives back the state as it came in, and zeros.
pub run-refused : (l : Layout) (s : ReaderState) (bs : List ℕ) → T (not (is_accepted (run_verdict l s bs))) → run_call l s bs ≡ not_run (run_verdict l s bs) s
unfolding run_call
run-refused l s bs h = refused-is (is_accepted (run_verdict l s bs)) _ _ h

-- ---- loading

-- What an accepted load passed.
pub record LoadAccepted (l : Layout) (s : ReaderState) (m : List ℤ) (c : ℕ) : Type 0 where
  pub good : T (reader_good l s)
  pub stale : T (is_stale s.reader.mode)
  pub image : T (image_good (panel_of l s.setup) m c)

pub load-accepted : (l : Layout) (s : ReaderState) (m : List ℤ) (c : ℕ) → T (is_accepted (load_verdict l s m c)) → LoadAccepted l s m c
unfolding load_verdict
load-accepted l s m c h =
    let a = passed (reader_good l s) state _ tt h in
    let b = passed (is_stale s.reader.mode) not_stale _ tt a.1 in
    record { good = a.0; stale = b.0; image = (passed (image_good (panel_of l s.setup) m c) image accepted tt b.1).0 }

image_steady : (p : Panel) (m : List ℤ) (c : ℕ) → T (image_good p m c) → SteadyReader p (settled_at (image_table p m) c following)
image_steady p m c g =
    let a = sized p m in
    let b = good_table p (image_table p m) in
    let d = ids_differ (image_table p m) in
    let x = both_left (a && b && d) _ g in
    let y = both_left (a && b) _ x in
    record { shows = both_right a _ y; pends = both_right a _ y; differs = both_right (a && b) _ x; below = ltb→lt c p.slots (both_right (a && b && d) _ g); settles = tt }

-- So an accepted load leaves a well-formed state.
pub loaded_steady : (l : Layout) (s : ReaderState) (m : List ℤ) (c : ℕ) → T (is_accepted (load_verdict l s m c))
    → T (reader_good l (record { setup = s.setup; reader = settled_at (image_table (panel_of l s.setup) m) c following }))
loaded_steady l s m c h =
    let a = load-accepted l s m c h in
    state-reader l _ (record { setup = (reader-state l s a.good).setup; reader = image_steady (panel_of l s.setup) m c a.image })

-- A load keeps a reader's state well formed, whether it is accepted or refused.
pub load_steady : (l : Layout) (s : ReaderState) (m : List ℤ) (c : ℕ) → T (reader_good l s) → T (reader_good l (load_call l s m c).state)
unfolding load_call
load_steady l s m c g = by_verdict (λ (a : ReaderState). T (reader_good l a)) (is_accepted (load_verdict l s m c)) _ _ (loaded_steady l s m c) g

-- A refused load gives back the state as it came in.
pub load-refused : (l : Layout) (s : ReaderState) (m : List ℤ) (c : ℕ) → T (not (is_accepted (load_verdict l s m c))) → (load_call l s m c).state ≡ s
unfolding load_call
load-refused l s m c h = refused-is (is_accepted (load_verdict l s m c)) _ _ h

-- ---- a question's number and values

unrefused_in : (m : Mode) (s : Slot) → asked_number (asked_in m s) ≡ 0
unrefused_in following s = by_verdict (λ a. asked_number a ≡ 0) (live (id_of s)) (contact s) empty (λ _. refl) refl
unrefused_in dropped s = refl
unrefused_in stale s = refl

unrefused : (p : Panel) (r : Reader) (k : ℕ) → asked_number (asked p r k) ≡ 0
unrefused p r k = by_verdict (λ a. asked_number a ≡ 0) (ltb k p.slots) (asked_in r.mode (get_or r.shown k [])) no_such_slot (λ _. unrefused_in r.mode (get_or r.shown k [])) refl

number_by : (b : Bool) (a : Asked) → asked_number a ≡ 0 → asked_number (cond b a (refused state)) ≡ cond b 0 2
number_by true a e = e
number_by false a e = refl

-- A question's number is 2 exactly when the state is not well formed, else 0.
pub ask-refusal : (l : Layout) (s : ReaderState) (k : ℕ) → asked_number (ask_call l s k) ≡ cond (reader_good l s) 0 2
unfolding ask_call
ask-refusal l s k = number_by (reader_good l s) (asked (panel_of l s.setup) s.reader k) (unrefused (panel_of l s.setup) s.reader k)

-- So it is exact, as the other calls' are.
pub ask_exact : (l : Layout) (s : ReaderState) (k : ℕ) → Exact (asked_number (ask_call l s k)) (state_rows l s)
ask_exact l s k = exact (state_rows l s) _ tt (ask-refusal l s k)

values_in : (b : Bool) (s : Slot) → asked_values (cond b (contact s) empty) ≡ cond b s []
values_in true s = refl
values_in false s = refl

-- While following, a slot of the panel is answered with its shown numbers if it is in use, and with none otherwise.
pub ask-shown : (l : Layout) (s : ReaderState) (k : ℕ) → T (reader_good l s) → s.reader.mode ≡ following → k < s.setup.slots
    → asked_values (ask_call l s k) ≡ (let o = get_or s.reader.shown k [] in cond (live (id_of o)) o [])
unfolding ask_call
ask-shown l s k g m b =
    let o = get_or s.reader.shown k [] in
    ap asked_values (accepted-is (reader_good l s) _ _ g ∙ accepted-is (ltb k s.setup.slots) _ no_such_slot (lt→ltb k s.setup.slots b) ∙ ap (λ q. asked_in q o) m)
    ∙ values_in (live (id_of o)) o

-- ---- what is shown after a load

loaded_shows : (l : Layout) (s : ReaderState) (m : List ℤ) (c k : ℕ) → T (is_accepted (load_verdict l s m c)) → k < s.setup.slots
    → asked (panel_of l (load_call l s m c).state.setup) (load_call l s m c).state.reader k ≡ asked_in following (get_or (rows_of (panel_of l s.setup) m) k [])
unfolding load_call
loaded_shows l s m c k h b =
    let p = panel_of l s.setup in
    ap (λ (a : ReaderState). asked (panel_of l a.setup) a.reader k) (accepted-is (is_accepted (load_verdict l s m c)) _ s h)
    ∙ accepted-is (ltb k s.setup.slots) _ no_such_slot (lt→ltb k s.setup.slots b)
    ∙ (ap (asked_in following) (get_or-append (rows_of p m) (replicate (l.records - s.setup.slots) (unused_slot p.fields)) [] k (omega (arith, length-rows_from (length p.fields) s.setup.slots m 0))))

-- After an accepted load every slot of the panel is answered from the image's row: a contact with its numbers, or empty.
pub load-shows : (l : Layout) (s : ReaderState) (m : List ℤ) (c k : ℕ) → T (is_accepted (load_verdict l s m c)) → k < s.setup.slots
    → ask_call l (load_call l s m c).state k ≡ asked_in following (get_or (rows_of (panel_of l s.setup) m) k [])
unfolding ask_call
load-shows l s m c k h b = accepted-is (reader_good l (load_call l s m c).state) _ _ (load_steady l s m c (load-accepted l s m c h).good) ∙ (loaded_shows l s m c k h b)
