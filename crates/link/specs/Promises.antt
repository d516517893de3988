-- The promises of the calls as claims of what is handed in and what is answered: each is its contract's own equation, which proofs/Contracts
-- checks. The demands are said of them. Assumes nothing.
use Rattle.std.specs.Prelude.{◌≡◌, Bool, true, List, ℕ, ◌<◌, ℤ, length}
use Rattle.model.specs.Panel.{base}
use Rattle.model.specs.Records.{record_bytes}
use Rattle.model.specs.Reader.{Lost, plus}
use Rattle.model.specs.States.{reader_good}
use Rattle.model.specs.Calls.{fresh_reader_call, run_call, step_call, load_call, ask_call}
use Rattle.model.specs.Pointing.{pointer_good, fresh_pointer_call, pointer_call, pointer_buffer}
use Rattle.panel.specs.declared.Setup.{Setup}
use Rattle.panel.specs.Seen.{setup_of}
use Rattle.records.specs.declared.Event.{Event}
use Rattle.records.specs.Seen.{event_of}
use Rattle.writer.specs.declared.WriterState.{WriterState}
use Rattle.writer.specs.declared.FreshWriter.{FreshWriter}
use Rattle.writer.specs.declared.Written.{Written}
use Rattle.writer.specs.Seen as W
use Rattle.common.specs.declared.Mode.TheVariants.{Following}
use Rattle.common.specs.Seen.{mode_of, counts_of, counts_from}
use Rattle.reader.specs.declared.ReaderState.{ReaderState}
use Rattle.common.specs.declared.Counts.{Counts}
use Rattle.reader.specs.declared.RunAnswer.{RunAnswer}
use Rattle.reader.specs.declared.FreshAnswer.{FreshAnswer}
use Rattle.reader.specs.States as R
use Rattle.reader.specs.declared.SlotAnswer.{SlotAnswer}
use Rattle.reader.specs.declared.LoadAnswer.{LoadAnswer}
use Rattle.reader.specs.Seen.{loaded_from, asked_from}

-- ---- the writer's

-- What `WriterState::fresh` promises of its answer, for a setup and the option.
abbrev pub WriterMade : Setup → Bool → FreshWriter → Type 0
WriterMade u on r = r ≡ W.fresh_from (fresh_pointer_call base on (setup_of u))

-- What `write` promises of its answer and of the buffer afterwards.
abbrev pub Wrote : WriterState → List ℤ → ℕ → List ℕ → Written → List ℕ → Type 0
Wrote s f at buf r after = (r ≡ W.written_from (pointer_call base (W.seen s) f at (length buf))) × (after ≡ pointer_buffer base (W.seen s) f at buf)

-- ---- the reader's

-- What `ReaderState::fresh` promises of its answer.
abbrev pub ReaderMade : Setup → FreshAnswer → Type 0
ReaderMade u r = r ≡ R.fresh_from (fresh_reader_call base (setup_of u))

-- What `run` promises of its answer.
abbrev pub Ran : ReaderState → List ℕ → RunAnswer → Type 0
Ran s bs q = q ≡ R.ran_from (run_call base (R.seen s) bs)

-- What `read_one` promises of its answer.
abbrev pub ReadOne : ReaderState → Event → RunAnswer → Type 0
ReadOne s e q = q ≡ R.ran_from (step_call base (R.seen s) (event_of e))

-- What `load` promises of its answer.
abbrev pub Loaded : ReaderState → List ℤ → ℕ → LoadAnswer → Type 0
Loaded s m c q = q ≡ loaded_from (load_call base (R.seen s) m c)

-- What `ask` promises of its answer.
abbrev pub Asked : ReaderState → ℕ → SlotAnswer → Type 0
Asked s k r = r ≡ asked_from (ask_call base (R.seen s) k)

-- ---- for the demands

-- A writer's state is well formed, with the option on or off.
abbrev pub GoodWriter : WriterState → Type 0
GoodWriter s = pointer_good base (W.seen s) ≡ true

-- A reader's state is well formed.
abbrev pub GoodReader : ReaderState → Type 0
GoodReader s = reader_good base (R.seen s) ≡ true

-- The reader lost track.
abbrev pub LostTrack : ReaderState → Type 0
LostTrack s = Lost (mode_of s.mode)

-- A record whose numbers have the widths of their types.
pub record Sized (e : Event) : Type 0 where
  pub kind : e.kind < 65_536
  pub code : e.code < 65_536
  pub value : e.value < 4_294_967_296

-- The eight bytes of a record.
abbrev pub bytes_of : Event → List ℕ
bytes_of e = record_bytes e.kind e.code e.value

-- A reader of the same setup, table and current slot, following and with nothing pending.
abbrev pub pupil_of : WriterState → ReaderState
pupil_of s = record { setup = s.setup; shown = s.table; pending = s.table; current = s.current; mode = Following }

-- Two counts added up, the first one's first event skipped.
abbrev pub added : Counts → Counts → Counts
added a b = counts_from (plus (counts_of a) (counts_of b))

-- Two runs, one after the other, as one answer: the later verdict and state, and the counts added up.
abbrev pub joined : RunAnswer → RunAnswer → RunAnswer
joined a b = record { verdict = b.verdict; state = b.state; counts = added a.counts b.counts }
