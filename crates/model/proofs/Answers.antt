-- Each call's answer, by the first test that fails: the equations that a code's returns cite. Assumes nothing.
use mathlib.Core.Path.{◌≡◌}
use mathlib.Core.Bool.{true, false}
use mathlib.Core.List.{List, [], ◌∷◌}
use Prim.Native.Nat.{ℕ, ◌%◌}
use lib.Dec.{eqb, ltb}
use lib.IntN.{ℤ}
use lib.ListN.{length, get_or}
-- Brought in so that it is checked first: refusals that change places then fail at the law that says when each is given.
use Rattle.model.specs.Panel.{Layout, Setup, setup_good, panel_of}
use Rattle.model.specs.Events.{Event}
use Rattle.model.specs.Records.{events_of}
use Rattle.model.specs.Reader.{following, settled_at, run as run_over}
use Rattle.model.specs.States.{ReaderState, reader_good, fresh_writer, fresh_reader, zero_writer, zero_reader}
use Rattle.model.specs.Calls.{accepted, setup, state, ragged, not_stale, image, fresh_writer_call, fresh_reader_call, run_verdict, not_run, ran, run_call, step_call, is_stale, image_table, image_good, load_verdict, load_call, refused, no_such_slot, asked_in, ask_call}

module _ (l : Layout) (u : Setup) where
  pub writer-not-made : setup_good l u ≡ false → fresh_writer_call l u ≡ record { verdict = setup; state = zero_writer l }
  unfolding fresh_writer_call
  writer-not-made e = rw e

  pub writer-made : setup_good l u ≡ true → fresh_writer_call l u ≡ record { verdict = accepted; state = record { setup = u; writer = fresh_writer (panel_of l u) } }
  unfolding fresh_writer_call
  writer-made e = rw e

  pub reader-not-made : setup_good l u ≡ false → fresh_reader_call l u ≡ record { verdict = setup; state = zero_reader l }
  unfolding fresh_reader_call
  reader-not-made e = rw e

  pub reader-made : setup_good l u ≡ true → fresh_reader_call l u ≡ record { verdict = accepted; state = record { setup = u; reader = fresh_reader (panel_of l u) } }
  unfolding fresh_reader_call
  reader-made e = rw e

module _ (l : Layout) (s : ReaderState) (bs : List ℕ) where
  pub run-bad-state : reader_good l s ≡ false → run_call l s bs ≡ not_run state s
  unfolding run_call run_verdict
  run-bad-state e = rw e

  pub run_ragged : reader_good l s ≡ true → eqb (length bs % 8) 0 ≡ false → run_call l s bs ≡ not_run ragged s
  unfolding run_call run_verdict
  run_ragged e f = rw (e, f)

  pub run-whole : reader_good l s ≡ true → eqb (length bs % 8) 0 ≡ true → run_call l s bs ≡ ran s.setup (run_over (panel_of l s.setup) s.reader (events_of bs))
  unfolding run_call run_verdict
  run-whole e f = rw (e, f)

module _ (l : Layout) (s : ReaderState) (e : Event) where
  pub step-bad-state : reader_good l s ≡ false → step_call l s e ≡ not_run state s
  unfolding step_call
  step-bad-state g = rw g

  pub step-whole : reader_good l s ≡ true → step_call l s e ≡ ran s.setup (run_over (panel_of l s.setup) s.reader (e ∷ []))
  unfolding step_call
  step-whole g = rw g

module _ (l : Layout) (s : ReaderState) (m : List ℤ) (c : ℕ) where
  pub load-bad-state : reader_good l s ≡ false → load_call l s m c ≡ record { verdict = state; state = s }
  unfolding load_call load_verdict
  load-bad-state e = rw e

  pub load-not_stale : reader_good l s ≡ true → is_stale s.reader.mode ≡ false → load_call l s m c ≡ record { verdict = not_stale; state = s }
  unfolding load_call load_verdict
  load-not_stale e f = rw (e, f)

  pub load-bad-image : reader_good l s ≡ true → is_stale s.reader.mode ≡ true → image_good (panel_of l s.setup) m c ≡ false → load_call l s m c ≡ record { verdict = image; state = s }
  unfolding load_call load_verdict
  load-bad-image e f g = rw (e, f, g)

  pub load-taken : reader_good l s ≡ true → is_stale s.reader.mode ≡ true → image_good (panel_of l s.setup) m c ≡ true
      → load_call l s m c ≡ record { verdict = accepted; state = record { setup = s.setup; reader = settled_at (image_table (panel_of l s.setup) m) c following } }
  unfolding load_call load_verdict
  load-taken e f g = rw (e, f, g)

module _ (l : Layout) (s : ReaderState) (k : ℕ) where
  pub ask-bad-state : reader_good l s ≡ false → ask_call l s k ≡ refused state
  unfolding ask_call
  ask-bad-state e = rw e

  pub ask_no_slot : reader_good l s ≡ true → ltb k s.setup.slots ≡ false → ask_call l s k ≡ no_such_slot
  unfolding ask_call
  ask_no_slot e f = rw (e, f)

  pub ask-slot : reader_good l s ≡ true → ltb k s.setup.slots ≡ true → ask_call l s k ≡ asked_in s.reader.mode (get_or s.reader.shown k [])
  unfolding ask_call
  ask-slot e f = rw (e, f)
