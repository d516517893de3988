-- Document 01's table "When we say no": for each call its tests in rising number, and what it is for a number to be given exactly when it says.
-- The chains of tests in Calls decide what is answered; the laws of Exact say that they answer this table. Assumes nothing.
use Rattle.std.specs.Prelude.{◌≡◌, Bool, true, not, ◌&&◌, List, [], ◌∷◌, ◌↔◌, ℕ, ◌%◌, T, eqb, ℤ, length}
use Rattle.model.specs.Panel.{Layout, Setup, setup_good, panel_of}
use Rattle.model.specs.Frame.{sized, values_good}
use Rattle.model.specs.States.{WriterState, writer_good, ReaderState, reader_good}
use Rattle.model.specs.Calls.{need_of, room_for, is_stale, image_good}
use Rattle.model.specs.Pod as P

-- A row of the table: the number, and the test that passes where it is not given.
pub record Row : Type 0 where
  pub number : ℕ
  pub passes : Bool

abbrev pub unless : ℕ → Bool → Row
unless n b = record { number = n; passes = b }

-- Of the number n that a call answers, where `earlier` says whether all rows before these passed: the number of each row is answered exactly
-- when its test fails and all before it pass, and 0 exactly when all pass.
abbrev pub ExactFrom : Bool → ℕ → List Row → Type 0
ExactFrom earlier n [] = (n ≡ 0) ↔ T earlier
ExactFrom earlier n (r ∷ rows) = ((n ≡ r.number) ↔ T (earlier && not r.passes)) × ExactFrom (earlier && r.passes) n rows

-- The whole table of a call.
abbrev pub Exact : ℕ → List Row → Type 0
Exact n rows = ExactFrom true n rows

-- ---- the rows of each call

-- A fresh writer or reader: SETUP.
abbrev pub fresh_rows : Layout → Setup → List Row
fresh_rows l u = unless 1 (setup_good l u) ∷ []

-- A frame: STATE, FRAME, VALUE, NO ROOM.
abbrev pub write_rows : Layout → WriterState → List ℤ → ℕ → ℕ → List Row
write_rows l s f at size =
    let p = panel_of l s.setup in
    unless 2 (writer_good l s) ∷ unless 3 (sized p f) ∷ unless 4 (values_good p f) ∷ unless 5 (room_for (need_of p s.writer f) at size) ∷ []

-- A run: STATE, RAGGED.
abbrev pub run_rows : Layout → ReaderState → List ℕ → List Row
run_rows l s bs = unless 2 (reader_good l s) ∷ unless 6 (eqb (length bs % 8) 0) ∷ []

-- One event by itself, and a question: STATE.
abbrev pub state_rows : Layout → ReaderState → List Row
state_rows l s = unless 2 (reader_good l s) ∷ []

-- A load: STATE, NOT STALE, IMAGE.
abbrev pub load_rows : Layout → ReaderState → List ℤ → ℕ → List Row
load_rows l s m c = unless 2 (reader_good l s) ∷ unless 7 (is_stale s.reader.mode) ∷ unless 8 (image_good (panel_of l s.setup) m c) ∷ []

-- A pod's byte: STATE.
abbrev pub pod_rows : P.State → List Row
pod_rows s = unless 2 (P.well_formed s) ∷ []
