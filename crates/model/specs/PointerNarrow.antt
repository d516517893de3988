-- What a reader with the first axes of a longer layout makes of a writer with pointer emulation, as the cranes' does of the product's (K1, K6): which
-- events it skips, and what it counts. Assumes nothing.
use Rattle.std.specs.Prelude.{◌≡◌, Bool, ◌||◌, List, [], ◌∷◌, ℕ, eqb}
use Rattle.model.specs.Panel.{Layout, Setup, Panel}
use Rattle.model.specs.Events.{Event}
use Rattle.model.specs.Reader.{Counts}
use Rattle.model.specs.Loss.{is_report}
use Rattle.model.specs.Skips.{skipped_by}
use Rattle.model.specs.States.{WriterState}
use Rattle.model.specs.Calls.{accepted, Ran}
use Rattle.model.specs.Shift.{how_many, first_of}
use Rattle.model.specs.Narrow.{short_pupil, later_codes, has_code}
use Rattle.model.specs.Pointer.{pointer_x, pointer_y}

-- BTN_TOUCH or a tool: an event of type 1.
abbrev pub is_button : Event → Bool
is_button e = eqb e.type 1

-- ABS_X or ABS_Y: type 3, and code 0 or 1.
abbrev pub is_place : Event → Bool
is_place e = has_code (pointer_x ∷ pointer_y ∷ []) e

-- Of the events the panel skips the emulated ones alone.
abbrev pub SkipsAlone : Panel → List Event → Type 0
SkipsAlone p [] = Unit {0}
SkipsAlone p (e ∷ es) = (skipped_by p e ≡ (is_button e || is_place e)) × SkipsAlone p es

-- A table shown for each SYN_REPORT; the buttons skipped for their type, the events of these codes and X and Y for their code; the first of all these,
-- and nothing else.
abbrev pub pointed_counts : List ℕ → List Event → Counts
pointed_counts codes es = record {
  shown = how_many is_report es;
  types = how_many is_button es;
  codes = how_many (λ e. has_code codes e || is_place e) es;
  bad = 0;
  ignored = 0;
  first = first_of (λ e. is_button e || (has_code codes e || is_place e)) es;
}

-- What a run over these events answers that leaves the short reader of layout s and setup v as that of a writer w of layout l.
abbrev pub pointed_ran : Layout → Layout → Setup → WriterState → List Event → Ran
pointed_ran l s v w es = record { verdict = accepted; state = short_pupil s v w; counts = pointed_counts (later_codes l s) es }
