-- What the cranes' reader promises, as claims of what is handed in and what is answered, and what K1 asks of it. proofs/Contracts checks the claims
-- against the contracts. Assumes nothing.
use Rattle.std.specs.Prelude.{◌≡◌, Bool, ◌||◌, List, [], ◌∷◌, map, ℕ, take}
use Rattle.model.specs.Panel.{crane_records, crane}
use Rattle.model.specs.Events.{Event}
use Rattle.model.specs.Records.{events_of}
use Rattle.model.specs.Loss.{is_report}
use Rattle.model.specs.Calls.{fresh_reader_call, run_call}
use Rattle.model.specs.Shift.{how_many, first_of}
use Rattle.model.specs.Narrow.{has_code}
use Rattle.model.specs.PointerNarrow.{is_button, is_place}
use Rattle.common.specs.declared.Verdict.TheVariants.{Accepted}
use Rattle.common.specs.declared.Mode.TheVariants.{Following}
use Rattle.common.specs.Seen.{skipped_from}
use Rattle.panel.specs.declared.Slot.{Slot}
use Rattle.panel.specs.declared.Setup.{Setup}
use Rattle.writer.specs.declared.WriterState.{WriterState}
use Rattle.reader.specs.declared.RunAnswer.{RunAnswer}
use Rattle.crane_panel.specs.declared.Slot.{Slot as CraneSlot}
use Rattle.crane_panel.specs.declared.Setup.{Setup as CraneSetup}
use Rattle.crane_panel.specs.Seen.{setup_of}
use Rattle.crane_reader.specs.declared.ReaderState.{ReaderState as CraneState}
use Rattle.crane_reader.specs.declared.FreshAnswer.{FreshAnswer as CraneFresh}
use Rattle.crane_reader.specs.declared.RunAnswer.{RunAnswer as CraneAnswer}
use Rattle.crane_reader.specs.States.{seen, fresh_from, ran_from}

-- ---- the promises

-- What the cranes' `ReaderState::fresh` promises of its answer.
abbrev pub CraneMade : CraneSetup → CraneFresh → Type 0
CraneMade u r = r ≡ fresh_from (fresh_reader_call crane (setup_of u))

-- What the cranes' `run` promises of its answer.
abbrev pub CraneRan : CraneState → List ℕ → CraneAnswer → Type 0
CraneRan s bs q = q ≡ ran_from (run_call crane (seen s) bs)

-- ---- what K1 asks

-- The setup that a crane is given: n, x, y and pressure of the product's.
abbrev pub crane_setup : Setup → CraneSetup
crane_setup u = record { n = u.n; x = u.x; y = u.y; pressure = u.pressure }

-- A slot's id, x, y and pressure.
abbrev pub four : Slot → CraneSlot
four s = record { id = s.id; x = s.x; y = s.y; pressure = s.pressure }

-- Those of the slots that a crane has records for.
abbrev pub fours : List Slot → List CraneSlot
fours t = map four (take crane_records t)

-- A touch size: type 3, and code 0x30 or 0x31.
abbrev pub is_size : Event → Bool
is_size e = has_code (0x30 ∷ 0x31 ∷ []) e

-- An event whose code a crane does not know: a size, or the pointer's X or Y (K6).
abbrev pub is_other : Event → Bool
is_other e = is_size e || is_place e

-- A crane's answer to the bytes bs tells the writer's state w: it follows with nothing pending, shows four numbers of every slot and has the current
-- slot; the tables that it showed are the SYN_REPORTs, the events that it skipped are the buttons, for their type, and the sizes and X and Y, for their
-- code, and nothing else was counted.
pub record CraneFollows (w : WriterState) (bs : List ℕ) (q : CraneAnswer) : Type 0 where
  pub accepted : q.verdict ≡ Accepted
  pub follows : q.state.mode ≡ Following
  pub current : q.state.current ≡ w.current
  pub shown : q.state.shown ≡ fours w.table
  pub pending : q.state.pending ≡ fours w.table
  pub reports : q.counts.shown ≡ how_many is_report (events_of bs)
  pub types : q.counts.types ≡ how_many is_button (events_of bs)
  pub codes : q.counts.codes ≡ how_many is_other (events_of bs)
  pub first : q.counts.first ≡ skipped_from (first_of (λ e. is_button e || is_other e) (events_of bs))
  pub bad : q.counts.bad ≡ 0
  pub ignored : q.counts.ignored ≡ 0

-- It skipped the sizes alone, as with the option off.
pub record SizesAlone (bs : List ℕ) (q : CraneAnswer) : Type 0 where
  pub types : q.counts.types ≡ 0
  pub sizes : q.counts.codes ≡ how_many is_size (events_of bs)
  pub first : q.counts.first ≡ skipped_from (first_of is_size (events_of bs))

-- A crane's answer q beside the answer p of the product's reader: the same mode and current slot, and four numbers of what that one shows and holds pending.
pub record Alike (p : RunAnswer) (q : CraneAnswer) : Type 0 where
  pub mode : q.state.mode ≡ p.state.mode
  pub current : q.state.current ≡ p.state.current
  pub shown : q.state.shown ≡ fours p.state.shown
  pub pending : q.state.pending ≡ fours p.state.pending
