-- That what the theorems ask of a reader can be met, computed: a well-formed reader that lost track, a load that it takes, and records that lose track.
-- Cited by docs/PROMISES.md. Assumes nothing.
use mathlib.Core.Path.{◌≡◌, refl}
use mathlib.Core.Bool.{true}
use mathlib.Core.List.{List, [], ◌∷◌}
use Prim.Native.Nat.{ℕ, ◌*◌}
use lib.IntN.{ℤ, pos}
use Rattle.model.specs.Panel.{base}
use Rattle.model.specs.Records.{signed_of, event_at}
use Rattle.model.specs.Frame.{rows_from}
use Rattle.model.specs.Loss.{is_dropped, bad_value, loses_track}
use Rattle.model.specs.States.{reader_good}
use Rattle.model.specs.Calls.{is_accepted, load_verdict}
use Rattle.panel.specs.Seen.{panel_seen, unused_all}
use Rattle.common.specs.declared.Mode.TheVariants.{Stale}
use Rattle.reader.specs.declared.ReaderState.{ReaderState}
use Rattle.reader.specs.States.{seen}

-- A reader of one slot that went stale.
abbrev pub astray : ReaderState
astray = record {
  setup = record { n = 1; x = 4_000; y = 4_000; pressure = 255; major = 255; minor = 255 };
  shown = unused_all;
  pending = unused_all;
  current = record { 0 = 0 };
  mode = Stale;
}

-- One contact, at 100, 200 and 30, with id 7 and sizes 80 and 40.
abbrev pub image : List ℤ
image = pos 7 ∷ pos 100 ∷ pos 200 ∷ pos 30 ∷ pos 80 ∷ pos 40 ∷ []

pub astray_good : reader_good base (seen astray) ≡ true
unfolding reader_good
astray_good = refl

pub astray_loads : is_accepted (load_verdict base (seen astray) image 0) ≡ true
unfolding reader_good load_verdict rows_from
astray_loads = refl

-- SYN_DROPPED, and ABS_MT_SLOT with the value 1, which a panel of one slot does not have.
abbrev pub dropped : List ℕ
dropped = 0 ∷ 0 ∷ 3 ∷ 0 ∷ 0 ∷ 0 ∷ 0 ∷ 0 ∷ []

abbrev pub bad_slot : List ℕ
bad_slot = 3 ∷ 0 ∷ 0x2f ∷ 0 ∷ 1 ∷ 0 ∷ 0 ∷ 0 ∷ []

pub dropped_is : is_dropped (event_at dropped (8 * 0)) ≡ true
dropped_is = refl

pub bad-is : bad_value (panel_seen astray.setup) (event_at bad_slot (8 * 0)) ≡ true
unfolding signed_of
bad-is = refl

-- A report while two slots have id 7.
pub repeated_is : loses_track (panel_seen astray.setup) ((pos 7 ∷ []) ∷ (pos 7 ∷ []) ∷ []) (record { type = 0; code = 0; value = pos 0 }) ≡ true
repeated_is = refl
