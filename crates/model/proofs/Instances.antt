-- The theorems at the product's layout, and at the cranes' beside it (K1). Cited by link. Assumes nothing.
use mathlib.Core.Path.{◌≡◌, refl}
use mathlib.Core.List.{List}
use Prim.Native.Nat.{◌*◌, ◌≤◌}
use native.Mathlib.Omega.{arith}
use lib.Dec.{T}
use lib.IntN.{ℤ}
use lib.ListN.{length}
use Rattle.model.proofs.Calls.{frame_limit}
use Rattle.model.proofs.Narrow.{short-setup, narrow_fresh}
use Rattle.model.specs.Panel.{Setup, setup_good, good_layout, panel_of, base, crane_records, crane}
use Rattle.model.specs.Records.{events_of}
use Rattle.model.specs.Frame.{values_good}
use Rattle.model.specs.States.{WriterState, writer_good}
use Rattle.model.specs.Calls.{fresh_writer_call, fresh_reader_call, frame_events, most_events, run_call}
use Rattle.model.specs.Shift.{FrameCall, wrote_all, written_all}
use Rattle.model.specs.Narrow.{crane_setup, Shorter, short_ran}

-- The product's layout is good, and a frame has 224 events and 1,792 bytes at most.
pub base-good : T (good_layout base)
base-good = tt

pub base-most : (s : WriterState) (f : List ℤ) → T (writer_good base s) → T (values_good (panel_of base s.setup) f) → length (frame_events (panel_of base s.setup) s.writer f) ≤ 224
base-most s f w v = frame_limit base s f tt w v

base-bytes : 8 * most_events base ≡ 1_792
base-bytes = refl

-- The cranes' layout is the shorter one, for every setup with no more slots than they have records.
module _ (u : Setup) (g : T (setup_good base u)) (few : u.slots ≤ crane_records) where
  crane_shorter : Shorter base crane u (crane_setup u)
  crane_shorter = record { axes = refl; records = omega arith; slots = refl; held = few; largest = refl }

  -- A crane's reader takes n, the largest x, y and pressure of the product's setup.
  pub crane-setup : T (setup_good crane (crane_setup u))
  unfolding crane_shorter
  crane-setup = short-setup base crane u (crane_setup u) crane_shorter g

  -- K1: given all bytes that the product's writer wrote so far, it shows the first four numbers of the writer's slots, and skipped the sizes alone.
  pub crane-shows : (qs : List FrameCall)
      → (let w = (fresh_writer_call base u).state in
      let bs = written_all base w qs in
      run_call crane (fresh_reader_call crane (crane_setup u)).state bs ≡ short_ran base crane (crane_setup u) (wrote_all base w qs) (events_of bs))
  unfolding crane_shorter
  crane-shows qs = narrow_fresh base crane u (crane_setup u) qs base-good g crane_shorter
