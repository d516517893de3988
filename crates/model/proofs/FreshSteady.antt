-- Steady: fresh states are well formed. Cited by Layouts, Calls and the code's crates. Assumes nothing.
use mathlib.Core.List.{List, [], ◌∷◌, map}
use Prim.Native.Nat.{ℕ, zero, suc, ◌≤◌, ◌<◌}
use native.Mathlib.Omega.{arith}
use lib.Dec.{T, leb, le→leb, leb→le}
use lib.IntN.{pos}
use lib.ListN.{replicate, length-replicate}
use Rattle.model.proofs.Bools.{both, both_left, both_right}
use Rattle.model.proofs.Tables.{good-table, unused-good}
use Rattle.model.specs.Numbers.{between}
use Rattle.model.specs.Panel.{Axis, Layout, Setup, Field, setup_good, axis_fields, panel_of}
use Rattle.model.specs.Table.{ids_differ, good_slot, unused_slot, good_table}
use Rattle.model.specs.States.{fresh_table, fresh_writer, fresh_reader}
use Rattle.model.proofs.ReaderSteady.{SteadyReader}
use Rattle.model.proofs.WriterSteady.{SteadyWriter}

-- ---- fresh states

zeros-good : (axes : List Axis) (largest : List ℕ) → T (good_slot (axis_fields axes largest) (map (λ f. pos 0) (axis_fields axes largest)))
zeros-good [] vs = tt
zeros-good (a ∷ axes) [] = tt
zeros-good (a ∷ axes) (v ∷ vs) = both (leb 0 v) _ (le→leb 0 v (omega arith)) (zeros-good axes vs)

-- A record that was never used is a good slot.
pub unused-fits : (l : Layout) (u : Setup) → T (good_slot (panel_of l u).fields (unused_slot (panel_of l u).fields))
unused-fits l u = zeros-good l.axes u.largest

-- The setup's number of slots is 1 to the number of records.
pub setup-slots : (l : Layout) (u : Setup) → T (setup_good l u) → (0 < u.slots) × (u.slots ≤ l.records)
setup-slots l u g =
    let s = both_left (between 1 l.records u.slots) _ g in
    (leb→le 1 u.slots (both_left (leb 1 u.slots) _ s), leb→le u.slots l.records (both_right (leb 1 u.slots) _ s))

unused-differ : (fs : List Field) (m : ℕ) → T (ids_differ (replicate m (unused_slot fs)))
unused-differ fs zero = tt
unused-differ [] (suc m) = unused-differ [] m
unused-differ (f ∷ fs) (suc m) = unused-differ (f ∷ fs) m

pub fresh-table : (l : Layout) (u : Setup) → T (setup_good l u) → T (good_table (panel_of l u) (fresh_table (panel_of l u)))
fresh-table l u g = good-table (panel_of l u) _ (length-replicate l.records _) (unused-good (panel_of l u).fields u.slots l.records (setup-slots l u g).1 (unused-fits l u))

-- A fresh writer is well formed.
pub fresh-writer : (l : Layout) (u : Setup) → T (setup_good l u) → SteadyWriter (panel_of l u) (fresh_writer (panel_of l u))
fresh-writer l u g = record { good = fresh-table l u g; differs = unused-differ (panel_of l u).fields l.records; below = (setup-slots l u g).0; counts = omega arith }

-- So is a fresh reader.
pub fresh-reader : (l : Layout) (u : Setup) → T (setup_good l u) → SteadyReader (panel_of l u) (fresh_reader (panel_of l u))
fresh-reader l u g = record { shows = fresh-table l u g; pends = fresh-table l u g; differs = unused-differ (panel_of l u).fields l.records; below = (setup-slots l u g).0; settles = tt }
