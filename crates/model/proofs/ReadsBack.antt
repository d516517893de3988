-- Demand 2: what was written reads back to the new table. Over events; Bytes has it over bytes, Calls over the calls. Assumes nothing.
use mathlib.Core.Path.{◌≡◌, ap, ◌∙◌}
use Prim.Native.Nat.{ℕ}
use lib.Dec.{T}
use Rattle.model.proofs.Tables.{good-records, alike}
use Rattle.model.proofs.Follow.{heeds_sending}
use Rattle.model.proofs.Codes.{tells, all_back, sending-good}
use Rattle.model.specs.Panel.{Panel, tellable}
use Rattle.model.specs.Table.{Table, ids_differ, good_table}
use Rattle.model.specs.Reader.{follow, steps, read}
use Rattle.model.specs.Sending.{sending, events_sent, current_after}

-- A following reader with the writer's old table and current slot and nothing pending, that reads the events from the old to the new table,
-- follows, shows and holds pending the new table, and has the writer's current slot.
pub reads_back : (p : Panel) (old new : Table) (c : ℕ) → T (tellable p) → T (good_table p old) → T (good_table p new) → T (ids_differ new)
    → read p (follow old old c) (events_sent p c old new) ≡ follow new new (current_after c old new)
reads_back p old new c w g k u =
    ap (λ xs. steps (follow old old c) xs) (all_back p (tells p w) (sending c old new) (sending-good p.fields p.slots c old new (good-records p old g) (good-records p new k)))
    ∙ heeds_sending old new c (alike p old new g k) u
