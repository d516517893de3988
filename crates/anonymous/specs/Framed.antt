-- The frame that a type A frame's records make of a good state's table, and the verdict on them. Cited by the contract of `read_frame`. Assumes nothing.
use Rattle.std.specs.Prelude.{◌≡◌, true, cond, List, ◌++◌, ℕ, ◌-◌, ◌*◌, ◌%◌, eqb, ℤ, pos, length, replicate}
use Rattle.model.specs.Panel.{Panel, base, setup_good, per_slot, records}
use Rattle.model.specs.Table.{good_records}
use Rattle.model.specs.Records.{events_of}
use Rattle.model.specs.Calls as C
use Rattle.model.specs.Calls.{check, is_accepted}
use Rattle.model.specs.Packets.{contacts_good, packets_of}
use Rattle.model.specs.Anonymous.{few_enough, frame_of}
use Rattle.common.specs.declared.Verdict.{Verdict}
use Rattle.common.specs.Seen.{verdict_from}
use Rattle.panel.specs.declared.Slot.{Slot}
use Rattle.panel.specs.declared.Setup.{Setup}
use Rattle.panel.specs.Seen.{table_of, setup_of, fields_of, panel_seen}
use Rattle.anonymous.specs.declared.Framed.{Framed}

-- A good setup, and slots as a good state has them.
pub record Fit (u : Setup) (t : List Slot) : Type 0 where
  pub setup : setup_good base (setup_of u) ≡ true
  pub slots : good_records (fields_of u) u.n (table_of t) ≡ true

-- What is judged once the state is good: whole records, how many contacts, whether the frame is finished, the values.
abbrev pub records_verdict : Panel → List ℕ → C.Verdict
records_verdict p bs =
    let a = packets_of (events_of bs) in
    check (eqb (length bs % 8) 0) C.ragged
    (check (few_enough p a.contacts) C.too_many (check a.sound C.unfinished (check (contacts_good p a.contacts) C.value C.accepted)))

-- Zeros behind a frame of n rows, up to the largest frame's end.
abbrev pub behind : ℕ → List ℤ
behind n = replicate (per_slot * (records - n)) (pos 0)

-- No frame: zeros alone.
abbrev pub unframed_by : Verdict → Framed
unframed_by v = record { frame = replicate (per_slot * records) (pos 0); size = 0; verdict = v }

-- By the verdict: the frame, or none.
abbrev pub framed_by : C.Verdict → Setup → List Slot → List ℕ → Framed
framed_by v u t bs = record {
  frame = cond (is_accepted v) (frame_of (panel_seen u) (table_of t) (packets_of (events_of bs)).contacts ++ behind u.n) (replicate (per_slot * records) (pos 0));
  size = cond (is_accepted v) (per_slot * u.n) 0;
  verdict = verdict_from v;
}

-- The answer.
abbrev pub framed_from : Setup → List Slot → List ℕ → Framed
framed_from u t bs = framed_by (records_verdict (panel_seen u) bs) u t bs
