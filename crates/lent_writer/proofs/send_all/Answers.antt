-- `lent_writer::send_all` writes BTN_TOUCH, the changed slots' events, what else the display is told and the report, one behind the other. Assumes nothing.
use mathlib.Core.Path.{sym, ap, subst, ◌∙◌}
use mathlib.Core.List.{◌++◌, append_assoc}
use Prim.Native.Nat.{◌+◌, ◌≤◌}
use lib.ListN.{length}
use Rattle.model.specs.Records.{lay}
use Rattle.send.specs.Sent.{bytes_sent, sent_by}
use Rattle.send.specs.Told.{touch_bytes, end_bytes}
use Rattle.send.proofs.Parts.{Begun, begins}
use Rattle.lent.specs.Lent.{table_in}
use Rattle.lent_writer.proofs.send_all.Goals as goal

-- BTN_TOUCH, the slots and the end are laid one behind the other.
pub returns : goal.returns
returns c =
    let a = c.args in
    let q = a.s.told in
    let z = a.s.moved.told in
    let touch = touch_bytes q z in
    let slots = bytes_sent (sent_by (table_in a.old.now) (table_in a.new.now) a.s.others a.s.current.0) in
    let end = end_bytes q z in
    let start = c.send_touch-start in
    let sent = c.send_slots-sent in
    let room = subst (λ l. a.at + length l ≤ length a.b.now) (append_assoc touch slots end) c.requires.3 in
    let first : Begun a.at start.result touch (slots ++ end) a.b.now start.new.b = begins start.ensures.0 start.ensures.1 room in
    let second : Begun start.result sent.result.end slots end start.new.b sent.new.b = begins sent.ensures.ends sent.ensures.bytes first.room in
    record { last = sent.ensures.last; bytes = c.send_end.ensures ∙ second.bytes ∙ first.bytes ∙ ap (λ x. lay a.at x a.b.now) (sym (append_assoc touch slots end)) }
