-- `writer::unchanged` hands a state back, unless the position is past the end. Assumes nothing.
use mathlib.Core.Path.{sym, ap, ◌∙◌}
use Rattle.writer.specs.Seen.{still_by}
use Rattle.writer.proofs.unchanged.Goals as goal

pub returns-then-not-has_room : goal.returns-then-not-has_room
returns-then-not-has_room c =
    let t = c in
    let h = t in
    let none = sym h.has_room.ensures ∙ t.if-not-has_room.true in
    c.refused.ensures ∙ sym (ap (still_by h.args.state) none)

pub returns : goal.returns
returns c =
    let h = c in
    let room = sym h.has_room.ensures ∙ c.if-not-has_room.false in
    sym (ap (still_by h.args.state) room)
