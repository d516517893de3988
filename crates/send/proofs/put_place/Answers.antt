-- `send::put_place` writes X and Y. Assumes nothing.
use mathlib.Core.Path.{◌∙◌}
use Rattle.send.specs.Sent.{told_bytes}
use Rattle.send.proofs.Parts.{Begun, begins}
use Rattle.send.proofs.put_place.Goals.{After-put_number-i}
use Rattle.send.proofs.put_place.Goals as goal

begun : (c : After-put_number-i) → (let s = c in
    Begun s.args.at c.put_number-i.result (told_bytes 3 0 s.args.q.x s.args.z.x) (told_bytes 3 1 s.args.q.y s.args.z.y) s.args.b.now c.put_number-i.new.b)
begun c = begins c.put_number-i.ensures.0 c.put_number-i.ensures.1 c.requires

pub returns : goal.returns
returns c =
    let n = c.put_number in
    let first = begun (goal.at.returns c).After-put_number-i in
    (n.ensures.0 ∙ first.ends, n.ensures.1 ∙ first.bytes)
