-- `send::put_display` writes the tools, and X and Y. Assumes nothing.
use mathlib.Core.Path.{◌∙◌}
use Rattle.send.specs.Told.{tool_bytes, place_bytes}
use Rattle.send.proofs.Parts.{Begun, begins}
use Rattle.send.proofs.put_display.Goals.{After-put_tools-i}
use Rattle.send.proofs.put_display.Goals as goal

begun : (c : After-put_tools-i) → (let s = c in
    Begun s.args.at c.put_tools-i.result (tool_bytes s.args.q s.args.z) (place_bytes s.args.q s.args.z) s.args.b.now c.put_tools-i.new.b)
begun c = begins c.put_tools-i.ensures.0 c.put_tools-i.ensures.1 c.requires

pub returns : goal.returns
returns c =
    let n = c.put_place in
    let first = begun (goal.at.returns c).After-put_tools-i in
    (n.ensures.0 ∙ first.ends, n.ensures.1 ∙ first.bytes)
