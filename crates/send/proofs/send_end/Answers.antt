-- `send::send_end` writes the tools, X and Y, and the report. Assumes nothing.
use mathlib.Core.Path.{◌∙◌}
use mathlib.Core.List.{List, ◌++◌}
use Prim.Native.Nat.{ℕ, ◌+◌, ◌≤◌}
use native.Mathlib.Omega.{arith}
use lib.ListN.{length}
use Rattle.model.specs.Records.{record_bytes}
use Rattle.records.proofs.Over.{record_length, lay_put}
use Rattle.send.specs.Told.{tool_bytes, place_bytes}
use Rattle.send.proofs.Parts.{record_room, Begun, begins}
use Rattle.send.proofs.send_end.Goals.{After-put_display-end}
use Rattle.send.proofs.send_end.Goals as goal

-- The report.
abbrev R : List ℕ
R = record_bytes 0 0 0

begun : (c : After-put_display-end) → (let s = c in
    Begun s.args.at c.put_display-end.result (tool_bytes s.args.q s.args.z ++ place_bytes s.args.q s.args.z) R s.args.b.now c.put_display-end.new.b)
begun c = begins c.put_display-end.ensures.0 c.put_display-end.ensures.1 c.requires

fits : (c : After-put_display-end) → c.put_display-end.result + 8 ≤ length c.put_display-end.new.b
fits c = omega (arith, record_length 0 0 0, (begun c).room)

pub put-requires : goal.put-requires
put-requires c =
    let p = c in
    record_room p.put_display-end.result p.put_display-end.new.b (fits (goal.at.put-requires p).After-put_display-end)

pub returns : goal.returns
returns c =
    let here = (goal.at.returns c).After-put_display-end in
    let n = c.put in
    let p = c in
    lay_put p.put_display-end.result R p.put_display-end.new.b n.new.b (omega (arith, fits here)) n.ensures ∙ (begun here).bytes
