-- `send::put_tools` writes the old tool's 0 and the new tool's 1. Assumes nothing.
use mathlib.Core.Path.{◌≡◌, ap, ap₂, ◌∙◌}
use mathlib.Core.List.{◌++◌}
use Prim.Native.Nat.{◌+◌, ◌≤◌}
use native.Mathlib.Omega.{arith}
use lib.ListN.{length}
use Rattle.model.specs.Records.{lay}
use Rattle.send.specs.Sent.{told_bytes}
use Rattle.send.specs.Told.{tool_bytes}
use Rattle.send.proofs.Parts.{Begun, begins}
use Rattle.send.proofs.put_tools.Goals.{After-one_if, After-put_number-i}
use Rattle.send.proofs.put_tools.Goals as goal

whole : (c : After-one_if) → (told_bytes 1 c.args.q.tool c.zero_if.result 0) ++ (told_bytes 1 c.args.z.tool c.one_if.result 1) ≡ tool_bytes c.args.q c.args.z
whole c =
    ap₂ (λ a b. told_bytes 1 c.args.q.tool a 0 ++ told_bytes 1 c.args.z.tool b 1) c.zero_if.ensures c.one_if.ensures

whole-at-After-put_number-i : (c : After-put_number-i) → (told_bytes 1 c.args.q.tool c.zero_if.result 0) ++ (told_bytes 1 c.args.z.tool c.one_if.result 1) ≡ tool_bytes c.args.q c.args.z
whole-at-After-put_number-i c =
    ap₂ (λ a b. told_bytes 1 c.args.q.tool a 0 ++ told_bytes 1 c.args.z.tool b 1) c.zero_if.ensures c.one_if.ensures

room : (c : After-one_if) → c.args.at + length ((told_bytes 1 c.args.q.tool c.zero_if.result 0) ++ (told_bytes 1 c.args.z.tool c.one_if.result 1)) ≤ length c.args.b.now
room c = omega (arith, ap length (whole c), c.requires)

room-at-After-put_number-i : (c : After-put_number-i) → c.args.at + length ((told_bytes 1 c.args.q.tool c.zero_if.result 0) ++ (told_bytes 1 c.args.z.tool c.one_if.result 1)) ≤ length c.args.b.now
room-at-After-put_number-i c = omega (arith, ap length (whole-at-After-put_number-i c), c.requires)

begun : (c : After-put_number-i) → (let o = c in
    Begun o.args.at c.put_number-i.result (told_bytes 1 o.args.q.tool o.zero_if.result 0) (told_bytes 1 o.args.z.tool o.one_if.result 1) o.args.b.now c.put_number-i.new.b)
begun c = begins c.put_number-i.ensures.0 c.put_number-i.ensures.1 (room-at-After-put_number-i c)

pub returns : goal.returns
returns c =
    let at = goal.at.returns c in
    let n = c.put_number in
    let p = c in
    let o = p in
    let a = o.args in
    let first = begun at.After-put_number-i in
    (n.ensures.0 ∙ first.ends ∙ ap (λ l. a.at + length l) (whole at.After-one_if), n.ensures.1 ∙ first.bytes ∙ ap (λ l. lay a.at l a.b.now) (whole at.After-one_if))
