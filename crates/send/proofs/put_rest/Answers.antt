-- `send::put_rest` writes a slot's changed pressure, major and minor. Assumes nothing.
use mathlib.Core.Path.{◌∙◌}
use mathlib.Core.List.{◌++◌}
use Rattle.send.specs.Sent.{number_bytes}
use Rattle.send.proofs.Parts.{Begun, begins}
use Rattle.send.proofs.put_rest.Goals.{After-put_number-i, After-put_number-j}
use Rattle.send.proofs.put_rest.Goals as goal

-- Where the pressure is written, and where major is.
one : (c : After-put_number-i) → (let s = c in
    Begun s.args.at c.put_number-i.result (number_bytes 0x3a s.args.old.pressure s.args.new.pressure) ((number_bytes 0x30 s.args.old.major s.args.new.major) ++ (number_bytes 0x31 s.args.old.minor s.args.new.minor)) s.args.b.now c.put_number-i.new.b)
one c = begins c.put_number-i.ensures.0 c.put_number-i.ensures.1 c.requires

one-at-After-put_number-j : (c : After-put_number-j) → (let s = c in
    Begun s.args.at c.put_number-i.result (number_bytes 0x3a s.args.old.pressure s.args.new.pressure) ((number_bytes 0x30 s.args.old.major s.args.new.major) ++ (number_bytes 0x31 s.args.old.minor s.args.new.minor)) s.args.b.now c.put_number-i.new.b)
one-at-After-put_number-j c = begins c.put_number-i.ensures.0 c.put_number-i.ensures.1 c.requires

two : (c : After-put_number-j) → (let p = c in
    Begun p.put_number-i.result c.put_number-j.result (number_bytes 0x30 p.args.old.major p.args.new.major) (number_bytes 0x31 p.args.old.minor p.args.new.minor) p.put_number-i.new.b c.put_number-j.new.b)
two c = begins c.put_number-j.ensures.0 c.put_number-j.ensures.1 (one-at-After-put_number-j c).room

pub returns : goal.returns
returns c =
    let at = goal.at.returns c in
    let n = c.put_number in
    let first = one at.After-put_number-i in
    (n.ensures.0 ∙ (two at.After-put_number-j).ends ∙ first.ends, n.ensures.1 ∙ (two at.After-put_number-j).bytes ∙ first.bytes)
