-- `reader::answer_in`: a slot's answer by the mode. Assumes nothing.
use borrow.Author.Rules.{rules}
use mathlib.Core.Path.{◌≡◌, sym, ap, ◌∙◌}
use Prim.Native.Nat.{◌<◌}
use native.Mathlib.Omega.{arith}
use lib.ListN.{length}
use Rattle.model.specs.Panel.{records}
use Rattle.model.specs.Calls.{asked_in}
use Rattle.model.specs.Reader.{following}
use Rattle.reader.specs.Seen.{asked_from}
use Rattle.panel.proofs.Tables.{slot_at}
use Rattle.reader.proofs.answer_in.Goals as goal

pub returns-in-Following : goal.returns-in-Following
returns-in-Following c =
    let t = c.args.shown in
    let k = c.args.k in
    let len : length t ≡ records = search rules in
    let h : k < length t = omega (arith, len, c.requires) in
    rw c.in-Following.is (c.shown_answer.ensures ∙ ap (λ x. asked_from (asked_in following x)) (sym (slot_at t k h)))
