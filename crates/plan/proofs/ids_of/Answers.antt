-- `plan::ids_of` has the ids of a table's first slots in its first places. The loop has copied i of them. Assumes nothing.
use borrow.Author.Rules.{rules}
use mathlib.Core.Path.{◌≡◌, sym, ap, ◌∙◌}
use mathlib.Core.List.{List, ◌∷◌, [], ◌++◌}
use Prim.Native.Nat.{◌<◌}
use native.Mathlib.Numerals.{add-one}
use native.Mathlib.Omega.{arith}
use lib.IntN.{ℤ}
use lib.ListN.{length, get_or, length-set}
use lib.Seq.{take-suc-set}
use mir.Syntax.{w32}
use mir.Val.{SFits}
use mir.ValLaws.{to_z-of_z}
use Rattle.model.specs.Panel.{records}
use Rattle.panel.specs.Seen.{slot_of, blank}
use Rattle.common.proofs.Apart.{more-ids}
use Rattle.plan.proofs.ids_of.Goals as goal

pub loop-i-preserved : goal.loop-i-preserved
loop-i-preserved c =
    let s = c in
    let t = s.args.t in
    let l = c.loop-i in
    let v = (get_or t l.i blank).id.0 in
    let f : SFits w32 v = search rules in
    let lt : length t ≡ records = search rules in
    let room : l.i < length l.l = omega (arith, l.invariant.1) in
    let more = take-suc-set l.l l.i v room ∙ ap (λ (a : List ℤ). a ++ v ∷ []) l.invariant.2 ∙ sym (more-ids slot_of blank t l.i (omega arith)) in
    rw (to_z-of_z w32 v f) (search rules, length-set l.l l.i v ∙ l.invariant.1, rw add-one more)

pub returns : goal.returns
returns c =
    let l = c.loop-i in
    let e : l.i ≡ c.args.n = omega arith in
    rw e at l.invariant.2
