-- `plan::marks_of` has a bit for each id. The loop has put in the bits of the first. Assumes nothing.
use mathlib.Core.Path.{◌≡◌, refl, ap, ◌∙◌, subst}
use mathlib.Core.List.{[], ◌∷◌, ◌++◌}
use Prim.Native.Nat.{◌<◌, ◌+◌}
use native.Mathlib.Numerals.{add-one}
use lib.IntN.{pos}
use lib.ListN.{length, take, get_or}
use lib.Seq.{take-suc, take_all}
use mir.Syntax.{w32}
use mir.Val.{SFits}
use mir.ValLaws.{to_z-of_z}
use Rattle.common.specs.Seen.{natural}
use Rattle.common.specs.Marks.{Met}
use Rattle.common.proofs.Apart.{met_join}
use borrow.Author.Rules.{rules}
use Rattle.plan.proofs.marks_of.Goals as goal

pub loop-id-init : goal.loop-id-init
loop-id-init c = (search rules, λ v a z. refl)

pub loop-id-preserved : goal.loop-id-preserved
loop-id-preserved c =
    let l = c in
    let ids = l.args.ids.now in
    let j = l.loop-id.id-index in
    let v = get_or ids j (pos 0) in
    let f : SFits w32 v = search rules in
    let inside : j < length ids = search rules in
    let bit : c.nat_of.result ≡ natural v = c.nat_of.ensures ∙ ap natural (to_z-of_z w32 v f) in
    let more : take (j + 1) ids ≡ take j ids ++ v ∷ [] = rw add-one (take-suc ids j (pos 0) inside) in
    (search rules, rw (bit, more) (met_join l.loop-id.held (take j ids) v l.loop-id.invariant.1))

pub returns : goal.returns
returns c =
    let l = c.loop-id in
    let ids = c.args.ids.now in
    subst (Met l.held) (take_all l.id-index ids (search rules)) l.invariant.1
