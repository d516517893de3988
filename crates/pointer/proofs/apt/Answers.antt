-- `pointer::apt` tells whether ranks and told numbers are as the table has them. The loop has taken out i ids. Assumes nothing.
use mathlib.Core.Path.{◌≡◌, sym, ap, ap₂, ◌∙◌}
use mathlib.Core.Bool.{Bool, ◌&&◌}
use Prim.Native.Nat.{◌<◌}
use native.Mathlib.Omega.{arith}
use lib.Dec.{T}
use lib.ListN.{length, get_or}
use mir.Syntax.{w32}
use mir.Val.{SFits}
use mir.ValLaws.{to_z-of_z}
use Rattle.model.specs.Panel.{records}
use Rattle.model.specs.Table.{ids}
use Rattle.model.specs.Ranks.{good_ranks}
use Rattle.model.specs.Pointer.{eq_pointer, pointed}
use Rattle.model.specs.Pointing.{in_range}
use Rattle.model.proofs.Bools.{holds}
use Rattle.panel.specs.Seen.{table_of, fields_of, blank}
use Rattle.panel.proofs.Slots.{fits_top}
use Rattle.pointer.specs.Seen.{pointer_of}
use Rattle.pointer.specs.Moved.{shown_of}
use Rattle.pointer.proofs.Turns.{copied-turn, copied-all}
use Rattle.pointer.proofs.Numbers.{shown-is}
use borrow.Author.Rules.{rules}
use Rattle.pointer.proofs.apt.Goals.{After-pointed-p, After-ranks_good}
use Rattle.pointer.proofs.apt.Goals as goal

-- The three tests of a state with the option on.
ranks-told : (k : After-ranks_good) → (let a = k.args in k.ranks_good.result ≡ good_ranks (ids (table_of a.t)) a.ranks)
ranks-told k =
    let own = copied-all k.args.setup.n k.loop-i.i k.args.t k.loop-i.ids k.requires (omega arith) k.loop-i.invariant in
    k.ranks_good.ensures ∙ ap (λ l. good_ranks l k.args.ranks) own.0

abbrev equal : After-ranks_good → Bool
equal k = let a = k.args in eq_pointer (pointer_of a.told) (pointed (table_of a.t) a.ranks (pointer_of a.told))

abbrev range : After-ranks_good → Bool
range k = let a = k.args in in_range (fields_of a.setup) (pointer_of a.told).x (pointer_of a.told).y

shown : (p : After-pointed-p) → (let a = p.args in pointer_of p.pointed-p.result ≡ pointed (table_of a.t) a.ranks (pointer_of a.told))
shown p =
    let a = p.args in
    let q = pointer_of a.told in
    let full : length a.t ≡ records = search rules in
    let o = copied-all a.setup.n p.loop-i.i a.t p.loop-i.ids p.requires (omega arith) p.loop-i.invariant in
    let good : T (good_ranks p.loop-i.ids a.ranks) = holds _ (sym p.ranks_good.ensures ∙ p.if-not-ranks_good.false) in
    p.pointed-p.ensures ∙ ap₂ (λ m i. shown_of m (get_or a.t i blank) q) p.live_count.ensures.0 p.oldest_slot-k.ensures.1
    ∙ shown-is a.t a.ranks q full p.loop-i.ids o.0 o.1.whole good

-- ---- the needs

pub loop-i-preserved : goal.loop-i-preserved
loop-i-preserved c =
    let a = c.args in
    let l = c.loop-i in
    let v = (get_or a.t l.i blank).id.0 in
    let f : SFits w32 v = search rules in
    let full : length a.t ≡ records = search rules in
    let inside : l.i < a.setup.n = search rules in
    rw (to_z-of_z w32 v f) (copied-turn a.setup.n a.t l.ids l.i l.invariant inside c.requires.few full)

pub returns-then-not-ranks_good : goal.returns-then-not-ranks_good
returns-then-not-ranks_good c =
    let here = (goal.at.returns-then-not-ranks_good c).After-ranks_good in
    sym (ap (λ b. (b && equal here) && range here) (sym (ranks-told here) ∙ c.if-not-ranks_good.true))

pub returns-else-pointers_same : goal.returns-else-pointers_same
returns-else-pointers_same c =
    let at = goal.at.returns-else-pointers_same c in
    let good = sym (ranks-told at.After-ranks_good) ∙ c.if-not-ranks_good.false in
    let bad = sym (c.pointers_same.ensures ∙ ap (eq_pointer (pointer_of c.args.told)) (shown at.After-pointed-p)) ∙ c.if-pointers_same.false in
    c.if-pointers_same.false ∙ sym (ap₂ (λ x y. (x && y) && range at.After-ranks_good) good bad)

pub returns-then-pointers_same : goal.returns-then-pointers_same
returns-then-pointers_same c =
    let at = goal.at.returns-then-pointers_same c in
    let a = c.args in
    let good = sym (ranks-told at.After-ranks_good) ∙ c.if-not-ranks_good.false in
    let same = sym (c.pointers_same.ensures ∙ ap (eq_pointer (pointer_of a.told)) (shown at.After-pointed-p)) ∙ c.if-pointers_same.true in
    ap₂ (λ x y. x && y) (fits_top a.told.x a.setup.x) (fits_top a.told.y a.setup.y) ∙ sym (ap₂ (λ x y. (x && y) && range at.After-ranks_good) good same)
