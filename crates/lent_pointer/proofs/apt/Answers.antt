-- `lent_pointer::apt` tells whether ranks and told numbers are as the table has them. Assumes nothing.
use mathlib.Core.Path.{◌≡◌, sym, ap, ap₂, ◌∙◌}
use mathlib.Core.Bool.{◌&&◌}
use lib.Dec.{T}
use lib.ListN.{get_or}
use Rattle.model.specs.Table.{ids}
use Rattle.model.specs.Ranks.{good_ranks}
use Rattle.model.specs.Pointer.{eq_pointer, pointed}
use Rattle.model.specs.Pointing.{in_range}
use Rattle.model.proofs.Bools.{holds}
use Rattle.panel.specs.Seen.{table_of, fields_of, blank}
use Rattle.panel.proofs.Slots.{fits_top}
use Rattle.pointer.specs.Seen.{pointer_of}
use Rattle.pointer.specs.Moved.{shown_of}
use Rattle.pointer.proofs.Numbers.{shown-is}
use Rattle.lent.specs.Lent.{table_in}
use Rattle.lent_table.proofs.Read.{full}
use Rattle.lent_pointer.proofs.apt.Goals.{After-pointed-p, After-ranks_good}
use Rattle.lent_pointer.proofs.apt.Goals as goal

-- The three tests of a state with the option on.
ranks-told : (k : After-ranks_good) → k.ranks_good.result ≡ good_ranks (ids (table_of (table_in k.args.t.now))) k.args.ranks.now
ranks-told k = k.ranks_good.ensures ∙ ap (λ l. good_ranks l k.args.ranks.now) k.ids_in-ids.ensures.0

shown : (p : After-pointed-p) → (let s = p in pointer_of p.pointed-p.result ≡ pointed (table_of (table_in s.args.t.now)) s.args.ranks.now (pointer_of s.args.told))
shown p =
    let s = p in
    let q = pointer_of s.args.told in
    let i = p.ids_in-ids in
    let good : T (good_ranks i.result s.args.ranks.now) = holds _ (sym p.ranks_good.ensures ∙ p.if-not-ranks_good.false) in
    p.pointed-p.ensures ∙ ap₂ (λ m z. shown_of m z q) p.live_count.ensures.0 (p.slot_of.ensures ∙ ap (λ j. get_or (table_in s.args.t.now) j blank) p.oldest_slot-k.ensures.1)
    ∙ shown-is (table_in s.args.t.now) s.args.ranks.now q (full s.args.t.now) i.result i.ensures.0 i.ensures.1.whole good

pub returns-then-not-ranks_good : goal.returns-then-not-ranks_good
returns-then-not-ranks_good c =
    let bad = sym (ranks-told (goal.at.returns-then-not-ranks_good c).After-ranks_good) ∙ c.if-not-ranks_good.true in
    sym (ap (λ b. (b && (eq_pointer (pointer_of c.args.told) (pointed (table_of (table_in c.args.t.now)) c.args.ranks.now (pointer_of c.args.told)))) && (in_range (fields_of c.args.setup) (pointer_of c.args.told).x (pointer_of c.args.told).y)) bad)

pub returns-then-not-pointers_same : goal.returns-then-not-pointers_same
returns-then-not-pointers_same c =
    let good = sym (ranks-told (goal.at.returns-then-not-pointers_same c).After-ranks_good) ∙ c.if-not-ranks_good.false in
    let bad = sym (c.pointers_same.ensures ∙ ap (eq_pointer (pointer_of c.args.told)) (shown (goal.at.returns-then-not-pointers_same c).After-pointed-p)) ∙ c.if-not-pointers_same.true in
    sym (ap₂ (λ x y. (x && y) && (in_range (fields_of c.args.setup) (pointer_of c.args.told).x (pointer_of c.args.told).y)) good bad)

pub returns : goal.returns
returns c =
    let a = c.args in
    let good = sym (ranks-told (goal.at.returns c).After-ranks_good) ∙ c.if-not-ranks_good.false in
    let same = sym (c.pointers_same.ensures ∙ ap (eq_pointer (pointer_of a.told)) (shown (goal.at.returns c).After-pointed-p)) ∙ c.if-not-pointers_same.false in
    ap₂ (λ x y. x && y) (fits_top a.told.x a.setup.x) (fits_top a.told.y a.setup.y) ∙ sym (ap₂ (λ x y. (x && y) && (in_range (fields_of c.args.setup) (pointer_of c.args.told).x (pointer_of c.args.told).y)) good same)
