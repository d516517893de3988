-- `lent_pointer::moves` are the ranks after a frame, and what the display is to be told. Assumes nothing.
use mathlib.Core.Path.{◌≡◌, sym, ap, ap₂, ◌∙◌}
use lib.ListN.{length, get_or}
use Rattle.model.specs.Panel.{records}
use Rattle.panel.specs.Seen.{blank}
use Rattle.pointer.specs.Seen.{pointer_of}
use Rattle.pointer.specs.Moved.{shown_of, placed_at}
use Rattle.pointer.proofs.Onward.{covers, old_good, ranked_by, stayed, ranked_anew}
use Rattle.lent.specs.Lent.{table_in}
use Rattle.lent_table.proofs.Read.{full}
use borrow.Author.Rules.{rules}
use Rattle.lent_pointer.proofs.moves.Goals.{After-ids_in-is}
use Rattle.lent_pointer.proofs.moves.Goals as goal

ranked : (i : After-ids_in-is) → length i.args.last.ranks ≡ records
ranked i = search rules

pub ids_stay-requires : goal.ids_stay-requires
ids_stay-requires c =
    let a = c.args in
    let w = c.ids_in-was in
    let v = c.ids_in-is in
    (w.ensures.1.whole, v.ensures.1.whole, covers a.n (table_in c.args.old.now) (table_in c.args.new.now) a.slots a.last c.requires.0 (full a.old.now) (full a.new.now) w.result v.result w.ensures.0 v.ensures.0 w.ensures.1.whole v.ensures.1.whole)

pub returns-then-ids_stay : goal.returns-then-ids_stay
returns-then-ids_stay c =
    let a = c.args in
    let w = c.ids_in-was in
    let v = c.ids_in-is in
    stayed a.n (table_in c.args.old.now) (table_in c.args.new.now) a.slots a.last c.requires.0 (full a.old.now) (full a.new.now) w.result v.result w.ensures.0 v.ensures.0 w.ensures.1.whole v.ensures.1.whole (sym c.ids_stay.ensures ∙ c.if-ids_stay.true) c.placed.result
    (c.placed.ensures ∙ ap (λ z. placed_at z (pointer_of a.last.told)) (c.slot_of.ensures ∙ ap (λ k. get_or (table_in c.args.new.now) k blank) c.oldest_slot-k.ensures.1))

pub ranks_after-after-requires : goal.ranks_after-after-requires
ranks_after-after-requires c =
    let a = c.args in
    let w = c.ids_in-was in
    let v = c.ids_in-is in
    (ranked_by a.n (table_in c.args.old.now) (table_in c.args.new.now) a.slots a.last c.requires.0 (full a.old.now) (full a.new.now) w.result v.result w.ensures.0 v.ensures.0 w.ensures.1.whole v.ensures.1.whole (ranked (goal.at.ranks_after-after-requires c).After-ids_in-is), old_good a.n (table_in c.args.old.now) (table_in c.args.new.now) a.slots a.last c.requires.0 (full a.old.now) (full a.new.now) w.result v.result w.ensures.0 v.ensures.0 w.ensures.1.whole v.ensures.1.whole, v.ensures.1)

pub returns : goal.returns
returns c =
    let a = c.args in
    let w = c.ids_in-was in
    let v = c.ids_in-is in
    ranked_anew a.n (table_in c.args.old.now) (table_in c.args.new.now) a.slots a.last c.requires.0 (full a.old.now) (full a.new.now) w.result v.result w.ensures.0 v.ensures.0 w.ensures.1.whole v.ensures.1.whole c.ranks_after-after.result c.ranks_after-after.ensures c.pointed-told.result
    (c.pointed-told.ensures ∙ ap₂ (λ m z. shown_of m z (pointer_of a.last.told)) c.live_count.ensures.0 (c.slot_of-2.ensures ∙ ap (λ j. get_or (table_in c.args.new.now) j blank) c.oldest_slot-k-2.ensures.1))
