-- `pointer::moves` are the ranks after a frame, and what the display is to be told. The loop has taken i ids out of both tables. Assumes nothing.
use mathlib.Core.Path.{◌≡◌, sym, ap, ap₂, ◌∙◌}
use Prim.Native.Nat.{◌<◌}
use native.Mathlib.Omega.{arith}
use lib.ListN.{length, get_or}
use mir.Syntax.{w32}
use mir.Val.{SFits}
use mir.ValLaws.{to_z-of_z}
use Rattle.model.specs.Panel.{records}
use Rattle.model.specs.Table.{ids}
use Rattle.panel.specs.Seen.{table_of, blank}
use Rattle.pointer.specs.Seen.{pointer_of}
use Rattle.pointer.specs.Moved.{Idle, shown_of, placed_at}
use Rattle.pointer.proofs.Turns.{copied-start, copied-turn, copied-all}
use Rattle.pointer.proofs.Onward.{covers, old_good, ranked_by, stayed, ranked_anew}
use borrow.Author.Rules.{rules}
use Rattle.pointer.proofs.moves.Goals.{After-loop-i, Start}
use Rattle.pointer.proofs.moves.Goals as goal

was-own : (c : After-loop-i) → (let a = c.args in let l = c.loop-i in (l.was ≡ ids (table_of a.old)) × Idle a.n l.was)
was-own c = copied-all c.args.n c.loop-i.i c.args.old c.loop-i.was c.requires.held (omega arith) c.loop-i.invariant.0

is-own : (c : After-loop-i) → (let a = c.args in let l = c.loop-i in (l.is ≡ ids (table_of a.new)) × Idle a.n l.is)
is-own c = copied-all c.args.n c.loop-i.i c.args.new c.loop-i.is c.requires.made (omega arith) c.loop-i.invariant.1

full-old : (s : Start) → length s.args.old ≡ records
full-old s = search rules

full : (s : Start) → length s.args.new ≡ records
full s = search rules

ranked : (c : After-loop-i) → length c.args.last.ranks ≡ records
ranked c = search rules

-- ---- the needs

pub loop-i-init : goal.loop-i-init
loop-i-init c = (copied-start c.args.n c.args.old, copied-start c.args.n c.args.new)

pub loop-i-preserved : goal.loop-i-preserved
loop-i-preserved c =
    let p = c in
    let s = p in
    let a = s.args in
    let l = p.loop-i in
    let u = (get_or a.old l.i blank).id.0 in
    let v = (get_or a.new l.i blank).id.0 in
    let f : SFits w32 u = search rules in
    let g : SFits w32 v = search rules in
    let lo : length a.old ≡ records = search rules in
    let ln : length a.new ≡ records = search rules in
    let inside : l.i < a.n = search rules in
    let few = s.requires.held.few in
    rw (to_z-of_z w32 u f, to_z-of_z w32 v g) (copied-turn a.n a.old l.was l.i l.invariant.0 inside few lo, copied-turn a.n a.new l.is l.i l.invariant.1 inside few ln)

pub ids_stay-requires : goal.ids_stay-requires
ids_stay-requires c =
    let at = goal.at.ids_stay-requires c in
    let e = c in
    let s = e in
    let a = s.args in
    let w = was-own at.After-loop-i in
    let i = is-own at.After-loop-i in
    (w.1.whole, i.1.whole, covers a.n a.old a.new a.slots a.last s.requires (full-old at.Start) (full at.Start) _ _ w.0 i.0 w.1.whole i.1.whole)

pub returns-then-ids_stay : goal.returns-then-ids_stay
returns-then-ids_stay c =
    let at = goal.at.returns-then-ids_stay c in
    let oldest = c in
    let t = oldest in
    let e = t in
    let s = e in
    let a = s.args in
    let w = was-own at.After-loop-i in
    let i = is-own at.After-loop-i in
    stayed a.n a.old a.new a.slots a.last s.requires (full-old at.Start) (full at.Start) _ _ w.0 i.0 w.1.whole i.1.whole (sym t.ids_stay.ensures ∙ t.if-ids_stay.true) c.placed.result
    (c.placed.ensures ∙ ap (λ k. placed_at (get_or a.new k blank) (pointer_of a.last.told)) oldest.oldest_slot-k.ensures.1)

pub ranks_after-after-requires : goal.ranks_after-after-requires
ranks_after-after-requires c =
    let at = goal.at.ranks_after-after-requires c in
    let e = c in
    let s = e in
    let a = s.args in
    let w = was-own at.After-loop-i in
    let i = is-own at.After-loop-i in (
      ranked_by a.n a.old a.new a.slots a.last s.requires (full-old at.Start) (full at.Start) _ _ w.0 i.0 w.1.whole i.1.whole (ranked at.After-loop-i),
      old_good a.n a.old a.new a.slots a.last s.requires (full-old at.Start) (full at.Start) _ _ w.0 i.0 w.1.whole i.1.whole,
      i.1,
    )

pub returns : goal.returns
returns c =
    let at = goal.at.returns c in
    let live = c in
    let oldest = live in
    let k = oldest in
    let e = k in
    let s = e in
    let a = s.args in
    let w = was-own at.After-loop-i in
    let i = is-own at.After-loop-i in
    ranked_anew a.n a.old a.new a.slots a.last s.requires (full-old at.Start) (full at.Start) _ _ w.0 i.0 w.1.whole i.1.whole k.ranks_after-after.result k.ranks_after-after.ensures c.pointed-told.result
    (c.pointed-told.ensures ∙ ap₂ (λ m j. shown_of m (get_or a.new j blank) (pointer_of a.last.told)) live.live_count.ensures.0 oldest.oldest_slot-k-2.ensures.1)
