-- `lent_writer::moved_on` are ranks and display after a frame, by the option. Assumes nothing.
use mathlib.Core.Path.{sym, subst}
use borrow.Author.Tests.{eq-eqb}
use Rattle.pointer.specs.declared.Moved.{Moved}
use Rattle.pointer.specs.Moved.{Moving, MovesTo, MovingIf, MovesBy}
use Rattle.writer.specs.Seen.{last_of}
use Rattle.lent.specs.Lent.{table_in}
use Rattle.lent_writer.specs.Layout.{option_at}
use Rattle.lent_writer.specs.Seen.{byte_at, unpacked}
use Rattle.lent_writer.specs.InPlace.{table_part}
use Rattle.lent_writer.proofs.Outcomes.{table_is, part-size}
use Rattle.lent_writer.proofs.moved_on.Goals as goal

pub moves-requires : goal.moves-requires
moves-requires c =
    let a = c.args in
    let bs = a.b.now in
    let moving = subst (λ v. MovingIf v a.n (unpacked bs).table (table_in a.new.now) a.slots (last_of (unpacked bs))) (eq-eqb (byte_at bs option_at) 1 c.if-b-eq1.true) c.requires.2 in
    let of-bytes = subst (λ t. Moving a.n t (table_in a.new.now) a.slots (last_of (unpacked bs))) (sym (table_is bs c.requires.0)) moving in
    (subst (λ l. Moving a.n (table_in (table_part bs)) (table_in a.new.now) a.slots l) (sym c.last_of-last.ensures) of-bytes, part-size bs c.requires.0, c.requires.1)

pub returns-then-b-eq1 : goal.returns-then-b-eq1
returns-then-b-eq1 c =
    let a = c.args in
    let bs = a.b.now in
    let new = table_in a.new.now in
    let last = subst (λ (l : Moved). MovesTo (table_in (table_part bs)) new l.ranks l.told c.moves.result) c.last_of-last.ensures c.moves.ensures in
    let of-state = subst (λ x. MovesTo x new (unpacked bs).ranks (unpacked bs).told c.moves.result) (table_is bs c.requires.0) last in
    subst (λ v. MovesBy v (unpacked bs).table new (unpacked bs).ranks (unpacked bs).told c.moves.result) (sym (eq-eqb (byte_at bs option_at) 1 c.if-b-eq1.true)) of-state
