-- `lent_writer::put_state` stores all bytes of a state. Assumes nothing.
use mathlib.Core.Path.{◌≡◌}
use lib.ListN.{length}
use Rattle.model.specs.Panel.{records}
use Rattle.panel.proofs.Tables.{unmapped}
use Rattle.lent_writer.proofs.Stored.{state-stored}
use borrow.Author.Rules.{rules}
use Rattle.lent_writer.proofs.put_state.Goals.{Start}
use Rattle.lent_writer.proofs.put_state.Goals as goal

full : (s : Start) → length s.args.s.table ≡ records
full s = search (rules, unmapped)

ranked : (s : Start) → length s.args.s.ranks ≡ records
ranked s = search rules

pub returns : goal.returns
returns c =
    let a = c.args in
    state-stored a.s (full (goal.at.returns c).Start) (ranked (goal.at.returns c).Start) a.b.now c.put_head.new.b c.put_numbers.new.b c.put_table.new.b c.put_ranks.new.b c.requires.0
    c.put_head.ensures c.put_numbers.ensures c.put_table.ensures c.put_ranks.ensures
