-- `lent_reader::put_body` stores the four parts behind the head. Assumes nothing.
use mathlib.Core.Path.{◌≡◌}
use lib.ListN.{length}
use Rattle.model.specs.Panel.{records}
use Rattle.panel.proofs.Tables.{unmapped}
use Rattle.lent_reader.proofs.Laid.{body-laid}
use borrow.Author.Rules.{rules}
use Rattle.lent_reader.proofs.put_body.Goals.{Start}
use Rattle.lent_reader.proofs.put_body.Goals as goal

whole : (c : Start) → length c.args.s.shown ≡ records
whole c = search (rules, unmapped)

pub returns : goal.returns
returns c =
    let s = c.args.s in
    body-laid s (whole (goal.at.returns c).Start) c.args.b.now c.put_word.new.b c.put_setup.new.b c.put_table.new.b c.put_table-2.new.b
    c.requires.0 c.put_word.ensures c.put_setup.ensures c.put_table.ensures c.put_table-2.ensures
