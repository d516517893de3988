-- `panel::numbers_ok` tells whether a row's numbers are in their ranges: one chain of tests. Assumes nothing.
use borrow.Author.Rules.{rules}
use Rattle.common.proofs.Signs.{join, last}
use Rattle.panel.proofs.Slots.{told}
use Rattle.panel.proofs.numbers_ok.Goals as goal

pub returns : goal.returns
returns c =
    let u = c.args.setup in
    let r = c.args.r in
    join (told _ u.x r.x (search rules) c.within.ensures)
    (join (told _ u.y r.y (search rules) c.within-2.ensures)
    (join (told _ u.pressure r.pressure (search rules) c.within-3.ensures)
    (join (told _ u.major r.major (search rules) c.within-4.ensures)
    (last (told _ u.minor r.minor (search rules) c.within-5.ensures)))))
