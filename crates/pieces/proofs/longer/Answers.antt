-- `pieces::longer`: the piece stands behind the bytes held, and the places after it are as clear as they were. Assumes nothing.
use mathlib.Core.Path.{◌≡◌, ◌∙◌}
use lib.Dec.{eqb, leb}
use lib.ListN.{length}
use borrow.Author.Rules.{rules}
use Rattle.model.specs.Pieces.{places}
use Rattle.model.proofs.Bools.{and_right}
use Rattle.pieces.proofs.Laid.{more-laid}
use Rattle.pieces.proofs.longer.Goals as goal

pub returns : goal.returns
returns c =
    let e = c in
    let a = e.args in
    let l : length a.left ≡ places = search rules in
    let clear = and_right (leb a.count places) _ (and_right (eqb (length a.left) places) _ e.requires.0) in
    c.lay.ensures ∙ more-laid a.left a.piece.now a.count l clear e.requires.1
