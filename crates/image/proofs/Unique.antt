-- The image's promises leave no choice: each law is of the contract itself. Assumes nothing.
use mathlib.Core.Path.{sym, ◌∙◌}
use Rattle.model.specs.Unique.{OneAnswer}
use Rattle.image.proofs.image_table.Reads as image-table
use Rattle.image.proofs.image_ok.Reads as image-ok

pub image-table_one : OneAnswer image-table.Learnt
image-table_one κs a r q s t e g = e ∙ sym g

pub image_ok_one : OneAnswer image-ok.Learnt
image_ok_one κs a r q s t e g = e ∙ sym g
