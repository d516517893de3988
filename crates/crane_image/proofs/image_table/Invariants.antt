-- `crane_image::image_table` makes the image's table. The loop has filled i slots. Assumes nothing.
use mathlib.Core.Path.{◌≡◌}
use Rattle.crane_image.proofs.Images.{filled}
use Rattle.crane_image.proofs.image_table.Given as goal

abbrev pub invariant-loop-i : goal.invariant-loop-i
invariant-loop-i l = l.t ≡ filled l.image l.i
