-- `records::bits_of` is a signed number's bits. Assumes nothing.
use mathlib.Core.Path.{◌∙◌}
use mir.Syntax.{w32}
use mir.ValLaws.{to_z-of_z}
use Rattle.records.proofs.Bits.{bits-same}
use Rattle.records.proofs.bits_of.Goals as goal

pub returns : goal.returns
returns c = rw (to_z-of_z w32 c.args.z c.ranges.z) at c.cast_unsigned.ensures ∙ bits-same c.args.z
