-- `records::signed_of` reads 32 bits as a signed number. Assumes nothing.
use Rattle.std.proofs.Common.{◌^◌, ◌<◌, w32}
use native.Mathlib.Omega.{arith}
use Rattle.std.proofs.lemmas.Int.{of_z-to_z}
use Rattle.records.proofs.Bits.{signed_same}
use Rattle.records.proofs.signed_of.Goals as goal

pub returns : goal.returns
returns c =
    let small : c.args.v < 2 ^ 32 = omega arith in
    rw (c.cast_signed.ensures, of_z-to_z w32 c.args.v small) (signed_same c.args.v)
