-- `tally::without_current` takes the current slot's bit out. Assumes nothing.
use mathlib.Core.Path.{◌≡◌, ap, ◌∙◌}
use Prim.Native.Nat.{◌*◌, ◌-◌, ◌%◌, ◌^◌}
use native.Mathlib.Omega.{arith}
use native.Mathlib.Nat.{one-mul}
use lib.Bits.{bit_and, and_le_l}
use lib.Pow.{shl_exact}
use Rattle.model.specs.Panel.{records}
use Rattle.tally.proofs.without_current.Goals as goal

pub overflow_sub-result : goal.overflow_sub-result
overflow_sub-result c = and_le_l c.args.mask _

pub returns : goal.returns
returns c =
    let k = c.args.current.0 in
    let bit : (1 * 2 ^ k) % 2 ^ records ≡ 2 ^ k = shl_exact {a = 1} 1 k records (omega arith) (omega (arith, c.requires)) ∙ one-mul (2 ^ k) in
    ap (λ b. c.args.mask - bit_and c.args.mask b) bit
