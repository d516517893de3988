-- `tally::with_slot` sets a changed slot's bit and adds its numbers. Assumes nothing.
use mathlib.Core.Path.{◌≡◌, ap, ◌∙◌}
use Prim.Native.Nat.{◌≤◌, ◌+◌, ◌*◌, ◌%◌, ◌^◌}
use native.Mathlib.Omega.{arith}
use lib.Dec.{eqb}
use lib.Pow.{shl_exact, pow_mono}
use Rattle.model.specs.Panel.{records}
use Rattle.model.specs.Sending.{one_unless}
use Rattle.tally.proofs.Told.{bit-room}
use Rattle.tally.proofs.with_slot.Goals.{After-some}
use Rattle.tally.proofs.with_slot.Goals as goal

-- The bit is in its place: nothing of it is shifted out.
placed : (c : After-some) → (let a = c.args in (c.some.result * 2 ^ a.s.0) % 2 ^ records ≡ one_unless (eqb a.d 0) * 2 ^ a.s.0)
placed c =
    let a = c.args in
    shl_exact {a = c.some.result} 1 a.s.0 records (omega (arith, c.some.ensures.0)) (omega (arith, c.requires.0))
    ∙ ap (λ b. b * 2 ^ a.s.0) c.some.ensures.1

pub overflow_add-slots : goal.overflow_add-slots
overflow_add-slots c =
    let p = c in
    let a = p.args in
    let last : a.s.0 + 1 ≤ records = omega (arith, p.requires.0) in
    let fits : 2 ^ (a.s.0 + 1) ≤ 2 ^ records = pow_mono last in
    record { fits = omega (arith, placed (goal.at.overflow_add-slots p).After-some, bit-room a.c.slots a.s.0 (eqb a.d 0) p.requires.2.slots) }

pub returns : goal.returns
returns c =
    let p = c in
    let a = p.args in
    ap (λ b. record { slots = a.c.slots + b; numbers = a.c.numbers + a.d }) (placed (goal.at.returns p).After-some)
