-- `tally::with_changed` sets a slot's bit and adds its numbers, of which there are some. Assumes nothing.
use borrow.Author.Tests.{ne_eqb}
use mathlib.Core.Path.{◌≡◌, ap, sym, ◌∙◌}
use mathlib.Core.Bool.{false}
use Prim.Native.Nat.{◌≤◌, ◌+◌, ◌*◌, ◌%◌, ◌^◌}
use native.Mathlib.Omega.{arith}
use lib.Dec.{eqb}
use lib.Pow.{shl_exact, pow_mono}
use Rattle.model.specs.Panel.{records}
use Rattle.model.specs.Sending.{one_unless}
use Rattle.tally.proofs.Told.{bit-room}
use Rattle.tally.proofs.with_changed.Goals.{Start}
use Rattle.tally.proofs.with_changed.Goals as goal

some : (s : Start) → eqb s.args.d 0 ≡ false
some s = ne_eqb s.args.d 0 (λ e. omega (arith, s.requires.2, e))

-- The bit is in its place: nothing of it is shifted out.
placed : (s : Start) → (let a = s.args in (1 * 2 ^ a.s.0) % 2 ^ records ≡ one_unless (eqb a.d 0) * 2 ^ a.s.0)
placed s =
    let a = s.args in
    shl_exact {a = 1} 1 a.s.0 records (omega arith) (omega (arith, s.requires.0)) ∙ sym (ap (λ b. one_unless b * 2 ^ a.s.0) (some s))

pub overflow_add-slots : goal.overflow_add-slots
overflow_add-slots c =
    let p = c in
    let a = p.args in
    let last : a.s.0 + 1 ≤ records = omega (arith, p.requires.0) in
    let fits : 2 ^ (a.s.0 + 1) ≤ 2 ^ records = pow_mono last in
    record { fits = omega (arith, placed (goal.at.overflow_add-slots p).Start, bit-room a.c.slots a.s.0 (eqb a.d 0) p.requires.3.slots) }

pub returns : goal.returns
returns c =
    let p = c in
    let a = p.args in
    ap (λ b. record { slots = a.c.slots + b; numbers = a.c.numbers + a.d }) (placed (goal.at.returns p).Start)
