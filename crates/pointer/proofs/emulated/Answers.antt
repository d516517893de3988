-- `pointer::emulated` is how many events tell a display: none with the option off, where nothing moves. Assumes nothing.
use mathlib.Core.Path.{◌≡◌, sym, ap, ◌∙◌, subst}
use native.Mathlib.Omega.{arith}
use lib.ListN.{length}
use Rattle.model.specs.Pointer.{emulated}
use Rattle.model.proofs.Emulated.{emulated_self}
use Rattle.pointer.specs.Seen.{pointer_of}
use Rattle.pointer.specs.Moved.{StillIf}
use Rattle.pointer.proofs.emulated.Goals as goal

pub returns-then-not-on : goal.returns-then-not-on
returns-then-not-on c =
    let s = c in
    let a = s.args in
    let q = pointer_of a.q in
    let z = pointer_of a.z in
    let same : q ≡ z = subst (λ b. StillIf b q z) c.if-not-on.true s.requires in
    (sym (ap (λ p. length (emulated q p)) (sym same) ∙ ap length (emulated_self q)), omega arith)
