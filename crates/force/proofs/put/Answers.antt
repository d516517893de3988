-- `force::put` writes a report's twelve bytes at the start of a lent part, CS last, from the eleven before it. Assumes nothing.
use mathlib.Core.Path.{◌≡◌, ap, ◌∙◌}
use mathlib.Core.List.{List, [], ◌∷◌, ◌++◌}
use Prim.Native.Nat.{ℕ, ◌+◌, ◌*◌, ◌/◌, ◌%◌, ◌≤◌}
use native.Mathlib.Omega.{arith}
use lib.Dec.{leb}
use lib.ListN.{length, get_or, drop, set}
use lib.Seq.{drop-cons}
use borrow.Author.Rules.{rules}
use borrow.Author.Tests.{leb-true}
use mir.Syntax.{w8, w16}
use mir.Val.{SFits}
use Rattle.model.specs.Force as M
use Rattle.model.specs.Force.{word_values, byte_values, check_of, bits_in, data_of, packet_of, most_buttons, most_hat}
use Rattle.model.proofs.Bools.{and_left}
use Rattle.records.specs.Seen.{over}
use Rattle.force.specs.Seen.{seen}
use Rattle.force.proofs.Bits.{word_bits, byte_bits}
use Rattle.force.proofs.put.Goals as goal

-- The two bytes of a number, the low one first.
abbrev two : ℕ → List ℕ
two n = n % 256 ∷ n / 256 % 256 ∷ []

-- The bytes before CS, by those of x, y and the buttons, and the bits of the rudder.
abbrev before : M.Report → List ℕ → List ℕ → List ℕ → ℕ → List ℕ
before r x y b u =
    43 ∷ 1 ∷ 8 ∷ get_or x 0 0 ∷ get_or x 1 0 ∷ get_or y 0 0 ∷ get_or y 1 0 ∷ r.throttle ∷ get_or b 0 0 ∷ (16 * r.hat + get_or b 1 0) ∷ u ∷ []

laid : (r : M.Report) (old P x y b : List ℕ) (u sum : ℕ) → 12 ≤ length old → r.buttons ≤ most_buttons
    → x ≡ two (bits_in word_values r.x) → y ≡ two (bits_in word_values r.y) → b ≡ two r.buttons → u ≡ bits_in byte_values r.rudder
    → P ≡ before r x y b u → sum ≡ check_of (before r x y b u) → set (P ++ drop 11 old) 11 sum ≡ over (packet_of r) old
unfolding over packet_of data_of
laid r old P x y b u sum room few ex ey eb eu eP es =
    let high : r.buttons / 256 % 256 ≡ r.buttons / 256 = omega arith in
    rw (eP, es, ex, ey, eb, eu, high, drop-cons old 11 0 (omega arith))

pub returns : goal.returns
unfolding over
returns c =
    let a = c.args in
    let r = a.report in
    let fx : SFits w16 r.x = search rules in
    let fy : SFits w16 r.y = search rules in
    let fu : SFits w8 r.rudder = search rules in
    laid (seen r) a.b.now c.copy_from_slice.new.self c.to_le_bytes-x.result c.to_le_bytes-y.result c.to_le_bytes-buttons.result
    c.cast_unsigned.result c.check_of.result c.requires.0
    (leb-true r.buttons most_buttons (and_left (leb r.buttons most_buttons) (leb r.hat most_hat) c.requires.1))
    (c.to_le_bytes-x.ensures ∙ ap two (word_bits r.x fx))
    (c.to_le_bytes-y.ensures ∙ ap two (word_bits r.y fy))
    c.to_le_bytes-buttons.ensures
    (c.cast_unsigned.ensures ∙ byte_bits r.rudder fu)
    c.copy_from_slice.ensures.after c.check_of.ensures
