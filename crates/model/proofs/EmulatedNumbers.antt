-- The emulated events of a frame (K6) are one for each changed number of the display, buttons and axes apart, and at most four. Cited by EmulatedCounts and PointerFrame.
-- Assumes nothing.
use mathlib.Core.Path.{◌≡◌, refl, sym, ◌∙◌, subst}
use mathlib.Core.Bool.{Bool, true, false, not, cond, ◌||◌, or-true}
use mathlib.Core.List.{List, [], ◌∷◌, ◌++◌, map}
use Prim.Native.Nat.{ℕ, zero, suc, ◌+◌, ◌≤◌}
use native.Mathlib.Omega.{arith}
use lib.Dec.{T, eqb, eqb→eq, eqb_refl, T_not}
use lib.IntN.{ℤ, pos}
use lib.ListN.{length, length-append}
use Rattle.model.proofs.Count.{one_unless_le}
use Rattle.model.proofs.Emulated.{eq_z_self}
use Rattle.model.specs.Numbers.{eq_z}
use Rattle.model.specs.Events.{Event}
use Rattle.model.specs.Sending.{unless, one_unless, changed_in}
use Rattle.model.specs.Ranks.{one_more_if}
use Rattle.model.specs.Pointer.{pointer_x, pointer_y, touch_code, Pointer, touch_of, tool_of, tool_codes, tool_value, buttons, place, display, button, axis, events_before, moves, swaps, events_after, emulated}

-- Touch and tool that some number of live contacts gives.
pub record TouchedBy (a : ℕ) (q : Pointer) : Type 0 where
  pub touches : q.touch ≡ touch_of a
  pub tools : q.tool ≡ tool_of a

-- ---- how many there are

length-unless : (b : Bool) (e : Event) (es : List Event) → length (unless b e es) ≡ one_unless b + length es
length-unless true e es = omega arith
length-unless false e es = omega arith

pub length_before : (q z : Pointer) → length (events_before q z) ≡ one_unless (eqb q.touch z.touch)
length_before q z = omega (arith, length-unless (eqb q.touch z.touch) (button touch_code z.touch) [])

pub length-swaps : (a b : ℕ) → length (swaps a b) ≡ one_unless (eqb a b || eqb a 0) + one_unless (eqb a b || eqb b 0)
length-swaps a b =
    omega (
      arith,
      length-unless (eqb a b || eqb a 0) (button a 0) (unless (eqb a b || eqb b 0) (button b 1) []),
      length-unless (eqb a b || eqb b 0) (button b 1) [],
    )

-- X and Y: one for each that changes.
pub length-moves : (q z : Pointer) → length (moves q z) ≡ changed_in (place q) (place z)
length-moves q z =
    omega (
      arith,
      length-unless (eq_z q.x z.x) (axis pointer_x z.x) (unless (eq_z q.y z.y) (axis pointer_y z.y) []),
      length-unless (eq_z q.y z.y) (axis pointer_y z.y) [],
    )

-- The touch and one tool, or two tools.
two-buttons : (a b : ℕ)
    → one_unless (eqb (touch_of a) (touch_of b)) + (one_unless (eqb (tool_of a) (tool_of b) || eqb (tool_of a) 0) + one_unless (eqb (tool_of a) (tool_of b) || eqb (tool_of b) 0)) ≤ 2
two-buttons zero zero = omega arith
two-buttons zero (suc b) = rw (or-true (eqb 0 (tool_of (suc b)))) (omega (arith, one_unless_le (eqb 0 (tool_of (suc b)) || eqb (tool_of (suc b)) 0)))
two-buttons (suc a) zero = rw (or-true (eqb (tool_of (suc a)) 0)) (omega (arith, one_unless_le (eqb (tool_of (suc a)) 0 || eqb (tool_of (suc a)) 0)))
two-buttons (suc a) (suc b) =
    omega (arith, one_unless_le (eqb (tool_of (suc a)) (tool_of (suc b)) || eqb (tool_of (suc a)) 0), one_unless_le (eqb (tool_of (suc a)) (tool_of (suc b)) || eqb (tool_of (suc b)) 0))

-- At most four.
pub at-most-four : (a b : ℕ) (q z : Pointer) → TouchedBy a q → TouchedBy b z → length (emulated q z) ≤ 4
at-most-four a b q z c d =
    let t : one_unless (eqb q.touch z.touch) + (one_unless (eqb q.tool z.tool || eqb q.tool 0) + one_unless (eqb q.tool z.tool || eqb z.tool 0)) ≤ 2 =
    rw (c.touches, c.tools, d.touches, d.tools) (two-buttons a b) in
    omega (
      arith,
      t,
      length-append (events_before q z) (events_after q z),
      length-append (swaps q.tool z.tool) (moves q z),
      length_before q z,
      length-swaps q.tool z.tool,
      length-moves q z,
      one_unless_le (eq_z q.x z.x),
      one_unless_le (eq_z q.y z.y),
    )

-- ---- one for each changed tool

-- How often a tool is among the codes.
hits : ℕ → List ℕ → ℕ
hits a [] = 0
hits a (c ∷ cs) = one_more_if (eqb a c) (hits a cs)

one_tool : (a b c : ℕ) → (a ≡ b → ⊥) → one_unless (eq_z (tool_value a c) (tool_value b c)) ≡ one_more_if (eqb a c) 0 + one_more_if (eqb b c) 0
one_tool a b c ne =
    (elim (eqb a c) as (λ e. (T e → a ≡ c) → one_unless (eq_z (cond e (pos 1) (pos 0)) (tool_value b c)) ≡ one_more_if e 0 + one_more_if (eqb b c) 0) [
      | true ↦ λ y. (elim (eqb b c) as (λ d. (T d → b ≡ c) → one_unless (eq_z (pos 1) (cond d (pos 1) (pos 0))) ≡ 1 + one_more_if d 0) [
        | true ↦ λ z. absurd (ne (y tt ∙ sym (z tt)))
        | false ↦ λ z. refl
      ]) (eqb→eq b c)
      | false ↦ λ y. elim (eqb b c) as (λ d. one_unless (eq_z (pos 0) (cond d (pos 1) (pos 0))) ≡ 0 + one_more_if d 0) [
        | true ↦ refl
        | false ↦ refl
      ]
    ]) (eqb→eq a c)

one_plus : (e : Bool) (n : ℕ) → one_more_if e n ≡ one_more_if e 0 + n
one_plus true n = omega arith
one_plus false n = omega arith

tools_changed : (a b : ℕ) (cs : List ℕ) → (a ≡ b → ⊥) → changed_in (map (tool_value a) cs) (map (tool_value b) cs) ≡ hits a cs + hits b cs
unfolding hits
tools_changed a b [] ne = refl
tools_changed a b (c ∷ cs) ne = omega (arith, one_tool a b c ne, one_plus (eqb a c) (hits a cs), one_plus (eqb b c) (hits b cs), tools_changed a b cs ne)

tools_same : (a : ℕ) (cs : List ℕ) → changed_in (map (tool_value a) cs) (map (tool_value a) cs) ≡ 0
tools_same a [] = refl
tools_same a (c ∷ cs) = rw (eq_z_self (tool_value a c)) (omega (arith, tools_same a cs))

one_hit : (a : ℕ) → hits (tool_of a) tool_codes ≡ one_unless (eqb (tool_of a) 0)
unfolding hits
one_hit zero = refl
one_hit (suc zero) = refl
one_hit (suc (suc zero)) = refl
one_hit (suc (suc (suc zero))) = refl
one_hit (suc (suc (suc (suc zero)))) = refl
one_hit (suc (suc (suc (suc (suc a))))) = refl

tool-events : (a b : ℕ)
    → changed_in (map (tool_value (tool_of a)) tool_codes) (map (tool_value (tool_of b)) tool_codes)
    ≡ one_unless (eqb (tool_of a) (tool_of b) || eqb (tool_of a) 0) + one_unless (eqb (tool_of a) (tool_of b) || eqb (tool_of b) 0)
tool-events a b =
    let old = map (tool_value (tool_of a)) tool_codes in
    let new = map (tool_value (tool_of b)) tool_codes in
    (elim (eqb (tool_of a) (tool_of b)) as (λ e. (T e → tool_of a ≡ tool_of b) → (T (not e) → tool_of a ≡ tool_of b → ⊥)
    → changed_in old new ≡ one_unless (e || eqb (tool_of a) 0) + one_unless (e || eqb (tool_of b) 0)) [
      | true ↦ λ y n. subst (λ z. changed_in old (map (tool_value z) tool_codes) ≡ 0 + 0) (y tt) (tools_same (tool_of a) tool_codes)
      | false ↦ λ y n. omega (arith, tools_changed (tool_of a) (tool_of b) tool_codes (n tt), one_hit a, one_hit b)
    ]) (eqb→eq (tool_of a) (tool_of b)) (λ n e. T_not (eqb (tool_of a) (tool_of b)) n (subst (λ z. T (eqb (tool_of a) z)) e (eqb_refl (tool_of a))))

-- ---- one for each changed number

-- BTN_TOUCH and the tools: one for each that changes.
pub length-buttons : (a b : ℕ) (q z : Pointer) → TouchedBy a q → TouchedBy b z
    → length (events_before q z) + length (swaps q.tool z.tool) ≡ changed_in (buttons q) (buttons z)
length-buttons a b q z c d =
    let u : changed_in (map (tool_value q.tool) tool_codes) (map (tool_value z.tool) tool_codes)
    ≡ one_unless (eqb q.tool z.tool || eqb q.tool 0) + one_unless (eqb q.tool z.tool || eqb z.tool 0) = rw (c.tools, d.tools) (tool-events a b) in
    omega (arith, u, length_before q z, length-swaps q.tool z.tool)

changed_append : (a b x y : List ℤ) → length a ≡ length b → changed_in (a ++ x) (b ++ y) ≡ changed_in a b + changed_in x y
changed_append [] [] x y e = omega arith
changed_append [] (v ∷ b) x y e = absurd (omega arith)
changed_append (u ∷ a) [] x y e = absurd (omega arith)
changed_append (u ∷ a) (v ∷ b) x y e = omega (arith, changed_append a b x y (omega arith))

-- Buttons and axes are the display's numbers.
pub changed_parts : (q z : Pointer) → changed_in (display q) (display z) ≡ changed_in (buttons q) (buttons z) + changed_in (place q) (place z)
changed_parts q z = changed_append (buttons q) (buttons z) (place q) (place z) refl

pub one_each : (a b : ℕ) (q z : Pointer) → TouchedBy a q → TouchedBy b z → length (emulated q z) ≡ changed_in (display q) (display z)
one_each a b q z c d =
    omega (
      arith,
      length-append (events_before q z) (events_after q z),
      length-append (swaps q.tool z.tool) (moves q z),
      length-buttons a b q z c d,
      length-moves q z,
      changed_parts q z,
    )
