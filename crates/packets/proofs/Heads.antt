-- What the model hears in a record by its head: nothing, where it is none of the six. Cited by the proof of `said_of`. Assumes nothing.
use mathlib.Core.Path.{◌≡◌, refl}
use mathlib.Core.Bool.{true, false, cond}
use mathlib.Core.List.{List, []}
use Prim.Native.Nat.{ℕ, ◌+◌, ◌*◌, ◌/◌, ◌%◌}
use native.Mathlib.Omega.{arith}
use borrow.Author.Tests.{ne_eqb, eqb-true}
use lib.Dec.{eqb}
use lib.IntN.{ℤ}
use Rattle.model.specs.Panel.{x_axis, y_axis, pressure_axis}
use Rattle.model.specs.Packets.{Said, syn_said, abs_said, said}
use Rattle.records.specs.Seen.{headed}

-- The head of a type with a code.
abbrev head_of : ℕ → ℕ → ℕ
head_of type code = type + 65_536 * code

pub record Unlisted (h : ℕ) : Type 0 where
  pub x : h ≡ head_of 3 x_axis.code → ⊥
  pub y : h ≡ head_of 3 y_axis.code → ⊥
  pub pressure : h ≡ head_of 3 pressure_axis.code → ⊥
  pub close : h ≡ head_of 0 2 → ⊥
  pub report : h ≡ head_of 0 0 → ⊥
  pub loss : h ≡ head_of 0 3 → ⊥

module _ (h : ℕ) (v : ℤ) (none : Unlisted h) where
  no_code : (t k : ℕ) → h % 65_536 ≡ t → (h ≡ head_of t k → ⊥) → eqb (h / 65_536) k ≡ false
  no_code t k e f = ne_eqb (h / 65_536) k (λ q. f (omega arith))

  syn_silent : h % 65_536 ≡ 0 → ◌≡◌ {A = List Said} [] (syn_said (h / 65_536))
  syn_silent e = rw (no_code 0 0 e none.report, no_code 0 2 e none.close, no_code 0 3 e none.loss)

  abs_silent : h % 65_536 ≡ 3 → ◌≡◌ {A = List Said} [] (abs_said (h / 65_536) v)
  abs_silent e =
      rw (no_code 3 x_axis.code e none.x, no_code 3 y_axis.code e none.y, no_code 3 pressure_axis.code e none.pressure)

  abs_or_none : ◌≡◌ {A = List Said} [] (cond (eqb (h % 65_536) 3) (abs_said (h / 65_536) v) [])
  abs_or_none =
      elim (eqb (h % 65_536) 3) as (λ b. (b ≡ true → h % 65_536 ≡ 3) → ◌≡◌ {A = List Said} [] (cond b (abs_said (h / 65_536) v) []))
      [ true ↦ λ q. abs_silent (q refl) | false ↦ λ q. refl ] (eqb-true (h % 65_536) 3)

  pub skipped : ◌≡◌ {A = List Said} [] (said (headed h v))
  skipped =
      elim (eqb (h % 65_536) 0) as (λ b. (b ≡ true → h % 65_536 ≡ 0)
      → ◌≡◌ {A = List Said} [] (cond b (syn_said (h / 65_536)) (cond (eqb (h % 65_536) 3) (abs_said (h / 65_536) v) [])))
      [ true ↦ λ q. syn_silent (q refl) | false ↦ λ q. abs_or_none ] (eqb-true (h % 65_536) 0)
