-- When bytes are a writer's state by their form, test by test, and what is known of those that are. Cited by the proofs of `formed` and of the calls. Assumes nothing.
use mathlib.Core.Path.{◌≡◌}
use mathlib.Core.Bool.{Bool, true, ◌&&◌}
use mathlib.Core.List.{List}
use Prim.Native.Nat.{ℕ, ◌+◌, ◌≤◌}
use lib.Dec.{eqb, leb, eqb→eq, leb→le}
use lib.ListN.{length}
use Rattle.model.proofs.Bools.{holds, both_left, both_right}
use Rattle.lent_writer.specs.Layout.{state_size, version, kind, version_at, kind_at, option_at, zero_at}
use Rattle.lent_writer.specs.Seen.{byte_at, formed}

pub formed_by : (b : List ℕ) (l v k o z y : Bool) → eqb (length b) state_size ≡ l → eqb (byte_at b version_at) version ≡ v → eqb (byte_at b kind_at) kind ≡ k → leb (byte_at b option_at) 1 ≡ o
    → eqb (byte_at b zero_at) 0 ≡ z → eqb (byte_at b (zero_at + 1)) 0 ≡ y → formed b ≡ (l && (v && (k && (o && (z && y)))))
unfolding formed
formed_by b l v k o z y el ev ek eo ez ey = λ i. el i && (ev i && (ek i && (eo i && (ez i && ey i))))

pub record Formed (b : List ℕ) : Type 0 where
  pub size : length b ≡ state_size
  pub version : byte_at b version_at ≡ version
  pub kind : byte_at b kind_at ≡ kind
  pub option : byte_at b option_at ≤ 1
  pub zero : byte_at b zero_at ≡ 0
  pub next : byte_at b (zero_at + 1) ≡ 0

pub form : (b : List ℕ) → formed b ≡ true → Formed b
unfolding formed
form b e =
    let l = eqb (length b) state_size in
    let v = eqb (byte_at b version_at) version in
    let k = eqb (byte_at b kind_at) kind in
    let o = leb (byte_at b option_at) 1 in
    let z = eqb (byte_at b zero_at) 0 in
    let y = eqb (byte_at b (zero_at + 1)) 0 in
    let h = holds (formed b) e in
    let h₁ = both_right l _ h in
    let h₂ = both_right v _ h₁ in
    let h₃ = both_right k _ h₂ in
    let h₄ = both_right o _ h₃ in
    record {
      size = eqb→eq (length b) state_size (both_left l _ h);
      version = eqb→eq (byte_at b version_at) version (both_left v _ h₁);
      kind = eqb→eq (byte_at b kind_at) kind (both_left k _ h₂);
      option = leb→le (byte_at b option_at) 1 (both_left o _ h₃);
      zero = eqb→eq (byte_at b zero_at) 0 (both_left z y h₄);
      next = eqb→eq (byte_at b (zero_at + 1)) 0 (both_right z y h₄);
    }
