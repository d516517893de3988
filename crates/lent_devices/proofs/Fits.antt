-- Six numbers that a report's type holds, test by test. Cited by the proof of `report_of`. Assumes nothing.
use mathlib.Core.Path.{◌≡◌}
use mathlib.Core.Bool.{true, ◌&&◌}
use mathlib.Core.List.{List}
use lib.IntN.{ℤ}
use Rattle.model.specs.Force.{fits_in, word_values, byte_values}
use Rattle.model.proofs.Bools.{and_left, and_right}
use Rattle.lent_devices.specs.Sticks.{number_at, up_to, most_byte, most_word, typed}

pub record Typed (l : List ℤ) : Type 0 where
  pub x : fits_in word_values (number_at l 0) ≡ true
  pub y : fits_in word_values (number_at l 1) ≡ true
  pub throttle : up_to most_byte (number_at l 2) ≡ true
  pub buttons : up_to most_word (number_at l 3) ≡ true
  pub hat : up_to most_byte (number_at l 4) ≡ true
  pub rudder : fits_in byte_values (number_at l 5) ≡ true

pub facts : (l : List ℤ) → typed l ≡ true → Typed l
unfolding typed
facts l e =
    let t₀ = fits_in word_values (number_at l 0) in
    let t₁ = fits_in word_values (number_at l 1) in
    let t₂ = up_to most_byte (number_at l 2) in
    let t₃ = up_to most_word (number_at l 3) in
    let t₄ = up_to most_byte (number_at l 4) in
    let t₅ = fits_in byte_values (number_at l 5) in
    let r₁ = and_right t₀ (t₁ && (t₂ && (t₃ && (t₄ && t₅)))) e in
    let r₂ = and_right t₁ (t₂ && (t₃ && (t₄ && t₅))) r₁ in
    let r₃ = and_right t₂ (t₃ && (t₄ && t₅)) r₂ in
    let r₄ = and_right t₃ (t₄ && t₅) r₃ in record {
      x = and_left t₀ (t₁ && (t₂ && (t₃ && (t₄ && t₅)))) e;
      y = and_left t₁ (t₂ && (t₃ && (t₄ && t₅))) r₁;
      throttle = and_left t₂ (t₃ && (t₄ && t₅)) r₂;
      buttons = and_left t₃ (t₄ && t₅) r₃;
      hat = and_left t₄ t₅ r₄;
      rudder = and_right t₄ t₅ r₄;
    }
