-- Largest values below 2^31, which is all that the judging of a row asks of its setup. Assumes nothing.
use Rattle.std.specs.Prelude.{◌<◌}
use Rattle.panel.specs.declared.Setup.{Setup}

pub record Fit31 (u : Setup) : Type 0 where
  pub x : u.x < 2147483648
  pub y : u.y < 2147483648
  pub pressure : u.pressure < 2147483648
  pub major : u.major < 2147483648
  pub minor : u.minor < 2147483648
