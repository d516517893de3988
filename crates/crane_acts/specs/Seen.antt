-- The cranes' acts as the model's. Cited by the contracts here and by the proofs of the cranes' loop. Assumes nothing.
use Rattle.std.specs.Prelude.{ℕ, pos}
use Rattle.model.specs.Events as E
use Rattle.crane_acts.specs.declared.Act.{Act}
use Rattle.crane_acts.specs.declared.Act.TheVariants.{UnknownType, UnknownCode, Bad, Report, Loss, Select, Id, X, Y, Pressure}

-- What a record of type t and code c asks. Number 0 is the id, 1 is x, 2 is y and 3 is the pressure.
abbrev pub act_of : ℕ → ℕ → Act → E.Act
act_of t c UnknownType = E.skip E.of_type t c
act_of t c UnknownCode = E.skip E.of_code t c
act_of t c Bad = E.bad
act_of t c Report = E.report
act_of t c Loss = E.loss
act_of t c (Select k) = E.slot k.0
act_of t c (Id v) = E.number 0 v.0
act_of t c (X v) = E.number 1 (pos v)
act_of t c (Y v) = E.number 2 (pos v)
act_of t c (Pressure v) = E.number 3 (pos v)
