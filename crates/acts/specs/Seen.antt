-- The code's acts as the model's. Cited by the contracts here and by the reader's proofs. Assumes nothing.
use Rattle.std.specs.Prelude.{cond, ℕ, eqb, ℤ, pos}
use Rattle.model.specs.Panel.{id_field}
use Rattle.model.specs.Numbers.{between_z}
use Rattle.model.specs.Table.{fits}
use Rattle.model.specs.Events as E
use Rattle.panel.specs.declared.Setup.{Setup}
use Rattle.acts.specs.declared.Act.{Act}
use Rattle.acts.specs.declared.Act.TheVariants.{UnknownType, UnknownCode, Report, Loss, Select, Id, X, Y, Pressure, Major, Minor}

-- A value for number i of the current slot, where top is its largest: 0 to top are good.
abbrev pub numbered : ℕ → ℕ → ℤ → E.Act
numbered i top v = cond (between_z (pos 0) (pos top) v) (E.number i v) E.bad

-- What an event of such an act asks of a panel with this setup. Number 0 is the id, 1 is x, 2 is y, 3 is the pressure, 4 and 5 are the sizes.
abbrev pub act_of : Setup → E.Event → Act → E.Act
act_of u e UnknownType = E.skip E.of_type e.type e.code
act_of u e UnknownCode = E.skip E.of_code e.type e.code
act_of u e Report = E.report
act_of u e Loss = E.loss
act_of u e Select = E.slot_act u.n e.value
act_of u e Id = cond (fits id_field e.value) (E.number 0 e.value) E.bad
act_of u e X = numbered 1 u.x e.value
act_of u e Y = numbered 2 u.y e.value
act_of u e Pressure = numbered 3 u.pressure e.value
act_of u e Major = numbered 4 u.major e.value
act_of u e Minor = numbered 5 u.minor e.value

-- What an event of this type and code asks that is of no slot and no number.
abbrev pub unlisted_act : ℕ → ℕ → E.Act
unlisted_act t c = cond (eqb t 0) (E.syn_act c) (cond (eqb t 3) (E.skip E.of_code 3 c) (E.skip E.of_type t c))
