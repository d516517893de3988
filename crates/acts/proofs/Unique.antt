-- The promise of `act_of` leaves no choice: the law is of the contract itself. An act is known by what it asks of a value 0. Assumes nothing.
use mathlib.Core.Path.{◌≡◌, refl, sym, ap, ◌∙◌}
use Prim.Native.Nat.{ℕ, zero, suc}
use lib.IntN.{pos}
use Rattle.model.specs.Events as E
use Rattle.model.specs.Unique.{OneAnswer}
use Rattle.panel.specs.declared.Setup.{Setup}
use Rattle.records.specs.Seen.{headed}
use Rattle.acts.specs.declared.Act.{Act}
use Rattle.acts.specs.declared.Act.TheVariants.{UnknownType, UnknownCode, Report, Loss, Select, Id, X, Y, Pressure, Major, Minor}
use Rattle.acts.specs.Seen.{act_of}
use Rattle.acts.proofs.act_of.Reads as act-of

-- A setup in which 0 is good for a slot and for every number.
abbrev some : Setup
some = record { n = 1; x = 1; y = 1; pressure = 1; major = 1; minor = 1 }

abbrev act_from : E.Act → Act
act_from (E.skip E.of_type t c) = UnknownType
act_from (E.skip E.of_code t c) = UnknownCode
act_from E.bad = UnknownType
act_from E.report = Report
act_from E.loss = Loss
act_from (E.slot k) = Select
act_from (E.number zero v) = Id
act_from (E.number (suc zero) v) = X
act_from (E.number (suc (suc zero)) v) = Y
act_from (E.number (suc (suc (suc zero))) v) = Pressure
act_from (E.number (suc (suc (suc (suc zero)))) v) = Major
act_from (E.number (suc (suc (suc (suc (suc i))))) v) = Minor

act_back : (h : ℕ) (a : Act) → act_from (act_of some (headed h (pos 0)) a) ≡ a
act_back h UnknownType = refl
act_back h UnknownCode = refl
act_back h Report = refl
act_back h Loss = refl
act_back h Select = refl
act_back h Id = refl
act_back h X = refl
act_back h Y = refl
act_back h Pressure = refl
act_back h Major = refl
act_back h Minor = refl

pub act_of_one : OneAnswer act-of.Learnt
act_of_one κs a r q s t e g = sym (act_back a.0 r) ∙ ap act_from (e some (pos 0) ∙ sym (g some (pos 0))) ∙ act_back a.0 q
