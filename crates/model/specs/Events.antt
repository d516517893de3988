-- Events, and what an event asks of a reader. `classify` alone knows codes and ranges. Assumes nothing.
use Rattle.std.specs.Prelude.{cond, List, [], ◌∷◌, ℕ, suc, eqb, ltb, ℤ, pos, negsuc}
use Rattle.model.specs.Panel.{Field, Panel, slot_code}
use Rattle.model.specs.Table.{fits}

-- An event: type and code of 16 bits, and a signed value of 32 bits.
pub record Event : Type 0 where
  pub type : ℕ
  pub code : ℕ
  pub value : ℤ

-- Why an event is skipped: its type is unknown, which is every type but 0 and 3, or its type is known and its code is not.
pub data Unknown : Type 0 where
  of_type of_code : Unknown

-- What an event asks: nothing (it is unknown, and here are its type and code), a bad value, a report, a loss, a slot, or a number of the current slot.
pub data Act : Type 0 where
  skip : Unknown → ℕ → ℕ → Act
  bad report loss : Act
  slot : ℕ → Act
  number : ℕ → ℤ → Act

-- The same act one field further on.
abbrev pub later : Act → Act
later (skip w t c) = skip w t c
later bad = bad
later report = report
later loss = loss
later (slot k) = slot k
later (number i v) = number (suc i) v

-- An event of type 3 by the fields: number i where field i has the code and the value is good, bad where it is not, else the code is unknown.
abbrev pub number_act : List Field → ℕ → ℤ → Act
number_act [] c v = skip of_code 3 c
number_act (f ∷ fs) c v = cond (eqb c f.code) (cond (fits f v) (number 0 v) bad) (later (number_act fs c v))

-- ABS_MT_SLOT: 0 to n - 1 are good.
abbrev pub slot_act : ℕ → ℤ → Act
slot_act n (pos k) = cond (ltb k n) (slot k) bad
slot_act n (negsuc k) = bad

-- Type 0: SYN_REPORT is code 0 and SYN_DROPPED code 3, with any value; another code is unknown.
abbrev pub syn_act : ℕ → Act
syn_act c = cond (eqb c 0) report (cond (eqb c 3) loss (skip of_code 0 c))

-- Type 3: a slot or a number.
abbrev pub abs_act : Panel → ℕ → ℤ → Act
abs_act p c v = cond (eqb c slot_code) (slot_act p.slots v) (number_act p.fields c v)

-- What an event asks; any other type is unknown.
abbrev pub classify : Panel → Event → Act
classify p e = cond (eqb e.type 0) (syn_act e.code) (cond (eqb e.type 3) (abs_act p e.code e.value) (skip of_type e.type e.code))
