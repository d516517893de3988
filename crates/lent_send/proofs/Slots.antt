-- A slot of a table in lent bytes is what lies at its place. Cited by the proofs of both functions. Assumes nothing.
use mathlib.Core.Path.{◌≡◌, sym, ap, ◌∙◌}
use mathlib.Core.List.{List}
use Prim.Native.Nat.{ℕ, ◌+◌, ◌*◌, ◌<◌}
use native.Mathlib.Omega.{arith}
use lib.ListN.{get_or}
use Rattle.model.specs.Panel.{records}
use Rattle.panel.specs.Seen.{blank}
use Rattle.lent.specs.Lent.{slot_size, slot_in, table_in}
use Rattle.lent.proofs.Tables.{slot-of}

pub slot-in : (b : List ℕ) (i : ℕ) → i < records → slot_in b (slot_size * i) ≡ get_or (table_in b) i blank
slot-in b i h = let z : 0 + slot_size * i ≡ slot_size * i = omega arith in ap (slot_in b) (sym z) ∙ sym (slot-of records b 0 i h)
