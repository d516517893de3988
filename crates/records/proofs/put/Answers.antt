-- `records::put` writes a record's eight bytes at the start of a lent part. Assumes nothing.
use Rattle.std.proofs.Common.{◌≡◌, ℕ, ◌/◌, ◌%◌, List, ◌∷◌, drop, sym, ap, ◌∙◌}
use native.Mathlib.Omega.{arith}
use Rattle.std.proofs.lemmas.List.{drop-drop}
use Rattle.model.specs.Records.{record_bytes}
use Rattle.records.specs.Seen.{over}
use Rattle.records.proofs.put.Goals as goal

third : (v : ℕ) → v / 65_536 ≡ v / 256 / 256
third v = omega arith

fourth : (v : ℕ) → v / 16_777_216 ≡ v / 256 / 256 / 256
fourth v = omega arith

-- What stands past the record, as three copies leave it.
rest : (l : List ℕ) → drop 8 l ≡ drop 4 (drop 2 (drop 2 l))
rest l = sym (ap (drop 4) (drop-drop 2 2 l) ∙ drop-drop 4 4 l)

-- The bytes of three numbers, each the lowest first, and what they leave.
laid : (kind code v : ℕ) (l : List ℕ) → (kind % 256 ∷ kind / 256 % 256 ∷ code % 256 ∷ code / 256 % 256 ∷ v % 256 ∷ v / 256 % 256 ∷ v / 65_536 % 256 ∷ v / 16_777_216 % 256 ∷ drop 4 (drop 2 (drop 2 l))) ≡ over (record_bytes kind code v) l
unfolding record_bytes over
laid kind code v l = rw (third v, fourth v, rest l)

pub returns : goal.returns
returns c =
    let a = c.args in
    rw (c.copy_from_slice.ensures.after, c.copy_from_slice-2.ensures.after, c.copy_from_slice-3.ensures.after, c.to_le_bytes.ensures, c.to_le_bytes-2.ensures, c.to_le_bytes-3.ensures) (laid a.kind a.code a.value a.b.now)
