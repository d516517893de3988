-- Two tables fix the bytes that hold them: stored again they are these bytes. Assumes nothing.
use mathlib.Core.Path.{◌≡◌, sym, ap₂, ◌∙◌}
use mathlib.Core.List.{List, ◌++◌}
use native.Mathlib.Omega.{arith}
use Prim.Native.Nat.{ℕ}
use lib.ListN.{length, take, drop, take-append-drop, length-drop}
use lib.Seq.{take_all}
use Rattle.model.specs.Panel.{records}
use Rattle.lent.specs.Lent.{table_size, table_bytes, Bytes}
use Rattle.lent.proofs.Tables.{table-bytes_back}
use Rattle.lent_follow.specs.InPlace.{both_size, shown_in, pending_in}

module _ (t : List ℕ) (made : Bytes t) (size : length t ≡ both_size) where
  pub shown-bytes : table_bytes (shown_in t) ≡ take table_size t
  shown-bytes = table-bytes_back records t 0 made (omega (arith, size))

  pub pending-bytes : table_bytes (pending_in t) ≡ drop table_size t
  pending-bytes = table-bytes_back records t table_size made (omega (arith, size)) ∙ take_all table_size (drop table_size t) (omega (arith, length-drop table_size t, size))

  pub both_back : table_bytes (shown_in t) ++ table_bytes (pending_in t) ≡ t
  both_back = ap₂ (λ a b. a ++ b) shown-bytes pending-bytes ∙ take-append-drop table_size t

-- Bytes that hold the same tables are the same.
pub both_same : (a b : List ℕ) → Bytes a → Bytes b → length a ≡ both_size → length b ≡ both_size → shown_in a ≡ shown_in b → pending_in a ≡ pending_in b → a ≡ b
both_same a b f g h k s p = sym (both_back a f h) ∙ ap₂ (λ x y. table_bytes x ++ table_bytes y) s p ∙ both_back b g k
