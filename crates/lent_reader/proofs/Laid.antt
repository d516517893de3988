-- A reader's state laid over bytes part by part is laid there whole. Cited by the proofs of `put_body`, `put_state` and the calls. Assumes nothing.
use mathlib.Core.Path.{◌≡◌, ap, ◌∙◌}
use mathlib.Core.List.{List, ◌++◌, append_assoc, append-nil}
use Prim.Native.Nat.{ℕ, ◌+◌, ◌≤◌}
use native.Mathlib.Omega.{arith}
use lib.ListN.{length, length-append, drop_of_length-le}
use Rattle.model.specs.Panel.{records}
use Rattle.model.specs.Records.{low_bytes, lay}
use Rattle.records.proofs.Over.{lay-lay}
use Rattle.reader.specs.declared.ReaderState.{ReaderState}
use Rattle.lent.specs.Lent.{setup_bytes, table_bytes}
use Rattle.lent.proofs.Slots.{setup-length}
use Rattle.lent.proofs.Tables.{table-length}
use Rattle.lent_reader.specs.Layout.{body_size, reader_size, body_bytes, packed}

module _ (s : ReaderState) (shown : length s.shown ≡ records) where
  -- The four parts behind the head, one after the other.
  pub body-laid : (b w₁ w₂ w₃ w₄ : List ℕ) → reader_size ≤ length b
      → w₁ ≡ lay 4 (low_bytes 4 s.current.0) b → w₂ ≡ lay 8 (setup_bytes s.setup) w₁ → w₃ ≡ lay 32 (table_bytes s.shown) w₂ → w₄ ≡ lay 800 (table_bytes s.pending) w₃
      → w₄ ≡ lay 4 (body_bytes s) b
  unfolding body_bytes
  body-laid b w₁ w₂ w₃ w₄ h e₁ e₂ e₃ e₄ =
      let A = low_bytes 4 s.current.0 in
      let U = setup_bytes s.setup in
      let X = table_bytes s.shown in
      let Y = table_bytes s.pending in
      let B = A ++ U in
      let C = B ++ X in
      let two : w₂ ≡ lay 4 B b = e₂ ∙ ap (lay 8 U) e₁ ∙ lay-lay 4 A U b (omega arith) in
      let n : 32 ≡ 4 + length B = omega (arith, length-append A U, setup-length s.setup) in
      let three : w₃ ≡ lay 4 C b = e₃ ∙ ap (lay 32 X) two ∙ ap (λ k. lay k X (lay 4 B b)) n ∙ lay-lay 4 B X b (omega arith) in
      let m : 800 ≡ 4 + length C = omega (arith, length-append B X, table-length s.shown) in
      e₄ ∙ ap (lay 800 Y) three ∙ ap (λ k. lay k Y (lay 4 C b)) m ∙ lay-lay 4 C Y b (omega arith)
      ∙ ap (λ l. lay 4 l b) (append_assoc B X Y ∙ append_assoc A U (X ++ Y))

  module _ (pending : length s.pending ≡ records) where
    pub body-length : length (body_bytes s) ≡ body_size
    unfolding body_bytes
    body-length =
        let A = low_bytes 4 s.current.0 in
        let U = setup_bytes s.setup in
        let X = table_bytes s.shown in
        let Y = table_bytes s.pending in
        omega (arith, length-append A (U ++ (X ++ Y)), length-append U (X ++ Y), length-append X Y, setup-length s.setup, table-length s.shown, table-length s.pending)

    pub packed-length : length (packed s) ≡ reader_size
    unfolding packed
    packed-length = omega (arith, body-length)

-- As many bytes laid from the start on as there are leave nothing of the others.
pub lay_all : (bs b : List ℕ) → length bs ≡ length b → lay 0 bs b ≡ bs
unfolding lay
lay_all bs b e =
    let all : length b ≤ 0 + length bs = omega (arith, e) in
    ap (λ l. bs ++ l) (drop_of_length-le b all) ∙ append-nil bs
