-- What is stored part by part, each behind the one before, is stored as a whole: so are a state's bytes. Cited by the proofs of `put_numbers` and `put_state`. Assumes nothing.
use mathlib.Core.Path.{◌≡◌, refl, sym, ap, ap₂, ◌∙◌}
use mathlib.Core.List.{List, ◌++◌, append-nil}
use Prim.Native.Nat.{ℕ, ◌+◌, ◌≤◌}
use native.Mathlib.Omega.{arith}
use lib.ListN.{length, drop, length-append}
use lib.Seq.{drop-length}
use Rattle.model.specs.Panel.{records}
use Rattle.model.specs.Records.{low_bytes, lay}
use Rattle.records.proofs.Over.{lay-lay}
use Rattle.writer.specs.declared.WriterState.{WriterState}
use Rattle.lent.specs.Lent.{setup_bytes, table_bytes}
use Rattle.lent.proofs.Tables.{table-length}
use Rattle.lent_writer.specs.Layout.{state_size, setup_at, current_at, counter_at, x_at, y_at, table_at, ranks_at}
use Rattle.lent_writer.specs.Seen.{head_bytes, number_bytes, packed}

-- A is laid, and B behind it.
pub laid_on : (at to : ℕ) (A B b c d : List ℕ) → to ≡ at + length A → at + length A ≤ length b → c ≡ lay at A b → d ≡ lay to B c → d ≡ lay at (A ++ B) b
laid_on at to A B b c d et room ec ed = ed ∙ ap₂ (λ k l. lay k B l) et ec ∙ lay-lay at A B b room

-- As many bytes as there are.
pub laid-whole : (bs b : List ℕ) → length bs ≡ length b → lay 0 bs b ≡ bs
unfolding lay
laid-whole bs b e =
    let z : 0 + length bs ≡ length b = omega (arith, e) in
    ap (λ l. bs ++ l) (ap (λ k. drop k b) z ∙ drop-length b) ∙ append-nil bs

module _ (s : WriterState) where
  pub numbers-length : length (number_bytes s) ≡ 40
  unfolding setup_bytes
  numbers-length = refl

  pub numbers-stored : (b b₁ b₂ b₃ b₄ b₅ : List ℕ) → table_at ≤ length b → b₁ ≡ lay setup_at (setup_bytes s.setup) b → b₂ ≡ lay current_at (low_bytes 4 s.current.0) b₁
      → b₃ ≡ lay counter_at (low_bytes 4 s.counter) b₂ → b₄ ≡ lay x_at (low_bytes 4 s.told.x) b₃ → b₅ ≡ lay y_at (low_bytes 4 s.told.y) b₄ → b₅ ≡ lay setup_at (number_bytes s) b
  unfolding setup_bytes
  numbers-stored b b₁ b₂ b₃ b₄ b₅ room e₁ e₂ e₃ e₄ e₅ =
      let S = setup_bytes s.setup in
      let C = low_bytes 4 s.current.0 in
      let K = low_bytes 4 s.counter in
      let X = low_bytes 4 s.told.x in
      let two = laid_on setup_at current_at S C b b₁ b₂ refl (omega arith) e₁ e₂ in
      let three = laid_on setup_at counter_at (S ++ C) K b b₂ b₃ refl (omega arith) two e₃ in
      let four = laid_on setup_at x_at (S ++ C ++ K) X b b₃ b₄ refl (omega arith) three e₄ in
      laid_on setup_at y_at (S ++ C ++ K ++ X) (low_bytes 4 s.told.y) b b₄ b₅ refl (omega arith) four e₅

  module _ (full : length s.table ≡ records) (ranked : length s.ranks ≡ records) where
    table-whole : length (table_bytes s.table) ≡ 768
    table-whole = omega (arith, table-length s.table, full)

    pub packed-length : length (packed s) ≡ state_size
    unfolding packed
    packed-length =
        let H = head_bytes s.pointer s.told in
        let N = number_bytes s in
        let T = table_bytes s.table in
        omega (arith, length-append (H ++ N ++ T) s.ranks, length-append (H ++ N) T, length-append H N, numbers-length, table-whole, ranked)

    pub state-stored : (b b₁ b₂ b₃ b₄ : List ℕ) → length b ≡ state_size → b₁ ≡ lay 0 (head_bytes s.pointer s.told) b → b₂ ≡ lay setup_at (number_bytes s) b₁
        → b₃ ≡ lay table_at (table_bytes s.table) b₂ → b₄ ≡ lay ranks_at s.ranks b₃ → b₄ ≡ packed s
    unfolding packed
    state-stored b b₁ b₂ b₃ b₄ size e₁ e₂ e₃ e₄ =
        let H = head_bytes s.pointer s.told in
        let N = number_bytes s in
        let T = table_bytes s.table in
        let hn : length (H ++ N) ≡ 48 = omega (arith, length-append H N, numbers-length) in
        let hnt : length (H ++ N ++ T) ≡ 816 = omega (arith, length-append (H ++ N) T, hn, table-whole) in
        let two = laid_on 0 setup_at H N b b₁ b₂ refl (omega arith) e₁ e₂ in
        let three = laid_on 0 table_at (H ++ N) T b b₂ b₃ (omega (arith, hn)) (omega (arith, hn)) two e₃ in
        let four = laid_on 0 ranks_at (H ++ N ++ T) s.ranks b b₃ b₄ (omega (arith, hnt)) (omega (arith, hnt)) three e₄ in
        four ∙ laid-whole (H ++ N ++ T ++ s.ranks) b (packed-length ∙ sym size)
