-- `recorder::put_blocks` lays all blocks: before block k, what is left to lay over the buffer is what was left at the start. Assumes nothing.
use mathlib.Core.Path.{◌≡◌}
use mathlib.Core.List.{List}
use Prim.Native.Nat.{ℕ, ◌+◌, ◌*◌}
use lib.ListN.{length}
use Rattle.model.specs.Records.{lay}
use Rattle.model.specs.Recorder.{block_length}
use Rattle.recorder.proofs.Left.{left}
use Rattle.recorder.proofs.put_blocks.Given as goal

pub record Laying (number : ℕ) (events : List ℕ) (blocks : ℕ) (buf₀ : List ℕ) (at : ℕ) (buf : List ℕ) (k : ℕ) : Type 0 where
  pub size : length buf ≡ length buf₀
  pub bytes : lay at (left number events blocks 0) buf₀ ≡ lay (at + block_length * k) (left number events blocks k) buf

abbrev pub invariant-loop-k : goal.invariant-loop-k
invariant-loop-k l = Laying l.number l.events l.blocks l.initial.buf l.at l.buf l.k
