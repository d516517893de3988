-- A shift: calls of `write` with their answers, refused ones among them, each on the state that the call before answered. The theorems of K1 speak of
-- it. Assumes nothing.
use Rattle.std.specs.Prelude.{List, [], ◌∷◌, ◌++◌, ℕ, ◌*◌, ℤ, take, drop}
use Rattle.writer.specs.declared.WriterState.{WriterState}
use Rattle.writer.specs.declared.Written.{Written}
use Rattle.link.specs.Promises.{Wrote}

-- The frame, the position and the buffer that was lent; the answer, and the buffer afterwards.
pub record WriteCall : Type 0 where
  pub frame : List ℤ
  pub at : ℕ
  pub buffer : List ℕ
  pub answer : Written
  pub after : List ℕ

-- The contract of `write` allows the answers.
abbrev pub AllWrote : WriterState → List WriteCall → Type 0
AllWrote s [] = Unit {0}
AllWrote s (c ∷ cs) = Wrote s c.frame c.at c.buffer c.answer c.after × AllWrote c.answer.state cs

-- The writer after the calls.
abbrev pub writer_after : WriterState → List WriteCall → WriterState
writer_after s [] = s
writer_after s (c ∷ cs) = writer_after c.answer.state cs

-- The bytes that they wrote, in order: from each position on, eight for each event that was counted.
abbrev pub bytes_from : List WriteCall → List ℕ
bytes_from [] = []
bytes_from (c ∷ cs) = take (8 * c.answer.count) (drop c.at c.after) ++ bytes_from cs
