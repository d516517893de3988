-- How many bytes are left in the buffer where a program's input ended. Assumes nothing.
use Rattle.std.specs.Prelude.{ℕ}
use Rattle.stream.specs.declared.input.Ended.{Ended}
use Rattle.stream.specs.declared.input.Ended.TheVariants.{Input, ReadFailed, WriteFailed}

-- They were not used, and lie at its front; none count after a failed write.
abbrev pub left : Ended → ℕ
left (Input n) = n
left (ReadFailed n why) = n
left WriteFailed = 0
