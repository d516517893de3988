-- `answer_lines` ends: each turn takes a line from the rest. Assumes nothing.
use Rattle.std.proofs.Common.{length}
use Rattle.write_commands.proofs.Writing.answer_lines.Given as goal

abbrev pub decreases-loop-end : goal.decreases-loop-end
decreases-loop-end l = length l.rest
