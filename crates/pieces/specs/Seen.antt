-- A line's state and the answers that hold one as the model's, and back. The public contracts are the model's calls seen through it. Assumes nothing.
use Rattle.std.specs.Prelude.{List, ℕ, length}
use Rattle.model.specs.Reader.{nothing, plus}
use Rattle.model.specs.Pieces as M
use Rattle.model.specs.Pieces.{left_bytes, placed}
use Rattle.common.specs.declared.Verdict.{Verdict}
use Rattle.common.specs.declared.Verdict.TheVariants.{Accepted}
use Rattle.common.specs.declared.Counts.{Counts}
use Rattle.common.specs.Seen.{verdict_from, counts_of, counts_from}
use Rattle.reader.specs.declared.RunAnswer.{RunAnswer}
use Rattle.reader.specs.States as R
use Rattle.pieces.specs.declared.LineState.{LineState}
use Rattle.pieces.specs.declared.FreshAnswer.{FreshAnswer}
use Rattle.pieces.specs.declared.TakeAnswer.{TakeAnswer}
use Rattle.pieces.specs.declared.LoadAnswer.{LoadAnswer}

-- ---- states

-- A state as the model sees it.
abbrev pub seen : LineState → M.LineState
seen s = record { reader = R.seen s.reader; left = s.left; count = s.count }

-- And back.
abbrev pub held : M.LineState → LineState
held s = record { left = s.left; count = s.count; reader = R.held s.reader }

-- ---- answers

-- A fresh state's answer.
abbrev pub fresh_from : M.FreshLine → FreshAnswer
fresh_from a = record { verdict = verdict_from a.verdict; state = held a.state }

-- A piece's answer.
abbrev pub taken_from : M.Taken → TakeAnswer
taken_from a = record { verdict = verdict_from a.verdict; state = held a.state; counts = counts_from a.counts }

-- A load's answer.
abbrev pub loaded_from : M.LineLoaded → LoadAnswer
loaded_from a = record { verdict = verdict_from a.verdict; state = held a.state }

-- The answer where no record is read: zeros.
abbrev pub unread_from : Verdict → LineState → TakeAnswer
unread_from v s = record { verdict = v; state = s; counts = counts_from nothing }

-- The answer after a run over the whole records of `rest`: the bytes after them are left over, and its counts are added to those before.
abbrev pub took_from : Counts → RunAnswer → List ℕ → TakeAnswer
took_from before ran rest = record {
  verdict = Accepted;
  state = record { left = placed (left_bytes rest); count = length (left_bytes rest); reader = ran.state };
  counts = counts_from (plus (counts_of before) (counts_of ran.counts));
}
