-- A crane's state and the answers that hold one as the model's, and back. The public contracts are the model's calls seen through it. Assumes nothing.
use Rattle.std.specs.Prelude.{ℕ}
use Rattle.model.specs.Reader as R
use Rattle.model.specs.States as S
use Rattle.model.specs.Calls as C
use Rattle.common.specs.declared.Mode.TheVariants.{Following}
use Rattle.common.specs.declared.Verdict.TheVariants as W
use Rattle.common.specs.Seen.{verdict_from, mode_of, mode_from, counts_from}
use Rattle.crane_panel.specs.Seen.{table_from, setup_of, setup_from, zeros}
use Rattle.crane_panel.specs.declared.Setup.{Setup}
use Rattle.crane_follow.specs.Seen.{reader_of}
use Rattle.crane_follow.specs.declared.Ended.{Ended}
use Rattle.crane_reader.specs.declared.ReaderState.{ReaderState}
use Rattle.crane_reader.specs.declared.RunAnswer.{RunAnswer}
use Rattle.crane_reader.specs.declared.FreshAnswer.{FreshAnswer}

-- ---- states

-- A state as the model sees it.
abbrev pub seen : ReaderState → S.ReaderState
seen s = record { setup = setup_of s.setup; reader = reader_of s.shown s.pending s.current.0 (mode_of s.mode) }

-- And back.
abbrev pub held : S.ReaderState → ReaderState
held s = record {
  setup = setup_from s.setup;
  shown = table_from s.reader.shown;
  pending = table_from s.reader.pending;
  current = record { 0 = s.reader.current };
  mode = mode_from s.reader.mode;
}

-- The setup of four numbers.
abbrev pub given : ℕ → ℕ → ℕ → ℕ → Setup
given n x y p = record { n = n; x = x; y = y; pressure = p }

-- Zeros and mode following.
abbrev pub no_state : ReaderState
no_state = record { setup = given 0 0 0 0; shown = zeros; pending = zeros; current = record { 0 = 0 }; mode = Following }

-- ---- answers

-- A run's answer.
abbrev pub ran_from : C.Ran → RunAnswer
ran_from a = record { verdict = verdict_from a.verdict; state = held a.state; counts = counts_from a.counts }

-- A run's end as the code answers it.
abbrev pub answered : Setup → R.Run → RunAnswer
answered u e = ran_from (C.ran (setup_of u) e)

-- The answer of a run that left these tables, current slot, mode and counts.
abbrev pub accepted : Setup → Ended → RunAnswer
accepted u e = record {
  verdict = W.Accepted;
  state = record { setup = u; shown = e.shown; pending = e.pending; current = e.current; mode = e.mode };
  counts = e.counts;
}

-- A fresh state's answer.
abbrev pub fresh_from : C.FreshReader → FreshAnswer
fresh_from a = record { verdict = verdict_from a.verdict; state = held a.state }
