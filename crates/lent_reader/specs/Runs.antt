-- A run of a good state where it lies: what it counts, and the bytes that it leaves. Assumes nothing.
use Rattle.std.specs.Prelude.{◌≡◌, List, ℕ}
use Rattle.model.specs.Records.{events_of}
use Rattle.model.specs.Reader.{run}
use Rattle.common.specs.declared.Counts.{Counts}
use Rattle.panel.specs.Seen.{panel_seen}
use Rattle.reader.specs.declared.RunAnswer.{RunAnswer}
use Rattle.reader.specs.States.{seen, answered}
use Rattle.lent_reader.specs.Layout.{unpacked, packed}

-- The model's run of the state that bytes hold over all whole records, as the call by value answers it.
abbrev pub ran_on : List ℕ → List ℕ → RunAnswer
ran_on b bytes = answered (unpacked b).setup (run (panel_seen (unpacked b).setup) (seen (unpacked b)).reader (events_of bytes))

-- Bytes b, which hold a good state, become `next`, and c is counted.
pub record EndsIn (b bytes : List ℕ) (c : Counts) (next : List ℕ) : Type 0 where
  pub counts : c ≡ (ran_on b bytes).counts
  pub state : next ≡ packed (ran_on b bytes).state
