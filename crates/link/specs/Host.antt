-- What a host does with a reader, call after call, and what it was answered. The theorems on lists of calls speak of it. Assumes nothing.
use Rattle.std.specs.Prelude.{◌≡◌, List, [], ◌∷◌, ℕ, ℤ}
use Rattle.common.specs.declared.Verdict.TheVariants.{Accepted}
use Rattle.records.specs.declared.Event.{Event}
use Rattle.reader.specs.declared.ReaderState.{ReaderState}
use Rattle.reader.specs.declared.RunAnswer.{RunAnswer}
use Rattle.reader.specs.declared.SlotAnswer.{SlotAnswer}
use Rattle.reader.specs.declared.LoadAnswer.{LoadAnswer}
use Rattle.link.specs.Promises.{Ran, ReadOne, Loaded, Asked}

-- A call with its answer: a run over bytes, one record by itself, a load of an image and a current slot, or a question for a slot.
pub data HostCall : Type 0 where
  run : List ℕ → RunAnswer → HostCall
  read_one : Event → RunAnswer → HostCall
  load : List ℤ → ℕ → LoadAnswer → HostCall
  ask : ℕ → SlotAnswer → HostCall

-- The call's contract allows the answer, where this state was handed in.
abbrev pub Allowed : ReaderState → HostCall → Type 0
Allowed s (run bs q) = Ran s bs q
Allowed s (read_one e q) = ReadOne s e q
Allowed s (load m c q) = Loaded s m c q
Allowed s (ask k r) = Asked s k r

-- The state that the host has after the call: the one that was answered; a question answers none.
abbrev pub state_after : ReaderState → HostCall → ReaderState
state_after s (run bs q) = q.state
state_after s (read_one e q) = q.state
state_after s (load m c q) = q.state
state_after s (ask k r) = s

-- So it is for calls in order, each on the state that the host has then.
abbrev pub AllAllowed : ReaderState → List HostCall → Type 0
AllAllowed s [] = Unit {0}
AllAllowed s (x ∷ xs) = Allowed s x × AllAllowed (state_after s x) xs

-- The state that the host has after all of them.
abbrev pub state_after_all : ReaderState → List HostCall → ReaderState
state_after_all s [] = s
state_after_all s (x ∷ xs) = state_after_all (state_after s x) xs

-- The call is not a load that was accepted.
abbrev pub NoLoad : HostCall → Type 0
NoLoad (run bs q) = Unit {0}
NoLoad (read_one e q) = Unit {0}
NoLoad (load m c q) = q.verdict ≡ Accepted → ⊥
NoLoad (ask k r) = Unit {0}

-- None of the calls is.
abbrev pub NoLoads : List HostCall → Type 0
NoLoads [] = Unit {0}
NoLoads (x ∷ xs) = NoLoad x × NoLoads xs
