-- The answers of a load and of a question as the model's, and back, and the two plain ones of a run and a load. Cited by the public contracts and by proofs/Promises. Assumes nothing.
use Rattle.std.specs.Prelude.{◌≡◌, List, ℕ, ℤ}
use Rattle.model.specs.Reader as R
use Rattle.model.specs.Calls as C
use Rattle.panel.specs.Seen.{slot_of, slot_from, setup_of, panel_seen}
use Rattle.common.specs.Seen.{verdict_of, verdict_from}
use Rattle.panel.specs.declared.Setup.{Setup}
use Rattle.common.specs.declared.Verdict.{Verdict}
use Rattle.common.specs.declared.Verdict.TheVariants as W
use Rattle.reader.specs.States.{held}
use Rattle.common.specs.Seen.{counts_from}
use Rattle.reader.specs.declared.ReaderState.{ReaderState}
use Rattle.reader.specs.declared.RunAnswer.{RunAnswer}
use Rattle.reader.specs.declared.LoadAnswer.{LoadAnswer}
use Rattle.reader.specs.declared.SlotAnswer.{SlotAnswer}
use Rattle.reader.specs.declared.SlotAnswer.TheVariants.{Contact, Empty, Unknown, NoSuchSlot, Refused}

-- A load's answer.
abbrev pub loaded_from : C.Loaded → LoadAnswer
loaded_from a = record { verdict = verdict_from a.verdict; state = held a.state }

-- A question's answer.
abbrev pub asked_from : C.Asked → SlotAnswer
asked_from (C.contact s) = Contact (slot_from s)
asked_from C.empty = Empty
asked_from C.unknown = Unknown
asked_from C.no_such_slot = NoSuchSlot
asked_from (C.refused v) = Refused (verdict_from v)

-- And back.
abbrev pub answer_seen : SlotAnswer → C.Asked
answer_seen (Contact s) = C.contact (slot_of s)
answer_seen Empty = C.empty
answer_seen Unknown = C.unknown
answer_seen NoSuchSlot = C.no_such_slot
answer_seen (Refused v) = C.refused (verdict_of v)

-- Document 01's number of a refused question; 0 for any other answer.
abbrev pub refusal_of : SlotAnswer → ℕ
refusal_of r = C.asked_number (answer_seen r)

-- The numbers that come with an answer: a contact's four.
abbrev pub values_of : SlotAnswer → List ℤ
values_of r = C.asked_values (answer_seen r)

-- What `ask` promises of its answer r, where the model answers a: r is that answer, and has document 01's number and values of it.
pub record AnswersAs (a : C.Asked) (r : SlotAnswer) : Type 0 where
  pub answer : r ≡ asked_from a
  pub number : refusal_of r ≡ C.asked_number a
  pub values : values_of r ≡ C.asked_values a

-- A refused run: the state as it came in, and zeros.
abbrev pub refused_run : Verdict → ReaderState → RunAnswer
refused_run v s = record { verdict = v; state = s; counts = counts_from R.nothing }

-- An accepted load: the image's table twice, the current slot and mode following.
abbrev pub load_taken : Setup → List ℤ → ℕ → LoadAnswer
load_taken u m c = record { verdict = W.Accepted; state = held (record { setup = setup_of u; reader = R.settled_at (C.image_table (panel_seen u) m) c R.following }) }
