-- When a hold-to-lift key lifts, by what the reader answers of its slot. Cited by the promise of `may_lift`. Assumes nothing.
use Rattle.std.specs.Prelude.{Bool, true, false}
use Rattle.reader.specs.declared.SlotAnswer.{SlotAnswer}
use Rattle.reader.specs.declared.SlotAnswer.TheVariants.{Contact, Empty, Unknown, NoSuchSlot, Refused}

-- Only a contact lifts: Unknown is not a finger, and neither is a refusal.
abbrev pub lifts : SlotAnswer → Bool
lifts (Contact s) = true
lifts Empty = false
lifts Unknown = false
lifts NoSuchSlot = false
lifts (Refused v) = false
