-- `send::send_slots` writes the current slot's changes and those of the others. The loop has written the slots whose bits m no longer has.
-- Assumes nothing.
use mathlib.Core.Path.{◌≡◌}
use mathlib.Core.List.{List}
use Prim.Native.Nat.{ℕ, ◌<◌, ◌≤◌, ◌+◌, ◌^◌}
use lib.ListN.{length}
use Rattle.model.specs.Panel.{records}
use Rattle.model.specs.Records.{lay}
use Rattle.model.specs.Sending.{last_opened}
use Rattle.model.specs.Order.{of_mask}
use Rattle.panel.specs.declared.Slot.{Slot}
use Rattle.send.specs.Sent.{bytes_sent, opened_at}
use Rattle.send.proofs.send_slots.Given as goal

-- the slots that m names
abbrev pub left : List Slot → List Slot → ℕ → List ℕ
left old new m = bytes_sent (of_mask records m (opened_at old new))

-- What is left to lay over b from `end` on, and the slot that is opened last, are those that were left at the start.
pub record Laid (old new : List Slot) (b₀ : List ℕ) (end₀ m₀ last₀ : ℕ) (b : List ℕ) (end m last : ℕ) : Type 0 where
  pub bits : m < 2 ^ records
  pub size : length b ≡ length b₀
  pub room : end + length (left old new m) ≤ length b
  pub ends : end₀ + length (left old new m₀) ≡ end + length (left old new m)
  pub opened : last_opened last₀ (of_mask records m₀ (opened_at old new)) ≡ last_opened last (of_mask records m (opened_at old new))
  pub bytes : lay end₀ (left old new m₀) b₀ ≡ lay end (left old new m) b

abbrev pub invariant-loop-m : goal.invariant-loop-m
invariant-loop-m l = Laid l.old l.new l.initial.b l.initial.end l.initial.m l.initial.last l.b l.end l.m l.last

abbrev pub decreases-loop-m : goal.decreases-loop-m
decreases-loop-m l = l.m
