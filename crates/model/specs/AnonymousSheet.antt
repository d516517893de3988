-- Cases of document 02's K12, worked out by hand: which new contact each slot has. The law of proofs/AnonymousSheet computes them. Assumes nothing.
use Rattle.std.specs.Prelude.{List, [], ◌∷◌, map, ℕ, pos}
use Rattle.model.specs.Numbers.{minus_one}
use Rattle.model.specs.Table.{Slot, Table}
use Rattle.model.specs.Pairing.{alone}
use Rattle.model.specs.Packets.{Contact}
use Rattle.model.specs.Anonymous.{contact_numbers}

-- A table, the contacts of a type A frame, and the number of each slot's contact that is due.
pub record Case : Type 0 where
  pub table : Table
  pub contacts : List Contact
  pub due : List ℕ

-- A slot with a contact at x, y of this pressure; a slot without one.
abbrev pub held : ℕ → ℕ → ℕ → ℕ → Slot
held id x y pressure = pos id ∷ pos x ∷ pos y ∷ pos pressure ∷ pos 0 ∷ pos 0 ∷ []

abbrev pub empty : Slot
empty = minus_one ∷ pos 0 ∷ pos 0 ∷ pos 0 ∷ pos 0 ∷ pos 0 ∷ []

-- A contact of the frame.
abbrev pub seen : ℕ → ℕ → ℕ → Contact
seen x y pressure = pos x ∷ pos y ∷ pos pressure ∷ []

-- Two fingers that the panel names the other way round: each stays with the nearer contact.
abbrev pub crossed : Case
crossed = record { table = held 0 100 200 30 ∷ held 1 300 200 30 ∷ []; contacts = seen 290 200 30 ∷ seen 110 200 30 ∷ []; due = 1 ∷ 0 ∷ [] }

-- By y alone, and not by the pressure, which says the contrary.
abbrev pub pressed : Case
pressed = record { table = held 0 100 200 10 ∷ held 1 100 300 250 ∷ []; contacts = seen 100 290 10 ∷ seen 100 210 250 ∷ []; due = 1 ∷ 0 ∷ [] }

-- Both pairings cost the same: the first in dictionary order.
abbrev pub tied : Case
tied = record { table = held 0 100 200 30 ∷ held 1 300 200 30 ∷ []; contacts = seen 200 200 30 ∷ seen 200 200 30 ∷ []; due = 0 ∷ 1 ∷ [] }

-- As many pairs as possible come before a small total: nobody is alone because the way is far.
abbrev pub far : Case
far = record { table = held 0 0 0 30 ∷ held 1 10 0 30 ∷ []; contacts = seen 0 0 30 ∷ seen 4000 0 30 ∷ []; due = 0 ∷ 1 ∷ [] }

-- The least total and not the nearest first: that would give the second slot the contact at 20, for 100, and the first the one at 45, for 2,025; 400 and 225 are less.
abbrev pub total : Case
total = record { table = held 0 0 0 30 ∷ held 1 30 0 30 ∷ []; contacts = seen 20 0 30 ∷ seen 45 0 30 ∷ []; due = 0 ∷ 1 ∷ [] }

-- More old contacts than new ones: the two that are left over end.
abbrev pub fewer : Case
fewer = record { table = held 0 100 0 30 ∷ held 1 200 0 30 ∷ held 2 300 0 30 ∷ []; contacts = seen 210 0 30 ∷ []; due = alone ∷ 0 ∷ alone ∷ [] }

-- More new ones than old: those left over take the lowest unused slots, rising.
abbrev pub more : Case
more = record {
  table = empty ∷ held 7 200 0 30 ∷ empty ∷ empty ∷ [];
  contacts = seen 900 0 30 ∷ seen 210 0 30 ∷ seen 800 0 30 ∷ [];
  due = 0 ∷ 1 ∷ 2 ∷ alone ∷ [];
}

-- SYN_REPORT alone: all end.
abbrev pub lifted : Case
lifted = record { table = held 0 100 0 30 ∷ empty ∷ []; contacts = []; due = alone ∷ alone ∷ [] }

abbrev pub sheet : List Case
sheet = crossed ∷ pressed ∷ tied ∷ far ∷ total ∷ fewer ∷ more ∷ lifted ∷ []

-- What the definitions give for each.
abbrev pub given : List Case → List (List ℕ)
given l = map (λ (c : Case). contact_numbers c.table c.contacts) l

abbrev pub all_due : List Case → List (List ℕ)
all_due l = map (λ (c : Case). c.due) l
