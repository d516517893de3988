-- A type A frame, document 02's K12: what its records say, its packets and contacts, and whether it is finished. Cited by Anonymous, by the laws of
-- proofs/Packets and by the promises of the crate packets. Assumes nothing.
use Rattle.std.specs.Prelude.{Bool, true, false, cond, ◌&&◌, List, [], ◌∷◌, ◌++◌, map, ℕ, eqb, ℤ, pos, set}
use Rattle.model.specs.Panel.{Panel, x_axis, y_axis, pressure_axis}
use Rattle.model.specs.Events.{Event}
use Rattle.model.specs.Frame.{good_row, axes_of}

-- ---- what a record says

-- A number of the packet, where 0 is x, 1 is y and 2 is the pressure; SYN_MT_REPORT; SYN_REPORT; SYN_DROPPED.
pub data Said : Type 0 where
  number : ℕ → ℤ → Said
  close report loss : Said

-- Type 0: SYN_REPORT is code 0, SYN_MT_REPORT code 2 and SYN_DROPPED code 3, with any value; another code is skipped.
abbrev pub syn_said : ℕ → List Said
syn_said c = cond (eqb c 0) (report ∷ []) (cond (eqb c 2) (close ∷ []) (cond (eqb c 3) (loss ∷ []) []))

-- Type 3: x, y and pressure; another code is skipped.
abbrev pub abs_said : ℕ → ℤ → List Said
abs_said c v =
    cond (eqb c x_axis.code) (number 0 v ∷ [])
    (cond (eqb c y_axis.code) (number 1 v ∷ []) (cond (eqb c pressure_axis.code) (number 2 v ∷ []) []))

-- What a record says: nothing, as if it were not there, where it is skipped.
abbrev pub said : Event → List Said
said e = cond (eqb e.type 0) (syn_said e.code) (cond (eqb e.type 3) (abs_said e.code e.value) [])

-- What records say, one after the other.
abbrev pub heard : List Event → List Said
heard [] = []
heard (e ∷ es) = said e ++ heard es

-- ---- packets

-- A number of a packet: it lacks, or it was told.
pub data Told : Type 0 where
  lacking : Told
  told : ℤ → Told

-- A packet's x, y and pressure.
abbrev pub Packet : Type 0
Packet = List Told

-- A packet with none of the three.
abbrev pub blank : Packet
blank = lacking ∷ lacking ∷ lacking ∷ []

-- None of its numbers was told.
abbrev pub is_blank : Packet → Bool
is_blank [] = true
is_blank (lacking ∷ p) = is_blank p
is_blank (told v ∷ p) = false

-- None of its numbers lacks.
abbrev pub is_whole : Packet → Bool
is_whole [] = true
is_whole (lacking ∷ p) = false
is_whole (told v ∷ p) = is_whole p

-- What SYN_MT_REPORT closes: a packet with none of the three is no contact, one with some of them is.
abbrev pub contact_in : Packet → List Packet
contact_in p = cond (is_blank p) [] (p ∷ [])

-- The packets that are closed and are contacts, over all the records, where p is open. Only SYN_MT_REPORT closes a packet: a SYN_REPORT or a
-- SYN_DROPPED inside leaves it open. Of a repeated code the last counts.
abbrev pub closed : Packet → List Said → List Packet
closed p [] = []
closed p (number i v ∷ l) = closed (set p i (told v)) l
closed p (close ∷ l) = contact_in p ++ closed blank l
closed p (report ∷ l) = closed p l
closed p (loss ∷ l) = closed p l

-- The packet that is open at the end.
abbrev pub left_open : Packet → List Said → Packet
left_open p [] = p
left_open p (number i v ∷ l) = left_open (set p i (told v)) l
left_open p (close ∷ l) = left_open blank l
left_open p (report ∷ l) = left_open p l
left_open p (loss ∷ l) = left_open p l

-- ---- a frame that is finished

-- No contact lacks one of its three numbers.
abbrev pub all_whole : List Packet → Bool
all_whole [] = true
all_whole (p ∷ ps) = is_whole p && all_whole ps

-- There is no SYN_DROPPED.
abbrev pub lossless : List Said → Bool
lossless [] = true
lossless (number i v ∷ l) = lossless l
lossless (close ∷ l) = lossless l
lossless (report ∷ l) = lossless l
lossless (loss ∷ l) = false

-- Nothing is said.
abbrev pub silent : List Said → Bool
silent [] = true
silent (a ∷ l) = false

-- The end is the only SYN_REPORT.
abbrev pub ends_once : List Said → Bool
ends_once [] = false
ends_once (number i v ∷ l) = ends_once l
ends_once (close ∷ l) = ends_once l
ends_once (report ∷ l) = silent l
ends_once (loss ∷ l) = ends_once l

-- No contact lacks a number, all numbers are closed by SYN_MT_REPORT, there is no SYN_DROPPED, and the end is the only SYN_REPORT.
abbrev pub finished : List Said → Bool
finished l = all_whole (closed blank l) && is_blank (left_open blank l) && lossless l && ends_once l

-- ---- what a frame tells

-- A contact's x, y and pressure.
abbrev pub Contact : Type 0
Contact = List ℤ

-- A number that lacks counts as 0.
abbrev pub value_of : Told → ℤ
value_of lacking = pos 0
value_of (told v) = v

abbrev pub contact_of : Packet → Contact
contact_of p = map value_of p

-- The contacts in their order, those that lack a number too, and whether the frame is finished.
pub record Packets : Type 0 where
  pub contacts : List Contact
  pub sound : Bool

unfoldable pub packets_of : List Event → Packets
packets_of es = record { contacts = map contact_of (closed blank (heard es)); sound = finished (heard es) }

-- ---- its values

-- The row of a frame that a contact makes: kind 1, its three numbers, and 0 for both sizes.
abbrev pub contact_row : Contact → List ℤ
contact_row c = pos 1 ∷ (c ++ (pos 0 ∷ pos 0 ∷ []))

-- A panel takes the contact: a frame may have its row, so x and y are 0 to their largest and the pressure is 1 to its largest.
abbrev pub contact_good : Panel → Contact → Bool
contact_good p c = good_row (axes_of p.fields) (contact_row c)

-- It takes all of them.
abbrev pub contacts_good : Panel → List Contact → Bool
contacts_good p [] = true
contacts_good p (c ∷ cs) = contact_good p c && contacts_good p cs

-- ---- the plain form of such a frame

-- A contact's three numbers by name.
pub record Touch : Type 0 where
  pub x : ℤ
  pub y : ℤ
  pub pressure : ℤ

abbrev pub touch_contact : Touch → Contact
touch_contact t = t.x ∷ t.y ∷ t.pressure ∷ []

abbrev pub abs_event : ℕ → ℤ → Event
abs_event c v = record { type = 3; code = c; value = v }

abbrev pub syn_event : ℕ → Event
syn_event c = record { type = 0; code = c; value = pos 0 }

-- For each contact x, y and pressure, then SYN_MT_REPORT, then SYN_REPORT.
abbrev pub plain_frame : List Touch → List Event
plain_frame [] = syn_event 0 ∷ []
plain_frame (t ∷ ts) =
    abs_event x_axis.code t.x
    ∷ abs_event y_axis.code t.y
    ∷ abs_event pressure_axis.code t.pressure
    ∷ syn_event 2
    ∷ plain_frame ts
