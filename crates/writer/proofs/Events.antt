-- What is sent, by the changed-slot number and as the model orders it. Cited by Accepted. Assumes nothing.
use mathlib.Core.Path.{◌≡◌, refl, sym, ap, ap₂, ◌∙◌}
use mathlib.Core.List.{List, [], ◌∷◌, ◌++◌, append_assoc, append-nil}
use Prim.Native.Nat.{ℕ, ◌+◌, ◌<◌}
use native.Mathlib.Omega.{arith}
use lib.ListN.{length, get_or, length-map}
use Rattle.model.specs.Panel.{records}
use Rattle.model.specs.Events.{Event}
use Rattle.model.specs.Records.{bits_of, record_bytes, event_bytes, bytes_of}
use Rattle.model.specs.Sending.{Sent, send_slot, send_report, changes, body, closed, sending, last_opened, current_after, slot_done, event_of, fewest, others_mask}
use Rattle.model.specs.Order.{of_mask}
use Rattle.model.specs.Pointer.{events_before, events_after, ended, contact_events, whole_events}
use Rattle.model.proofs.Count.{sending-count}
use Rattle.model.proofs.Follow.{last_append}
use Rattle.model.proofs.Order.{Opens, mask_all, length_done, opens_done}
use Rattle.panel.specs.declared.Slot.{Slot}
use Rattle.panel.specs.declared.Setup.{Setup}
use Rattle.panel.specs.Seen.{slot_of, table_of, panel_seen}
use Rattle.panel.proofs.Tables.{slot_at}
use Rattle.pointer.specs.declared.Pointer.{Pointer}
use Rattle.pointer.specs.Seen.{pointer_of}
use Rattle.send.specs.Sent.{bytes_sent, opened_at, sent_by}
use Rattle.send.specs.Told.{touch_bytes, tool_bytes, place_bytes, end_bytes}
use Rattle.send.proofs.Display.{bytes_append, touch-bytes, display-bytes}

module _ (old new : List Slot) (lo : length old ≡ records) (ln : length new ≡ records) (c : ℕ) (h : c < records) where
  opens : Opens 0 (table_of old) (table_of new) (opened_at old new)
  opens j g changed =
      let z : 0 + j ≡ j = omega arith in
      let j16 : j < records = omega (arith, length-map old slot_of) in
      sym (ap {B = List Sent} (λ k. send_slot k ∷ changes 0 (get_or (table_of old) j []) (get_or (table_of new) j [])) z
      ∙ ap₂ {C = List Sent} (λ o v. send_slot j ∷ changes 0 o v) (slot_at old j (omega arith)) (slot_at new j (omega arith)))

  body_is : body c (table_of old) (table_of new) ≡ sent_by old new (others_mask c (table_of old) (table_of new)) c
  body_is =
      let w : length (table_of old) ≡ records = length-map old slot_of ∙ lo in
      let done = slot_done c (table_of old) (table_of new) in
      let m = others_mask c (table_of old) (table_of new) in
      ap₂ {C = List Sent} (λ x y. x ++ y) (ap₂ (changes 0) (slot_at old c (omega arith)) (slot_at new c (omega arith)))
      (sym (ap (λ n. of_mask n m (opened_at old new)) (sym (length_done c (table_of old) (table_of new) ∙ w))
      ∙ mask_all 0 done (table_of new) (opened_at old new) (opens_done c 0 (table_of old) (table_of new) (opened_at old new) opens)))

closed_none : (xs : List Sent) → length (closed xs) ≡ 0 → closed xs ≡ []
closed_none [] e = refl
closed_none (x ∷ xs) e = absurd (omega arith)

ended_some : (es : List Event) → (length (ended es) ≡ 0 → ⊥) → ended es ≡ es ++ event_of [] send_report ∷ []
ended_some [] n = absurd (n refl)
ended_some (e ∷ es) n = refl

-- Nothing is sent, and the current slot stays.
pub none-sent : (old new : List Slot) (c : ℕ) → fewest c (table_of old) (table_of new) ≡ 0 → sending c (table_of old) (table_of new) ≡ []
none-sent old new c e = closed_none (body c (table_of old) (table_of new)) (sending-count c (table_of old) (table_of new) ∙ e)

-- No events are an empty list.
pub no_events : (es : List Event) → length es ≡ 0 → es ≡ []
no_events [] e = refl
no_events (x ∷ es) e = absurd (omega arith)

report_record : event_bytes (event_of [] send_report) ≡ record_bytes 0 0 0
unfolding bits_of
report_record = refl

one_event : (e : Event) → bytes_of (e ∷ []) ≡ event_bytes e
unfolding bytes_of
one_event e = append-nil (event_bytes e)

module _ (old new : List Slot) (lo : length old ≡ records) (ln : length new ≡ records) (c : ℕ) (h : c < records) (others : ℕ)
    (eo : others ≡ others_mask c (table_of old) (table_of new)) where
  abbrev sent : List Sent
  sent = sent_by old new others c

  pub sent_is : body c (table_of old) (table_of new) ≡ sent
  sent_is = body_is old new lo ln c h ∙ ap (λ m. sent_by old new m c) (sym eo)

  -- The slot last written.
  pub last-is : last_opened c sent ≡ current_after c (table_of old) (table_of new)
  last-is = sym (ap (last_opened c) sent_is) ∙ last-closed c (body c (table_of old) (table_of new))
    where
      last-closed : (c : ℕ) (xs : List Sent) → last_opened c xs ≡ last_opened c (closed xs)
      last-closed c [] = refl
      last-closed c (x ∷ xs) = sym (last_append c (x ∷ xs) (send_report ∷ []))

  contact-bytes : (u : Setup) → bytes_of (contact_events (panel_seen u) c (table_of old) (table_of new)) ≡ bytes_sent sent
  unfolding bytes_sent
  contact-bytes u = ap bytes_sent sent_is

  -- A frame's bytes, where it has events: BTN_TOUCH, the contact events, what else the display is told, and the report.
  pub frame-bytes : (u : Setup) (q z : Pointer) (es : List Event) → es ≡ whole_events (panel_seen u) c (table_of old) (table_of new) (pointer_of q) (pointer_of z) → (length es ≡ 0 → ⊥)
      → bytes_of es ≡ (touch_bytes q z ++ bytes_sent sent) ++ end_bytes q z
  frame-bytes u q z es e n =
      let before = events_before (pointer_of q) (pointer_of z) in
      let contact = contact_events (panel_seen u) c (table_of old) (table_of new) in
      let after = events_after (pointer_of q) (pointer_of z) in
      let report = event_of [] send_report ∷ [] in
      let T = touch_bytes q z in
      let B = bytes_sent sent in
      let D = tool_bytes q z ++ place_bytes q z in
      let R = record_bytes 0 0 0 in
      ap bytes_of (e ∙ ended_some (before ++ (contact ++ after)) (λ x. n (ap length e ∙ x)))
      ∙ bytes_append (before ++ (contact ++ after)) report
      ∙ ap₂ (λ a b. a ++ b)
      (bytes_append before (contact ++ after) ∙ ap₂ (λ a b. a ++ b) (touch-bytes q z) (bytes_append contact after ∙ ap₂ (λ a b. a ++ b) (contact-bytes u) (display-bytes q z)))
      (one_event (event_of [] send_report) ∙ report_record)
      ∙ ap (λ l. l ++ R) (sym (append_assoc T B D)) ∙ append_assoc (T ++ B) D R
