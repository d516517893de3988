-- The emulated events of a frame (K6), over any two tables and any two pointers: numbers that stay are not sent, a reader skips what is sent, none comes
-- alone, and they are on top of the contact events. Cited by the other files on emulated events and by PointerFrame. Assumes nothing.
use mathlib.Core.Path.{◌≡◌, refl, sym, ap, ap₂, ◌∙◌, subst}
use mathlib.Core.Bool.{Bool, true, false, not, ◌||◌}
use mathlib.Core.List.{List, [], ◌∷◌, ◌++◌, map, map-append, append-nil}
use Prim.Native.Nat.{ℕ, suc, ◌+◌}
use native.Mathlib.Omega.{arith}
use lib.Dec.{T, eqb, eqb→eq, eqb_refl, not_T, T_not}
use lib.IntN.{ℤ}
use lib.ListN.{length, length-append}
use Rattle.model.proofs.Bools.{is_true, is_false, both_left, both_right, eq_z-refl}
use Rattle.model.proofs.Ranks.{eqb_self}
use Rattle.model.proofs.Cut.{read_append}
use Rattle.model.specs.Numbers.{eq_z}
use Rattle.model.specs.Panel.{Field, Panel, unlisted, field_codes}
use Rattle.model.specs.Table.{Table}
use Rattle.model.specs.Events.{Event, Act, skip, bad, report, loss, slot, number, of_code, later, number_act, classify}
use Rattle.model.specs.Sending.{Sent, send_report, unless, body, closed, event_of, events_sent}
use Rattle.model.specs.Reader.{Mode, following, dropped, stale, Reader, step_in, read}
use Rattle.model.specs.Pointer.{pointer_x, pointer_y, unpointed, Pointer, button, axis, events_before, moves, swaps, events_after, emulated, ended, contact_events, whole_events}

pub eq_z_self : (v : ℤ) → eq_z v v ≡ true
eq_z_self v = is_true (eq_z v v) (eq_z-refl v)

-- ---- numbers that stay are not sent

pub before_self : (q : Pointer) → events_before q q ≡ []
before_self q = rw (eqb_self q.touch)

pub after_self : (q : Pointer) → events_after q q ≡ []
after_self q = rw (eqb_self q.tool, eq_z_self q.x, eq_z_self q.y)

pub emulated_self : (q : Pointer) → emulated q q ≡ []
emulated_self q = ap₂ (λ (a b : List Event). a ++ b) (before_self q) (after_self q)

-- The contact events with their report are those of the frame without the option.
pub contact-ended : (p : Panel) (c : ℕ) (old new : Table) → events_sent p c old new ≡ ended (contact_events p c old new)
contact-ended p c old new = by_list (body c old new)
  where
    by_list : (xs : List Sent) → map (event_of (field_codes p.fields)) (closed xs) ≡ ended (map (event_of (field_codes p.fields)) xs)
    by_list [] = refl
    by_list (x ∷ xs) = map-append (event_of (field_codes p.fields)) (x ∷ xs) (send_report ∷ [])

-- A frame that changes no number of the display has the events that it has without the option.
pub same-events : (p : Panel) (c : ℕ) (old new : Table) (q : Pointer) → whole_events p c old new q q ≡ events_sent p c old new
same-events p c old new q =
    ap₂ (λ a b. ended (a ++ (contact_events p c old new ++ b))) (before_self q) (after_self q)
    ∙ ap ended (append-nil (contact_events p c old new))
    ∙ sym (contact-ended p c old new)

-- ---- a reader skips them

-- The act asks nothing.
abbrev pub IsSkip : Act → Type 0
IsSkip (skip w t c) = Unit {0}
IsSkip bad = ⊥
IsSkip report = ⊥
IsSkip loss = ⊥
IsSkip (slot k) = ⊥
IsSkip (number i v) = ⊥

-- Events that are all skipped.
abbrev pub AllSkipped : Panel → List Event → Type 0
AllSkipped g [] = Unit {0}
AllSkipped g (e ∷ es) = IsSkip (classify g e) × AllSkipped g es

skip_in : (m : Mode) (r : Reader) (a : Act) → IsSkip a → step_in m r a ≡ r
skip_in following r (skip w t c) k = refl
skip_in dropped r (skip w t c) k = refl
skip_in stale r (skip w t c) k = refl
skip_in m r bad k = absurd k
skip_in m r report k = absurd k
skip_in m r loss k = absurd k
skip_in m r (slot j) k = absurd k
skip_in m r (number i v) k = absurd k

pub read_skipped : (g : Panel) (es : List Event) (r : Reader) → AllSkipped g es → read g r es ≡ r
read_skipped g [] r k = refl
read_skipped g (e ∷ es) r k = ap (λ s. read g s es) (skip_in r.mode r (classify g e) k.0) ∙ read_skipped g es r k.1

skipped_append : (g : Panel) (xs ys : List Event) → AllSkipped g xs → AllSkipped g ys → AllSkipped g (xs ++ ys)
skipped_append g [] ys a b = b
skipped_append g (x ∷ xs) ys a b = (a.0, skipped_append g xs ys a.1 b)

unless_skipped : (g : Panel) (b : Bool) (e : Event) (es : List Event) → IsSkip (classify g e) → AllSkipped g es → AllSkipped g (unless b e es)
unless_skipped g true e es c k = k
unless_skipped g false e es c k = (c, k)

pub unlisted-skip : (fs : List Field) (c : ℕ) (v : ℤ) → T (unlisted c (field_codes fs)) → number_act fs c v ≡ skip of_code 3 c
unlisted-skip [] c v a = refl
unlisted-skip (f ∷ fs) c v a =
    let n = both_left (not (eqb f.code c)) (unlisted c (field_codes fs)) a in
    let m : T (not (eqb c f.code)) = not_T (eqb c f.code) (λ t. T_not (eqb f.code c) n (subst (λ z. T (eqb z c)) (eqb→eq c f.code t) (eqb_refl c))) in
    rw (is_false (eqb c f.code) m) (ap later (unlisted-skip fs c v (both_right (not (eqb f.code c)) (unlisted c (field_codes fs)) a)))

pub before_skipped : (g : Panel) (q z : Pointer) → AllSkipped g (events_before q z)
before_skipped g q z = unless_skipped g (eqb q.touch z.touch) _ [] tt tt

swaps_skipped : (g : Panel) (a b : ℕ) → AllSkipped g (swaps a b)
swaps_skipped g a b =
    unless_skipped g (eqb a b || eqb a 0) (button a 0) (unless (eqb a b || eqb b 0) (button b 1) []) tt
    (unless_skipped g (eqb a b || eqb b 0) (button b 1) [] tt tt)

moves_skipped : (g : Panel) (q z : Pointer) → T (unpointed (field_codes g.fields)) → AllSkipped g (moves q z)
moves_skipped g q z n =
    let cs = field_codes g.fields in
    let x = unlisted-skip g.fields pointer_x z.x (both_left (unlisted pointer_x cs) (unlisted pointer_y cs) n) in
    let y = unlisted-skip g.fields pointer_y z.y (both_right (unlisted pointer_x cs) (unlisted pointer_y cs) n) in
    unless_skipped g (eq_z q.x z.x) (axis pointer_x z.x) (unless (eq_z q.y z.y) (axis pointer_y z.y) []) (subst IsSkip (sym x) tt)
    (unless_skipped g (eq_z q.y z.y) (axis pointer_y z.y) [] (subst IsSkip (sym y) tt) tt)

pub after_skipped : (g : Panel) (q z : Pointer) → T (unpointed (field_codes g.fields)) → AllSkipped g (events_after q z)
after_skipped g q z n = skipped_append g (swaps q.tool z.tool) (moves q z) (swaps_skipped g q.tool z.tool) (moves_skipped g q z n)

-- ---- none comes alone

-- SYN_REPORT, as it ends a frame.
abbrev pub last_event : List Event
last_event = event_of [] send_report ∷ []

pub ended_mid : (a b : List Event) (e : Event) (es : List Event) → ended (a ++ ((e ∷ es) ++ b)) ≡ (a ++ ((e ∷ es) ++ b)) ++ last_event
ended_mid [] b e es = refl
ended_mid (x ∷ a) b e es = refl

pub no_body : (p : Panel) (xs : List Sent) → map (event_of (field_codes p.fields)) xs ≡ [] → xs ≡ []
no_body p [] e = refl
no_body p (x ∷ xs) e = absurd (one_more (map (event_of (field_codes p.fields)) xs) (ap length e))
  where
    one_more : (l : List Event) → suc (length l) ≡ 0 → ⊥
    one_more l e = omega arith

-- Where no contact event means that no number of the display changes, neither part has an event without one.
pub none_of : (p : Panel) (c : ℕ) (old new : Table) (q z : Pointer) → (body c old new ≡ [] → q ≡ z) → contact_events p c old new ≡ []
    → (events_before q z ≡ []) × (events_after q z ≡ [])
none_of p c old new q z s e =
    let d = s (no_body p (body c old new) e) in
    (ap (λ y. events_before q y) (sym d) ∙ before_self q, ap (λ y. events_after q y) (sym d) ∙ after_self q)

ended-none : (es : List Event) → ended es ≡ [] → es ≡ []
ended-none [] e = refl
ended-none (x ∷ es) e = absurd (one_more (es ++ last_event) (ap length e))
  where
    one_more : (l : List Event) → suc (length l) ≡ 0 → ⊥
    one_more l e = omega arith

-- And a frame with no contact event has no event at all.
pub none-whole : (p : Panel) (c : ℕ) (old new : Table) (q z : Pointer) → (body c old new ≡ [] → q ≡ z) → events_sent p c old new ≡ []
    → whole_events p c old new q z ≡ []
none-whole p c old new q z s e =
    let d = s (no_body p (body c old new) (ended-none (contact_events p c old new) (sym (contact-ended p c old new) ∙ e))) in
    ap (λ y. whole_events p c old new q y) (sym d) ∙ same-events p c old new q ∙ e

-- ---- a reader ends as by the contact events alone

read_around : (g : Panel) (r : Reader) (a b m : List Event) → AllSkipped g a → AllSkipped g b → read g r (a ++ (m ++ b)) ≡ read g r m
read_around g r a b m ka kb =
    read_append g r a (m ++ b) ∙ ap (λ s. read g s (m ++ b)) (read_skipped g a r ka) ∙ read_append g r m b ∙ read_skipped g b (read g r m) kb

read_mid : (g : Panel) (r : Reader) (a b es : List Event) → AllSkipped g a → AllSkipped g b → (es ≡ [] → (a ≡ []) × (b ≡ []))
    → read g r (ended (a ++ (es ++ b))) ≡ read g r (ended es)
read_mid g r a b [] ka kb alone = ap₂ (λ x y. read g r (ended (x ++ y))) (alone refl).0 (alone refl).1
read_mid g r a b (e ∷ es) ka kb alone =
    let m = e ∷ es in
    ap (read g r) (ended_mid a b e es)
    ∙ read_append g r (a ++ (m ++ b)) last_event
    ∙ ap (λ s. read g s last_event) (read_around g r a b m ka kb)
    ∙ sym (read_append g r m last_event)

-- A reader of any panel without the codes of ABS_X and ABS_Y, in any mode, is left as by the contact events alone.
pub reads-alone : (g p : Panel) (c : ℕ) (old new : Table) (q z : Pointer) (r : Reader) → T (unpointed (field_codes g.fields)) → (body c old new ≡ [] → q ≡ z)
    → read g r (whole_events p c old new q z) ≡ read g r (events_sent p c old new)
reads-alone g p c old new q z r n s =
    read_mid g r (events_before q z) (events_after q z) (contact_events p c old new) (before_skipped g q z) (after_skipped g q z n) (none_of p c old new q z s)
    ∙ ap (read g r) (sym (contact-ended p c old new))

-- ---- how many there are

length_mid : (a b es : List Event) → (es ≡ [] → (a ≡ []) × (b ≡ [])) → length (ended (a ++ (es ++ b))) ≡ length (ended es) + length (a ++ b)
length_mid a b [] alone = rw ((alone refl).0, (alone refl).1)
length_mid a b (e ∷ es) alone =
    let m = e ∷ es in
    omega (
      arith,
      ap length (ended_mid a b e es),
      length-append (a ++ (m ++ b)) last_event,
      length-append a (m ++ b),
      length-append m b,
      length-append m last_event,
      length-append a b,
    )

-- The emulated events are on top of the contact events.
pub on_top : (p : Panel) (c : ℕ) (old new : Table) (q z : Pointer) → (body c old new ≡ [] → q ≡ z)
    → length (whole_events p c old new q z) ≡ length (events_sent p c old new) + length (emulated q z)
on_top p c old new q z s =
    length_mid (events_before q z) (events_after q z) (contact_events p c old new) (none_of p c old new q z s)
    ∙ ap (λ l. length l + length (emulated q z)) (sym (contact-ended p c old new))
