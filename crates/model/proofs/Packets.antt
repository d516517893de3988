-- What a type A frame tells (K12): the plain form comes back, skipped records are as if they were not there, of a repeated code the last counts, what is
-- unfinished, and that contacts are counted over all the records. Cited by the crate packets (closed_on, open_on). Assumes nothing.
use mathlib.Core.Path.{◌≡◌, refl, sym, ap, ap₂, ◌∙◌}
use mathlib.Core.Bool.{Bool, true, false, ◌&&◌}
use mathlib.Core.List.{List, [], ◌∷◌, ◌++◌, map, append_assoc}
use Prim.Native.Nat.{ℕ, zero, suc, ◌<◌}
use native.Mathlib.Omega.{arith}
use borrow.Author.Tests.{eqb-true, eqb-false}
use lib.Dec.{eqb}
use lib.IntN.{ℤ}
use lib.ListN.{length, set, length-set}
use lib.Seq.{set-set, set_comm}
use Rattle.model.specs.Panel.{x_axis, y_axis, pressure_axis}
use Rattle.model.specs.Events.{Event}
use Rattle.model.specs.Packets.{Said, number, close, report, loss, said, heard, told, lacking, Packet, blank, is_blank, contact_in}
use Rattle.model.specs.Packets.{closed, left_open, all_whole, lossless, silent, ends_once, finished, contact_of, packets_of, Touch, touch_contact, plain_frame}

-- ---- one part after the other

pub heard-on : (a b : List Event) → heard (a ++ b) ≡ heard a ++ heard b
heard-on [] b = refl
heard-on (e ∷ a) b = ap (λ l. said e ++ l) (heard-on a b) ∙ sym (append_assoc (said e) (heard a) (heard b))

pub closed_on : (a : List Said) (p : Packet) (b : List Said) → closed p (a ++ b) ≡ closed p a ++ closed (left_open p a) b
closed_on [] p b = refl
closed_on (number i v ∷ a) p b = closed_on a (set p i (told v)) b
closed_on (close ∷ a) p b =
    ap (λ l. contact_in p ++ l) (closed_on a blank b) ∙ sym (append_assoc (contact_in p) (closed blank a) (closed (left_open blank a) b))
closed_on (report ∷ a) p b = closed_on a p b
closed_on (loss ∷ a) p b = closed_on a p b

pub open_on : (a : List Said) (p : Packet) (b : List Said) → left_open p (a ++ b) ≡ left_open (left_open p a) b
open_on [] p b = refl
open_on (number i v ∷ a) p b = open_on a (set p i (told v)) b
open_on (close ∷ a) p b = open_on a blank b
open_on (report ∷ a) p b = open_on a p b
open_on (loss ∷ a) p b = open_on a p b

-- ---- the plain form comes back, whatever its contacts

plain-contacts : (ts : List Touch) → map contact_of (closed blank (heard (plain_frame ts))) ≡ map touch_contact ts
plain-contacts [] = refl
plain-contacts (t ∷ ts) = ap (λ l. touch_contact t ∷ l) (plain-contacts ts)

plain-whole : (ts : List Touch) → all_whole (closed blank (heard (plain_frame ts))) ≡ true
plain-whole [] = refl
plain-whole (t ∷ ts) = plain-whole ts

plain_open : (ts : List Touch) → left_open blank (heard (plain_frame ts)) ≡ blank
plain_open [] = refl
plain_open (t ∷ ts) = plain_open ts

plain-lossless : (ts : List Touch) → lossless (heard (plain_frame ts)) ≡ true
plain-lossless [] = refl
plain-lossless (t ∷ ts) = plain-lossless ts

plain-ends : (ts : List Touch) → ends_once (heard (plain_frame ts)) ≡ true
plain-ends [] = refl
plain-ends (t ∷ ts) = plain-ends ts

plain-finished : (ts : List Touch) → finished (heard (plain_frame ts)) ≡ true
plain-finished ts = rw (plain-whole ts, plain_open ts, plain-lossless ts, plain-ends ts)

pub plain-reads : (ts : List Touch) → packets_of (plain_frame ts) ≡ record { contacts = map touch_contact ts; sound = true }
unfolding packets_of
plain-reads ts = ap₂ (λ cs b. record { contacts = cs; sound = b }) (plain-contacts ts) (plain-finished ts)

-- ---- a packet with none of the three numbers is no contact, and one with one or two is

pub none-is-none : (l : List Said) → closed blank (close ∷ l) ≡ closed blank l
none-is-none l = refl

pub some_is_one : (p : Packet) (l : List Said) → is_blank p ≡ false → closed p (close ∷ l) ≡ p ∷ closed blank l
some_is_one p l e = rw e

-- ---- a skipped record is as if it were not there

heard-skips : (a b : List Event) (e : Event) → said e ≡ [] → heard (a ++ (e ∷ b)) ≡ heard (a ++ b)
heard-skips a b e s = heard-on a (e ∷ b) ∙ ap (λ l. heard a ++ (l ++ heard b)) s ∙ sym (heard-on a b)

pub skipped_nothing : (a b : List Event) (e : Event) → said e ≡ [] → packets_of (a ++ (e ∷ b)) ≡ packets_of (a ++ b)
unfolding packets_of
skipped_nothing a b e s = ap (λ l. record { contacts = map contact_of (closed blank l); sound = finished l }) (heard-skips a b e s)

-- Skipped are other types than 0 and 3, and of these all but three codes each.
module _ (e : Event) where
  pub other_type : eqb e.type 0 ≡ false → eqb e.type 3 ≡ false → said e ≡ []
  other_type n m = rw (n, m)

  pub other_syn : eqb e.type 0 ≡ true → eqb e.code 0 ≡ false → eqb e.code 2 ≡ false → eqb e.code 3 ≡ false → said e ≡ []
  other_syn t a b c = rw (t, a, b, c)

  pub other_abs : eqb e.type 0 ≡ false → eqb e.type 3 ≡ true
      → eqb e.code x_axis.code ≡ false → eqb e.code y_axis.code ≡ false → eqb e.code pressure_axis.code ≡ false → said e ≡ []
  other_abs n t a b c = rw (n, t, a, b, c)

-- ---- of a repeated code the last counts

-- No SYN_MT_REPORT among them.
abbrev pub Unclosing : List Said → Type 0
Unclosing [] = Unit {0}
Unclosing (number i v ∷ l) = Unclosing l
Unclosing (close ∷ l) = ⊥
Unclosing (report ∷ l) = Unclosing l
Unclosing (loss ∷ l) = Unclosing l

-- What is read from here on, where p is open: the contacts, and the packet that is open at the end.
abbrev pub Onward : Type 0
Onward = List Packet × Packet

abbrev pub onward : Packet → List Said → Onward
onward p l = (closed p l, left_open p l)

-- An earlier number of the same packet with the same code changes nothing, whatever is open.
pub last-counts : (m : List Said) (p : Packet) (i : ℕ) (v w : ℤ) (b : List Said) → Unclosing m
    → onward p (number i v ∷ (m ++ (number i w ∷ b))) ≡ onward p (m ++ (number i w ∷ b))
last-counts [] p i v w b u = ap (λ q. onward q b) (set-set p i (told v) (told w))
last-counts (number j z ∷ m) p i v w b u =
    elim (eqb i j) as (λ t. (t ≡ true → i ≡ j) → (t ≡ false → i ≡ j → ⊥)
    → onward (set (set p i (told v)) j (told z)) (m ++ (number i w ∷ b)) ≡ onward (set p j (told z)) (m ++ (number i w ∷ b))) [
      | true ↦ λ same other. ap (λ q. onward q (m ++ (number i w ∷ b))) (rw (same refl) (set-set p j (told v) (told z)))
      | false ↦ λ same other. ap (λ q. onward q (m ++ (number i w ∷ b))) (set_comm p i j (told v) (told z) (other refl))
          ∙ last-counts m (set p j (told z)) i v w b u
    ]
    (eqb-true i j) (eqb-false i j)
last-counts (close ∷ m) p i v w b u = absurd u
last-counts (report ∷ m) p i v w b u = last-counts m p i v w b u
last-counts (loss ∷ m) p i v w b u = last-counts m p i v w b u

-- ---- what is unfinished

and_none : (a : Bool) → (a && false) ≡ false
and_none true = refl
and_none false = refl

-- A SYN_DROPPED, wherever it stands.
loss-heard : (a b : List Said) → lossless (a ++ (loss ∷ b)) ≡ false
loss-heard [] b = refl
loss-heard (number i v ∷ a) b = loss-heard a b
loss-heard (close ∷ a) b = loss-heard a b
loss-heard (report ∷ a) b = loss-heard a b
loss-heard (loss ∷ a) b = refl

pub loss-unfinished : (a b : List Said) → finished (a ++ (loss ∷ b)) ≡ false
loss-unfinished a b =
    let l = a ++ (loss ∷ b) in
    let k = all_whole (closed blank l) && is_blank (left_open blank l) in
    ap (λ c. k && c && ends_once l) (loss-heard a b) ∙ ap (λ c. c && ends_once l) (and_none k)

-- Anything that is heard after a SYN_REPORT, another SYN_REPORT too.
not-silent : (a : List Said) (s : Said) (b : List Said) → silent (a ++ (s ∷ b)) ≡ false
not-silent [] s b = refl
not-silent (r ∷ a) s b = refl

late_end : (a b : List Said) (s : Said) → ends_once (a ++ (report ∷ s ∷ b)) ≡ false
late_end [] b s = refl
late_end (number i v ∷ a) b s = late_end a b s
late_end (close ∷ a) b s = late_end a b s
late_end (report ∷ a) b s = not-silent a report (s ∷ b)
late_end (loss ∷ a) b s = late_end a b s

pub late-unfinished : (a b : List Said) (s : Said) → finished (a ++ (report ∷ s ∷ b)) ≡ false
late-unfinished a b s =
    let l = a ++ (report ∷ s ∷ b) in
    let k = all_whole (closed blank l) && is_blank (left_open blank l) && lossless l in
    ap (λ c. k && c) (late_end a b s) ∙ and_none k

-- A number that no SYN_MT_REPORT closes, before the SYN_REPORT or behind it.
told_open : (p : Packet) (i : ℕ) (v : ℤ) → i < length p → is_blank (set p i (told v)) ≡ false
told_open [] i v h = absurd (omega arith)
told_open (lacking ∷ p) zero v h = refl
told_open (told u ∷ p) zero v h = refl
told_open (lacking ∷ p) (suc i) v h = told_open p i v (omega arith)
told_open (told u ∷ p) (suc i) v h = refl

told-stays : (p : Packet) (i : ℕ) (v : ℤ) → is_blank p ≡ false → is_blank (set p i (told v)) ≡ false
told-stays [] i v e = e
told-stays (lacking ∷ p) zero v e = refl
told-stays (told u ∷ p) zero v e = refl
told-stays (lacking ∷ p) (suc i) v e = told-stays p i v e
told-stays (told u ∷ p) (suc i) v e = refl

stays_open : (m : List Said) (p : Packet) → Unclosing m → is_blank p ≡ false → is_blank (left_open p m) ≡ false
stays_open [] p u e = e
stays_open (number i v ∷ m) p u e = stays_open m (set p i (told v)) u (told-stays p i v e)
stays_open (close ∷ m) p u e = absurd u
stays_open (report ∷ m) p u e = stays_open m p u e
stays_open (loss ∷ m) p u e = stays_open m p u e

open_three : (a : List Said) (p : Packet) → length p ≡ 3 → length (left_open p a) ≡ 3
open_three [] p e = e
open_three (number i v ∷ a) p e = open_three a (set p i (told v)) (length-set p i (told v) ∙ e)
open_three (close ∷ a) p e = open_three a blank refl
open_three (report ∷ a) p e = open_three a p e
open_three (loss ∷ a) p e = open_three a p e

pub unclosed_unfinished : (a m : List Said) (i : ℕ) (v : ℤ) → i < 3 → Unclosing m → finished (a ++ (number i v ∷ m)) ≡ false
unclosed_unfinished a m i v h u =
    let l = a ++ (number i v ∷ m) in
    let q = left_open blank a in
    let k = all_whole (closed blank l) in
    let s : is_blank (left_open blank l) ≡ false =
    ap is_blank (open_on a blank (number i v ∷ m)) ∙ stays_open m (set q i (told v)) u (told_open q i v (omega (arith, open_three a blank refl))) in
    ap (λ c. k && c && lossless l && ends_once l) s ∙ ap (λ c. c && lossless l && ends_once l) (and_none k)

-- ---- contacts are counted over all the records, those behind a SYN_REPORT too

map_on : (a b : List Packet) → map contact_of (a ++ b) ≡ map contact_of a ++ map contact_of b
map_on [] b = refl
map_on (p ∷ a) b = ap (λ l. contact_of p ∷ l) (map_on a b)

pub contacts-on : (a b : List Event) → left_open blank (heard a) ≡ blank → (packets_of (a ++ b)).contacts ≡ (packets_of a).contacts ++ (packets_of b).contacts
unfolding packets_of
contacts-on a b e =
    ap (λ l. map contact_of (closed blank l)) (heard-on a b)
    ∙ ap (map contact_of) (closed_on (heard a) blank (heard b) ∙ ap (λ q. closed blank (heard a) ++ closed q (heard b)) e)
    ∙ map_on (closed blank (heard a)) (closed blank (heard b))
