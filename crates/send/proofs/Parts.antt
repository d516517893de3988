-- What is sent, as bytes, number by number and part by part, and bytes laid one part after the other. Cited by the proofs here and by the writer's. Assumes nothing.
use mathlib.Core.Path.{◌≡◌, refl, sym, ap, ap₂, ◌∙◌}
use mathlib.Core.Bool.{Bool, true, false}
use mathlib.Core.List.{List, [], ◌∷◌, ◌++◌, append_assoc, append-nil}
use Prim.Native.Nat.{ℕ, ◌+◌, ◌-◌, ◌≤◌}
use native.Mathlib.Omega.{arith}
use lib.Dec.{eqb}
use lib.IntN.{ℤ, pos}
use lib.ListN.{length, take, drop, length-append, length-drop}
use mir.Syntax.{w32}
use mir.Val.{SFits}
use Rattle.model.specs.Numbers.{eq_z}
use Rattle.model.specs.Records.{bits_of, record_bytes, event_bytes, bytes_of, lay}
use Rattle.model.specs.Sending.{Sent, send_slot, send_number, send_report, unless, changes, event_of}
use Rattle.panel.specs.declared.Slot.{Slot}
use Rattle.panel.specs.Seen.{slot_of}
use Rattle.common.proofs.Signs.{eq_bits}
use Rattle.records.proofs.Bits.{bits-same}
use Rattle.records.proofs.Over.{lay-length, lay-lay, rest_all}
use Rattle.send.specs.Sent.{codes, bytes_sent, none_if, number_bytes, contact_bytes, rest_bytes}

-- ---- lists of what is sent

pub sent_append : (xs ys : List Sent) → bytes_sent (xs ++ ys) ≡ bytes_sent xs ++ bytes_sent ys
unfolding bytes_sent bytes_of
sent_append [] ys = refl
sent_append (x ∷ xs) ys = ap (λ l. event_bytes (event_of codes x) ++ l) (sent_append xs ys) ∙ sym (append_assoc (event_bytes (event_of codes x)) (bytes_sent xs) (bytes_sent ys))

sent_cons : (x : Sent) (xs : List Sent) → bytes_sent (x ∷ xs) ≡ event_bytes (event_of codes x) ++ bytes_sent xs
unfolding bytes_sent bytes_of
sent_cons x xs = refl

pub sent_nil : bytes_sent [] ≡ []
unfolding bytes_sent bytes_of
sent_nil = refl

pub report-bytes : bytes_sent (send_report ∷ []) ≡ record_bytes 0 0 0
unfolding record_bytes bytes_sent bytes_of bits_of
report-bytes = refl

-- ---- one event's record

natural-bits : (c v : ℕ) → record_bytes 3 c (bits_of (pos v)) ≡ record_bytes 3 c v
unfolding bits_of
natural-bits c v = refl

pub opened-bytes : (k : ℕ) (xs : List Sent) → bytes_sent (send_slot k ∷ xs) ≡ record_bytes 3 0x2f k ++ bytes_sent xs
opened-bytes k xs = sent_cons (send_slot k) xs ∙ ap (λ l. l ++ bytes_sent xs) (natural-bits 0x2f k)

-- ---- a slot's changed numbers

unless-bytes : (b : Bool) (x : Sent) (l : List Sent) → bytes_sent (unless b x l) ≡ none_if b (event_bytes (event_of codes x)) ++ bytes_sent l
unless-bytes true x l = refl
unless-bytes false x l = sent_cons x l

same_id : (a b : ℤ) → SFits w32 a → SFits w32 b → eqb (bits_of a) (bits_of b) ≡ eq_z a b
same_id a b f g = ap₂ eqb (sym (bits-same a)) (sym (bits-same b)) ∙ eq_bits a b f g

-- A number that is not an id, in front of what comes after it.
number-bytes : (i code o v : ℕ) (l : List Sent) (m : List ℕ) → event_bytes (event_of codes (send_number i (pos v))) ≡ record_bytes 3 code v → bytes_sent l ≡ m
    → bytes_sent (unless (eqb o v) (send_number i (pos v)) l) ≡ number_bytes code o v ++ m
number-bytes i code o v l m e h = unless-bytes (eqb o v) (send_number i (pos v)) l ∙ ap₂ (λ x y. none_if (eqb o v) x ++ y) e h

pub changes-bytes : (o v : Slot) → SFits w32 o.id.0 → SFits w32 v.id.0
    → bytes_sent (changes 0 (slot_of o) (slot_of v)) ≡ contact_bytes o v ++ rest_bytes o v
changes-bytes o v f g =
    let a0 = number_bytes 0x39 (bits_of o.id.0) (bits_of v.id.0) in
    let a1 = number_bytes 0x35 o.x v.x in
    let a2 = number_bytes 0x36 o.y v.y in
    let a3 = number_bytes 0x3a o.pressure v.pressure in
    let a4 = number_bytes 0x30 o.major v.major in
    let a5 = number_bytes 0x31 o.minor v.minor in
    let e5 = number-bytes 5 0x31 o.minor v.minor [] [] (natural-bits 0x31 v.minor) sent_nil ∙ append-nil a5 in
    let e4 = number-bytes 4 0x30 o.major v.major _ a5 (natural-bits 0x30 v.major) e5 in
    let e3 = number-bytes 3 0x3a o.pressure v.pressure _ (a4 ++ a5) (natural-bits 0x3a v.pressure) e4 in
    let e2 = number-bytes 2 0x36 o.y v.y _ (a3 ++ (a4 ++ a5)) (natural-bits 0x36 v.y) e3 in
    let e1 = number-bytes 1 0x35 o.x v.x _ (a2 ++ (a3 ++ (a4 ++ a5))) (natural-bits 0x35 v.x) e2 in
    unless-bytes (eq_z o.id.0 v.id.0) (send_number 0 v.id.0) _
    ∙ ap (λ m. none_if (eq_z o.id.0 v.id.0) (record_bytes 3 0x39 (bits_of v.id.0)) ++ m) e1
    ∙ ap (λ b. none_if b (record_bytes 3 0x39 (bits_of v.id.0)) ++ (a1 ++ (a2 ++ (a3 ++ (a4 ++ a5))))) (sym (same_id o.id.0 v.id.0 f g))
    ∙ sym (append_assoc a0 (a1 ++ a2) (a3 ++ (a4 ++ a5)) ∙ ap (λ m. a0 ++ m) (append_assoc a1 a2 (a3 ++ (a4 ++ a5))))

-- ---- bytes laid from a position on

-- There is room for a record in the part that is lent from a position on.
pub record_room : (at : ℕ) (W : List ℕ) → at + 8 ≤ length W → 8 ≤ length (take (length W - at) (drop at W))
record_room at W h = rw (rest_all at W) (omega (arith, length-drop at W))

-- A is laid over W from `at` on and ends at k, which leaves X, and R is still to come.
pub record Begun (at k : ℕ) (A R W X : List ℕ) : Type 0 where
  pub size : length X ≡ length W
  pub room : k + length R ≤ length X
  pub ends : k + length R ≡ at + length (A ++ R)
  pub bytes : lay k R X ≡ lay at (A ++ R) W

pub begins : {at k : ℕ} {A R W X : List ℕ} → k ≡ at + length A → X ≡ lay at A W → at + length (A ++ R) ≤ length W → Begun at k A R W X
begins {at = at} {k = k} {A = A} {R = R} {W = W} {X = X} ek e h =
    let fits : at + length A ≤ length W = omega (arith, length-append A R) in
    let same = ap length e ∙ lay-length at A W fits in
    record {
      size = same;
      room = omega (arith, same, length-append A R);
      ends = omega (arith, length-append A R);
      bytes = ap₂ (λ n l. lay n R l) ek e ∙ lay-lay at A R W fits;
    }
