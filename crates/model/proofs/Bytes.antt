-- Event records there and back: what was encoded is decoded, alone and in the middle of a buffer; demand 2 over bytes. Assumes nothing.
use mathlib.Core.Path.{◌≡◌, refl, sym, ap, ap₂, ◌∙◌}
use mathlib.Core.Bool.{Bool, true, false, ◌&&◌, cond}
use mathlib.Core.List.{List, [], ◌∷◌, ◌++◌, map, append_assoc, append-nil}
use Prim.Native.Nat.{ℕ, zero, suc, ◌+◌, ◌-◌, ◌*◌, ◌/◌, ◌%◌, ◌≤◌, ◌<◌}
use native.Mathlib.Omega.{arith}
use native.Mathlib.Nat.{add-zero}
use lib.Dec.{T, ltb, leb, leb→le, le→leb, ltb→lt}
use lib.IntN.{ℤ, pos, negsuc}
use lib.Signed.{le_z}
use lib.ListN.{length, get_or, take, drop, length-append}
use lib.Seq.{get_or-append-add, length-take-le, take_at, drop_at}
use borrow.Author.Tests.{lt-ltb, le-ltb}
use Rattle.model.proofs.Bools.{both, both_left, both_right}
use Rattle.model.proofs.Tables.{good-records}
use Rattle.model.proofs.Codes.{Tellable, tells, good_at, Good, AllGood, sending-good}
use Rattle.model.proofs.ReadsBack.{reads_back}
use Rattle.model.specs.Numbers.{between_z}
use Rattle.model.specs.Panel.{Field, Panel, carried, all_carried, field_codes, tellable}
use Rattle.model.specs.Table.{Table, ids_differ, good_table}
use Rattle.model.specs.Events.{Event}
use Rattle.model.specs.Records.{bits_of, signed_of, record_bytes, event_bytes, bytes_of, event_at, events_from, events_of, lay}
use Rattle.model.specs.Reader.{follow, read}
use Rattle.model.specs.Sending.{Sent, send_slot, send_number, send_report, code_of, event_of, events_sent, sending, current_after}

-- ---- signed numbers

-- v fits 32 signed bits.
abbrev pub signed32 : ℤ → Bool
signed32 v = between_z (negsuc 2_147_483_647) (pos 2_147_483_647) v

pub signed-bits : (z : ℤ) → T (signed32 z) → signed_of (bits_of z) ≡ z
unfolding signed_of bits_of
signed-bits (pos n) h = rw (lt-ltb n 2_147_483_648 (omega (arith, leb→le n 2_147_483_647 h)))
signed-bits (negsuc n) h =
    let l : n ≤ 2_147_483_647 = leb→le n 2_147_483_647 (both_left (leb n 2_147_483_647) _ h) in
    let b : 4_294_967_295 - (4_294_967_295 - n) ≡ n = omega arith in
    rw (le-ltb (4_294_967_295 - n) 2_147_483_648 (omega arith), b)

pub bits-signed : (v : ℕ) → v < 4_294_967_296 → bits_of (signed_of v) ≡ v
unfolding signed_of bits_of
bits-signed v h =
    (elim (ltb v 2_147_483_648) as (λ b. bits_of (cond b (pos v) (negsuc (4_294_967_295 - v))) ≡ v) [
      | true ↦ refl
      | false ↦ omega arith
    ])

bits_below : (z : ℤ) → T (signed32 z) → bits_of z < 4_294_967_296
unfolding bits_of
bits_below (pos n) h = omega (arith, leb→le n 2_147_483_647 h)
bits_below (negsuc n) h = omega arith

-- ---- one record

pub two : (n : ℕ) → n < 65_536 → n % 256 + 256 * (n / 256 % 256) ≡ n
two n h = omega arith

pub four : (n : ℕ) → n < 4_294_967_296 → n % 256 + 256 * (n / 256 % 256) + 65_536 * (n / 256 / 256 % 256) + 16_777_216 * (n / 256 / 256 / 256 % 256) ≡ n
four n h = omega arith

-- An event that a record can carry.
pub record Carried (e : Event) : Type 0 where
  pub type : e.type < 65_536
  pub code : e.code < 65_536
  pub value : T (signed32 e.value)

record_back : (e : Event) (rest : List ℕ) → Carried e → event_at (event_bytes e ++ rest) 0 ≡ e
unfolding record_bytes
record_back e rest h = rw (two e.type h.type, two e.code h.code, four (bits_of e.value) (bits_below e.value h.value), signed-bits e.value h.value)

-- A record behind other bytes is the record at their end.
pub record_behind : (before s : List ℕ) → event_at (before ++ s) (length before) ≡ event_at s 0
record_behind before s =
    let n = length before in
    let z : get_or (before ++ s) n 0 ≡ get_or s 0 0 = ap (λ k. get_or (before ++ s) k 0) (sym (add-zero n)) ∙ get_or-append-add before s 0 0 in
    rw (z, get_or-append-add before s 1 0, get_or-append-add before s 2 0, get_or-append-add before s 3 0, get_or-append-add before s 4 0, get_or-append-add before s 5 0, get_or-append-add before s 6 0, get_or-append-add before s 7 0)

-- ---- many records

abbrev pub AllCarried : List Event → Type 0
AllCarried [] = Unit {0}
AllCarried (e ∷ es) = Carried e × AllCarried es

-- Every event has eight bytes.
pub bytes-length : (es : List Event) → length (bytes_of es) ≡ 8 * length es
unfolding bytes_of record_bytes
bytes-length [] = refl
bytes-length (e ∷ es) = omega (arith, bytes-length es)

-- So many events are read as were asked for.
pub events-length : (n : ℕ) (s : List ℕ) (at : ℕ) → length (events_from n s at) ≡ n
unfolding events_from
events-length zero s at = refl
events-length (suc n) s at = ap suc (events-length n s (at + 8))

-- Events written behind other bytes are read there, whatever follows them.
pub events-behind : (es : List Event) (before rest : List ℕ) → AllCarried es → events_from (length es) (before ++ (bytes_of es ++ rest)) (length before) ≡ es
unfolding bytes_of events_from record_bytes
events-behind [] before rest h = refl
events-behind (e ∷ es) before rest h =
    let whole : before ++ ((event_bytes e ++ bytes_of es) ++ rest) ≡ (before ++ event_bytes e) ++ (bytes_of es ++ rest) =
    ap (λ l. before ++ l) (append_assoc (event_bytes e) (bytes_of es) rest) ∙ sym (append_assoc before (event_bytes e) (bytes_of es ++ rest)) in
    let next : length before + 8 ≡ length (before ++ event_bytes e) = sym (length-append before (event_bytes e)) in
    ap₂ {C = List Event} (λ x xs. x ∷ xs)
    (ap (λ l. event_at (before ++ l) (length before)) (append_assoc (event_bytes e) (bytes_of es) rest) ∙ record_behind before (event_bytes e ++ (bytes_of es ++ rest)) ∙ record_back e (bytes_of es ++ rest) h.0)
    (ap₂ (λ s k. events_from (length es) s k) whole next ∙ events-behind es (before ++ event_bytes e) rest h.1)

-- Decoding what was encoded gives the events.
pub decoded : (es : List Event) → AllCarried es → events_of (bytes_of es) ≡ es
decoded es h =
    let n : length (bytes_of es) / 8 ≡ length es = omega (arith, bytes-length es) in
    ap (λ k. events_from k (bytes_of es) 0) n ∙ ap (λ s. events_from (length es) s 0) (sym (append-nil (bytes_of es))) ∙ events-behind es [] [] h

-- The part of a buffer that bytes were laid on is these bytes.
pub laid-part : (at : ℕ) (bs buf : List ℕ) → at ≤ length buf → take (length bs) (drop at (lay at bs buf)) ≡ bs
unfolding lay
laid-part at bs buf l =
    ap (take (length bs)) (drop_at (take at buf) (bs ++ drop (at + length bs) buf) at (length-take-le at buf l)) ∙ take_at bs (drop (at + length bs) buf) (length bs) refl

-- ---- what a writer sends can be carried

le_z_trans : (a b c : ℤ) → T (le_z a b) → T (le_z b c) → T (le_z a c)
le_z_trans (pos a) (pos b) (pos c) x y = le→leb a c (omega (arith, leb→le a b x, leb→le b c y))
le_z_trans (pos a) (pos b) (negsuc c) x y = absurd y
le_z_trans (pos a) (negsuc b) c x y = absurd x
le_z_trans (negsuc a) (pos b) (pos c) x y = tt
le_z_trans (negsuc a) (pos b) (negsuc c) x y = absurd y
le_z_trans (negsuc a) (negsuc b) (pos c) x y = tt
le_z_trans (negsuc a) (negsuc b) (negsuc c) x y = le→leb c a (omega (arith, leb→le b a x, leb→le c b y))

inside : (low high v : ℤ) → T (signed32 low) → T (signed32 high) → T (between_z low high v) → T (signed32 v)
inside low high v a b h =
    both (le_z (negsuc 2_147_483_647) v) _
    (le_z_trans (negsuc 2_147_483_647) low v (both_left (le_z (negsuc 2_147_483_647) low) _ a) (both_left (le_z low v) _ h))
    (le_z_trans v high (pos 2_147_483_647) (both_right (le_z low v) _ h) (both_right (le_z (negsuc 2_147_483_647) high) _ b))

number-carried : (fs : List Field) (i : ℕ) (v : ℤ) → T (all_carried fs) → T (good_at fs i v) → (code_of (field_codes fs) i < 65_536) × T (signed32 v)
number-carried [] i v c g = absurd g
number-carried (f ∷ fs) zero v c g =
    let here = both_left (carried f) (all_carried fs) c in
    let x = both_left (ltb f.code 65_536 && signed32 f.low) _ here in
    (ltb→lt f.code 65_536 (both_left (ltb f.code 65_536) _ x), inside f.low f.high v (both_right (ltb f.code 65_536) _ x) (both_right (ltb f.code 65_536 && signed32 f.low) _ here) g)
number-carried (f ∷ fs) (suc i) v c g = number-carried fs i v (both_right (carried f) (all_carried fs) c) g

sent-carried : (p : Panel) → Tellable p → (x : Sent) → Good p.fields p.slots x → Carried (event_of (field_codes p.fields) x)
sent-carried p w (send_slot k) g = record { type = omega arith; code = omega arith; value = le→leb k 2_147_483_647 (omega (arith, ltb→lt k p.slots g, w.few)) }
sent-carried p w (send_number i v) g = record { type = omega arith; code = (number-carried p.fields i v w.carries g).0; value = (number-carried p.fields i v w.carries g).1 }
sent-carried p w send_report g = record { type = omega arith; code = omega arith; value = tt }

all-carried : (p : Panel) → Tellable p → (xs : List Sent) → AllGood p.fields p.slots xs → AllCarried (map (event_of (field_codes p.fields)) xs)
all-carried p w [] g = tt
all-carried p w (x ∷ xs) g = (sent-carried p w x g.0, all-carried p w xs g.1)

-- The events between two good tables can be carried by records.
pub frame-carried : (p : Panel) (old new : Table) (c : ℕ) → T (tellable p) → T (good_table p old) → T (good_table p new) → AllCarried (events_sent p c old new)
frame-carried p old new c w g h = all-carried p (tells p w) (sending c old new) (sending-good p.fields p.slots c old new (good-records p old g) (good-records p new h))

-- Demand 2 over bytes: the reader of `reads_back` that reads the bytes of the events ends the same.
pub reads_back_bytes : (p : Panel) (old new : Table) (c : ℕ) → T (tellable p) → T (good_table p old) → T (good_table p new) → T (ids_differ new)
    → read p (follow old old c) (events_of (bytes_of (events_sent p c old new))) ≡ follow new new (current_after c old new)
reads_back_bytes p old new c w g h u = ap (read p (follow old old c)) (decoded (events_sent p c old new) (frame-carried p old new c w g h)) ∙ reads_back p old new c w g h u
