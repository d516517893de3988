-- The answer to a type A frame and its buffer by the five tests, and the frame that is handed on. Cited by the proofs here and by lent_writer. Assumes nothing.
use mathlib.Core.Path.{◌≡◌, sym, ap, ap₂, ◌∙◌}
use mathlib.Core.Bool.{Bool, true, false, cond, ◌&&◌}
use mathlib.Core.List.{List, ◌++◌, map}
use Prim.Native.Nat.{ℕ, ◌-◌, ◌*◌, ◌%◌, ◌<◌, ◌≤◌}
use native.Mathlib.Omega.{arith}
use lib.Dec.{leb, eqb}
use lib.IntN.{ℤ, pos}
use lib.ListN.{length, take, replicate, length-append, length-replicate}
use lib.Seq.{take_at}
use borrow.Author.Tests.{le-leb, lt-leb}
use Rattle.model.specs.Panel.{Panel, base, per_slot, records}
use Rattle.model.specs.Records.{events_of}
use Rattle.model.specs.Shift.{flat}
use Rattle.model.specs.Calls as C
use Rattle.model.specs.Calls.{verdict_number, check, is_accepted}
use Rattle.model.specs.Pointing.{PointerWritten, pointer_good, pointer_refused, pointer_call, pointer_buffer}
use Rattle.model.specs.Pairing.{alone}
use Rattle.model.specs.Packets.{Contact, contacts_good, packets_of}
use Rattle.model.specs.Anonymous.{contact_numbers, row_at, frame_of, few_enough, anonymous_verdict, anonymous_frame, anonymous_call, anonymous_buffer}
use Rattle.common.specs.Seen.{verdict_from}
use Rattle.common.specs.Seen.{verdict_number as number}
use Rattle.common.proofs.Back.{number-seen}
use Rattle.panel.specs.declared.Slot.{Slot}
use Rattle.panel.specs.declared.Setup.{Setup}
use Rattle.panel.specs.Seen.{table_of, panel_seen}
use Rattle.packets.specs.declared.Packets.{Packets}
use Rattle.packets.specs.Seen.{most, packets_from}
use Rattle.packets.proofs.Held.{contacts_back}
use Rattle.writer.specs.declared.WriterState.{WriterState}
use Rattle.writer.specs.Seen.{seen, written_from, not_written_by}
use Rattle.writer.proofs.Outcome.{refusal_is}
use Rattle.anonymous.specs.Held.{contacts_in, places}
use Rattle.anonymous.specs.declared.Framed.{Framed}
use Rattle.anonymous.specs.Framed.{records_verdict, behind, framed_from}
use Rattle.anonymous.proofs.Places.{frame_same}

-- ---- the verdict on the records by the tests: of the bytes' length, how many contacts there are, whether the frame is finished, and its values

abbrev judged : Bool → Bool → Bool → Bool → C.Verdict
judged z f d v = check z C.ragged (check f C.too_many (check d C.unfinished (check v C.value C.accepted)))

module _ (p : Panel) (bs : List ℕ) where
  pub records_by : (z f d v : Bool) → eqb (length bs % 8) 0 ≡ z → few_enough p (packets_of (events_of bs)).contacts ≡ f
      → (packets_of (events_of bs)).sound ≡ d → contacts_good p (packets_of (events_of bs)).contacts ≡ v → records_verdict p bs ≡ judged z f d v
  records_by z f d v ez ef ed ev = λ i. judged (ez i) (ef i) (ed i) (ev i)

-- ---- the whole verdict by the state's test

module _ (s : WriterState) (bs : List ℕ) where
  pub state-bad : pointer_good base (seen s) ≡ false → anonymous_verdict base (seen s) bs ≡ C.state
  unfolding anonymous_verdict
  state-bad e = ap (λ g. check g C.state (records_verdict (panel_seen s.setup) bs)) e

  pub state-good : pointer_good base (seen s) ≡ true → anonymous_verdict base (seen s) bs ≡ records_verdict (panel_seen s.setup) bs
  unfolding anonymous_verdict
  state-good e = ap (λ g. check g C.state (records_verdict (panel_seen s.setup) bs)) e

-- No more than five, nor than the panel has slots.
module _ (p : Panel) (cs : List Contact) where
  pub past_five : alone < length cs → few_enough p cs ≡ false
  past_five h = ap (λ b. b && leb (length cs) p.slots) (lt-leb (length cs) alone h)

  pub past-slots : length cs ≤ alone → p.slots < length cs → few_enough p cs ≡ false
  past-slots h k = ap₂ (λ a b. a && b) (le-leb (length cs) alone h) (lt-leb (length cs) p.slots k)

  pub few-enough : length cs ≤ alone → length cs ≤ p.slots → few_enough p cs ≡ true
  few-enough h k = ap₂ (λ a b. a && b) (le-leb (length cs) alone h) (le-leb (length cs) p.slots k)

-- ---- the code's answers

module _ (s : WriterState) (bs : List ℕ) (at : ℕ) (buf : List ℕ) where
  abbrev answered : C.Verdict → Bool → PointerWritten
  answered v b = cond b (pointer_call base (seen s) (anonymous_frame base (seen s) bs) at (length buf)) (pointer_refused v (seen s) 0)

  abbrev buffered : Bool → List ℕ
  buffered b = cond b (pointer_buffer base (seen s) (anonymous_frame base (seen s) bs) at buf) buf

  -- A refusal hands the state and the buffer back.
  pub refused_so : (v : C.Verdict) → anonymous_verdict base (seen s) bs ≡ v → is_accepted v ≡ false
      → (not_written_by (verdict_from v) s (cond (eqb (verdict_number v) 5) 0 0) ≡ written_from (anonymous_call base (seen s) bs at (length buf))) × (buf ≡ anonymous_buffer base (seen s) bs at buf)
  unfolding anonymous_call anonymous_buffer
  refused_so v e n = (
    refusal_is v s 0 ∙ ap written_from (sym (ap (λ w. answered w (is_accepted w)) e ∙ ap (answered v) n)),
    sym (ap (λ w. buffered (is_accepted w)) e ∙ ap buffered n),
  )

  -- A frame that passes is the writer's.
  pub written_so : (f : List ℤ) → is_accepted (anonymous_verdict base (seen s) bs) ≡ true → f ≡ anonymous_frame base (seen s) bs
      → (written_from (pointer_call base (seen s) f at (length buf)) ≡ written_from (anonymous_call base (seen s) bs at (length buf)))
      × (pointer_buffer base (seen s) f at buf ≡ anonymous_buffer base (seen s) bs at buf)
  unfolding anonymous_call anonymous_buffer
  written_so f e q = (
    ap written_from (ap (λ g. pointer_call base (seen s) g at (length buf)) q ∙ sym (ap (answered (anonymous_verdict base (seen s) bs)) e)),
    ap (λ g. pointer_buffer base (seen s) g at buf) q ∙ sym (ap buffered e),
  )

-- ---- the frame that is handed on

-- What the rows make, with the contacts as they were read.
pub front_is : (t : List Slot) (n : ℕ) (bs : List ℕ) (q : Packets) (numbers : List ℕ)
    → q ≡ packets_from (packets_of (events_of bs)) → length (packets_of (events_of bs)).contacts ≤ most → numbers ≡ contact_numbers (table_of t) (contacts_in q)
    → (let cs = (packets_of (events_of bs)).contacts in flat (map (row_at (places q)) (take n numbers)) ≡ flat (map (row_at cs) (take n (contact_numbers (table_of t) cs))))
front_is t n bs q numbers e few en =
    let less : q.count ≤ most = omega (arith, few, ap (λ (r : Packets). r.count) e) in
    let back : contacts_in q ≡ (packets_of (events_of bs)).contacts = ap contacts_in e ∙ contacts_back (events_of bs) few in
    ap (λ l. flat (map (row_at (places q)) (take n l))) en ∙ frame_same t q n less ∙ ap (λ cs. flat (map (row_at cs) (take n (contact_numbers (table_of t) cs)))) back

-- With the zeros behind it it is the answer's.
pub frame_is : (u : Setup) (t : List Slot) (bs : List ℕ) (q : Packets) (numbers : List ℕ) (f : List ℤ)
    → q ≡ packets_from (packets_of (events_of bs)) → length (packets_of (events_of bs)).contacts ≤ most → numbers ≡ contact_numbers (table_of t) (contacts_in q)
    → f ≡ flat (map (row_at (places q)) (take u.n numbers)) ++ behind u.n
    → f ≡ frame_of (panel_seen u) (table_of t) (packets_of (events_of bs)).contacts ++ behind u.n
unfolding frame_of
frame_is u t bs q numbers f e few en ef = ef ∙ ap (λ l. l ++ behind u.n) (front_is t u.n bs q numbers e few en)

front_of : (n : ℕ) (front f : List ℤ) → n ≤ records → length f ≡ per_slot * records → f ≡ front ++ behind n → take (per_slot * n) f ≡ front
front_of n front f h full ef =
    let zeros = behind n in
    let size : length front ≡ per_slot * n = omega (arith, full, ap length ef ∙ length-append front zeros, length-replicate (per_slot * (records - n)) (pos 0)) in
    ap (take (per_slot * n)) ef ∙ take_at front zeros (per_slot * n) size

-- What a caller of `read_frame` knows of its answer.
module _ (s : WriterState) (bs : List ℕ) (r : Framed) (e : r ≡ framed_from s.setup s.table bs) where
  abbrev verdict : C.Verdict
  verdict = records_verdict (panel_seen s.setup) bs

  pub numbered : number r.verdict ≡ verdict_number verdict
  numbered = ap (λ (f : Framed). number f.verdict) e ∙ number-seen verdict

  module _ (a : is_accepted verdict ≡ true) where
    pub size-read : r.size ≡ per_slot * s.setup.n
    size-read = ap (λ (f : Framed). f.size) e ∙ ap (λ b. cond b (per_slot * s.setup.n) 0) a

    -- Its first numbers, as many as it says, are the frame.
    pub frame-read : s.setup.n ≤ records → length r.frame ≡ per_slot * records → take r.size r.frame ≡ anonymous_frame base (seen s) bs
    frame-read h full =
        let front = anonymous_frame base (seen s) bs in
        let is = ap (λ (f : Framed). f.frame) e ∙ ap (λ b. cond b (front ++ behind s.setup.n) (replicate (per_slot * records) (pos 0))) a in
        ap (λ k. take k r.frame) size-read ∙ front_of s.setup.n front r.frame h full is
