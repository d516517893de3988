-- The laws of `write` as they landed, while one function judged the state and the records: the verdict by the five tests, a frame that passes, and the frame that is handed on. Outcome has what the proofs cite now. Assumes nothing.
use mathlib.Core.Path.{◌≡◌, sym, ap, ◌∙◌}
use mathlib.Core.Bool.{Bool, cond}
use mathlib.Core.List.{List, ◌++◌, map}
use Prim.Native.Nat.{ℕ, ◌-◌, ◌*◌, ◌%◌, ◌≤◌}
use native.Mathlib.Omega.{arith}
use lib.Dec.{eqb}
use lib.IntN.{ℤ, pos}
use lib.ListN.{length, take, replicate, length-append, length-replicate}
use lib.Seq.{take_at}
use Rattle.model.specs.Panel.{Layout, Panel, base, per_slot, records, panel_of}
use Rattle.model.specs.Records.{events_of}
use Rattle.model.specs.Shift.{flat}
use Rattle.model.specs.Calls as C
use Rattle.model.specs.Calls.{verdict_number, check, is_accepted}
use Rattle.model.specs.Pointing.{PointerState, PointerWritten, pointer_good, pointer_refused, pointer_call, pointer_buffer}
use Rattle.model.specs.Packets.{contacts_good, packets_of}
use Rattle.model.specs.Anonymous.{contact_numbers, row_at, frame_of, few_enough, anonymous_verdict, anonymous_frame, anonymous_call, anonymous_buffer}
use Rattle.panel.specs.Seen.{table_of}
use Rattle.packets.specs.declared.Packets.{Packets}
use Rattle.packets.specs.Seen.{most, packets_from}
use Rattle.packets.proofs.Held.{contacts_back}
use Rattle.writer.specs.declared.WriterState.{WriterState}
use Rattle.writer.specs.Seen.{seen, written_from}
use Rattle.anonymous.specs.Held.{contacts_in, places}
use Rattle.anonymous.proofs.Places.{frame_same}

-- ---- the verdict by the tests: of the state, the bytes' length, how many contacts there are, whether the frame is finished, and its values

abbrev judged : Bool → Bool → Bool → Bool → Bool → C.Verdict
judged g z f d v = check g C.state (check z C.ragged (check f C.too_many (check d C.unfinished (check v C.value C.accepted))))

module _ (l : Layout) (s : PointerState) (bs : List ℕ) where
  abbrev panel : Panel
  panel = panel_of l s.base.setup

  pub verdict_by : (g z f d v : Bool) → pointer_good l s ≡ g → eqb (length bs % 8) 0 ≡ z → few_enough panel (packets_of (events_of bs)).contacts ≡ f
      → (packets_of (events_of bs)).sound ≡ d → contacts_good panel (packets_of (events_of bs)).contacts ≡ v → anonymous_verdict l s bs ≡ judged g z f d v
  unfolding anonymous_verdict
  verdict_by g z f d v eg ez ef ed ev = λ i. judged (eg i) (ez i) (ef i) (ed i) (ev i)

-- ---- a frame that passes

module _ (s : WriterState) (bs : List ℕ) (at : ℕ) (buf : List ℕ) where
  abbrev answered : C.Verdict → Bool → PointerWritten
  answered v b = cond b (pointer_call base (seen s) (anonymous_frame base (seen s) bs) at (length buf)) (pointer_refused v (seen s) 0)

  abbrev buffered : Bool → List ℕ
  buffered b = cond b (pointer_buffer base (seen s) (anonymous_frame base (seen s) bs) at buf) buf

  -- A frame that passes is the writer's.
  pub written_so : (f : List ℤ) → anonymous_verdict base (seen s) bs ≡ C.accepted → f ≡ anonymous_frame base (seen s) bs
      → (written_from (pointer_call base (seen s) f at (length buf)) ≡ written_from (anonymous_call base (seen s) bs at (length buf)))
      × (pointer_buffer base (seen s) f at buf ≡ anonymous_buffer base (seen s) bs at buf)
  unfolding anonymous_call anonymous_buffer
  written_so f e q = (
    ap written_from (ap (λ g. pointer_call base (seen s) g at (length buf)) q ∙ sym (ap (λ w. answered w (is_accepted w)) e)),
    ap (λ g. pointer_buffer base (seen s) g at buf) q ∙ sym (ap (λ w. buffered (is_accepted w)) e),
  )

-- ---- the frame that is handed on

pub frame_is : (s : WriterState) (bs : List ℕ) (q : Packets) (numbers : List ℕ) (f : List ℤ) → s.setup.n ≤ records → length f ≡ per_slot * records
    → q ≡ packets_from (packets_of (events_of bs)) → length (packets_of (events_of bs)).contacts ≤ most → numbers ≡ contact_numbers (table_of s.table) (contacts_in q)
    → f ≡ flat (map (row_at (places q)) (take s.setup.n numbers)) ++ replicate (per_slot * (records - s.setup.n)) (pos 0)
    → take (per_slot * s.setup.n) f ≡ anonymous_frame base (seen s) bs
unfolding frame_of
frame_is s bs q numbers f h full e few en ef =
    let n = s.setup.n in
    let t = table_of s.table in
    let front = flat (map (row_at (places q)) (take n numbers)) in
    let zeros = replicate (per_slot * (records - n)) (pos 0) in
    let size : length front ≡ per_slot * n =
    omega (arith, full, ap length ef ∙ length-append front zeros, length-replicate (per_slot * (records - n)) (pos 0)) in
    let less : q.count ≤ most = omega (arith, few, ap (λ (r : Packets). r.count) e) in
    let back : contacts_in q ≡ (packets_of (events_of bs)).contacts = ap contacts_in e ∙ contacts_back (events_of bs) few in
    ap (take (per_slot * n)) ef
    ∙ take_at front zeros (per_slot * n) size
    ∙ ap (λ l. flat (map (row_at (places q)) (take n l))) en
    ∙ frame_same s.table q n less
    ∙ ap (λ cs. flat (map (row_at cs) (take n (contact_numbers t cs)))) back
