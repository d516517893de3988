-- One altered byte of a written packet, wherever it stands: what is answered, exactly, and that it is never the packet's report. Cited by the
-- crate force. Assumes nothing.
use mathlib.Core.Path.{◌≡◌, refl, sym, ap, ap₂, ◌∙◌}
use mathlib.Core.Bool.{Bool, true, false, cond, and-false, false≢true}
use mathlib.Core.List.{List, ◌++◌}
use Prim.Native.Nat.{ℕ, zero, suc, ◌+◌, ◌≤◌, ◌<◌}
use native.Mathlib.Omega.{arith}
use lib.Dec.{ltb, eqb}
use lib.ListN.{length, get_or, take, drop, set, length-append, length-drop, length-set, get_or-append}
use lib.Seq.{length-take-le, take-append-le, get_or-set_same, get_or-set_other, take-set-le, take-set-lt, get_or-take, get_or-drop}
use borrow.Author.Tests.{ne_eqb, ltb-true, ltb-false}
use Rattle.model.specs.Force.{mark, stick_op, stick_data, most_data, stick_bytes, check_of, before_check, Report, data_of, packet_of}
use Rattle.model.specs.Force.{Answer, answer_number, report, not_for_us, length_over, wrong_check, Read, op_in, len_in, data_in, judged_by, staying, refusing}
use Rattle.model.specs.Force.{meant, contents, good_check, checked, judged, packet_in, moved_by, read_at}
use Rattle.model.proofs.ForceBits.{check_altered}
use Rattle.model.proofs.ForcePackets.{packet-whole}
use Rattle.model.proofs.ForceReads.{read_here, read_next}
use Rattle.model.proofs.ForceWritten.{packet-length}
use Rattle.model.proofs.ForceForms.{report-ends}

-- Another LEN is not for us.
meant_other : (op len : ℕ) (bytes : List ℕ) → eqb len stick_data ≡ false → meant op len bytes ≡ not_for_us op len
meant_other op len bytes e = rw (e, and-false (eqb op stick_op))

abbrev is_report : Answer → Bool
is_report a = eqb (answer_number a) 0

judged_other : (few over good : Bool) (len op n : ℕ)
    → is_report (cond few staying (cond over (refusing length_over) (checked len good (not_for_us op n)))).answer ≡ false
judged_other true over good len op n = refl
judged_other false true good len op n = refl
judged_other false false true len op n = refl
judged_other false false false len op n = refl

-- ---- the packet of a report

before : Report → List ℕ
before r = before_check stick_op (data_of r)

module _ (r : Report) where
  -- Its parts: 0x2B, OP and LEN, what stands before CS, and CS.
  head_mark : get_or (packet_of r) 0 0 ≡ mark
  unfolding packet_of
  head_mark = refl

  head_op : get_or (packet_of r) 1 0 ≡ stick_op
  unfolding packet_of
  head_op = refl

  head_len : get_or (packet_of r) 2 0 ≡ stick_data
  unfolding packet_of data_of
  head_len = refl

  part-before : take 11 (packet_of r) ≡ before r
  unfolding packet_of data_of before
  part-before = refl

  part-check : get_or (packet_of r) 11 0 ≡ check_of (before r)
  unfolding packet_of data_of before
  part-check = refl

-- ---- the altered packet

module _ (input : List ℕ) (at : ℕ) (r : Report) (i b : ℕ) (rest : List ℕ) (stands : drop at input ≡ set (packet_of r) i b ++ rest)
    (inside : i < stick_bytes) (other : b ≡ get_or (packet_of r) i 0 → ⊥) where
  abbrev altered : List ℕ
  altered = set (packet_of r) i b ++ rest

  set-length : length (set (packet_of r) i b) ≡ stick_bytes
  set-length = length-set (packet_of r) i b ∙ packet-length r

  altered_length : stick_bytes ≤ length altered
  altered_length = omega (arith, length-append (set (packet_of r) i b) rest, set-length)

  in_input : at < length input
  in_input = omega (arith, sym (length-drop at input) ∙ ap length stands, altered_length)

  -- A byte that was not altered is there still,
  still : (j : ℕ) → j < stick_bytes → (j ≡ i → ⊥) → get_or altered j 0 ≡ get_or (packet_of r) j 0
  still j h n = get_or-append (set (packet_of r) i b) rest 0 j (omega (arith, set-length)) ∙ get_or-set_other (packet_of r) i j b 0 n

  -- and the altered one is the other byte.
  there : get_or altered i 0 ≡ b
  there =
      get_or-append (set (packet_of r) i b) rest 0 i (omega (arith, set-length)) ∙ get_or-set_same (packet_of r) i b 0 (omega (arith, packet-length r))

  first : get_or input at 0 ≡ get_or altered 0 0
  first = let z : at + 0 ≡ at = omega arith in ap (λ k. get_or input k 0) (sym z) ∙ sym (get_or-drop at input 0 0) ∙ ap (λ l. get_or l 0 0) stands

  -- The 0x2B is altered: that byte is skipped, and the answer is the one from the next byte on.
  pub altered_mark : i ≡ 0 → read_at input at ≡ read_at input (at + 1)
  altered_mark e =
      read_next input at in_input
      (λ m. other (sym there ∙ ap (λ k. get_or altered k 0) e ∙ sym first ∙ m ∙ sym (ap (λ k. get_or (packet_of r) k 0) e ∙ head_mark r)))

  -- Another byte is altered: it is judged as a packet.
  judged_here : (i ≡ 0 → ⊥) → read_at input at ≡ moved_by at (packet_in altered)
  judged_here n =
      read_here input at in_input (first ∙ still 0 (omega arith) (λ z. n (sym z)) ∙ head_mark r)
      ∙ ap (λ l. moved_by at (packet_in l)) stands

  -- LEN is altered: it is judged as a packet of OP 01 with the other LEN, which is not for us. So over 16 it is refused; else it is unfinished, its CS
  -- is wrong, or it is not for us.
  pub altered_len : i ≡ 2 → read_at input at ≡ moved_by at (judged (length altered) b (good_check altered) (not_for_us stick_op b))
  unfolding packet_in
  altered_len e =
      let len : len_in altered ≡ b = ap (λ k. get_or altered k 0) (sym e) ∙ there in
      let op : op_in altered ≡ stick_op = still 1 (omega arith) (λ z. omega (arith, e, z)) ∙ head_op r in
      let another : eqb b stick_data ≡ false = ne_eqb b stick_data (λ z. other (z ∙ sym (ap (λ k. get_or (packet_of r) k 0) e ∙ head_len r))) in
      let says : contents altered ≡ not_for_us stick_op b = meant_other (op_in altered) (len_in altered) (data_in altered) (rw len another) ∙ ap₂ not_for_us op len in
      judged_here (λ z. omega (arith, e, z)) ∙ ap₂ (λ n a. moved_by at (judged (length altered) n (good_check altered) a)) len says

  -- OP, a data byte or CS is altered: CS is wrong.
  wrong : (i ≡ 0 → ⊥) → len_in altered ≡ stick_data → good_check altered ≡ false
  wrong n len = rw len (ne_eqb (get_or altered 11 0) (check_of (take 11 altered)) (by_place (ltb i 11) refl))
    where
      front : take 11 altered ≡ take 11 (set (packet_of r) i b)
      front = take-append-le 11 (set (packet_of r) i b) rest (omega (arith, set-length))

      by_place : (t : Bool) → ltb i 11 ≡ t → get_or altered 11 0 ≡ check_of (take 11 altered) → ⊥
      by_place true e same =
          let l = ltb-true i 11 e in
          let made : check_of (before r) ≡ check_of (set (before r) i b) =
          sym (part-check r) ∙ sym (still 11 (omega arith) (λ z. omega arith)) ∙ same
          ∙ ap check_of (front ∙ take-set-lt 11 (packet_of r) i b l ∙ ap (λ q. set q i b) (part-before r)) in
          let size : length (before r) ≡ 11 = ap length (sym (part-before r)) ∙ length-take-le 11 (packet_of r) (omega (arith, packet-length r)) in
          other (check_altered (before r) i b (omega (arith, size)) (sym made) ∙ ap (λ q. get_or q i 0) (sym (part-before r)) ∙ get_or-take 11 (packet_of r) i 0 l)
      by_place false e same =
          let last : i ≡ 11 = omega (arith, ltb-false i 11 e) in
          other
          (sym there ∙ ap (λ k. get_or altered k 0) last ∙ same
          ∙ ap check_of (front ∙ take-set-le 11 (packet_of r) i b (omega arith) ∙ part-before r)
          ∙ sym (part-check r) ∙ ap (λ k. get_or (packet_of r) k 0) (sym last))

  pub altered_other : (i ≡ 0 → ⊥) → (i ≡ 2 → ⊥) → read_at input at ≡ record { answer = wrong_check; next = at + 1 }
  altered_other n m =
      let len : len_in altered ≡ stick_data = still 2 (omega arith) (λ z. m (sym z)) ∙ head_len r in
      judged_here n
      ∙ ap (moved_by at)
      (packet-whole altered (rw len (omega arith)) (rw len altered_length) ∙ ap (λ g. checked (len_in altered) g (contents altered)) (wrong n len))

  -- So it is never read as a report that ends with it or before; and only where the 0x2B was altered is one read at all.
  pub altered_never : (q : Report) → (read_at input at).answer ≡ report q → (i ≡ 0) × (at + stick_bytes < (read_at input at).next)
  altered_never q e = by_place i refl
    where
      none : (a : Answer) → (read_at input at).answer ≡ a → is_report a ≡ false → ⊥
      none a n f = false≢true (sym f ∙ ap is_report (sym n ∙ e))

      by_place : (k : ℕ) → i ≡ k → (i ≡ 0) × (at + stick_bytes < (read_at input at).next)
      by_place zero z =
          let next = altered_mark z in
          (z, rw next (omega (arith, report-ends input (at + 1) q (ap (λ (x : Read). x.answer) (sym next) ∙ e))))
      by_place (suc zero) z = absurd (none wrong_check (ap (λ (x : Read). x.answer) (altered_other (λ y. omega arith) (λ y. omega arith))) refl)
      by_place (suc (suc zero)) z =
          let a = (judged (length altered) b (good_check altered) (not_for_us stick_op b)).answer in
          let not = judged_other (ltb (length altered) (judged_by b)) (ltb most_data b) (good_check altered) b stick_op b in
          absurd (none a (ap (λ (x : Read). x.answer) (altered_len z)) not)
      by_place (suc (suc (suc k))) z = absurd (none wrong_check (ap (λ (x : Read). x.answer) (altered_other (λ y. omega arith) (λ y. omega arith))) refl)
