-- Each report has one byte form: bytes with a good CS are the packet of their OP and data bytes, and whatever is read as a report is the packet
-- that is written for it. And each answer is known by its number and values. Cited by ForceAltered and the crate force. Assumes nothing.
use mathlib.Core.Path.{◌≡◌, refl, sym, ap, ap₂, ◌∙◌, subst}
use mathlib.Core.Bool.{Bool, true, false, cond, ◌&&◌}
use mathlib.Core.List.{List, [], ◌∷◌, ◌++◌}
use Prim.Native.Nat.{ℕ, zero, suc, ◌+◌, ◌-◌, ◌≤◌, ◌<◌}
use native.Mathlib.Omega.{arith}
use lib.Dec.{ltb, eqb}
use lib.IntN.{ℤ, pos, nat_abs}
use lib.ListN.{length, get_or, take, drop, length-drop, get_or-eq_default}
use lib.Seq.{length-take-le, take-suc, get_or-take, get_or-drop}
use borrow.Author.Tests.{eqb-true, ltb-true, ltb-false}
use Rattle.model.proofs.Bools.{and_left, and_right}
use Rattle.model.specs.Force.{Bytes, mark, stick_op, stick_data, head_bytes, packet_bytes, stick_bytes, check_of, packet}
use Rattle.model.specs.Force.{Report, Sized, good_report, report_of, data_of, packet_of, Answer, report, not_for_us, length_over, wrong_check}
use Rattle.model.specs.Force.{unfinished, nothing, answer_number, answer_values, Read}
use Rattle.model.specs.Force.{op_in, len_in, data_in, contents, good_check, packet_in, mark_from, read_at, Stands}
use Rattle.model.proofs.ForcePackets.{by_packet, by_check}
use Rattle.model.proofs.ForceReads.{mark_found, by_read}
use Rattle.model.proofs.ForceWritten.{data_back, report-sized, report-good, report-read}

-- ---- bytes

bytes_drop : (n : ℕ) (l : List ℕ) → Bytes l → Bytes (drop n l)
bytes_drop n l b i = rw (get_or-drop n l i 0) (b (n + i))

bytes_take : (n : ℕ) (l : List ℕ) → n ≤ length l → Bytes l → Bytes (take n l)
bytes_take n l h b i = by_place (ltb i n) refl
  where
    by_place : (t : Bool) → ltb i n ≡ t → get_or (take n l) i 0 < 256
    by_place true e = rw (get_or-take n l i 0 (ltb-true i n e)) (b i)
    by_place false e =
        let past : length (take n l) ≤ i = omega (arith, length-take-le n l h, ltb-false i n e) in
        rw (get_or-eq_default (take n l) 0 past) (omega arith)

-- ---- a packet's bytes

-- Bytes that begin with a 0x2B and have a good CS begin with the packet of their OP and data bytes.
pub packet-form : (t : List ℕ) → packet_bytes (len_in t) ≤ length t → get_or t 0 0 ≡ mark → good_check t ≡ true
    → take (packet_bytes (len_in t)) t ≡ packet (op_in t) (data_in t)
packet-form [] h m g = absurd (omega arith)
packet-form (a ∷ []) h m g = absurd (omega arith)
packet-form (a ∷ (op ∷ [])) h m g = absurd (omega arith)
packet-form (a ∷ (op ∷ (len ∷ u))) h m g =
    let all : packet_bytes len ≡ suc (suc (suc (suc len))) = omega arith in
    let head : head_bytes + len ≡ suc (suc (suc len)) = omega arith in
    let size : length (take len u) ≡ len = length-take-le len u (omega arith) in
    let here : take (suc len) u ≡ take len u ++ (get_or u len 0 ∷ []) = take-suc u len 0 (omega arith) in
    let cs : get_or u len 0 ≡ check_of (a ∷ op ∷ len ∷ take len u) =
    eqb-true (get_or u len 0) (check_of (a ∷ op ∷ len ∷ take len u)) (rw head at g) in
    rw (all, here, cs, m, size)

-- ---- what is read as a report

-- Such bytes, as far as they matter.
record ReportIn (r : Report) (t : List ℕ) (next : ℕ) : Type 0 where
  whole : stick_bytes ≤ length t
  op : op_in t ≡ stick_op
  len : len_in t ≡ stick_data
  check : good_check t ≡ true
  says : report_of (data_in t) ≡ r
  ends : next ≡ stick_bytes

report-is : (a b : Report) → report a ≡ report b → a ≡ b
report-is a b e = cc

in_packet : (t : List ℕ) (r : Report) → (packet_in t).answer ≡ report r → ReportIn r t (packet_in t).next
in_packet t r =
    by_packet t (λ q. q.answer ≡ report r → ReportIn r t q.next)
    (λ l e. let z : ◌≡◌ {A = ℕ} 0 1 = cc in absurd (omega arith))
    (λ l o e. let z : ◌≡◌ {A = ℕ} 0 1 = cc in absurd (omega arith))
    (λ l o. by_check t (λ q. q.answer ≡ report r → ReportIn r t q.next) (good o) (λ g e. let z : ◌≡◌ {A = ℕ} 0 1 = cc in absurd (omega arith)))
  where
    good : packet_bytes (len_in t) ≤ length t → good_check t ≡ true → contents t ≡ report r → ReportIn r t (packet_bytes (len_in t))
    good o g = by_kind (eqb (op_in t) stick_op && eqb (len_in t) stick_data) refl
      where
        by_kind : (b : Bool) → (eqb (op_in t) stick_op && eqb (len_in t) stick_data) ≡ b
            → cond b (report (report_of (data_in t))) (not_for_us (op_in t) (len_in t)) ≡ report r → ReportIn r t (packet_bytes (len_in t))
        by_kind true k e =
            let n = eqb-true (len_in t) stick_data (and_right (eqb (op_in t) stick_op) (eqb (len_in t) stick_data) k) in
            record {
              whole = omega (arith, n);
              op = eqb-true (op_in t) stick_op (and_left (eqb (op_in t) stick_op) (eqb (len_in t) stick_data) k);
              len = n;
              check = g;
              says = report-is (report_of (data_in t)) r e;
              ends = ap packet_bytes n;
            }
        by_kind false k e = let z : ◌≡◌ {A = ℕ} 0 1 = cc in absurd (omega arith)

-- It is the packet of that report, which is one that can be written.
in_form : (t : List ℕ) (r : Report) (next : ℕ) → get_or t 0 0 ≡ mark → Bytes t → ReportIn r t next
    → (take stick_bytes t ≡ packet_of r) × Sized r × (good_report r ≡ true)
unfolding packet_of
in_form t r next m b k =
    let n = len_in t in
    let part : n ≤ length (drop head_bytes t) = rw (length-drop head_bytes t) (omega (arith, k.whole, k.len)) in
    let bytes = bytes_take n (drop head_bytes t) part (bytes_drop head_bytes t b) in
    let size : length (data_in t) ≡ stick_data = length-take-le n (drop head_bytes t) part ∙ k.len in
    let made : data_in t ≡ data_of r = sym (data_back (data_in t) size bytes) ∙ ap data_of k.says in
    let room : packet_bytes (len_in t) ≤ length t = omega (arith, k.whole, k.len) in (
      ap (λ n. take (packet_bytes n) t) (sym k.len) ∙ packet-form t room m k.check ∙ ap₂ packet k.op made,
      subst Sized k.says (report-sized (data_in t) bytes),
      subst (λ q. good_report q ≡ true) k.says (report-good (data_in t) bytes),
    )

-- Whatever is read as a report is the packet that is written for it, up to the place where reading goes on.
pub read-form : (input : List ℕ) (at : ℕ) (r : Report) → Bytes input → (read_at input at).answer ≡ report r → Stands r input (read_at input at).next
read-form input at r b =
    by_read input at (λ q. q.answer ≡ report r → Stands r input q.next) found (λ l e. let z : ◌≡◌ {A = ℕ} 0 1 = cc in absurd (omega arith))
  where
    found : mark_from input at < length input → (packet_in (drop (mark_from input at) input)).answer ≡ report r
        → Stands r input (mark_from input at + (packet_in (drop (mark_from input at) input)).next)
    found l e =
        let place = mark_from input at in
        let t = drop place input in
        let k = in_packet t r e in
        let z : place + 0 ≡ place = omega arith in
        let m : get_or t 0 0 ≡ mark = get_or-drop place input 0 0 ∙ ap (λ i. get_or input i 0) z ∙ mark_found input at l in
        let f = in_form t r (packet_in t).next m (bytes_drop place input b) k in
        let back : place + (packet_in t).next - stick_bytes ≡ place = omega (arith, k.ends) in
        record {
          sized = f.1;
          good = f.2;
          room = omega (arith, k.ends);
          form = ap (λ n. take stick_bytes (drop n input)) back ∙ f.0;
        }

-- It has twelve bytes, from the position on.
pub report-ends : (input : List ℕ) (at : ℕ) (r : Report) → (read_at input at).answer ≡ report r → at + stick_bytes ≤ (read_at input at).next
report-ends input at r =
    by_read input at (λ q. q.answer ≡ report r → at + stick_bytes ≤ q.next)
    (λ l e. let k = in_packet (drop (mark_from input at) input) r e in omega (arith, k.ends))
    (λ l e. let z : ◌≡◌ {A = ℕ} 0 1 = cc in absurd (omega arith))

-- So two reports of one byte form are one report.
pub one_report : (a b : Report) → Sized a → good_report a ≡ true → Sized b → good_report b ≡ true → packet_of a ≡ packet_of b → a ≡ b
one_report a b s g t h e =
    report-is a b
    (ap (λ (q : Read). q.answer) (sym (report-read a [] s g)) ∙ ap (λ l. (packet_in (l ++ [])).answer) e ∙ ap (λ (q : Read). q.answer) (report-read b [] t h))

-- ---- an answer by its number and values

-- The answer of a number and values.
abbrev known : ℕ → List ℤ → Answer
known zero v = report (record {
  x = get_or v 0 (pos 0);
  y = get_or v 1 (pos 0);
  throttle = nat_abs (get_or v 2 (pos 0));
  buttons = nat_abs (get_or v 3 (pos 0));
  hat = nat_abs (get_or v 4 (pos 0));
  rudder = get_or v 5 (pos 0);
})
known (suc zero) v = not_for_us (nat_abs (get_or v 0 (pos 0))) (nat_abs (get_or v 1 (pos 0)))
known (suc (suc zero)) v = length_over
known (suc (suc (suc zero))) v = wrong_check
known (suc (suc (suc (suc zero)))) v = unfinished
known (suc (suc (suc (suc (suc n))))) v = nothing

known_is : (a : Answer) → known (answer_number a) (answer_values a) ≡ a
known_is (report r) = refl
known_is (not_for_us op len) = refl
known_is length_over = refl
known_is wrong_check = refl
known_is unfinished = refl
known_is nothing = refl

-- They tell every two answers apart.
pub told-apart : (a b : Answer) → answer_number a ≡ answer_number b → answer_values a ≡ answer_values b → a ≡ b
told-apart a b n v = sym (known_is a) ∙ ap₂ known n v ∙ known_is b
