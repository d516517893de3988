-- `force::packet_in` judges a packet as the model does: by its bytes, its LEN, its CS and then what it says. Assumes nothing.
use mathlib.Core.Path.{◌≡◌, sym, ap, ap₂, ◌∙◌}
use mathlib.Core.Bool.{true}
use mathlib.Core.List.{List}
use Prim.Native.Nat.{ℕ, ◌+◌, ◌-◌, ◌≤◌}
use native.Mathlib.Omega.{arith}
use lib.ListN.{length, get_or, take, drop}
use borrow.Author.Tests.{eq-eqb, ne_eqb}
use Rattle.model.specs.Force.{most_data, head_bytes, packet_bytes, wrong_check, check_of, op_in, len_in, judged_by, refusing, meant, good_check, packet_in}
use Rattle.model.proofs.ForcePackets.{judged_head, judged-whole, packet-short, packet-over, packet-whole, checked-good, checked-bad}
use Rattle.force.specs.declared.Answer.{Answer}
use Rattle.force.specs.declared.ReadAnswer.{ReadAnswer}
use Rattle.force.specs.Seen.{held_answer, held_read}
use Rattle.force.proofs.packet_in.Goals as goal

-- They are there, and LEN is not over 16.
record Whole (p : List ℕ) (len need : ℕ) : Type 0 where
  is-len : len ≡ len_in p
  is-need : need ≡ packet_bytes (len_in p)
  few : len_in p ≤ most_data
  there : packet_bytes (len_in p) ≤ length p

whole_is : (p : List ℕ) (len need : ℕ) → len ≡ len_in p → need ≡ judged_by len → need ≤ length p → len ≤ most_data → Whole p len need
whole_is p len need l n there few =
    let few' : len_in p ≤ most_data = rw (← l) few in
    let n' = n ∙ ap judged_by l ∙ judged-whole (len_in p) few' in
    record { is-len = l; is-need = n'; few = few'; there = rw (← n') there }

-- The answers to such bytes, by CS.
module _ (p : List ℕ) (len need cs : ℕ) (w : Whole p len need) (sum : cs ≡ check_of (take (need - 1) p)) where
  end_is : need - 1 ≡ head_bytes + len_in p
  end_is = omega (arith, w.is-need)

  sum_is : cs ≡ check_of (take (head_bytes + len_in p) p)
  sum_is = sum ∙ ap (λ n. check_of (take n p)) end_is

  wrong : (cs ≡ get_or p (need - 1) 0 → ⊥) → packet_in p ≡ refusing wrong_check
  wrong n =
      packet-whole p w.few w.there
      ∙ checked-bad p (ne_eqb (get_or p (head_bytes + len_in p) 0) (check_of (take (head_bytes + len_in p) p))
      (λ e. n (sum_is ∙ sym e ∙ ap (λ k. get_or p k 0) (sym end_is))))

  right : cs ≡ get_or p (need - 1) 0 → (a : Answer) → a ≡ held_answer (meant (op_in p) len (take (need - 1 - 3) (drop 3 p)))
      → record { answer = a; next = need } ≡ held_read (packet_in p)
  right e a says =
      let size : need - 1 - 3 ≡ len_in p = omega (arith, w.is-need) in
      let good : good_check p ≡ true =
      eq-eqb (get_or p (head_bytes + len_in p) 0) (check_of (take (head_bytes + len_in p) p)) (ap (λ k. get_or p k 0) (sym end_is) ∙ sym e ∙ sum_is) in
      ap₂ {C = ReadAnswer} (λ x n. record { answer = x; next = n })
      (says ∙ ap₂ (λ n k. held_answer (meant (op_in p) n (take k (drop 3 p)))) w.is-len size)
      w.is-need
      ∙ sym (ap held_read (packet-whole p w.few w.there ∙ checked-good p good))

pub returns-then-packet-need : goal.returns-then-packet-need
returns-then-packet-need c =
    let need : c.judged_by-need.result ≡ judged_by (len_in c.args.packet.now) = c.judged_by-need.ensures ∙ ap judged_by c.len_in-len.ensures in
    c.answered.ensures ∙ sym (ap held_read (packet-short c.args.packet.now (rw (← need) c.if-packet-need.true)))

pub returns-then-len-gt-MOST_DATA : goal.returns-then-len-gt-MOST_DATA
returns-then-len-gt-MOST_DATA c =
    let p = c.args.packet.now in
    let need = c.judged_by-need.ensures ∙ ap judged_by c.len_in-len.ensures in
    let there : head_bytes ≤ length p = omega (arith, need, judged_head (len_in p), c.if-packet-need.false) in
    c.answered-then-len-gt-MOST_DATA.ensures ∙ sym (ap held_read (packet-over p there (rw (← c.len_in-len.ensures) c.if-len-gt-MOST_DATA.true)))

pub returns-then-check_of-packet : goal.returns-then-check_of-packet
returns-then-check_of-packet c =
    let p = c.args.packet.now in
    let whole = whole_is p c.len_in-len.result c.judged_by-need.result c.len_in-len.ensures c.judged_by-need.ensures c.if-packet-need.false c.if-len-gt-MOST_DATA.false in
    let bad = wrong p c.len_in-len.result c.judged_by-need.result c.check_of.result whole c.check_of.ensures c.if-check_of-packet.true in
    c.answered-then-check_of-packet.ensures ∙ sym (ap held_read bad)

pub returns : goal.returns
returns c =
    let p = c.args.packet.now in
    let whole = whole_is p c.len_in-len.result c.judged_by-need.result c.len_in-len.ensures c.judged_by-need.ensures c.if-packet-need.false c.if-len-gt-MOST_DATA.false in
    let good = right p c.len_in-len.result c.judged_by-need.result c.check_of.result whole c.check_of.ensures c.if-check_of-packet.false in
    c.answered-2.ensures ∙ good c.contents-answer.result c.contents-answer.ensures
