-- `force::read` answers as the model does: nothing where no 0x2B is left, else the packet there, its place counted from the start. Assumes nothing.
use mathlib.Core.Path.{◌≡◌, sym, ap, ap₂, ◌∙◌}
use mathlib.Core.List.{List}
use Prim.Native.Nat.{ℕ, ◌+◌, ◌-◌, ◌<◌}
use native.Mathlib.Omega.{arith}
use lib.ListN.{length, take, drop}
use Rattle.model.specs.Force.{packet_in, mark_from, read_at}
use Rattle.model.proofs.ForceReads.{read_found, read_none, read_within}
use Rattle.records.proofs.Over.{rest_all}
use Rattle.force.specs.declared.ReadAnswer.{ReadAnswer}
use Rattle.force.specs.Seen.{held_read}
use Rattle.force.proofs.Answers.{answers}
use Rattle.force.proofs.read.Goals as goal

-- A packet was found, and judged: so the answer is the model's.
answer-is : (input : List ℕ) (at place : ℕ) (found : ReadAnswer) → place ≡ mark_from input at → place < length input
    → found ≡ held_read (packet_in (take (length input - place) (drop place input)))
    → record { answer = found.answer; next = place + found.next } ≡ held_read (read_at input at)
answer-is input at place found here there e =
    ap₂ {C = ReadAnswer} (λ (x : ReadAnswer) (n : ℕ). record { answer = x.answer; next = n + x.next })
    (e ∙ ap (λ l. held_read (packet_in l)) (rest_all place input ∙ ap (λ n. drop n input) here)) here
    ∙ sym (ap held_read (read_found input at (rw (← here) there)))

pub returns-then-bytes-place : goal.returns-then-bytes-place
returns-then-bytes-place c =
    let a = c.args in
    answers a.bytes.now a.at _
    (c.answered.ensures ∙ sym (ap held_read (read_none a.bytes.now a.at (rw (← c.mark_from-place.ensures) c.if-bytes-place.true))))

pub overflow_add-place : goal.overflow_add-place
overflow_add-place c =
    let a = c.args in
    let e = answer-is a.bytes.now a.at c.mark_from-place.result c.packet_in-found.result c.mark_from-place.ensures c.if-bytes-place.false c.packet_in-found.ensures in
    omega (arith, ap (λ (x : ReadAnswer). x.next) e, read_within a.bytes.now a.at)

pub returns : goal.returns
returns c =
    let a = c.args in
    let e = answer-is a.bytes.now a.at c.mark_from-place.result c.packet_in-found.result c.mark_from-place.ensures c.if-bytes-place.false c.packet_in-found.ensures in
    answers a.bytes.now a.at _ (c.answered-2.ensures ∙ e)
