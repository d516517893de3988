-- `lent_writer::write_anonymous` refuses bytes of no good state, and records that are refused; the frame that good ones make goes in place. Assumes nothing.
use mathlib.Core.Path.{◌≡◌, refl, sym, ap, subst, ◌∙◌}
use mathlib.Core.Bool.{true, false}
use Prim.Native.Nat.{◌*◌, ◌≤◌}
use native.Mathlib.Omega.{arith}
use lib.ListN.{length}
use lib.Seq.{length-take-le}
use borrow.Author.Rules.{rules}
use borrow.Author.Tests.{eq-eqb, ne_eqb}
use Rattle.model.specs.Panel.{base, per_slot, records}
use Rattle.model.specs.Calls as C
use Rattle.model.specs.Calls.{is_accepted}
use Rattle.model.specs.Pointing.{pointer_good}
use Rattle.model.specs.Anonymous.{anonymous_verdict}
use Rattle.panel.specs.Seen.{panel_seen}
use Rattle.writer.specs.Seen.{seen}
use Rattle.writer.proofs.States.{good-setup, good-size, good-slots}
use Rattle.anonymous.specs.Framed.{Fit, records_verdict, framed_from}
use Rattle.anonymous.proofs.Outcome.{state-bad, state-good, numbered, size-read, frame-read}
use Rattle.lent_writer.specs.Seen.{formed, unpacked}
use Rattle.lent_writer.specs.InPlace.{InForm}
use Rattle.lent_writer.proofs.Forms.{form}
use Rattle.lent_writer.proofs.Outcomes.{table-full}
use Rattle.lent_writer.proofs.Told.{anonymous_refused, records-refused, records-taken}
use Rattle.lent_writer.proofs.write_anonymous.Goals.{After-number-refusal, Else-not-formed}
use Rattle.lent_writer.proofs.write_anonymous.Goals as goal

in_form : (t : Else-not-formed) → InForm t.args.state.now
in_form t =
    let e : formed t.args.state.now ≡ true = sym t.formed.ensures ∙ t.if-not-formed.false in
    record { formed = e; size = (form t.args.state.now e).size }

good : (n : After-number-refusal) → pointer_good base (seen (unpacked n.args.state.now)) ≡ true
good n = sym n.judged.ensures ∙ n.if-not-judged.false

read : (n : After-number-refusal) → (let s = unpacked n.args.state.now in n.read_frame-f.result ≡ framed_from s.setup s.table n.args.records.now)
read n =
    let rs = n.args.records.now in
    n.read_frame-f.ensures
    ∙ ap (λ u. framed_from u n.table_at-table.result rs) n.setup_at-setup.ensures
    ∙ ap (λ t. framed_from (unpacked n.args.state.now).setup t rs) n.table_at-table.ensures

abbrev verdict : After-number-refusal → C.Verdict
verdict n = records_verdict (panel_seen (unpacked n.args.state.now).setup) n.args.records.now

told : (n : After-number-refusal) → n.number-refusal.result ≡ C.verdict_number (verdict n)
told n = n.number-refusal.ensures ∙ numbered (unpacked n.args.state.now) n.args.records.now n.read_frame-f.result (read n)

whole-verdict : (n : After-number-refusal) → anonymous_verdict base (seen (unpacked n.args.state.now)) n.args.records.now ≡ verdict n
whole-verdict n = state-good (unpacked n.args.state.now) n.args.records.now (good n)

-- The frame that is made of good records lies in the first of its places.
inside : (n : After-number-refusal) → n.number-refusal.result ≡ 0 → n.read_frame-f.result.size ≤ length n.read_frame-f.result.frame
inside n e =
    let s = unpacked n.args.state.now in
    let f = n.read_frame-f.result in
    let sized : length f.frame ≡ per_slot * records = search rules in
    let accepted = eq-eqb _ 0 (sym (told n) ∙ e) in
    omega (arith, size-read s n.args.records.now f (read n) accepted, good-size s (good n))

-- ---- the needs

pub returns-then-not-formed : goal.returns-then-not-formed
returns-then-not-formed c =
    let a = c.args in
    let e = sym c.formed.ensures ∙ c.if-not-formed.true in
    anonymous_refused a.state.now a.at a.buf.now a.records.now e c.unsent.result c.unsent.new.answer c.unsent.ensures

pub judged-requires : goal.judged-requires
judged-requires c = in_form (goal.at.judged-requires c).Else-not-formed

pub returns-then-not-judged : goal.returns-then-not-judged
returns-then-not-judged c =
    let a = c.args in
    let s = unpacked a.state.now in
    let form = (in_form (goal.at.returns-then-not-judged c).Else-not-formed).formed in
    let bad : pointer_good base (seen s) ≡ false = sym c.judged.ensures ∙ c.if-not-judged.true in
    let u = c.unsent-then-not-judged in
    records-refused a.state.now a.at a.buf.now a.records.now form C.state (state-bad s a.records.now bad) refl u.result u.new.answer u.ensures.0 u.ensures.1

pub setup_at-setup-requires : goal.setup_at-setup-requires
setup_at-setup-requires c = omega (arith, (in_form (goal.at.setup_at-setup-requires c).Else-not-formed).size)

pub table_at-table-requires : goal.table_at-table-requires
table_at-table-requires c = omega (arith, (in_form (goal.at.table_at-table-requires c).Else-not-formed).size)

pub read_frame-f-requires : goal.read_frame-f-requires
read_frame-f-requires c =
    let s = unpacked c.args.state.now in
    let g = sym c.judged.ensures ∙ c.if-not-judged.false in
    let fit : Fit s.setup s.table = record { setup = good-setup s g; slots = good-slots s g (table-full c.args.state.now) } in
    subst (λ t. Fit c.setup_at-setup.result t) (sym c.table_at-table.ensures) (subst (λ u. Fit u s.table) (sym c.setup_at-setup.ensures) fit)

pub returns-then-refusal-ne0 : goal.returns-then-refusal-ne0
returns-then-refusal-ne0 c =
    let a = c.args in
    let n = (goal.at.returns-then-refusal-ne0 c).After-number-refusal in
    let form = (in_form (goal.at.returns-then-refusal-ne0 c).Else-not-formed).formed in
    let refused : is_accepted (verdict n) ≡ false = ne_eqb (C.verdict_number (verdict n)) 0 (λ z. c.if-refusal-ne0.true (told n ∙ z)) in
    let u = c.unsent-then-refusal-ne0 in
    records-refused a.state.now a.at a.buf.now a.records.now form (verdict n) (whole-verdict n) refused u.result u.new.answer (u.ensures.0 ∙ told n) u.ensures.1

pub slice_bounds-frame-end : goal.slice_bounds-frame-end
slice_bounds-frame-end c = inside (goal.at.slice_bounds-frame-end c).After-number-refusal c.if-refusal-ne0.false

pub slice_bounds-frame_in_place-end : goal.slice_bounds-frame_in_place-end
slice_bounds-frame_in_place-end c =
    let f = c.read_frame-f.result in
    sym (length-take-le f.size f.frame (inside (goal.at.slice_bounds-frame_in_place-end c).After-number-refusal c.if-refusal-ne0.false))

pub frame_in_place-requires : goal.frame_in_place-requires
frame_in_place-requires c = record { bytes = in_form (goal.at.frame_in_place-requires c).Else-not-formed; good = good (goal.at.frame_in_place-requires c).After-number-refusal }

pub returns : goal.returns
returns c =
    let a = c.args in
    let s = unpacked a.state.now in
    let n = (goal.at.returns c).After-number-refusal in
    let form = (in_form (goal.at.returns c).Else-not-formed).formed in
    let sized : length c.read_frame-f.result.frame ≡ per_slot * records = search rules in
    let accepted : is_accepted (verdict n) ≡ true = eq-eqb _ 0 (sym (told n) ∙ c.if-refusal-ne0.false) in
    let f = c.frame_in_place in
    records-taken a.state.now a.at a.buf.now a.records.now form (ap is_accepted (whole-verdict n) ∙ accepted) _
    (frame-read s a.records.now c.read_frame-f.result (read n) accepted (good-size s (good n)) sized)
    f.result f.new.state f.new.answer f.new.buf f.ensures
