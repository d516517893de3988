-- `anonymous::write` refuses a state that is not well formed and records that are refused, and hands a good frame to the writer. Assumes nothing.
use borrow.Author.Rules.{rules}
use borrow.Author.Tests.{eq-eqb, ne_eqb}
use mathlib.Core.Path.{◌≡◌, refl, sym, ap, ◌∙◌}
use mathlib.Core.Bool.{Bool, true, false, cond}
use Prim.Native.Nat.{ℕ, ◌*◌, ◌≤◌}
use native.Mathlib.Omega.{arith}
use lib.Dec.{eqb}
use lib.ListN.{length}
use lib.Seq.{length-take-le}
use Rattle.model.specs.Panel.{base, per_slot, records}
use Rattle.model.specs.Calls as C
use Rattle.model.specs.Calls.{is_accepted}
use Rattle.model.specs.Pointing.{pointer_good}
use Rattle.model.specs.Anonymous.{anonymous_verdict}
use Rattle.common.specs.Seen.{verdict_from}
use Rattle.panel.specs.Seen.{panel_seen}
use Rattle.panel.proofs.Tables.{unmapped}
use Rattle.writer.specs.Seen.{seen, not_written_by}
use Rattle.writer.proofs.States.{good-setup, good-size, good-slots}
use Rattle.anonymous.specs.declared.Framed.{Framed}
use Rattle.anonymous.specs.Framed.{records_verdict}
use Rattle.anonymous.proofs.Outcome.{state-bad, state-good, refused_so, written_so, numbered, size-read, frame-read}
use Rattle.anonymous.proofs.write.Goals.{After-number, Else-not-state_ok, Else-number-ne0, Start}
use Rattle.anonymous.proofs.write.Goals as goal

abbrev verdict : Start → C.Verdict
verdict s = records_verdict (panel_seen s.args.state.setup) s.args.bytes.now

abbrev verdict-at-After-number : After-number → C.Verdict
verdict-at-After-number s = records_verdict (panel_seen s.args.state.setup) s.args.bytes.now

abbrev verdict-at-Else-number-ne0 : Else-number-ne0 → C.Verdict
verdict-at-Else-number-ne0 s = records_verdict (panel_seen s.args.state.setup) s.args.bytes.now

full : (s : Start) → length s.args.state.table ≡ records
full s = search (rules, unmapped)

good : (e : Else-not-state_ok) → pointer_good base (seen e.args.state) ≡ true
good e = sym e.state_ok.ensures ∙ e.if-not-state_ok.false

good-at-After-number : (e : After-number) → pointer_good base (seen e.args.state) ≡ true
good-at-After-number e = sym e.state_ok.ensures ∙ e.if-not-state_ok.false

good-at-Else-number-ne0 : (e : Else-number-ne0) → pointer_good base (seen e.args.state) ≡ true
good-at-Else-number-ne0 e = sym e.state_ok.ensures ∙ e.if-not-state_ok.false

told : (n : After-number) → n.number.result ≡ C.verdict_number (verdict-at-After-number n)
told n = n.number.ensures ∙ numbered n.args.state n.args.bytes.now n.read_frame-f.result n.read_frame-f.ensures

told-at-Else-number-ne0 : (n : Else-number-ne0) → n.number.result ≡ C.verdict_number (verdict-at-Else-number-ne0 n)
told-at-Else-number-ne0 n = n.number.ensures ∙ numbered n.args.state n.args.bytes.now n.read_frame-f.result n.read_frame-f.ensures

whole-verdict : (n : After-number) → anonymous_verdict base (seen n.args.state) n.args.bytes.now ≡ verdict-at-After-number n
whole-verdict n = state-good n.args.state n.args.bytes.now (good-at-After-number n)

pub returns-then-not-state_ok : goal.returns-then-not-state_ok
returns-then-not-state_ok c =
    let k = c in
    let s = k in
    let g : pointer_good base (seen s.args.state) ≡ false = sym k.state_ok.ensures ∙ c.if-not-state_ok.true in
    let r = refused_so s.args.state s.args.bytes.now s.args.at s.args.buf.now C.state (state-bad s.args.state s.args.bytes.now g) refl in
    (c.refused.ensures ∙ r.0, r.1)

pub read_frame-f-requires : goal.read_frame-f-requires
read_frame-f-requires c =
    let at = goal.at.read_frame-f-requires c in
    let e = c in
    let s = e in
    record { setup = good-setup s.args.state (good at.Else-not-state_ok); slots = good-slots s.args.state (good at.Else-not-state_ok) (full at.Start) }

pub returns-then-number-ne0 : goal.returns-then-number-ne0
returns-then-number-ne0 c =
    let at = goal.at.returns-then-number-ne0 c in
    let n = c in
    let s = n in
    let w = verdict at.Start in
    let not-accepted : is_accepted w ≡ false = ne_eqb (C.verdict_number w) 0 (λ z. c.if-number-ne0.true (told at.After-number ∙ z)) in
    let r = refused_so s.args.state s.args.bytes.now s.args.at s.args.buf.now w (whole-verdict at.After-number) not-accepted in
    let said = ap (λ (f : Framed). not_written_by f.verdict s.args.state 0) n.read_frame-f.ensures in
    let no-need : (b : Bool) → ◌≡◌ {A = ℕ} 0 (cond b 0 0) = λ b. (elim b as (λ x. ◌≡◌ {A = ℕ} 0 (cond x 0 0)) [ true ↦ refl | false ↦ refl ]) in
    (c.refused-then-number-ne0.ensures ∙ said ∙ ap (not_written_by (verdict_from w) s.args.state) (no-need (eqb (C.verdict_number w) 5)) ∙ r.0, r.1)

-- ---- a frame that is good

accepted : (e : Else-number-ne0) → is_accepted (verdict-at-Else-number-ne0 e) ≡ true
accepted e = eq-eqb _ 0 (sym (told-at-Else-number-ne0 e) ∙ e.if-number-ne0.false)

few : (e : Else-number-ne0) → e.args.state.setup.n ≤ records
few e = good-size e.args.state (good-at-Else-number-ne0 e)

sized : (e : Else-number-ne0) → length e.read_frame-f.result.frame ≡ per_slot * records
sized e = search rules

inside : (e : Else-number-ne0) → e.read_frame-f.result.size ≤ length e.read_frame-f.result.frame
inside e =
    let s = e in
    omega (arith, size-read s.args.state s.args.bytes.now e.read_frame-f.result e.read_frame-f.ensures (accepted e), sized e, few e)

pub slice_bounds-frame-end : goal.slice_bounds-frame-end
slice_bounds-frame-end c = inside (goal.at.slice_bounds-frame-end c).Else-number-ne0

pub slice_bounds-write-end : goal.slice_bounds-write-end
slice_bounds-write-end c = let e = c in sym (length-take-le e.read_frame-f.result.size e.read_frame-f.result.frame (inside (goal.at.slice_bounds-write-end e).Else-number-ne0))

pub returns : goal.returns
returns c =
    let at = goal.at.returns c in
    let w = c in
    let e = w in
    let n = e in
    let s = n in
    let is = frame-read s.args.state s.args.bytes.now n.read_frame-f.result e.read_frame-f.ensures (accepted at.Else-number-ne0) (few at.Else-number-ne0) (sized at.Else-number-ne0) in
    let r = written_so s.args.state s.args.bytes.now s.args.at s.args.buf.now _ (ap is_accepted (whole-verdict at.After-number) ∙ accepted at.Else-number-ne0) is in
    (w.write.ensures.0 ∙ r.0, w.write.ensures.1 ∙ r.1)
