-- `lent_writer::frame_in_place` answers as the call by value does, over bytes of a good state. Assumes nothing.
use mathlib.Core.Path.{◌≡◌, refl, sym, ap, subst, ◌∙◌}
use mathlib.Core.Bool.{true, false}
use Prim.Native.Nat.{ℕ, ◌*◌, ◌<◌, ◌≤◌}
use native.Mathlib.Omega.{arith}
use lib.ListN.{length}
use borrow.Author.Tests.{ne_eqb}
use Rattle.model.specs.Panel.{base, per_slot, records}
use Rattle.model.specs.Frame.{sized, values_good}
use Rattle.model.specs.Calls.{room_for}
use Rattle.model.specs.Pointing.{pointer_need, pointer_call, pointer_buffer}
use Rattle.common.specs.declared.Verdict.TheVariants.{NoRoom}
use Rattle.panel.specs.declared.Setup.{Setup}
use Rattle.panel.specs.Seen.{panel_seen}
use Rattle.plan.specs.Quiet.{QuietAt, FirstLoud}
use Rattle.writer.specs.Seen.{seen, written_from, not_written_by, written_by, still_by}
use Rattle.writer.proofs.States.{good-size}
use Rattle.writer.proofs.Quiet.{still}
use Rattle.lent_writer.specs.Seen.{unpacked}
use Rattle.lent_writer.specs.InPlace.{Loud}
use Rattle.lent_writer.proofs.Back.{packed_back}
use Rattle.lent_writer.proofs.Outcomes.{table_is, part-size, table-full, promised, not-sent, handed, refused_as, ready_as}
use Rattle.lent_writer.proofs.frame_in_place.Goals.{After-next_loud-from, After-setup_at-setup}
use Rattle.lent_writer.proofs.frame_in_place.Goals as goal

slots-are : (u : After-setup_at-setup) → u.setup_at-setup.result.n ≡ (unpacked u.args.state.now).setup.n
slots-are u = ap (λ (x : Setup). x.n) u.setup_at-setup.ensures

few : (u : After-setup_at-setup) → u.setup_at-setup.result.n ≤ records
few u = omega (arith, slots-are u, good-size (unpacked u.args.state.now) u.requires.good)

-- The frame, as `send_frame` is given it.
loud : (q : After-next_loud-from) → Loud q.args.state.now q.args.frame.now q.next_loud-from.result
loud q =
    let n = ap (λ (x : Setup). x.n) q.setup_at-setup.ensures in
    let r = q.next_loud-from.result in
    let f = q.args.frame.now in
    record {
      bytes = q.requires.bytes;
      good = q.requires.good;
      size = q.if-frame-setup.false ∙ ap (λ n. per_slot * n) n;
      first = subst (λ n. FirstLoud n (unpacked q.args.state.now).table f r) n
          (subst (λ t. FirstLoud q.setup_at-setup.result.n t f r) (table_is q.args.state.now q.requires.bytes.size) q.next_loud-from.ensures);
    }

-- Every row is quiet: the state is handed back, unless the position is past the end.
rests : (q : After-next_loud-from) → q.next_loud-from.result ≡ q.setup_at-setup.result.n → (let a = q.args in let s = unpacked a.state.now in
    (still_by s (room_for 0 a.at (length a.buf.now)) ≡ written_from (pointer_call base (seen s) a.frame.now a.at (length a.buf.now)))
    × (a.buf.now ≡ pointer_buffer base (seen s) a.frame.now a.at a.buf.now))
rests q e =
    let a = q.args in
    let s = unpacked a.state.now in
    let n = ap (λ (x : Setup). x.n) q.setup_at-setup.ensures in
    let l = loud q in
    let ready = ready_as a.state.now a.frame.now q.next_loud-from.result l s.setup s.counter s.table refl refl refl in
    let every : (i : ℕ) → i < s.setup.n → QuietAt a.frame.now s.table i = λ i h. l.first.quiet i (omega arith) (omega (arith, h, e, n)) in
    still s a.frame.now l.good ready.given (table-full a.state.now) every a.at a.buf.now

pub overflow_mul-setup : goal.overflow_mul-setup
overflow_mul-setup c = omega (arith, few (goal.at.overflow_mul-setup c).After-setup_at-setup)

pub returns-then-frame-setup : goal.returns-then-frame-setup
returns-then-frame-setup c =
    let a = c.args in
    let s = unpacked a.state.now in
    let f = a.frame.now in
    let n = slots-are (goal.at.returns-then-frame-setup c).After-setup_at-setup in
    let z : sized (panel_seen s.setup) f ≡ false = ne_eqb (length f) (per_slot * s.setup.n) (λ e. c.if-frame-setup.true (e ∙ sym (ap (λ n. per_slot * n) n))) in
    let room = room_for (pointer_need base (seen s) f) a.at (length a.buf.now) in
    refused_as a.state.now f a.at a.buf.now c.requires.bytes.formed true false (values_good (panel_seen s.setup) f) room c.requires.good z refl refl refl
    c.unsent.result c.unsent.new.answer c.unsent.ensures.0 c.unsent.ensures.1

pub next_loud-from-requires : goal.next_loud-from-requires
next_loud-from-requires c =
    (few (goal.at.next_loud-from-requires c).After-setup_at-setup, part-size c.args.state.now c.requires.bytes.size, c.if-frame-setup.false, omega arith)

pub send_frame-requires : goal.send_frame-requires
send_frame-requires c = loud (goal.at.send_frame-requires c).After-next_loud-from

pub returns-then-not-has_room : goal.returns-then-not-has_room
returns-then-not-has_room c =
    let a = c.args in
    let b = a.state.now in
    let form = c.requires.bytes.formed in
    let past = sym c.has_room.ensures ∙ c.if-not-has_room.true in
    let r = rests (goal.at.returns-then-not-has_room c).After-next_loud-from c.if-from-setup.false in
    let u = c.unsent-then-not-has_room in
    promised b a.frame.now a.at a.buf.now form (not_written_by NoRoom (unpacked b) 0) u.result b u.new.answer a.buf.now
    (sym (ap (still_by (unpacked b)) past) ∙ r.0, r.1)
    (not-sent b a.frame.now a.at a.buf.now form NoRoom 0 u.result u.new.answer refl u.ensures.0 u.ensures.1)

pub returns : goal.returns
returns c =
    let a = c.args in
    let b = a.state.now in
    let form = c.requires.bytes.formed in
    let roomy = sym c.has_room.ensures ∙ c.if-not-has_room.false in
    let r = rests (goal.at.returns c).After-next_loud-from c.if-from-setup.false in
    let u = c.unsent-2 in
    promised b a.frame.now a.at a.buf.now form (written_by (unpacked b) 0 0) u.result b u.new.answer a.buf.now
    (sym (ap (still_by (unpacked b)) roomy) ∙ r.0, r.1)
    (handed b a.frame.now a.at a.buf.now form (packed_back b c.slice_known-1.given form) u.result u.new.answer u.ensures)
