-- The option off (K6): only one pointing is well formed, and every call answers what it answers without the option, byte for byte. Stated against the definitions of
-- Calls themselves. Assumes nothing.
use mathlib.Core.Path.{◌≡◌, refl, ap, ap₂, ◌∙◌, subst}
use mathlib.Core.Bool.{Bool, true, false, cond, ◌&&◌}
use mathlib.Core.List.{List, [], ◌∷◌, ◌++◌}
use Prim.Native.Nat.{ℕ, ◌*◌}
use lib.Dec.{T, not_T}
use lib.IntN.{ℤ}
use lib.ListN.{length, take, drop}
use Rattle.model.proofs.Bools.{is_true, is_false}
use Rattle.model.proofs.Emulated.{same-events}
use Rattle.model.proofs.Pointing.{off_only, off-good, pointer_facts}
use Rattle.model.specs.Panel.{Layout, Setup, panel_of}
use Rattle.model.specs.Events.{Event}
use Rattle.model.specs.Records.{bytes_of, lay}
use Rattle.model.specs.Frame.{rows_of, sized, values_good, new_table}
use Rattle.model.specs.Shift.{FrameCall, wrote, wrote_all, written_all}
use Rattle.model.specs.States.{WriterState, writer_good, fresh_writer, zero_writer}
use Rattle.model.specs.Calls.{check, taken, not_written, accepted, state, frame, value, no_room, is_accepted, fresh_verdict, room_for, frame_events, need_of, write_verdict, Written, write_call, write_buffer, fresh_writer_call}
use Rattle.model.specs.Pointing.{Pointing, zero_pointing, good_pointing, PointerState, pointer_good, off, FreshPointer, fresh_pointer_call, pointer_events, pointer_verdict, PointerWritten, pointer_refused, pointer_call, pointer_buffer, off_fresh, off_written}
use Rattle.model.specs.PointerShift.{pointer_wrote, pointer_wrote_all, pointer_written_all}

-- ---- one call

and-true : (b : Bool) → (b && true) ≡ b
and-true true = refl
and-true false = refl

-- The events are exactly those without the option, whatever the state holds.
pub off-same : (l : Layout) (w : WriterState) (q : Pointing) (f : List ℤ)
    → pointer_events l (record { on = false; base = w; pointing = q }) f ≡ frame_events (panel_of l w.setup) w.writer f
off-same l w q f =
    let p = panel_of l w.setup in
    let t = w.writer.table in
    same-events p w.writer.current t (new_table w.writer.counter (rows_of p f) t) q.last

-- A writer's state with the option off is well formed exactly where it is without the option.
pub off-state : (l : Layout) (w : WriterState) → pointer_good l (off l w) ≡ writer_good l w
unfolding pointer_good
off-state l w =
    let p = panel_of l w.setup in
    ap (λ b. writer_good l w && b) (is_true (good_pointing false p w.writer.table (zero_pointing p.records)) (off-good p w.writer.table))
    ∙ and-true (writer_good l w)

-- And every well-formed state with the option off is such a one.
pub off-is : (l : Layout) (s : PointerState) → s.on ≡ false → T (pointer_good l s) → s ≡ off l s.base
off-is l s e g =
    let p = panel_of l s.base.setup in
    let d =
    off_only p s.base.writer.table s.pointing (subst (λ on. T (good_pointing on p s.base.writer.table s.pointing)) e (pointer_facts l s g).pointing) in
    λ i. record { on = e i; base = s.base; pointing = d i }

-- So one that holds another number is refused with 2.
pub off-refused : (l : Layout) (s : PointerState) (f : List ℤ) (at size : ℕ) → s.on ≡ false → (s.pointing ≡ zero_pointing l.records → ⊥)
    → pointer_verdict l s f at size ≡ state
unfolding pointer_verdict
off-refused l s f at size e n =
    rw (is_false (pointer_good l s) (not_T (pointer_good l s) (λ g. n (ap (λ (x : PointerState). x.pointing) (off-is l s e g)))))

module _ (l : Layout) (w : WriterState) (f : List ℤ) where
  pub off-verdict : (at size : ℕ) → pointer_verdict l (off l w) f at size ≡ write_verdict l w f at size
  unfolding pointer_verdict write_verdict
  off-verdict at size =
      let p = panel_of l w.setup in
      ap₂ (λ b (es : List Event). check b state (check (sized p f) frame (check (values_good p f) value (check (room_for (8 * length es) at size) no_room accepted))))
      (off-state l w) (off-same l w (zero_pointing l.records) f)

  -- The whole answer,
  pub off_call : (at size : ℕ) → pointer_call l (off l w) f at size ≡ off_written l (write_call l w f at size)
  unfolding pointer_call write_call
  off_call at size =
      let p = panel_of l w.setup in
      let v = write_verdict l w f at size in
      let made : List Event → PointerWritten = λ es.
      record {
        verdict = accepted;
        state = off l (taken p w f).state;
        count = length es;
        changed = (taken p w f).changed;
        need = 0;
      }
      in
      ap₂ (λ u (es : List Event). cond (is_accepted u) (made es) (pointer_refused u (off l w) (8 * length es))) (off-verdict at size)
      (off-same l w (zero_pointing l.records) f)
      ∙ by_test (is_accepted v) (taken p w f) (not_written v w (need_of p w.writer f))
    where
      by_test : (b : Bool) (x y : Written) → cond b (off_written l x) (off_written l y) ≡ off_written l (cond b x y)
      by_test true x y = refl
      by_test false x y = refl

  -- and every byte of the buffer.
  pub off-buffer : (at : ℕ) (buf : List ℕ) → pointer_buffer l (off l w) f at buf ≡ write_buffer l w f at buf
  unfolding pointer_buffer write_buffer
  off-buffer at buf =
      ap₂ (λ v es. cond (is_accepted v) (lay at (bytes_of es) buf) buf) (off-verdict at (length buf)) (off-same l w (zero_pointing l.records) f)

-- A fresh writer.
pub off-fresh : (l : Layout) (u : Setup) → fresh_pointer_call l false u ≡ off_fresh l (fresh_writer_call l u)
unfolding fresh_pointer_call fresh_writer_call
off-fresh l u = by_test (is_accepted (fresh_verdict l u))
  where
    by_test : (b : Bool)
        → (let made : WriterState = record { setup = u; writer = fresh_writer (panel_of l u) } in
        (let a : FreshPointer = record { verdict = fresh_verdict l u; state = cond b (off l made) (off l (zero_writer l)) } in a)
        ≡ record { verdict = fresh_verdict l u; state = off l (cond b made (zero_writer l)) })
    by_test true = refl
    by_test false = refl

-- ---- calls one after the other

pub off-wrote : (l : Layout) (w : WriterState) (k : FrameCall) → pointer_wrote l (off l w) k ≡ off l (wrote l w k)
off-wrote l w k = ap (λ (a : PointerWritten). a.state) (off_call l w k.frame k.at (length k.buffer))

pub off-wrote_all : (l : Layout) (w : WriterState) (ks : List FrameCall) → pointer_wrote_all l (off l w) ks ≡ off l (wrote_all l w ks)
off-wrote_all l w [] = refl
off-wrote_all l w (k ∷ ks) = ap (λ s. pointer_wrote_all l s ks) (off-wrote l w k) ∙ off-wrote_all l (wrote l w k) ks

-- All bytes are as they were.
pub off-written_all : (l : Layout) (w : WriterState) (ks : List FrameCall) → pointer_written_all l (off l w) ks ≡ written_all l w ks
off-written_all l w [] = refl
off-written_all l w (k ∷ ks) =
    let count : (pointer_call l (off l w) k.frame k.at (length k.buffer)).count ≡ (write_call l w k.frame k.at (length k.buffer)).count =
    ap (λ (a : PointerWritten). a.count) (off_call l w k.frame k.at (length k.buffer)) in
    ap₂ {C = List ℕ} (λ x y. x ++ y)
    (ap₂ {C = List ℕ} (λ (n : ℕ) (b : List ℕ). take (8 * n) (drop k.at b)) count (off-buffer l w k.frame k.at k.buffer))
    (ap (λ s. pointer_written_all l s ks) (off-wrote l w k) ∙ off-written_all l (wrote l w k) ks)
