-- What becomes of a frame in place: refused, handed back or sent, each as the call by value answers. Cited by the proofs of `judged`, `in_place` and `send_frame`. Assumes nothing.
use mathlib.Core.Path.{◌≡◌, refl, sym, ap, ◌∙◌, subst}
use mathlib.Core.Bool.{Bool, true, false, cond}
use mathlib.Core.List.{List, [], ◌∷◌}
use Prim.Native.Nat.{ℕ, ◌<◌, ◌^◌}
use native.Mathlib.Omega.{arith}
use lib.Dec.{eqb}
use lib.IntN.{ℤ}
use lib.ListN.{length, drop, length-drop}
use lib.Seq.{length-take-le}
use Rattle.model.specs.Panel.{base, per_slot, records}
use Rattle.model.specs.Records.{bytes_of, lay}
use Rattle.model.specs.Frame.{rows_from, sized, values_good, framed}
use Rattle.model.specs.Calls as C
use Rattle.model.specs.Calls.{is_accepted, room_for}
use Rattle.model.specs.Pointing.{pointer_good, pointer_events, pointer_need, pointer_refused, pointer_taken, pointer_call, pointer_buffer}
use Rattle.common.specs.declared.Verdict.{Verdict}
use Rattle.common.specs.Seen.{verdict_from, verdict_number}
use Rattle.common.proofs.Back.{verdict-seen}
use Rattle.panel.specs.declared.Slot.{Slot}
use Rattle.panel.specs.declared.Setup.{Setup}
use Rattle.panel.specs.Seen.{table_of, panel_seen}
use Rattle.plan.specs.Walk.{Ready, Given}
use Rattle.writer.specs.declared.WriterState.{WriterState}
use Rattle.writer.specs.declared.Written.{Written}
use Rattle.writer.specs.Seen.{seen, written_from, not_written_by, written_by}
use Rattle.writer.proofs.States.{good-setup, good-slots, good-counter}
use Rattle.writer.proofs.Outcome.{judged, answer_by, buffer_by, refusal_is}
use Rattle.lent.specs.Lent.{table_size, table_in}
use Rattle.lent.proofs.Tables.{slots-part, slots_length}
use Rattle.lent_plan.specs.declared.Plan.{Plan}
use Rattle.lent_plan.specs.InPlace.{PlansIn}
use Rattle.lent_writer.specs.Layout.{state_size, table_at}
use Rattle.lent_writer.specs.Seen.{formed, unpacked, packed, Settles, WritesFrame}
use Rattle.lent_writer.specs.InPlace.{Loud, table_part}
use Rattle.lent_writer.proofs.Accepts.{held-frame}
use Rattle.lent_writer.proofs.Told.{frame-settled}

-- ---- the state that the bytes hold

pub table_is : (b : List ℕ) → length b ≡ state_size → table_in (table_part b) ≡ (unpacked b).table
table_is b e = sym (slots-part records b table_at (omega (arith, e)))

pub part-size : (b : List ℕ) → length b ≡ state_size → length (table_part b) ≡ table_size
part-size b e = length-take-le table_size (drop table_at b) (omega (arith, length-drop table_at b, e))

pub table-full : (b : List ℕ) → length (unpacked b).table ≡ records
table-full b = slots_length records b table_at

-- ---- what is told

module _ (b : List ℕ) (f : List ℤ) (at : ℕ) (buf : List ℕ) (form : formed b ≡ true) where
  abbrev s : WriterState
  s = unpacked b

  abbrev Promised : Written → List ℕ → Type 0
  Promised w b' = (w ≡ written_from (pointer_call base (seen s) f at (length buf))) × (b' ≡ pointer_buffer base (seen s) f at buf)

  -- An answer as the call by value has it, and what is told of it.
  pub promised : (w : Written) (r : ℕ) (b' a' buf' : List ℕ) → Promised w buf' → Settles b w r b' a' → WritesFrame b f at buf r b' a' buf'
  promised w r b' a' buf' p h = frame-settled b at buf f form s w r b' a' buf' refl p.0 h p.1

  pub not-sent : (v : Verdict) (need r : ℕ) (a' : List ℕ) → eqb (verdict_number v) 0 ≡ false → r ≡ verdict_number v → a' ≡ 0 ∷ need ∷ 0 ∷ [] → Settles b (not_written_by v s need) r b a'
  not-sent v need r a' e er ea = record { number = er; state = sym (ap (λ x. cond x (packed s) b) e); answer = ea }

  pub handed : packed s ≡ b → (r : ℕ) (a' : List ℕ) → (r ≡ 0) × (a' ≡ 0 ∷ 0 ∷ 0 ∷ []) → Settles b (written_by s 0 0) r b a'
  handed e r a' h = record { number = h.0; state = sym e; answer = h.1 }

  -- A refusal, by the four tests.
  module _ (g z v r : Bool) (eg : pointer_good base (seen s) ≡ g) (ez : sized (panel_seen s.setup) f ≡ z) (ev : values_good (panel_seen s.setup) f ≡ v)
      (er : room_for (pointer_need base (seen s) f) at (length buf) ≡ r) where
    abbrev verdict : C.Verdict
    verdict = judged g z v r

    abbrev need : ℕ
    need = pointer_need base (seen s) f

    pub refused_as : is_accepted verdict ≡ false → (n : ℕ) (a' : List ℕ) → n ≡ C.verdict_number verdict → a' ≡ 0 ∷ cond (eqb (C.verdict_number verdict) 5) need 0 ∷ 0 ∷ []
        → WritesFrame b f at buf n b a' buf
    refused_as e n a' en ea =
        let number = ap C.verdict_number (verdict-seen verdict) in
        let answer = answer_by base (seen s) f at buf g z v r eg ez ev er ∙ ap (λ x. cond x (pointer_taken base (seen s) f) (pointer_refused verdict (seen s) need)) e in
        let left = buffer_by base (seen s) f at buf g z v r eg ez ev er ∙ ap (λ x. cond x (lay at (bytes_of (pointer_events base (seen s) f)) buf) buf) e in
        promised (not_written_by (verdict_from verdict) s (cond (eqb (C.verdict_number verdict) 5) need 0)) n b a' buf
        (refusal_is verdict s need ∙ ap written_from (sym answer), sym left)
        (not-sent (verdict_from verdict) (cond (eqb (C.verdict_number verdict) 5) need 0) n a' (ap (λ x. eqb x 0) number ∙ e) (en ∙ sym number) ea)

-- ---- a plan, of the state's own numbers

-- What it is given.
pub ready_as : (b : List ℕ) (f : List ℤ) (from : ℕ) → Loud b f from → (u : Setup) (k : ℕ) (t : List Slot) → u ≡ (unpacked b).setup → k ≡ (unpacked b).counter → t ≡ (unpacked b).table → Ready u t k f from
ready_as b f from l u k t eu ek et =
    let s = unpacked b in
    let g = l.good in
    let given : Given s.setup s.table s.counter f = record { setup = good-setup s g; slots = good-slots s g (table-full b); counts = good-counter s g; size = l.size } in
    let ready : Ready s.setup s.table s.counter f from = record { given = given; inside = l.first.inside; quiet = λ i h. l.first.quiet i (omega arith) h } in
    subst (λ u. Ready u t k f from) (sym eu) (subst (λ k. Ready s.setup t k f from) (sym ek) (subst (λ t. Ready s.setup t s.counter f from) (sym et) ready))

pub plans_are : (b : List ℕ) (f : List ℤ) (u : Setup) (k : ℕ) (t : List Slot) (r : Plan) (new : List Slot) → u ≡ (unpacked b).setup → k ≡ (unpacked b).counter → t ≡ (unpacked b).table
    → PlansIn (values_good (panel_seen u) f) u.n t k (framed k (rows_from per_slot u.n f 0) (table_of t)) r new
    → (let s = unpacked b in
    PlansIn (values_good (panel_seen s.setup) f) s.setup.n s.table s.counter (framed s.counter (rows_from per_slot s.setup.n f 0) (table_of s.table)) r new)
plans_are b f u k t r new eu ek et h =
    let s = unpacked b in
    subst (λ u. PlansIn (values_good (panel_seen u) f) u.n s.table s.counter (framed s.counter (rows_from per_slot u.n f 0) (table_of s.table)) r new) eu
    (subst (λ k. PlansIn (values_good (panel_seen u) f) u.n s.table k (framed k (rows_from per_slot u.n f 0) (table_of s.table)) r new) ek
    (subst (λ t. PlansIn (values_good (panel_seen u) f) u.n t k (framed k (rows_from per_slot u.n f 0) (table_of t)) r new) et h))

-- ---- sent

-- The slot last written is one that bytes can hold.
pub last-small : (s : WriterState) (f : List ℤ) (at : ℕ) (buf : List ℕ) (w : Written) → w ≡ written_from (pointer_call base (seen s) f at (length buf)) → eqb (verdict_number w.verdict) 0 ≡ true → w.state.current.0 < 2 ^ 32
last-small s f at buf w e a = (held-frame s f at buf w e a).1
