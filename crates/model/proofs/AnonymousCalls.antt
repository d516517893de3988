-- K12's call: what it answers is what `write` answers to the made frame, or a refusal, each exactly as document 02 orders them; a refusal leaves the state and every byte. Cited by the crates anonymous and link. Assumes nothing.
use mathlib.Core.Path.{◌≡◌, refl, ap, subst, ◌∙◌}
use mathlib.Core.Bool.{Bool, true, false, not, cond}
use mathlib.Core.List.{List}
use Prim.Native.Nat.{ℕ, ◌+◌, ◌*◌, ◌%◌, ◌≤◌}
use native.Mathlib.Omega.{arith}
use lib.Dec.{T, eqb, leb, leb→le}
use lib.IntN.{ℤ}
use lib.ListN.{length}
use Rattle.model.specs.Numbers.{between}
use Rattle.model.specs.Panel.{Panel, base, panel_of}
use Rattle.model.specs.Records.{events_of}
use Rattle.model.specs.Calls.{Verdict, accepted, state, value, no_room, ragged, too_many, unfinished, verdict_number, check, is_accepted, room_for, most_events}
use Rattle.model.specs.Pointing.{PointerState, pointer_good, pointer_need, pointer_verdict, PointerWritten, pointer_refused, pointer_call, pointer_buffer}
use Rattle.model.specs.Packets.{Contact, contacts_good, packets_of}
use Rattle.model.specs.Anonymous.{few_enough, anonymous_verdict, anonymous_frame, anonymous_call, anonymous_buffer, anonymous_rows}
use Rattle.model.specs.Refusals.{Exact}
use Rattle.model.proofs.Bools.{is_true, both_left, both_right}
use Rattle.model.proofs.Tables.{good_length}
use Rattle.model.proofs.Calls.{passed, by_verdict, accepted-is, refused-is, writer-state}
use Rattle.model.proofs.Exact.{exact, chain}
use Rattle.model.proofs.Instances.{base-good}
use Rattle.model.proofs.Pointing.{pointer_facts}
use Rattle.model.proofs.PointerCalls.{pointer_has, pointer_steady, pointer_limits, pointer_left}
use Rattle.model.proofs.Anonymous.{contacts_long, made-sized, made-values}

module _ (s : PointerState) (bs : List ℕ) where
  abbrev p : Panel
  p = panel_of base s.base.setup

  abbrev contacts : List Contact
  contacts = (packets_of (events_of bs)).contacts

  abbrev made : List ℤ
  made = anonymous_frame base s bs

  -- What an accepted frame passed before its room was judged.
  pub record Judged : Type 0 where
    pub good : T (pointer_good base s)
    pub whole : T (eqb (length bs % 8) 0)
    pub few : T (few_enough p contacts)
    pub sound : T (packets_of (events_of bs)).sound
    pub values : T (contacts_good p contacts)

  pub judged : T (is_accepted (anonymous_verdict base s bs)) → Judged
  unfolding anonymous_verdict
  judged h =
      let a = passed (pointer_good base s) state _ tt h in
      let b = passed (eqb (length bs % 8) 0) ragged _ tt a.1 in
      let c = passed (few_enough p contacts) too_many _ tt b.1 in
      let d = passed (packets_of (events_of bs)).sound unfinished _ tt c.1 in
      let e = passed (contacts_good p contacts) value accepted tt d.1 in
      record { good = a.0; whole = b.0; few = c.0; sound = d.0; values = e.0 }

  -- A good state's table has the panel's slots.
  pub slots-there : T (pointer_good base s) → s.base.setup.slots ≤ length s.base.writer.table
  slots-there good =
      let facts = writer-state base s.base (pointer_facts base s good).writer in
      let records = good_length p s.base.writer.table facts.writer.good in
      let n = s.base.setup.slots in
      let some = both_left (between 1 base.records n) _ facts.setup in
      omega (arith, records, leb→le n base.records (both_right (leb 1 n) _ some))

  -- The writer takes the made frame: what is left to judge is the room.
  pub made-taken : (at size : ℕ) → T (is_accepted (anonymous_verdict base s bs))
      → pointer_verdict base s made at size ≡ check (room_for (pointer_need base s made) at size) no_room accepted
  unfolding pointer_verdict
  made-taken at size h =
      let j = judged h in
      let u = s.base.setup in
      let t = s.base.writer.table in
      let facts = writer-state base s.base (pointer_facts base s j.good).writer in
      let there = slots-there j.good in
      let long = contacts_long (events_of bs) in
      rw (is_true (pointer_good base s) j.good, made-sized contacts u t facts.setup long there, made-values contacts u t facts.setup long there (is_true _ j.values))

module _ (s : PointerState) (bs : List ℕ) (at size : ℕ) where
  abbrev v : Verdict
  v = anonymous_verdict base s bs

  abbrev f : List ℤ
  f = anonymous_frame base s bs

  anonymous_has : (anonymous_call base s bs at size).verdict ≡ cond (is_accepted v) (pointer_verdict base s f at size) v
  unfolding anonymous_call
  anonymous_has = by (is_accepted v)
    where
      by : (b : Bool) → (cond b (pointer_call base s f at size) (pointer_refused v s 0)).verdict ≡ cond b (pointer_verdict base s f at size) v
      by true = pointer_has base s f at size
      by false = refl

  by_tests : (a b c d e room : Bool) (w : Verdict)
      → (let x = check a state (check b ragged (check c too_many (check d unfinished (check e value accepted)))) in
      (T (is_accepted x) → w ≡ check room no_room accepted)
      → verdict_number (cond (is_accepted x) w x) ≡ cond a (cond b (cond c (cond d (cond e (cond room 0 5) 4) 10) 9) 6) 2)
  by_tests false b c d e room w h = refl
  by_tests true false c d e room w h = refl
  by_tests true true false d e room w h = refl
  by_tests true true true false e room w h = refl
  by_tests true true true true false room w h = refl
  by_tests true true true true true room w h = ap verdict_number (h tt) ∙ chain room no_room accepted 0 refl

  -- STATE, RAGGED, too many contacts, an unfinished frame, VALUE and NO ROOM, in this order, each exactly when.
  pub anonymous_exact : Exact (verdict_number (anonymous_call base s bs at size).verdict) (anonymous_rows base s bs at size)
  unfolding anonymous_verdict anonymous_has
  anonymous_exact =
      let q = panel_of base s.base.setup in
      let a = packets_of (events_of bs) in
      exact (anonymous_rows base s bs at size) _ tt
      (ap verdict_number anonymous_has
      ∙ by_tests (pointer_good base s) (eqb (length bs % 8) 0) (few_enough q a.contacts) a.sound (contacts_good q a.contacts)
      (room_for (pointer_need base s f) at size) (pointer_verdict base s f at size) (made-taken s bs at size))

  -- Past those tests the answer is the writer's to the made frame.
  pub anonymous_writes : T (is_accepted v) → anonymous_call base s bs at size ≡ pointer_call base s f at size
  unfolding anonymous_call
  anonymous_writes h = accepted-is (is_accepted v) _ _ h

  -- An accepted call passed them.
  pub anonymous_passed : T (is_accepted (anonymous_call base s bs at size).verdict) → T (is_accepted v)
  unfolding anonymous_call
  anonymous_passed h = by (is_accepted v) refl h
    where
      by : (b : Bool) → is_accepted v ≡ b → T (is_accepted (cond b (pointer_call base s f at size) (pointer_refused v s 0)).verdict) → T b
      by true e t = tt
      by false e t = subst T e t

  pub anonymous_refused : T (not (is_accepted v)) → anonymous_call base s bs at size ≡ pointer_refused v s 0
  unfolding anonymous_call
  anonymous_refused h = refused-is (is_accepted v) _ _ h

  -- A good state stays good, whether the frame is accepted or refused.
  pub anonymous_steady : T (pointer_good base s) → T (pointer_good base (anonymous_call base s bs at size).state)
  unfolding anonymous_call
  anonymous_steady g = by_verdict (λ (a : PointerWritten). T (pointer_good base a.state)) (is_accepted v) _ _ (λ h. pointer_steady base s f at size base-good g) g

  -- No answer has more events than `most_events` and four, or needs more than eight times as many bytes.
  pub anonymous_limits : ((anonymous_call base s bs at size).count ≤ most_events base + 4) × ((anonymous_call base s bs at size).need ≤ 8 * (most_events base + 4))
  unfolding anonymous_call
  anonymous_limits =
      by_verdict (λ (a : PointerWritten). (a.count ≤ most_events base + 4) × (a.need ≤ 8 * (most_events base + 4))) (is_accepted v) _ _
      (λ h. pointer_limits base s f at size base-good)
      (omega arith, none (verdict_number v))
    where
      none : (n : ℕ) → cond (eqb n 5) 0 0 ≤ 8 * (most_events base + 4)
      none n = by (eqb n 5)
        where
          by : (b : Bool) → cond b 0 0 ≤ 8 * (most_events base + 4)
          by true = omega arith
          by false = omega arith

-- The buffer of a call that passed them.
pub anonymous_laid : (s : PointerState) (bs : List ℕ) (at : ℕ) (buf : List ℕ) → T (is_accepted (anonymous_verdict base s bs))
    → anonymous_buffer base s bs at buf ≡ pointer_buffer base s (anonymous_frame base s bs) at buf
unfolding anonymous_buffer
anonymous_laid s bs at buf h = accepted-is (is_accepted (anonymous_verdict base s bs)) _ _ h

-- A refusal leaves the state and every byte.
pub anonymous_left : (s : PointerState) (bs : List ℕ) (at : ℕ) (buf : List ℕ) → T (not (is_accepted (anonymous_call base s bs at (length buf)).verdict))
    → ((anonymous_call base s bs at (length buf)).state ≡ s) × (anonymous_buffer base s bs at buf ≡ buf)
unfolding anonymous_call anonymous_buffer
anonymous_left s bs at buf h = by (is_accepted (anonymous_verdict base s bs)) h
  where
    f : List ℤ
    f = anonymous_frame base s bs

    by : (b : Bool) → T (not (is_accepted (cond b (pointer_call base s f at (length buf)) (pointer_refused (anonymous_verdict base s bs) s 0)).verdict))
        → ((cond b (pointer_call base s f at (length buf)) (pointer_refused (anonymous_verdict base s bs) s 0)).state ≡ s) × (cond b (pointer_buffer base s f at buf) buf ≡ buf)
    by true t = pointer_left base s f at buf (subst (λ w. T (not (is_accepted w))) (pointer_has base s f at (length buf)) t)
    by false t = (refl, refl)
