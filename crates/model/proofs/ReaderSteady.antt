-- Steady, the reader's half: any run of events keeps a reader well formed. Cited by Calls and the reader's crate. Assumes nothing.
use mathlib.Core.Path.{◌≡◌, refl, sym, ◌∙◌, subst}
use mathlib.Core.Bool.{Bool, true, false, cond, ◌&&◌}
use mathlib.Core.List.{List, [], ◌∷◌}
use Prim.Native.Nat.{ℕ, zero, suc, ◌<◌}
use native.Mathlib.Omega.{arith}
use lib.Dec.{T, ltb, eqb, lt→ltb, ltb→lt}
use lib.IntN.{ℤ, pos, negsuc}
use lib.ListN.{set}
-- Brought in so that it is checked first: a reader that does not heed a loss then fails at the theorem on it, and not at a step of a proof here.
use Rattle.model.proofs.Bools.{both, both_left, both_right}
use Rattle.model.proofs.Tables.{eq_table→eq, eq_table_self, good_length, good-records, good-table, length-on_slot}
use Rattle.model.proofs.Codes.{good_at}
use Rattle.model.specs.Panel.{Field, Panel, slot_code}
use Rattle.model.specs.Table.{Slot, Table, ids_differ, fits, good_slot, good_records, good_table}
use Rattle.model.specs.Events.{Event, Act, skip, bad, report, loss, slot, number, later, number_act, slot_act, syn_act, abs_act, classify}
use Rattle.model.specs.Reader.{Mode, following, dropped, stale, Lost, Reader, lose, reported, on_slot, step_following, step_in, step, read}
use Rattle.model.specs.States.{settled, good_reader}

-- ---- what an event asks is allowed

-- A slot below n, or a good value of a field.
abbrev pub Fit : List Field → ℕ → Act → Type 0
Fit fs n (skip w t c) = Unit {0}
Fit fs n bad = Unit {0}
Fit fs n report = Unit {0}
Fit fs n loss = Unit {0}
Fit fs n (slot k) = T (ltb k n)
Fit fs n (number i v) = T (good_at fs i v)

fit_later : (f : Field) (fs : List Field) (n : ℕ) (x : Act) → Fit fs n x → Fit (f ∷ fs) n (later x)
fit_later f fs n (skip w t c) g = g
fit_later f fs n bad g = g
fit_later f fs n report g = g
fit_later f fs n loss g = g
fit_later f fs n (slot k) g = g
fit_later f fs n (number i v) g = g

fit_cond : (fs : List Field) (n : ℕ) (b : Bool) (x y : Act) → (T b → Fit fs n x) → Fit fs n y → Fit fs n (cond b x y)
fit_cond fs n true x y f g = f tt
fit_cond fs n false x y f g = g

fit_number : (fs : List Field) (n c : ℕ) (v : ℤ) → Fit fs n (number_act fs c v)
fit_number [] n c v = tt
fit_number (f ∷ fs) n c v =
    fit_cond (f ∷ fs) n (eqb c f.code) _ _ (λ t. fit_cond (f ∷ fs) n (fits f v) (number 0 v) bad (λ u. u) tt) (fit_later f fs n (number_act fs c v) (fit_number fs n c v))

fit_slot : (fs : List Field) (n : ℕ) (v : ℤ) → Fit fs n (slot_act n v)
fit_slot fs n (pos k) = fit_cond fs n (ltb k n) (slot k) bad (λ t. t) tt
fit_slot fs n (negsuc k) = tt

pub fit : (p : Panel) (e : Event) → Fit p.fields p.slots (classify p e)
fit p e =
    fit_cond p.fields p.slots (eqb e.type 0) (syn_act e.code) _
    (λ t. fit_cond p.fields p.slots (eqb e.code 0) report _ (λ u. tt) (fit_cond p.fields p.slots (eqb e.code 3) loss _ (λ u. tt) tt))
    (fit_cond p.fields p.slots (eqb e.type 3) (abs_act p e.code e.value) _
    (λ t. fit_cond p.fields p.slots (eqb e.code slot_code) _ _ (λ u. fit_slot p.fields p.slots e.value) (fit_number p.fields p.slots e.code e.value))
    tt)

-- ---- one number set

set-good : (fs : List Field) (s : Slot) (i : ℕ) (v : ℤ) → T (good_slot fs s) → T (good_at fs i v) → T (good_slot fs (set s i v))
set-good [] s i v g k = absurd k
set-good (f ∷ fs) [] i v g k = g
set-good (f ∷ fs) (x ∷ s) zero v g k = both (fits f v) (good_slot fs s) k (both_right (fits f x) (good_slot fs s) g)
set-good (f ∷ fs) (x ∷ s) (suc i) v g k = both (fits f x) (good_slot fs (set s i v)) (both_left (fits f x) (good_slot fs s) g) (set-good fs s i v (both_right (fits f x) (good_slot fs s) g) k)

on_slot-good : (fs : List Field) (n : ℕ) (t : Table) (c i : ℕ) (v : ℤ) → c < n → T (good_records fs n t) → T (good_at fs i v) → T (good_records fs n (on_slot t c (λ s. set s i v)))
on_slot-good fs n [] c i v l g k = g
on_slot-good fs zero (s ∷ t) c i v l g k = absurd (omega arith)
on_slot-good fs (suc n) (s ∷ t) zero i v l g k = both (good_slot fs (set s i v)) _ (set-good fs s i v (both_left (good_slot fs s) (good_records fs n t) g) k) (both_right (good_slot fs s) (good_records fs n t) g)
on_slot-good fs (suc n) (s ∷ t) (suc c) i v l g k =
    both (good_slot fs s) _ (both_left (good_slot fs s) (good_records fs n t) g) (on_slot-good fs n t c i v (omega arith) (both_right (good_slot fs s) (good_records fs n t) g) k)

-- ---- the reader's state, as a record of facts

pub record SteadyReader (p : Panel) (r : Reader) : Type 0 where
  pub shows : T (good_table p r.shown)
  pub pends : T (good_table p r.pending)
  pub differs : T (ids_differ r.shown)
  pub below : r.current < p.slots
  pub settles : T (settled r.mode r.shown r.pending)

pub reader_facts : (p : Panel) (r : Reader) → T (good_reader p r) → SteadyReader p r
reader_facts p r g =
    let a = good_table p r.shown in
    let b = good_table p r.pending in
    let c = ids_differ r.shown in
    let d = ltb r.current p.slots in
    let x = both_left (a && b && c && d) _ g in
    let y = both_left (a && b && c) _ x in
    let z = both_left (a && b) _ y in
    record {
      shows = both_left a _ z;
      pends = both_right a _ z;
      differs = both_right (a && b) _ y;
      below = ltb→lt r.current p.slots (both_right (a && b && c) _ x);
      settles = both_right (a && b && c && d) _ g;
    }

pub facts_reader : (p : Panel) (r : Reader) → SteadyReader p r → T (good_reader p r)
facts_reader p r s =
    let a = good_table p r.shown in
    let b = good_table p r.pending in
    let c = ids_differ r.shown in
    let d = ltb r.current p.slots in
    both (a && b && c && d) _ (both (a && b && c) _ (both (a && b) _ (both a _ s.shows s.pends) s.differs) (lt→ltb r.current p.slots s.below)) s.settles

settled_self : (m : Mode) (t : Table) → T (settled m t t)
settled_self following t = tt
settled_self dropped t = eq_table_self t
settled_self stale t = eq_table_self t

-- Once track is lost, nothing is pending.
pub lost_settled : (m : Mode) (s p : Table) → T (settled m s p) → Lost m → p ≡ s
lost_settled following s p t l = absurd l
lost_settled dropped s p t l = sym (eq_table→eq s p t)
lost_settled stale s p t l = sym (eq_table→eq s p t)

lose_steady : (p : Panel) (m : Mode) (r : Reader) → SteadyReader p r → SteadyReader p (lose m r)
lose_steady p m r s = record { shows = s.shows; pends = s.shows; differs = s.differs; below = s.below; settles = settled_self m r.shown }

reported_steady : (p : Panel) (b : Bool) (r : Reader) → (T b → T (ids_differ r.pending)) → SteadyReader p r → SteadyReader p (reported b r)
reported_steady p true r d s = record { shows = s.pends; pends = s.pends; differs = d tt; below = s.below; settles = tt }
reported_steady p false r d s = lose_steady p stale r s

following_steady : (p : Panel) (r : Reader) (x : Act) → r.mode ≡ following → Fit p.fields p.slots x → SteadyReader p r → SteadyReader p (step_following r x)
following_steady p r (skip w t c) e f s = s
following_steady p r bad e f s = lose_steady p dropped r s
following_steady p r report e f s = reported_steady p (ids_differ r.pending) r (λ t. t) s
following_steady p r loss e f s = lose_steady p dropped r s
following_steady p r (slot k) e f s = record { shows = s.shows; pends = s.pends; differs = s.differs; below = ltb→lt k p.slots f; settles = s.settles }
following_steady p r (number i v) e f s =
    record {
      shows = s.shows;
      pends = good-table p _ (length-on_slot r.pending r.current (λ z. set z i v) ∙ good_length p r.pending s.pends) (on_slot-good p.fields p.slots r.pending r.current i v s.below (good-records p r.pending s.pends) f);
      differs = s.differs;
      below = s.below;
      settles = subst (λ m. T (settled m r.shown (on_slot r.pending r.current (λ z. set z i v)))) (sym e) tt;
    }

pub step_steady : (p : Panel) (m : Mode) (r : Reader) (x : Act) → r.mode ≡ m → Fit p.fields p.slots x → SteadyReader p r → SteadyReader p (step_in m r x)
step_steady p following r x e f s = following_steady p r x e f s
step_steady p dropped r (skip w t c) e f s = s
step_steady p dropped r bad e f s = s
step_steady p dropped r report e f s = lose_steady p stale r s
step_steady p dropped r loss e f s = s
step_steady p dropped r (slot k) e f s = s
step_steady p dropped r (number i v) e f s = s
step_steady p stale r (skip w t c) e f s = s
step_steady p stale r bad e f s = s
step_steady p stale r report e f s = s
step_steady p stale r loss e f s = lose_steady p dropped r s
step_steady p stale r (slot k) e f s = s
step_steady p stale r (number i v) e f s = s

-- Any run of events keeps a reader well formed.
pub read_steady : (p : Panel) (es : List Event) (r : Reader) → SteadyReader p r → SteadyReader p (read p r es)
read_steady p [] r s = s
read_steady p (e ∷ es) r s = read_steady p es (step r (classify p e)) (step_steady p r.mode r (classify p e) refl (fit p e) s)
