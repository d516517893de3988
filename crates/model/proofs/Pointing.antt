-- When what a writer holds more with pointer emulation (K6) is well formed: its parts, with the option on and off, fresh, and after a frame. Cited by PointerFrame, Off
-- and PointerCalls. Assumes nothing.
use mathlib.Core.Path.{◌≡◌, refl, sym, ap, ap₂, ◌∙◌, subst}
use mathlib.Core.Bool.{Bool, true, false, not, ◌&&◌}
use mathlib.Core.List.{List, [], ◌∷◌}
use Prim.Native.Nat.{ℕ, zero, suc, ◌<◌}
use native.Mathlib.Omega.{arith}
use lib.Dec.{T, leb, eqb, eqb→eq, le→leb}
use lib.IntN.{ℤ, pos}
use lib.ListN.{length, replicate, length-map}
use Rattle.model.proofs.Bools.{both, both_left, both_right}
use Rattle.model.proofs.Tables.{good_length, good-records, alike}
use Rattle.model.proofs.Follow.{heeds, heeds_body}
use Rattle.model.proofs.FreshSteady.{fresh-writer}
use Rattle.model.proofs.Layouts.{few-records}
use Rattle.model.proofs.Calls.{WriterFacts, state-writer, after_steady}
use Rattle.model.proofs.Ranks.{length-ranks, ranks-good}
use Rattle.model.proofs.RanksKept.{ranks_stay, ids-kept}
use Rattle.model.proofs.EmulatedNumbers.{TouchedBy}
use Rattle.model.proofs.Pointed.{pointer_eq, pointer_self, pointed_twice, none-still, still-live, pointed_range, oldest_range}
use Rattle.model.specs.Numbers.{between}
use Rattle.model.specs.Panel.{Axis, Layout, Setup, Field, Panel, id_count, largest_good, setup_good, id_field, axis_fields, panel_of, unlisted, field_codes, axis_codes, good_layout}
use Rattle.model.specs.Table.{Table, id_of, ids, unused_slot, good_table}
use Rattle.model.specs.Frame.{rows_of, values_good, new_table}
use Rattle.model.specs.Sending.{body}
use Rattle.model.specs.Reader.{Reader, follow}
use Rattle.model.specs.States.{WriterState, writer_good, fresh_table}
use Rattle.model.specs.Calls.{writer_after}
use Rattle.model.specs.Ranks.{zero_unused, good_ranks, fates, ranks_after, live_count}
use Rattle.model.specs.Pointer.{unpointed, xy_first, pointable, Pointer, unmoved, oldest_number, still, pointed, eq_pointer}
use Rattle.model.specs.Pointing.{Pointing, zero_pointing, in_range, zeros, good_pointing, pointing_after, PointerState, pointer_good, fresh_pointer}

-- ---- a well-formed state, taken apart

-- The option on: the ranks, the numbers, and their range.
pub record OnFacts (p : Panel) (t : Table) (q : Pointing) : Type 0 where
  pub ranked : T (good_ranks (ids t) q.ranks)
  pub given : q.last ≡ pointed t q.ranks q.last
  pub ranges : T (in_range p.fields q.last.x q.last.y)

pub on_facts : (p : Panel) (t : Table) (q : Pointing) → T (good_pointing true p t q) → OnFacts p t q
on_facts p t q g =
    let a = good_ranks (ids t) q.ranks in
    let b = eq_pointer q.last (pointed t q.ranks q.last) in
    let h = both_left (a && b) _ g in
    record { ranked = both_left a _ h; given = pointer_eq _ _ (both_right a _ h); ranges = both_right (a && b) _ g }

pub facts_on : (p : Panel) (t : Table) (q : Pointing) → OnFacts p t q → T (good_pointing true p t q)
facts_on p t q f =
    let a = good_ranks (ids t) q.ranks in
    let b = eq_pointer q.last (pointed t q.ranks q.last) in
    both (a && b) _ (both a _ f.ranked (subst (λ z. T (eq_pointer q.last z)) f.given (pointer_self q.last))) f.ranges

zeros_are : (n : ℕ) (rs : List ℕ) → T (zeros n rs) → rs ≡ replicate n 0
zeros_are zero [] z = refl
zeros_are zero (r ∷ rs) z = absurd z
zeros_are (suc n) [] z = absurd z
zeros_are (suc n) (r ∷ rs) z = ap₂ {C = List ℕ} (λ a b. a ∷ b) (eqb→eq r 0 (both_left (eqb r 0) (zeros n rs) z)) (zeros_are n rs (both_right (eqb r 0) (zeros n rs) z))

zeros-good : (n : ℕ) → T (zeros n (replicate n 0))
zeros-good zero = tt
zeros-good (suc n) = zeros-good n

-- The option off: exactly one well-formed pointing, all 0.
pub off_only : (p : Panel) (t : Table) (q : Pointing) → T (good_pointing false p t q) → q ≡ zero_pointing p.records
off_only p t q g =
    ap₂ (λ rs z. record { ranks = rs; last = z }) (zeros_are p.records q.ranks (both_left (zeros p.records q.ranks) _ g))
    (pointer_eq q.last unmoved (both_right (zeros p.records q.ranks) _ g))

pub off-good : (p : Panel) (t : Table) → T (good_pointing false p t (zero_pointing p.records))
off-good p t = both (zeros p.records (replicate p.records 0)) _ (zeros-good p.records) tt

pub record PointerFacts (l : Layout) (s : PointerState) : Type 0 where
  pub writer : T (writer_good l s.base)
  pub pointing : T (good_pointing s.on (panel_of l s.base.setup) s.base.writer.table s.pointing)

pub pointer_facts : (l : Layout) (s : PointerState) → T (pointer_good l s) → PointerFacts l s
unfolding pointer_good
pointer_facts l s g = record { writer = both_left (writer_good l s.base) _ g; pointing = both_right (writer_good l s.base) _ g }

pub facts_pointer : (l : Layout) (s : PointerState) → PointerFacts l s → T (pointer_good l s)
unfolding pointer_good
facts_pointer l s f = both (writer_good l s.base) _ f.writer f.pointing

-- ---- layouts

unlisted-fields : (c : ℕ) (axes : List Axis) (largest : List ℕ) → T (unlisted c (axis_codes axes)) → T (unlisted c (field_codes (axis_fields axes largest)))
unlisted-fields c [] vs n = tt
unlisted-fields c (a ∷ axes) [] n = tt
unlisted-fields c (a ∷ axes) (v ∷ vs) n =
    both (not (eqb a.code c)) _ (both_left (not (eqb a.code c)) _ n) (unlisted-fields c axes vs (both_right (not (eqb a.code c)) _ n))

-- No panel of such a layout has the codes of ABS_X and ABS_Y.
pub panel-unpointed : (l : Layout) (u : Setup) → T (pointable l) → T (unpointed (field_codes (panel_of l u).fields))
panel-unpointed l u h =
    let cs = axis_codes l.axes in
    let n = both_right (xy_first cs) (unpointed cs) h in
    both (unlisted 0 (field_codes (panel_of l u).fields)) _ (unlisted-fields 0 l.axes u.largest (both_left (unlisted 0 cs) _ n))
    (unlisted-fields 1 l.axes u.largest (both_right (unlisted 0 cs) _ n))

-- ---- fresh

zero_range : (axes : List Axis) (vs : List ℕ) → T (xy_first (axis_codes axes)) → T (largest_good axes vs) → (i : Field)
    → T (in_range (i ∷ axis_fields axes vs) (pos 0) (pos 0))
zero_range [] vs x g i = absurd x
zero_range (a ∷ []) vs x g i = absurd x
zero_range (a ∷ b ∷ axes) [] x g i = absurd g
zero_range (a ∷ b ∷ axes) (v ∷ []) x g i = absurd (both_right (between 1 a.most v) _ g)
zero_range (a ∷ b ∷ axes) (v ∷ w ∷ vs) x g i = both (leb 0 v) (leb 0 w) (le→leb 0 v (omega arith)) (le→leb 0 w (omega arith))

-- The test's "in range" asks no more than the table gives, if a contact is live.
pub range_live : (l : Layout) (u : Setup) (t : Table) (rs : List ℕ) (q : Pointer) → T (pointable l) → T (setup_good l u) → T (good_table (panel_of l u) t)
    → T (good_ranks (ids t) rs)
    → q ≡ pointed t rs q → 0 < live_count (ids t) → T (in_range (panel_of l u).fields q.x q.y)
range_live l u t rs q h g k r e b =
    let m = live_count (ids t) in
    let z = zero_range l.axes u.largest (both_left (xy_first (axis_codes l.axes)) _ h) (both_right (between 1 l.records u.slots) _ g) id_field in
    subst (λ (w : Pointer). T (in_range (panel_of l u).fields w.x w.y)) (sym e)
    (subst (λ x. T (in_range (panel_of l u).fields x (still m q.y (oldest_number 2 t rs)))) (sym (still-live m q.x (oldest_number 1 t rs) b))
    (subst (λ y. T (in_range (panel_of l u).fields (oldest_number 1 t rs) y)) (sym (still-live m q.y (oldest_number 2 t rs) b)) (oldest_range l u t rs (pos 0) (pos 0) z (good-records (panel_of l u) t k) r b)))

fresh-ranks : (fs : List Field) (n : ℕ) → T (good_ranks (ids (replicate n (unused_slot fs))) (replicate n 0))
fresh-ranks fs zero = tt
fresh-ranks [] (suc n) = fresh-ranks [] n
fresh-ranks (f ∷ fs) (suc n) = fresh-ranks (f ∷ fs) n

fresh-count : (fs : List Field) (n : ℕ) → live_count (ids (replicate n (unused_slot fs))) ≡ 0
fresh-count fs zero = refl
fresh-count [] (suc n) = fresh-count [] n
fresh-count (f ∷ fs) (suc n) = fresh-count (f ∷ fs) n

fresh-pointing : (on : Bool) (l : Layout) (u : Setup) → T (pointable l) → T (setup_good l u)
    → T (good_pointing on (panel_of l u) (fresh_table (panel_of l u)) (zero_pointing l.records))
fresh-pointing false l u h g = off-good (panel_of l u) (fresh_table (panel_of l u))
fresh-pointing true l u h g =
    let p = panel_of l u in
    facts_on p (fresh_table p) (zero_pointing l.records)
    (record {
      ranked = fresh-ranks p.fields l.records;
      given = sym (none-still (fresh_table p) (replicate l.records 0) unmoved (fresh-count p.fields l.records));
      ranges = zero_range l.axes u.largest (both_left (xy_first (axis_codes l.axes)) _ h) (both_right (between 1 l.records u.slots) _ g) id_field;
    })

-- A fresh state is well formed, with the option on or off.
pub fresh_pointer_good : (l : Layout) (on : Bool) (u : Setup) → T (pointable l) → T (setup_good l u) → T (pointer_good l (fresh_pointer l on u))
fresh_pointer_good l on u h g =
    facts_pointer l (fresh_pointer l on u)
    (record {
      writer = state-writer l _ (record { setup = g; writer = fresh-writer l u g });
      pointing = fresh-pointing on l u h g;
    })

-- ---- a frame

module _ (l : Layout) (s : WriterState) (f : List ℤ) (lay : T (good_layout l)) (facts : WriterFacts l s) (vals : T (values_good (panel_of l s.setup) f)) where
  -- No contact event: the table is the old one.
  same-table : (let w = s.writer in let new = new_table w.counter (rows_of (panel_of l s.setup) f) w.table in body w.current w.table new ≡ [] → w.table ≡ new)
  same-table e =
      let p = panel_of l s.setup in
      let w = s.writer in
      let new = new_table w.counter (rows_of p f) w.table in
      let h = heeds_body w.table new w.current (alike p w.table new facts.writer.good (after_steady l s f lay facts vals).good) in
      ap (λ xs. (heeds (follow w.table w.table w.current) xs).pending) (sym e) ∙ ap (λ (r : Reader). r.pending) h

  -- No contact event: no emulated one.
  pub none-alone : (on : Bool) (q : Pointing) → T (good_pointing on (panel_of l s.setup) s.writer.table q)
      → (let p = panel_of l s.setup in let w = s.writer in body w.current w.table (new_table w.counter (rows_of p f) w.table) ≡ [] → q.last ≡ (pointing_after on p w q f).last)
  none-alone false q g e = refl
  none-alone true q g e =
      let p = panel_of l s.setup in
      let w = s.writer in
      let fr = rows_of p f in
      let new = new_table w.counter fr w.table in
      let h = on_facts p w.table q g in
      let same = same-table e in
      let few : length (ids w.table) < id_count = omega (arith, length-map w.table id_of, good_length p w.table facts.writer.good, few-records l lay) in
      let kept = ids-kept (ids w.table) w.counter fr w.table facts.writer.counts few (λ v x. x) (ap ids (sym same)) in
      let ranks : ranks_after (fates fr w.table) q.ranks ≡ q.ranks = ranks_stay fr w.table q.ranks kept h.ranked in
      h.given ∙ ap₂ (λ o rs. pointed o rs q.last) same (sym ranks)

  -- What a writer holds more is well formed after a frame.
  pub pointing_steady : (on : Bool) (q : Pointing) → T (good_pointing on (panel_of l s.setup) s.writer.table q)
      → (let p = panel_of l s.setup in T (good_pointing on p (writer_after p s.writer f).table (pointing_after on p s.writer q f)))
  pointing_steady false q g = g
  pointing_steady true q g =
      let p = panel_of l s.setup in
      let w = s.writer in
      let fr = rows_of p f in
      let new = new_table w.counter fr w.table in
      let rs = ranks_after (fates fr w.table) q.ranks in
      let h = on_facts p w.table q g in
      let n : length q.ranks ≡ length w.table =
      length-ranks (ids w.table) q.ranks (both_left (zero_unused (ids w.table) q.ranks) _ h.ranked) ∙ length-map w.table id_of in
      let ranked : T (good_ranks (ids new) rs) = ranks-good (ids w.table) w.counter fr w.table q.ranks n in
      facts_on p new (record { ranks = rs; last = pointed new rs q.last })
      (record {
        ranked = ranked;
        given = sym (pointed_twice new rs q.last);
        ranges = pointed_range l s.setup new rs q.last h.ranges (good-records p new (after_steady l s f lay facts vals).good) ranked;
      })

-- ---- over whole states

-- Touch and tool of a well-formed state are those of some number of live contacts.
pub touched : (p : Panel) (t : Table) (q : Pointing) → T (good_pointing true p t q) → TouchedBy (live_count (ids t)) q.last
touched p t q g =
    let e = (on_facts p t q g).given in
    record { touches = ap (λ (z : Pointer). z.touch) e; tools = ap (λ (z : Pointer). z.tool) e }

pub touched_by : (on : Bool) (p : Panel) (t : Table) (q : Pointing) → T (good_pointing on p t q) → (a : ℕ) × TouchedBy a q.last
touched_by true p t q g = (live_count (ids t), touched p t q g)
touched_by false p t q g =
    let e = off_only p t q g in
    (0, record { touches = ap (λ (z : Pointing). z.last.touch) e; tools = ap (λ (z : Pointing). z.last.tool) e })
