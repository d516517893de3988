-- K1 with pointer emulation (K6): a reader with the first axes of a longer layout, given what a writer of the longer one writes with the option on or off,
-- shows the first numbers of the writer's slots, and skips just the events of the later axes and the emulated ones. Cited by link. Assumes nothing.
use mathlib.Core.Path.{◌≡◌, refl, sym, ap, ap₂, ◌∙◌, subst}
use mathlib.Core.Bool.{Bool, true, false, not, cond, ◌&&◌, ◌||◌, false≢true}
use mathlib.Core.List.{List, [], ◌∷◌, ◌++◌}
use Prim.Native.Nat.{ℕ, suc, ◌+◌, ◌≤◌, ◌%◌}
use native.Mathlib.Omega.{arith}
use lib.Dec.{T, eqb}
use lib.IntN.{ℤ}
use lib.ListN.{length, drop}
use borrow.Author.Tests.{eqb-true, eq-eqb}
use Rattle.model.proofs.Bools.{is_true, both_left, both_right, and_left, and_right}
use Rattle.model.proofs.Tables.{good-records}
use Rattle.model.proofs.Codes.{Tellable, tells, sending-good}
use Rattle.model.proofs.Layouts.{codes_same, panel-tellable}
use Rattle.model.proofs.Calls.{writer-state, after_steady, reader-state}
use Rattle.model.proofs.Answers.{reader-made, run-whole}
use Rattle.model.proofs.Link.{pupil-good}
use Rattle.model.proofs.Followed.{followed-run}
use Rattle.model.proofs.Shift.{all_listed}
use Rattle.model.proofs.NarrowReader.{followed_no_bad, reads-cut}
use Rattle.model.proofs.NarrowCounts.{listed, code-cut}
use Rattle.model.proofs.Narrow.{fresh-cut, panel-cut, short-setup, short-good}
use Rattle.model.proofs.Emulated.{contact-ended}
use Rattle.model.proofs.Pointing.{pointer_facts, panel-unpointed}
use Rattle.model.proofs.PointerCalls.{pointer_made, fresh_call_good, pointer_steady}
use Rattle.model.proofs.PointerShift.{by_call, setup-kept, calls_whole, calls_events, calls_read_back}
use Rattle.model.specs.Numbers.{between, eq_z}
use Rattle.model.specs.Panel.{Layout, Setup, Panel, setup_good, panel_of, slot_code, unlisted, field_codes, good_layout, base, crane_records, crane}
use Rattle.model.specs.Events.{Event}
use Rattle.model.specs.Records.{events_of}
use Rattle.model.specs.Frame.{values_good}
use Rattle.model.specs.Sending.{unless, sending, event_of, send_report}
use Rattle.model.specs.Reader.{Reader, event, read, run}
use Rattle.model.specs.Skips.{known_type, known_code, type_unknown, code_unknown, skipped_by}
use Rattle.model.specs.States.{fresh_reader}
use Rattle.model.specs.Calls.{is_accepted, FreshReader, fresh_reader_call, writer_after, ran, run_call}
use Rattle.model.specs.Bench.{pupil}
use Rattle.model.specs.Shift.{FrameCall, how_many, first_of, followed}
use Rattle.model.specs.Narrow.{cut_reader, cut_panel, crane_setup, Shorter, short_pupil, has_code, AllListed}
use Rattle.model.specs.Pointer.{pointer_x, pointer_y, unpointed, pointable, Pointer, button, axis}
use Rattle.model.specs.Pointer.{events_before, moves, swaps, events_after, ended, contact_events}
use Rattle.model.specs.Pointing.{PointerState, pointer_good, FreshPointer, fresh_pointer_call, pointer_events, pointer_after}
use Rattle.model.specs.PointerShift.{pointer_wrote, pointer_wrote_all, pointer_sent, pointer_sent_all, pointer_written_all}
use Rattle.model.specs.PointerNarrow.{is_button, is_place, SkipsAlone, pointed_counts, pointed_ran}

-- ---- tests

neither : (a b : Bool) → (a || b) ≡ false → (a ≡ false) × (b ≡ false)
neither true b h = absurd (false≢true (sym h))
neither false b h = (refl, h)

or_none : (a : Bool) → (a || false) ≡ a
or_none true = refl
or_none false = refl

or_all : (a : Bool) → (a || true) ≡ true
or_all true = refl
or_all false = refl

-- ---- one event

-- Neither X nor Y has a code that such a panel knows.
place-unknown : (codes : List ℕ) (c : ℕ) → T (unpointed codes) → not (unlisted c (pointer_x ∷ pointer_y ∷ [])) ≡ true
    → (eqb c slot_code || not (unlisted c codes)) ≡ false
place-unknown codes c n h = by_x (eqb 0 c) refl
  where
    by_y : (b : Bool) → eqb 1 c ≡ b → eqb 0 c ≡ false → (eqb c slot_code || not (unlisted c codes)) ≡ false
    by_y true q z =
        ap (λ d. eqb d slot_code || not (unlisted d codes)) (sym (eqb-true 1 c q))
        ∙ ap not (is_true (unlisted 1 codes) (both_right (unlisted 0 codes) _ n))
    by_y false q z = absurd (false≢true (rw (z, q) at h))

    by_x : (b : Bool) → eqb 0 c ≡ b → (eqb c slot_code || not (unlisted c codes)) ≡ false
    by_x true q =
        ap (λ d. eqb d slot_code || not (unlisted d codes)) (sym (eqb-true 0 c q))
        ∙ ap not (is_true (unlisted 0 codes) (both_left (unlisted 0 codes) _ n))
    by_x false q = by_y (eqb 1 c) refl q

-- What its type tells of an emulated event.
record Emulated (p : Panel) (e : Event) : Type 0 where
  types : type_unknown e ≡ is_button e
  codes : code_unknown p e ≡ is_place e
  skipped : skipped_by p e ≡ true

emulated_by : (p : Panel) → T (unpointed (field_codes p.fields)) → (e : Event) → (is_button e || is_place e) ≡ true → Emulated p e
emulated_by p n e h = by_type (is_button e) refl
  where
    by_type : (b : Bool) → is_button e ≡ b → Emulated p e
    by_type true q =
        let t = eqb-true e.type 1 q in
        record {
          types = ap (λ k. not (eqb k 0 || eqb k 3)) t ∙ sym q;
          codes = ap (λ k. (eqb k 0 || eqb k 3) && not (known_code p e)) t ∙ sym (ap (λ k. eqb k 3 && not (unlisted e.code (pointer_x ∷ pointer_y ∷ []))) t);
          skipped = ap (λ k. not ((eqb k 0 || eqb k 3) && known_code p e)) t;
        }
    by_type false q =
        let place : is_place e ≡ true = rw q at h in
        let t = eqb-true e.type 3 (and_left (eqb e.type 3) _ place) in
        let codes = field_codes p.fields in
        let unknown = place-unknown codes e.code n (and_right (eqb e.type 3) _ place) in
        let known : known_code p e ≡ false =
        ap (λ k. cond (eqb k 0) (eqb e.code 0 || eqb e.code 3) (eqb e.code slot_code || not (unlisted e.code codes))) t ∙ unknown in
        record {
          types = ap (λ k. not (eqb k 0 || eqb k 3)) t ∙ sym q;
          codes = ap₂ (λ k b. (eqb k 0 || eqb k 3) && not b) t known ∙ sym place;
          skipped = ap₂ (λ k b. not ((eqb k 0 || eqb k 3) && b)) t known;
        }

-- A listed event is none.
listed_alone : (p : Panel) → T (unpointed (field_codes p.fields)) → (es : List Event) → AllListed p es → SkipsAlone p es
listed_alone p n [] h = tt
listed_alone p n (e ∷ es) h = (h.0 ∙ sym (none (is_button e || is_place e) refl), listed_alone p n es h.1)
  where
    none : (b : Bool) → (is_button e || is_place e) ≡ b → b ≡ false
    none true q = sym (emulated_by p n e q).skipped ∙ h.0
    none false q = refl

-- ---- a frame

alone_append : (p : Panel) (xs ys : List Event) → SkipsAlone p xs → SkipsAlone p ys → SkipsAlone p (xs ++ ys)
alone_append p [] ys a b = b
alone_append p (x ∷ xs) ys a b = (a.0, alone_append p xs ys a.1 b)

alone-unless : (p : Panel) (b : Bool) (e : Event) (es : List Event) → skipped_by p e ≡ (is_button e || is_place e) → SkipsAlone p es → SkipsAlone p (unless b e es)
alone-unless p true e es h a = a
alone-unless p false e es h a = (h, a)

alone-ended : (p : Panel) (es : List Event) → SkipsAlone p es → SkipsAlone p (ended es)
alone-ended p [] a = tt
alone-ended p (e ∷ es) a = alone_append p (e ∷ es) (event_of [] send_report ∷ []) a (refl, tt)

module _ (p : Panel) (n : T (unpointed (field_codes p.fields))) (q z : Pointer) where
  alone-before : SkipsAlone p (events_before q z)
  alone-before = alone-unless p (eqb q.touch z.touch) _ [] refl tt

  alone-swaps : SkipsAlone p (swaps q.tool z.tool)
  alone-swaps =
      let a = q.tool in
      let b = z.tool in
      alone-unless p (eqb a b || eqb a 0) (button a 0) _ refl (alone-unless p (eqb a b || eqb b 0) (button b 1) [] refl tt)

  alone-moves : SkipsAlone p (moves q z)
  alone-moves =
      let x = axis pointer_x z.x in
      let y = axis pointer_y z.y in
      alone-unless p (eq_z q.x z.x) x _ (emulated_by p n x refl).skipped
      (alone-unless p (eq_z q.y z.y) y [] (emulated_by p n y refl).skipped tt)

  alone-after : SkipsAlone p (events_after q z)
  unfolding alone-swaps alone-moves
  alone-after = alone_append p (swaps q.tool z.tool) (moves q z) alone-swaps alone-moves

listed_first : (p : Panel) (xs ys : List Event) → AllListed p (xs ++ ys) → AllListed p xs
listed_first p [] ys h = tt
listed_first p (x ∷ xs) ys h = (h.0, listed_first p xs ys h.1)

-- Without their report the contact events are listed too.
listed_ended : (p : Panel) (es : List Event) → AllListed p (ended es) → AllListed p es
listed_ended p [] h = tt
listed_ended p (e ∷ es) h = listed_first p (e ∷ es) (event_of [] send_report ∷ []) h

module _ (l : Layout) (s : PointerState) (f : List ℤ) (g : T (good_layout l)) (able : T (pointable l)) (good : T (pointer_good l s)) where
  -- Of a frame's events the writer's own panel skips the emulated ones alone.
  frame-alone : T (values_good (panel_of l s.base.setup) f) → SkipsAlone (panel_of l s.base.setup) (pointer_events l s f)
  frame-alone v =
      let p = panel_of l s.base.setup in
      let n = panel-unpointed l s.base.setup able in
      let w = s.base.writer in
      let facts = writer-state l s.base (pointer_facts l s good).writer in
      let tell = tells p (panel-tellable l s.base.setup g facts.setup) in
      let old = w.table in
      let new = (writer_after p w f).table in
      let after = after_steady l s.base f g facts v in
      let fine = sending-good p.fields p.slots w.current old new (good-records p old facts.writer.good) (good-records p new after.good) in
      let sent = all_listed p tell (sending w.current old new) fine in
      let own = contact_events p w.current old new in
      let contacts = listed_ended p own (subst (AllListed p) (contact-ended p w.current old new) sent) in
      let q = s.pointing.last in
      let z = (pointer_after l s f).pointing.last in
      alone-ended p (events_before q z ++ (own ++ events_after q z))
      (alone_append p (events_before q z) _ (alone-before p n q z) (alone_append p own (events_after q z) (listed_alone p n own contacts) (alone-after p n q z)))

-- ---- any calls

module _ (l : Layout) (g : T (good_layout l)) (able : T (pointable l)) where
  pub calls_alone : (u : Setup) (s : PointerState) (ks : List FrameCall) → s.base.setup ≡ u → T (pointer_good l s)
      → SkipsAlone (panel_of l u) (pointer_sent_all l s ks)
  calls_alone u s [] e good = tt
  calls_alone u s (k ∷ ks) e good =
      let z = pointer_wrote l s k in
      let one = by_call l s k (λ es cs t. SkipsAlone (panel_of l s.base.setup) es) (frame-alone l s k.frame g able good) tt in
      alone_append (panel_of l u) (pointer_sent l s k) (pointer_sent_all l z ks) (subst (λ v. SkipsAlone (panel_of l v) (pointer_sent l s k)) e one)
      (calls_alone u z ks (setup-kept l s k ∙ e) (pointer_steady l s k.frame k.at (length k.buffer) g good))

-- ---- what a short panel skips of such events

module _ (k m : ℕ) (p : Panel) (w : Tellable p) (n : T (unpointed (field_codes (cut_panel k m p).fields))) where
  abbrev short : Panel
  short = cut_panel k m p

  abbrev later : List ℕ
  later = drop k (field_codes p.fields)

  record Counted (e : Event) : Type 0 where
    types : type_unknown e ≡ is_button e
    codes : code_unknown short e ≡ (has_code later e || is_place e)
    skipped : skipped_by short e ≡ (is_button e || (has_code later e || is_place e))

  counted : (e : Event) → skipped_by p e ≡ (is_button e || is_place e) → Counted e
  counted e h = by_skip (is_button e || is_place e) refl
    where
      known : (a b : Bool) → a ≡ true → not (a && b) ≡ (a && not b)
      known true b q = refl
      known false b q = absurd (false≢true q)

      by_button : (b : Bool) → is_button e ≡ b → (is_button e || is_place e) ≡ true → Counted e
      by_button true q d =
          let own = emulated_by short n e d in
          let t = eqb-true e.type 1 q in
          let none : has_code later e ≡ false = ap (λ j. eqb j 3 && not (unlisted e.code later)) t in
          record {
            types = own.types;
            codes = own.codes ∙ sym (ap (λ b. b || is_place e) none);
            skipped = own.skipped ∙ sym (ap (λ b. b || (has_code later e || is_place e)) q);
          }
      by_button false q d =
          let own = emulated_by short n e d in
          let place : is_place e ≡ true = rw q at d in
          let all : (has_code later e || is_place e) ≡ true = ap (λ b. has_code later e || b) place ∙ or_all (has_code later e) in
          record {
            types = own.types;
            codes = own.codes ∙ place ∙ sym all;
            skipped = own.skipped ∙ sym (ap (λ b. b || (has_code later e || is_place e)) q ∙ all);
          }

      by_skip : (b : Bool) → (is_button e || is_place e) ≡ b → Counted e
      by_skip true d = by_button (is_button e) refl d
      by_skip false d =
          let l = listed p e (h ∙ d) in
          let no = neither (is_button e) (is_place e) d in
          let code = code-cut k m p w e l in
          let place : has_code later e ≡ (has_code later e || is_place e) = sym (ap (λ b. has_code later e || b) no.1 ∙ or_none (has_code later e)) in
          record {
            types = ap not l.type ∙ sym no.0;
            codes = code ∙ place;
            skipped = known (known_type e) (known_code short e) l.type ∙ code ∙ place ∙ sym (ap (λ b. b || (has_code later e || is_place e)) no.0);
          }

  types_are : (es : List Event) → SkipsAlone p es → how_many type_unknown es ≡ how_many is_button es
  types_are [] h = refl
  types_are (e ∷ es) h = ap₂ (λ b c. cond b 1 0 + c) (counted e h.0).types (types_are es h.1)

  codes_are : (es : List Event) → SkipsAlone p es → how_many (code_unknown short) es ≡ how_many (λ e. has_code later e || is_place e) es
  codes_are [] h = refl
  codes_are (e ∷ es) h = ap₂ (λ b c. cond b 1 0 + c) (counted e h.0).codes (codes_are es h.1)

  first-is : (es : List Event) → SkipsAlone p es → first_of (skipped_by short) es ≡ first_of (λ e. is_button e || (has_code later e || is_place e)) es
  first-is [] h = refl
  first-is (e ∷ es) h = ap₂ (λ b c. cond b (event e.type e.code) c) (counted e h.0).skipped (first-is es h.1)

  pub counts_are : (es : List Event) → SkipsAlone p es → followed short es ≡ pointed_counts later es
  counts_are es h = rw (types_are es h, codes_are es h, first-is es h)

-- ---- the short reader

module _ (l s : Layout) (v : Setup) (x : PointerState) (g : T (good_layout l)) (able : T (pointable l)) (small : T (pointable s))
    (good : T (pointer_good l x)) (h : Shorter l s x.base.setup v) where
  -- From any well-formed long writer and any calls: its short reader, given their bytes, is that of the writer after them.
  pub pointer_narrow : (ks : List FrameCall)
      → (let bs = pointer_written_all l x ks in
      run_call s (short_pupil s v x.base) bs ≡ pointed_ran l s v (pointer_wrote_all l x ks).base (events_of bs))
  pointer_narrow ks =
      let u = x.base.setup in
      let p = panel_of l u in
      let c = length s.axes in
      let cut = cut_reader (suc c) s.records in
      let short = cut_panel (suc c) s.records p in
      let r = (pupil x.base).reader in
      let end = (pupil (pointer_wrote_all l x ks).base).reader in
      let bs = pointer_written_all l x ks in
      let es = events_of bs in
      let writer = (pointer_facts l x good).writer in
      let facts = writer-state l x.base writer in
      let steady = (reader-state l (pupil x.base) (pupil-good l x.base writer)).reader in
      let held : u.slots ≤ s.records = omega (arith, h.held, h.slots) in
      let same = panel-cut l s u v h in
      let sent = calls_events l g x ks good in
      let back : read p r es ≡ end = ap (read p r) sent ∙ calls_read_back l g able x ks good in
      let own : read short (cut r) es ≡ cut end =
      reads-cut c s.records p es r held steady (followed_no_bad p r es (ap (λ (y : Reader). y.mode) back)) ∙ ap cut back in
      let alone = subst (SkipsAlone p) (sym sent) (calls_alone l g able u x ks refl good) in
      let n = subst (λ z. T (unpointed (field_codes z.fields))) same (panel-unpointed s v small) in
      let codes = codes_same l.axes u.largest (both_right (between 1 l.records u.slots) _ facts.setup) in
      run-whole s (short_pupil s v x.base) bs (is_true _ (short-good l s v x.base g writer h)) (eq-eqb (length bs % 8) 0 (calls_whole l g x ks))
      ∙ ap (ran v)
      (ap (λ z. run z (cut r) es) same
      ∙ followed-run short (cut r) (cut end) es own refl
      ∙ ap (λ a. record { reader = cut end; counts = a })
      (counts_are (suc c) s.records p (tells p (panel-tellable l u g facts.setup)) n es alone ∙ ap (λ z. pointed_counts (drop c z) es) codes))

-- K1 with the option on or off: from fresh states, after each call of any list of calls, the fresh short reader that is given all bytes so far is that
-- of the writer; it skipped just the events of the later fields and the emulated ones, and no other count but shown moved.
pub pointer_narrow_fresh : (l s : Layout) (on : Bool) (u v : Setup) (ks : List FrameCall) → T (good_layout l) → T (pointable l) → T (pointable s)
    → T (setup_good l u) → Shorter l s u v
    → (let x = (fresh_pointer_call l on u).state in
    let bs = pointer_written_all l x ks in
    run_call s (fresh_reader_call s v).state bs ≡ pointed_ran l s v (pointer_wrote_all l x ks).base (events_of bs))
pointer_narrow_fresh l s on u v ks g able small good h =
    let p = panel_of l u in
    let x = (fresh_pointer_call l on u).state in
    let made = pointer_made l on u (is_true _ good) in
    let fine = fresh_call_good l on u able (subst (λ (a : FreshPointer). T (is_accepted a.verdict)) (sym made) tt) in
    let setup : x.base.setup ≡ u = ap (λ (a : FreshPointer). a.state.base.setup) made in
    let short : (fresh_reader_call s v).state ≡ short_pupil s v x.base =
    ap (λ (a : FreshReader). a.state) (reader-made s v (is_true _ (short-setup l s u v h good)))
    ∙ ap (λ r. record { setup = v; reader = r }) (ap fresh_reader (panel-cut l s u v h) ∙ fresh-cut (length s.axes) s.records p h.records)
    ∙ sym (ap (λ (a : FreshPointer). short_pupil s v a.state.base) made) in
    ap (λ a. run_call s a (pointer_written_all l x ks)) short
    ∙ pointer_narrow l s v x g able small fine (subst (λ z. Shorter l s z v) (sym setup) h) ks

-- ---- the cranes

-- Given all bytes that the product's writer wrote so far, a crane's reader shows the first four numbers of the writer's slots, and skipped the sizes and
-- the emulated events alone.
pub crane-points : (on : Bool) (u : Setup) → T (setup_good base u) → u.slots ≤ crane_records → (ks : List FrameCall)
    → (let x = (fresh_pointer_call base on u).state in
    let bs = pointer_written_all base x ks in
    run_call crane (fresh_reader_call crane (crane_setup u)).state bs ≡ pointed_ran base crane (crane_setup u) (pointer_wrote_all base x ks).base (events_of bs))
crane-points on u g few ks =
    let h : Shorter base crane u (crane_setup u) = record { axes = refl; records = omega arith; slots = refl; held = few; largest = refl } in
    pointer_narrow_fresh base crane on u (crane_setup u) ks tt tt tt g h
