-- What a reader counts of a frame's emulated events (K6), beside what it counts of the contact events alone: while it follows, of any mode, and where it lost track before.
-- Cited by PointerFrame. Assumes nothing.
use mathlib.Core.Path.{◌≡◌, refl, sym, ap, ap₂, ◌∙◌, subst}
use mathlib.Core.Bool.{Bool, true, false, cond, ◌||◌}
use mathlib.Core.List.{List, [], ◌∷◌, ◌++◌, map, map-append}
use Prim.Native.Nat.{ℕ, suc, ◌+◌}
use native.Mathlib.Omega.{arith}
use lib.Dec.{T, eqb}
use lib.ListN.{length}
use Rattle.model.proofs.Bools.{is_true, both_left, both_right}
use Rattle.model.proofs.Count.{changed_in_self}
use Rattle.model.proofs.Counts.{earlier-none}
use Rattle.model.proofs.Cut.{counts_append}
use Rattle.model.proofs.Lost.{lost_reads}
use Rattle.model.proofs.Skips.{counts_of}
use Rattle.model.proofs.Followed.{followed-counts}
use Rattle.model.proofs.Emulated.{before_self, after_self, contact-ended, AllSkipped, read_skipped, before_skipped, after_skipped, last_event, ended_mid, no_body, reads-alone, on_top}
use Rattle.model.proofs.EmulatedNumbers.{TouchedBy, length-moves, length-buttons}
use Rattle.model.specs.Numbers.{eq_z}
use Rattle.model.specs.Panel.{Panel, unlisted, field_codes}
use Rattle.model.specs.Table.{Table}
use Rattle.model.specs.Events.{Event, Act, classify}
use Rattle.model.specs.Sending.{unless, body, events_sent}
use Rattle.model.specs.Reader as R
use Rattle.model.specs.Reader.{Mode, following, dropped, stale, Lost, Reader, step, read, Skipped, event, earlier, Counts, nothing, one_shown, ignoring, plus, count_in}
use Rattle.model.specs.Shift.{how_many, first_of, followed}
use Rattle.model.specs.Pointer.{pointer_x, pointer_y, touch_code, unpointed, Pointer, buttons, place, button, axis, events_before, moves, swaps, events_after, emulated, ended, contact_events, whole_events, first_told, with_pointer, skipped_in}

counts_eq : {a b : Counts} → a.shown ≡ b.shown → a.types ≡ b.types → a.codes ≡ b.codes → a.bad ≡ b.bad → a.ignored ≡ b.ignored → a.first ≡ b.first → a ≡ b
counts_eq s t c b n f = λ i. record { shown = s i; types = t i; codes = c i; bad = b i; ignored = n i; first = f i }

-- ---- a reader that follows

how_many_append : (f : Event → Bool) (xs ys : List Event) → how_many f (xs ++ ys) ≡ how_many f xs + how_many f ys
how_many_append f [] ys = omega arith
how_many_append f (x ∷ xs) ys = omega (arith, how_many_append f xs ys)

first_append : (f : Event → Bool) (xs ys : List Event) → first_of f (xs ++ ys) ≡ earlier (first_of f xs) (first_of f ys)
first_append f [] ys = refl
first_append f (x ∷ xs) ys =
    ap (λ m. cond (f x) (event x.type x.code) m) (first_append f xs ys) ∙ by_test (f x) (first_of f xs) (first_of f ys)
  where
    by_test : (b : Bool) (m n : Skipped) → cond b (event x.type x.code) (earlier m n) ≡ earlier (cond b (event x.type x.code) m) n
    by_test true m n = refl
    by_test false m n = refl

-- Its counts of events and then more add up.
followed_append : (g : Panel) (xs ys : List Event) → followed g (xs ++ ys) ≡ plus (followed g xs) (followed g ys)
followed_append g xs ys = counts_eq (how_many_append _ xs ys) (how_many_append _ xs ys) (how_many_append _ xs ys) refl refl (first_append _ xs ys)

-- So many of an unknown type and of an unknown code, and the first.
abbrev tells : ℕ → ℕ → Skipped → Counts
tells types codes first = record { shown = 0; types = types; codes = codes; bad = 0; ignored = 0; first = first }

-- A button is of an unknown type.
before-tells : (g : Panel) (q z : Pointer) → (let es = events_before q z in followed g es ≡ tells (length es) 0 (first_told es))
before-tells g q z = by_test (eqb q.touch z.touch)
  where
    by_test : (b : Bool) → (let es = unless b (button touch_code z.touch) [] in followed g es ≡ tells (length es) 0 (first_told es))
    by_test true = refl
    by_test false = refl

swaps_tell : (g : Panel) (a b : ℕ) → (let es = swaps a b in followed g es ≡ tells (length es) 0 (first_told es))
swaps_tell g a b = by_tests (eqb a b || eqb a 0) (eqb a b || eqb b 0)
  where
    by_tests : (s t : Bool) → (let es = unless s (button a 0) (unless t (button b 1) []) in followed g es ≡ tells (length es) 0 (first_told es))
    by_tests true true = refl
    by_tests true false = refl
    by_tests false true = refl
    by_tests false false = refl

-- ABS_X and ABS_Y are of an unknown code.
moves_tell : (g : Panel) (q z : Pointer) → T (unpointed (field_codes g.fields)) → (let es = moves q z in followed g es ≡ tells 0 (length es) (first_told es))
moves_tell g q z n =
    let cs = field_codes g.fields in
    let x = is_true (unlisted pointer_x cs) (both_left (unlisted pointer_x cs) (unlisted pointer_y cs) n) in
    let y = is_true (unlisted pointer_y cs) (both_right (unlisted pointer_x cs) (unlisted pointer_y cs) n) in
    by_tests (eq_z q.x z.x) (eq_z q.y z.y) x y
  where
    by_tests : (s t : Bool) → unlisted pointer_x (field_codes g.fields) ≡ true → unlisted pointer_y (field_codes g.fields) ≡ true
        → (let es = unless s (axis pointer_x z.x) (unless t (axis pointer_y z.y) []) in followed g es ≡ tells 0 (length es) (first_told es))
    by_tests true true x y = refl
    by_tests true false x y = rw y
    by_tests false true x y = rw x
    by_tests false false x y = rw (x, y)

first_of_two : (xs ys : List Event) → first_told (xs ++ ys) ≡ earlier (first_told xs) (first_told ys)
first_of_two [] ys = refl
first_of_two (x ∷ xs) ys = refl

after-tells : (g : Panel) (q z : Pointer) → T (unpointed (field_codes g.fields))
    → followed g (events_after q z) ≡ tells (length (swaps q.tool z.tool)) (length (moves q z)) (first_told (events_after q z))
after-tells g q z n =
    let es = swaps q.tool z.tool in
    followed_append g es (moves q z)
    ∙ ap₂ plus (swaps_tell g q.tool z.tool) (moves_tell g q z n)
    ∙ counts_eq refl (omega arith) (omega arith) refl refl (sym (first_of_two es (moves q z)))

-- A frame with a contact event: around it, and before the report.
mid_tells : (g : Panel) (a b : List Event) (e : Event) (es : List Event)
    → followed g (ended (a ++ ((e ∷ es) ++ b))) ≡ plus (plus (followed g a) (plus (followed g (e ∷ es)) (followed g b))) (followed g last_event)
mid_tells g a b e es =
    ap (followed g) (ended_mid a b e es)
    ∙ followed_append g (a ++ ((e ∷ es) ++ b)) last_event
    ∙ ap (λ x. plus x (followed g last_event)) (followed_append g a ((e ∷ es) ++ b) ∙ ap (plus (followed g a)) (followed_append g (e ∷ es) b))

no_pointer : (q : Pointer) → with_pointer q q nothing ≡ nothing
no_pointer q =
    counts_eq refl (ap (λ n. 0 + n) (changed_in_self (buttons q))) (ap (λ n. 0 + n) (changed_in_self (place q))) refl refl
    (ap₂ (λ x y. earlier (first_told x) (earlier R.none (first_told y))) (before_self q) (after_self q))

module _ (g : Panel) (a b : ℕ) (q z : Pointer) (n : T (unpointed (field_codes g.fields))) (c : TouchedBy a q) (d : TouchedBy b z) where
  around_tells : (es : List Event) → (es ≡ [] → q ≡ z) → followed g (ended (events_before q z ++ (es ++ events_after q z))) ≡ with_pointer q z (followed g (ended es))
  around_tells [] alone =
      let e = alone refl in
      subst (λ y. followed g (ended (events_before q y ++ events_after q y)) ≡ with_pointer q y nothing) e
      (ap₂ (λ x y. followed g (ended (x ++ y))) (before_self q) (after_self q) ∙ sym (no_pointer q))
  around_tells (x ∷ xs) alone =
      let m = followed g (x ∷ xs) in
      let before = events_before q z in
      let swap = swaps q.tool z.tool in
      let buttons-are = length-buttons a b q z c d in
      let moves-are = length-moves q z in
      mid_tells g before (events_after q z) x xs
      ∙ ap₂ (λ i j. plus (plus i (plus m j)) one_shown) (before-tells g q z) (after-tells g q z n)
      ∙ counts_eq (omega arith) (omega (arith, buttons-are)) (omega (arith, moves-are)) refl refl
      (earlier-none (earlier (first_told before) (earlier m.first (first_told (events_after q z))))
      ∙ ap (λ f. earlier (first_told before) (earlier f (first_told (events_after q z)))) (sym (earlier-none m.first)))
      ∙ sym (ap (with_pointer q z) (followed_append g (x ∷ xs) last_event))

  -- Following after the contact events: a changed button is one more of an unknown type, a changed X or Y one more of an unknown code, and no other count moves.
  pub counts_following : (p : Panel) (k : ℕ) (old new : Table) (r : Reader) → (body k old new ≡ [] → q ≡ z)
      → (read g r (events_sent p k old new)).mode ≡ following
      → counts_of g r (whole_events p k old new q z) ≡ with_pointer q z (counts_of g r (events_sent p k old new))
  counts_following p k old new r alone e =
      let whole = whole_events p k old new q z in
      let sent = events_sent p k old new in
      followed-counts g r whole (ap (λ (x : Reader). x.mode) (reads-alone g p k old new q z r n alone) ∙ e)
      ∙ around_tells (contact_events p k old new) (λ d. alone (no_body p (body k old new) d))
      ∙ ap (λ es. with_pointer q z (followed g es)) (sym (contact-ended p k old new))
      ∙ sym (ap (with_pointer q z) (followed-counts g r sent e))

-- ---- a reader that lost track

ignored_one : (m : Mode) (r : Reader) (a : Act) → Lost m → count_in m r a ≡ ignoring 1
ignored_one following r a l = absurd l
ignored_one dropped r a l = refl
ignored_one stale r a l = refl

-- It ignores every event.
lost_counts : (g : Panel) (r : Reader) (es : List Event) → Lost r.mode → counts_of g r es ≡ ignoring (length es)
lost_counts g r [] l = refl
lost_counts g r (e ∷ es) l =
    let z : 1 + length es ≡ suc (length es) = omega arith in
    ap₂ plus (ignored_one r.mode r (classify g e) l) (lost_counts g (step r (classify g e)) es (lost_reads g r (e ∷ []) l)) ∙ ap ignoring z

-- The emulated events too.
pub counts_lost : (g p : Panel) (c : ℕ) (old new : Table) (q z : Pointer) (r : Reader) → (body c old new ≡ [] → q ≡ z) → Lost r.mode
    → counts_of g r (whole_events p c old new q z) ≡ plus (counts_of g r (events_sent p c old new)) (ignoring (length (emulated q z)))
counts_lost g p c old new q z r s l =
    let whole = whole_events p c old new q z in
    let sent = events_sent p c old new in
    lost_counts g r whole l
    ∙ ap ignoring (on_top p c old new q z s)
    ∙ sym (ap (λ a. plus a (ignoring (length (emulated q z)))) (lost_counts g r sent l))

-- ---- a reader of any mode

skipped_counts : (g : Panel) (m : Mode) (r : Reader) (es : List Event) → r.mode ≡ m → AllSkipped g es → counts_of g r es ≡ skipped_in g m es
skipped_counts g following r es e k = followed-counts g r es (ap (λ (x : Reader). x.mode) (read_skipped g es r k) ∙ e)
skipped_counts g dropped r es e k = lost_counts g r es (subst Lost (sym e) tt)
skipped_counts g stale r es e k = lost_counts g r es (subst Lost (sym e) tt)

of_two : (g : Panel) (r : Reader) (xs ys : List Event) → counts_of g r (xs ++ ys) ≡ plus (counts_of g r xs) (counts_of g (read g r xs) ys)
of_two g r xs ys = ap (R.count_all r) (map-append (classify g) xs ys) ∙ counts_append r (map (classify g) xs) (map (classify g) ys)

-- BTN_TOUCH is counted in the mode that the frame finds, and the others in the mode that its contact events leave before the report.
pub counts_any : (g p : Panel) (c : ℕ) (old new : Table) (q z : Pointer) (r : Reader) (x : Event) (xs : List Event) → T (unpointed (field_codes g.fields))
    → contact_events p c old new ≡ x ∷ xs
    → (let s = read g r (x ∷ xs) in
    (counts_of g r (events_sent p c old new) ≡ plus (counts_of g r (x ∷ xs)) (counts_of g s last_event))
    × (counts_of g r (whole_events p c old new q z)
    ≡ plus (skipped_in g r.mode (events_before q z)) (plus (counts_of g r (x ∷ xs)) (plus (skipped_in g s.mode (events_after q z)) (counts_of g s last_event)))))
counts_any g p c old new q z r x xs n e =
    let m = x ∷ xs in
    let s = read g r m in
    let a = events_before q z in
    let b = events_after q z in
    let ka = before_skipped g q z in
    let kb = after_skipped g q z n in
    let rest = b ++ last_event in
    let cut : ended (a ++ (m ++ b)) ≡ a ++ (m ++ (b ++ last_event)) = ended_mid a b x xs ∙ apart a m b last_event in (
      ap (counts_of g r) (contact-ended p c old new ∙ ap ended e) ∙ of_two g r m last_event,
      ap (λ es. counts_of g r (ended (a ++ (es ++ b)))) e
          ∙ ap (counts_of g r) cut
          ∙ of_two g r a (m ++ rest)
          ∙ ap₂ plus (skipped_counts g r.mode r a refl ka)
          (ap (λ y. counts_of g y (m ++ rest)) (read_skipped g a r ka)
          ∙ of_two g r m rest
          ∙ ap (plus (counts_of g r m))
          (of_two g s b last_event
          ∙ ap₂ plus (skipped_counts g s.mode s b refl kb) (ap (λ y. counts_of g y last_event) (read_skipped g b s kb)))),
    )
  where
    join : (xs ys zs : List Event) → (xs ++ ys) ++ zs ≡ xs ++ (ys ++ zs)
    join [] ys zs = refl
    join (x ∷ xs) ys zs = ap {B = List Event} (λ l. x ∷ l) (join xs ys zs)

    apart : (a m b l : List Event) → (a ++ (m ++ b)) ++ l ≡ a ++ (m ++ (b ++ l))
    apart a m b l = join a (m ++ b) l ∙ ap (λ y. a ++ y) (join m b l)
