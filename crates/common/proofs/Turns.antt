-- A turn of a reader's loop, as the model sees it: one law for each arm, over the loop's locals. Tables of any slots: `see` is how one is seen.
-- Cited by the proofs of `follow`, the product's and the cranes'. Assumes nothing.
use mathlib.Core.Path.{◌≡◌, refl, sym, ap, ◌∙◌, subst}
use mathlib.Core.Bool.{Bool, true, false, false≢true}
use mathlib.Core.List.{List, [], ◌∷◌, map}
use Prim.Native.Nat.{ℕ, zero, suc, ◌+◌, ◌-◌, ◌*◌, ◌<◌}
use native.Mathlib.Omega.{arith}
use lib.Dec.{ltb→lt}
use lib.IntN.{ℤ}
use lib.ListN.{length, get_or, set, drop, replicate, length-set}
use lib.Seq.{drop-set-lt}
use Rattle.model.specs.Panel.{Panel}
use Rattle.model.specs.Table as T
use Rattle.model.specs.Events as E
use Rattle.model.specs.Events.{classify}
use Rattle.model.specs.Records.{event_at, events_from}
use Rattle.model.specs.Reader as R
use Rattle.model.specs.Reader.{settled_at}
use Rattle.model.proofs.Counts.{earlier-none}
use Rattle.model.proofs.ReaderSteady.{Fit, fit}
use Rattle.common.specs.Runs.{onward, counted}
use Rattle.common.proofs.Runs.{onward-next}

-- A slot that an event selects is one of the panel's.
pub selected : (p : Panel) (e : E.Event) (j : ℕ) → classify p e ≡ E.slot j → j < p.slots
selected p e j q = ltb→lt j p.slots (subst (Fit p.fields p.slots) q (fit p e))

-- ---- a store to a slot; slot d stands past the table's end

module _ {A : Type 0} (see : A → T.Slot) (d : A) where
  on_slot-set : (f : T.Slot → T.Slot) (t : List A) (c : ℕ) (x : A) → c < length t → see x ≡ f (see (get_or t c d)) → R.on_slot (map see t) c f ≡ map see (set t c x)
  on_slot-set f [] c x l e = absurd (omega arith)
  on_slot-set f (y ∷ t) zero x l e = ap {B = T.Table} (λ s. s ∷ map see t) (sym e)
  on_slot-set f (y ∷ t) (suc c) x l e = ap {B = T.Table} (λ u. see y ∷ u) (on_slot-set f t c x (omega arith) e)

  ids-stay : (t : List A) (c : ℕ) (x : A) → T.id_of (see x) ≡ T.id_of (see (get_or t c d)) → T.ids (map see (set t c x)) ≡ T.ids (map see t)
  ids-stay [] c x e = refl
  ids-stay (y ∷ t) zero x e = ap {B = List ℤ} (λ v. v ∷ T.ids (map see t)) e
  ids-stay (y ∷ t) (suc c) x e = ap {B = List ℤ} (λ l. T.id_of (see y) ∷ l) (ids-stay t c x e)

-- ---- the pending table, of m records; slot u is an unused one

-- What the loop holds of it: its size, that it was never used past n slots, and that its ids differ unless one was written.
pub record Pending {A : Type 0} (see : A → T.Slot) (d u : A) (m n : ℕ) (written : Bool) (t : List A) : Type 0 where
  pub full : length t ≡ m
  pub rest : map see (drop n t) ≡ map see (drop n (replicate m u))
  pub apart : written ≡ false → T.ids_differ (map see t) ≡ true

-- A table whose ids nobody compared.
pub uncompared : {A : Type 0} (see : A → T.Slot) (d u : A) (m n : ℕ) (t : List A) → length t ≡ m → map see (drop n t) ≡ map see (drop n (replicate m u))
    → Pending see d u m n true t
uncompared see d u m n t e r = record { full = e; rest = r; apart = λ w. absurd (false≢true (sym w)) }

module _ {A : Type 0} {see : A → T.Slot} {d u : A} {m : ℕ} where
  pub compared : (n : ℕ) (w o : Bool) (t : List A) → Pending see d u m n w t → T.ids_differ (map see t) ≡ true → Pending see d u m n o t
  compared n w o t p q = record { full = p.full; rest = p.rest; apart = λ e. q }

  module _ (n : ℕ) (w : Bool) (t : List A) (p : Pending see d u m n w t) (c : ℕ) (x : A) (h : c < n) where
    size-stays : length (set t c x) ≡ m
    size-stays = length-set t c x ∙ p.full

    rest-stays : map see (drop n (set t c x)) ≡ map see (drop n (replicate m u))
    rest-stays = ap (map see) (drop-set-lt n t c x h) ∙ p.rest

    pub with_id : Pending see d u m n true (set t c x)
    with_id = uncompared see d u m n (set t c x) size-stays rest-stays

    pub with_number : T.id_of (see x) ≡ T.id_of (see (get_or t c d)) → Pending see d u m n w (set t c x)
    with_number e = record { full = size-stays; rest = rest-stays; apart = λ f. ap T.live_differ (ids-stay see d t c x e) ∙ p.apart f }

-- ---- a turn of the loop

-- The counts of a run that follows: what was shown, and what was skipped.
abbrev pub sofar : ℕ → ℕ → ℕ → R.Skipped → R.Counts
sofar a t c f = counted a t c 0 f

-- Where a turn stands: the panel and the call's bytes, the record that it reads, and the loop's locals before it. Slot d stands past a table's end.
pub record Place {A : Type 0} (see : A → T.Slot) (d : A) : Type 0 where
  pub panel : Panel
  pub bytes : List ℕ
  pub count : ℕ
  pub k : ℕ
  pub inside : k < count
  pub shown : List A
  pub pending : List A
  pub current : ℕ
  pub frames : ℕ
  pub types : ℕ
  pub codes : ℕ
  pub first : R.Skipped

module _ {A : Type 0} {see : A → T.Slot} {d : A} (w : Place see d) where
  abbrev pub before : R.Reader
  before = R.follow (map see w.shown) (map see w.pending) w.current

  abbrev pub so : R.Counts
  so = sofar w.frames w.types w.codes w.first

  -- What the record asks.
  abbrev pub asks : E.Act
  asks = classify w.panel (event_at w.bytes (8 * w.k))

  -- The events from record k on.
  abbrev pub from : ℕ → List E.Event
  from k = events_from (w.count - k) w.bytes (8 * k)

  -- What is left of the run is what is left after the turn, with this reader and these counts.
  abbrev pub Goes : R.Reader → R.Counts → Type 0
  Goes r t = onward w.panel before so (from w.k) ≡ onward w.panel r t (from (w.k + 1))

  turn : (x : E.Act) → asks ≡ x → Goes (R.step_following before x) (R.plus so (R.count_following before x))
  turn x e =
      onward-next w.panel before so w.bytes w.count w.k w.inside
      ∙ ap (λ y. onward w.panel (R.step_following before y) (R.plus so (R.count_following before y)) (from (w.k + 1))) e

  with_counts : (r : R.Reader) (t v : R.Counts) → Goes r t → t ≡ v → Goes r v
  with_counts r t v p e = p ∙ ap (λ z. onward w.panel r z (from (w.k + 1))) e

  frames+0 : w.frames + 0 ≡ w.frames
  frames+0 = omega arith

  types+0 : w.types + 0 ≡ w.types
  types+0 = omega arith

  codes+0 : w.codes + 0 ≡ w.codes
  codes+0 = omega arith

  same-counts : R.plus so R.nothing ≡ so
  same-counts = rw (frames+0, types+0, codes+0, earlier-none w.first)

  one-bad : R.plus so R.one_bad ≡ counted w.frames w.types w.codes 1 w.first
  one-bad = rw (frames+0, types+0, codes+0, earlier-none w.first)

  pub skips-type : (t c : ℕ) → asks ≡ E.skip E.of_type t c
      → Goes before (sofar w.frames (w.types + 1) w.codes (R.earlier w.first (R.event t c)))
  skips-type t c e = with_counts before _ _ (turn (E.skip E.of_type t c) e) (rw (frames+0, codes+0))

  pub skips-code : (t c : ℕ) → asks ≡ E.skip E.of_code t c
      → Goes before (sofar w.frames w.types (w.codes + 1) (R.earlier w.first (R.event t c)))
  skips-code t c e = with_counts before _ _ (turn (E.skip E.of_code t c) e) (rw (frames+0, types+0))

  pub selects : (j : ℕ) → asks ≡ E.slot j → Goes (R.follow (map see w.shown) (map see w.pending) j) so
  selects j e = with_counts _ _ _ (turn (E.slot j) e) same-counts

  pub shows : asks ≡ E.report → T.ids_differ (map see w.pending) ≡ true
      → Goes (R.follow (map see w.pending) (map see w.pending) w.current) (sofar (w.frames + 1) w.types w.codes w.first)
  shows e q = with_counts _ _ _ (rw q at (turn E.report e)) (rw (types+0, codes+0, earlier-none w.first))

  pub repeats : asks ≡ E.report → T.ids_differ (map see w.pending) ≡ false
      → Goes (settled_at (map see w.shown) w.current R.stale) (counted w.frames w.types w.codes 1 w.first)
  repeats e q = with_counts _ _ _ (rw q at (turn E.report e)) one-bad

  pub drops : asks ≡ E.loss → Goes (settled_at (map see w.shown) w.current R.dropped) so
  drops e = with_counts _ _ _ (turn E.loss e) same-counts

  pub spoils : asks ≡ E.bad → Goes (settled_at (map see w.shown) w.current R.dropped) (counted w.frames w.types w.codes 1 w.first)
  spoils e = with_counts _ _ _ (turn E.bad e) one-bad

  -- A number, where x is the slot with it.
  pub stores : (i : ℕ) (v : ℤ) (x : A) → asks ≡ E.number i v → w.current < length w.pending
      → see x ≡ set (see (get_or w.pending w.current d)) i v
      → Goes (R.follow (map see w.shown) (map see (set w.pending w.current x)) w.current) so
  stores i v x e h q =
      let stored = on_slot-set see d (λ z. set z i v) w.pending w.current x h q in
      with_counts _ _ _
      (turn (E.number i v) e
      ∙ ap (λ p. onward w.panel (R.follow (map see w.shown) p w.current) (R.plus so R.nothing) (from (w.k + 1))) stored)
      same-counts
