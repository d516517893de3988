-- Two counts added to a third one after the other are added at once, and adding none changes nothing; and no more is counted than there are events.
-- Cited by Cut, Shows and the crates follow and pieces. Assumes nothing.
use mathlib.Core.Path.{◌≡◌, refl}
use mathlib.Core.Bool.{Bool, true, false, cond}
use mathlib.Core.List.{List, [], ◌∷◌, map}
use Prim.Native.Nat.{◌+◌, ◌≤◌}
use native.Mathlib.Omega.{arith}
use lib.ListN.{length, length-map}
use Rattle.model.specs.Panel.{Panel}
use Rattle.model.specs.Table.{ids_differ}
use Rattle.model.specs.Events.{Event, Act, skip, bad, report, loss, slot, number, of_type, of_code, classify}
use Rattle.model.specs.Reader.{Skipped, none, event, earlier, Counts, nothing, plus}
use Rattle.model.specs.Reader.{Mode, following, dropped, stale, Reader, step, one_shown, one_bad, count_in, count_all, run}
use Rattle.model.specs.Pieces.{total}

earlier_assoc : (a b c : Skipped) → earlier (earlier a b) c ≡ earlier a (earlier b c)
earlier_assoc none b c = refl
earlier_assoc (event t k) b c = refl

pub earlier-none : (a : Skipped) → earlier a none ≡ a
earlier-none none = refl
earlier-none (event t k) = refl

pub plus_assoc : (a b c : Counts) → plus (plus a b) c ≡ plus a (plus b c)
plus_assoc a b c =
    let p : a.shown + b.shown + c.shown ≡ a.shown + (b.shown + c.shown) = omega arith in
    let q : a.types + b.types + c.types ≡ a.types + (b.types + c.types) = omega arith in
    let k : a.codes + b.codes + c.codes ≡ a.codes + (b.codes + c.codes) = omega arith in
    let r : a.bad + b.bad + c.bad ≡ a.bad + (b.bad + c.bad) = omega arith in
    let s : a.ignored + b.ignored + c.ignored ≡ a.ignored + (b.ignored + c.ignored) = omega arith in
    rw (p, q, k, r, s, earlier_assoc a.first b.first c.first)

pub plus_none : (a : Counts) → plus a nothing ≡ a
plus_none a =
    let p : a.shown + 0 ≡ a.shown = omega arith in
    let q : a.types + 0 ≡ a.types = omega arith in
    let k : a.codes + 0 ≡ a.codes = omega arith in
    let r : a.bad + 0 ≡ a.bad = omega arith in
    let s : a.ignored + 0 ≡ a.ignored = omega arith in
    rw (p, q, k, r, s, earlier-none a.first)

pub none-plus : (a : Counts) → plus nothing a ≡ a
none-plus a =
    let p : 0 + a.shown ≡ a.shown = omega arith in
    let q : 0 + a.types ≡ a.types = omega arith in
    let k : 0 + a.codes ≡ a.codes = omega arith in
    let r : 0 + a.bad ≡ a.bad = omega arith in
    let s : 0 + a.ignored ≡ a.ignored = omega arith in
    rw (p, q, k, r, s)

-- ---- how much is counted

counted_one : (m : Mode) (r : Reader) (a : Act) → total (count_in m r a) ≤ 1
counted_one following r (skip of_type t c) = omega arith
counted_one following r (skip of_code t c) = omega arith
counted_one following r bad = omega arith
counted_one following r report = by_ids (ids_differ r.pending)
  where
    by_ids : (b : Bool) → total (cond b one_shown one_bad) ≤ 1
    by_ids true = omega arith
    by_ids false = omega arith
counted_one following r loss = omega arith
counted_one following r (slot k) = omega arith
counted_one following r (number i v) = omega arith
counted_one dropped r a = omega arith
counted_one stale r a = omega arith

counted-few : (r : Reader) (xs : List Act) → total (count_all r xs) ≤ length xs
counted-few r [] = omega arith
counted-few r (a ∷ xs) = omega (arith, counted_one r.mode r a, counted-few (step r a) xs)

-- An event adds to one count at most, so a run counts no more than it has events.
pub run-few : (p : Panel) (r : Reader) (es : List Event) → total (run p r es).counts ≤ length es
unfolding run
run-few p r es = omega (arith, counted-few r (map (classify p) es), length-map es (classify p))
