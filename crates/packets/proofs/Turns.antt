-- What the loop of `read_packets` knows after so many records: its start, a turn, its end. Cited by the proof of `read_packets`. Assumes nothing.
use mathlib.Core.Path.{◌≡◌, refl, sym, ap, ap₂, ◌∙◌}
use mathlib.Core.Bool.{Bool, true, false, false≢true}
use mathlib.Core.List.{List, [], ◌∷◌, ◌++◌, map, append_assoc, append-nil}
use Prim.Native.Nat.{ℕ, zero, suc, ◌+◌, ◌-◌, ◌*◌, ◌/◌, ◌≤◌, ◌<◌}
use native.Mathlib.Omega.{arith}
use borrow.Author.Tests.{not-true, not-false}
use lib.IntN.{ℤ, pos}
use lib.ListN.{length, get_or, set, length-append, length-map}
use Rattle.model.specs.Records.{event_at, events_from, events_of}
use Rattle.model.specs.Packets as P
use Rattle.model.specs.Packets.{Packet, contact_of, said, heard, blank, is_blank, closed, left_open, finished, packets_of}
use Rattle.model.proofs.Packets.{closed_on}
use Rattle.packets.specs.declared.Said.{Said}
use Rattle.packets.specs.declared.Said.TheVariants.{Skipped, X, Y, Pressure, Close, Report, Loss}
use Rattle.packets.specs.declared.Walk.{Walk}
use Rattle.packets.specs.declared.Packets.{Packets}
use Rattle.packets.specs.Seen.{said_by, packet_in, most, padded, column, packets_from}
use Rattle.packets.specs.Walk.{Walked, walk_of, walks, closes_in, packets_at}
use Rattle.packets.proofs.Walks.{start, said_at, walks-on, walked_packet, walked_count, finishes}

-- ---- what is held of contacts

-- Number i of each contact, as the answer holds it.
abbrev held : ℕ → List Packet → List ℤ
held i l = padded most (column i (map contact_of l))

-- One contact more: stored behind the others,
padded-more : (i : ℕ) (c : Packet) (l : List Packet) (k : ℕ)
    → padded k (column i (map contact_of (l ++ (c ∷ [])))) ≡ set (padded k (column i (map contact_of l))) (length l) (get_or (contact_of c) i (pos 0))
padded-more i c [] zero = refl
padded-more i c [] (suc k) = refl
padded-more i c (d ∷ l) zero = refl
padded-more i c (d ∷ l) (suc k) = ap (λ r. get_or (contact_of d) i (pos 0) ∷ r) (padded-more i c l k)

-- or only counted, where all places are taken.
padded-full : (i : ℕ) (c : Packet) (l : List Packet) (k : ℕ) → k ≤ length l
    → padded k (column i (map contact_of (l ++ (c ∷ [])))) ≡ padded k (column i (map contact_of l))
padded-full i c [] zero h = refl
padded-full i c [] (suc k) h = absurd (omega arith)
padded-full i c (d ∷ l) zero h = refl
padded-full i c (d ∷ l) (suc k) h = ap (λ r. get_or (contact_of d) i (pos 0) ∷ r) (padded-full i c l k (omega arith))

padded-length : (k : ℕ) (l : List ℤ) → length (padded k l) ≡ k
padded-length zero l = refl
padded-length (suc k) [] = ap suc (padded-length k [])
padded-length (suc k) (v ∷ l) = ap suc (padded-length k l)

-- ---- what a record closes

pub closes_none : (p : Packet) (a : Said) (v : ℤ) → closes_in p a ≡ false → closed p (said_by a v) ≡ []
closes_none p Skipped v e = refl
closes_none p X v e = refl
closes_none p Y v e = refl
closes_none p Pressure v e = refl
closes_none p Close v e = rw (not-false (is_blank p) e)
closes_none p Report v e = refl
closes_none p Loss v e = refl

pub closes_one : (p : Packet) (a : Said) (v : ℤ) → closes_in p a ≡ true → closed p (said_by a v) ≡ p ∷ []
closes_one p Skipped v e = absurd (false≢true e)
closes_one p X v e = absurd (false≢true e)
closes_one p Y v e = absurd (false≢true e)
closes_one p Pressure v e = absurd (false≢true e)
closes_one p Close v e = rw (not-true (is_blank p) e)
closes_one p Report v e = absurd (false≢true e)
closes_one p Loss v e = absurd (false≢true e)

-- ---- after k records

-- What the records from k on say.
abbrev rest : List ℕ → ℕ → List P.Said
rest s k = heard (events_from (length s / 8 - k) s (8 * k))

-- The contacts closed so far are counted and held; what is left gives the whole frame's contacts and the whole walk.
pub record Read (s : List ℕ) (x y p : List ℤ) (w : Walk) (k : ℕ) : Type 0 where
  pub before : List Packet
  pub inside : k ≤ length s / 8
  pub counted : w.count ≡ length before
  pub few : w.count ≤ k
  pub xs : x ≡ held 0 before
  pub ys : y ≡ held 1 before
  pub ps : p ≡ held 2 before
  pub x-length : length x ≡ most
  pub y-length : length y ≡ most
  pub p_length : length p ≡ most
  pub left : before ++ closed (packet_in w) (rest s k) ≡ closed blank (heard (events_of s))
  pub walked : walks (walk_of w) (rest s k) ≡ walks start (heard (events_of s))

-- The start: nothing was read.
pub read-begins : (s : List ℕ) (w : Walk) → walk_of w ≡ start → Read s (held 0 []) (held 1 []) (held 2 []) w 0
read-begins s w e =
    let z : length s / 8 - 0 ≡ length s / 8 = omega arith in
    let n : w.count ≡ 0 = ap (λ (v : Walked). v.count) e in
    record {
      before = [];
      inside = omega arith;
      counted = n;
      few = omega arith;
      xs = refl;
      ys = refl;
      ps = refl;
      x-length = refl;
      y-length = refl;
      p_length = refl;
      left = rw z (ap (λ (v : Walked). closed v.packet (heard (events_of s))) e);
      walked = rw z (ap (λ v. walks v (heard (events_of s))) e);
    }

rest-is : (s : List ℕ) (k : ℕ) → k < length s / 8 → rest s k ≡ said (event_at s (8 * k)) ++ rest s (k + 1)
unfolding events_from
rest-is s k h =
    let z : length s / 8 - k ≡ suc (length s / 8 - (k + 1)) = omega arith in
    let q : 8 * k + 8 ≡ 8 * (k + 1) = omega arith in
    rw (z, q)

rest-none : (s : List ℕ) (k : ℕ) → length s / 8 ≤ k → rest s k ≡ []
unfolding events_from
rest-none s k h = let z : length s / 8 - k ≡ 0 = omega arith in rw z

-- ---- a turn: the record says a, and the walk goes on to v

module _ {s : List ℕ} {x y p : List ℤ} {w : Walk} {k : ℕ} (r : Read s x y p w k) (h : k < length s / 8)
    (a : List P.Said) (is : a ≡ said (event_at s (8 * k))) (v : Walk) (on : walk_of v ≡ walks (walk_of w) a) where
  rest_a : rest s k ≡ a ++ rest s (k + 1)
  rest_a = rest-is s k h ∙ ap (λ l. l ++ rest s (k + 1)) (sym is)

  open_is : packet_in v ≡ left_open (packet_in w) a
  open_is = ap (λ (u : Walked). u.packet) on ∙ walked_packet (walk_of w) a

  walked_on : walks (walk_of v) (rest s (k + 1)) ≡ walks start (heard (events_of s))
  walked_on = ap (λ u. walks u (rest s (k + 1))) on ∙ sym (walks-on (walk_of w) a (rest s (k + 1))) ∙ ap (walks (walk_of w)) (sym rest_a) ∙ r.walked

  left-on : (r.before ++ closed (packet_in w) a) ++ closed (packet_in v) (rest s (k + 1)) ≡ closed blank (heard (events_of s))
  left-on =
      let m = rest s (k + 1) in
      append_assoc r.before (closed (packet_in w) a) (closed (packet_in v) m)
      ∙ ap (λ o. r.before ++ (closed (packet_in w) a ++ closed o m)) open_is
      ∙ ap (λ l. r.before ++ l) (sym (closed_on a (packet_in w) m) ∙ ap (closed (packet_in w)) (sym rest_a))
      ∙ r.left

  count-on : v.count ≡ w.count + length (closed (packet_in w) a)
  count-on = ap (λ (u : Walked). u.count) on ∙ walked_count (walk_of w) a

  -- It closes no contact,
  pub read-passes : closed (packet_in w) a ≡ [] → Read s x y p v (k + 1)
  read-passes none =
      let n : v.count ≡ w.count + 0 = count-on ∙ ap (λ (l : List Packet). w.count + length l) none in
      record {
        before = r.before;
        inside = omega arith;
        counted = omega (arith, n, r.counted);
        few = omega (arith, n, r.few);
        xs = r.xs;
        ys = r.ys;
        ps = r.ps;
        x-length = r.x-length;
        y-length = r.y-length;
        p_length = r.p_length;
        left = ap (λ l. l ++ closed (packet_in v) (rest s (k + 1))) (sym (append-nil r.before) ∙ ap (λ l. r.before ++ l) (sym none)) ∙ left-on;
        walked = walked_on;
      }

  -- or the open packet, whose numbers are then held,
  adds : {x' y' p' : List ℤ} → closed (packet_in w) a ≡ packet_in w ∷ []
      → x' ≡ held 0 (r.before ++ (packet_in w ∷ [])) → y' ≡ held 1 (r.before ++ (packet_in w ∷ [])) → p' ≡ held 2 (r.before ++ (packet_in w ∷ []))
      → Read s x' y' p' v (k + 1)
  adds one ex ey ep =
      let n : v.count ≡ w.count + 1 = count-on ∙ ap (λ (l : List Packet). w.count + length l) one in
      record {
        before = r.before ++ (packet_in w ∷ []);
        inside = omega arith;
        counted = omega (arith, n, r.counted, length-append r.before (packet_in w ∷ []));
        few = omega (arith, n, r.few);
        xs = ex;
        ys = ey;
        ps = ep;
        x-length = ap length ex ∙ padded-length most (column 0 (map contact_of (r.before ++ (packet_in w ∷ []))));
        y-length = ap length ey ∙ padded-length most (column 1 (map contact_of (r.before ++ (packet_in w ∷ []))));
        p_length = ap length ep ∙ padded-length most (column 2 (map contact_of (r.before ++ (packet_in w ∷ []))));
        left = ap (λ l. (r.before ++ l) ++ closed (packet_in v) (rest s (k + 1))) (sym one) ∙ left-on;
        walked = walked_on;
      }

  more : (i : ℕ) (z : List ℤ) (u : ℤ) → z ≡ held i r.before → u ≡ get_or (contact_of (packet_in w)) i (pos 0)
      → set z w.count u ≡ held i (r.before ++ (packet_in w ∷ []))
  more i z u e f = rw (e, f, r.counted) (sym (padded-more i (packet_in w) r.before most))

  pub read_adds : closed (packet_in w) a ≡ packet_in w ∷ [] → (a₀ a₁ a₂ : ℤ)
      → a₀ ≡ get_or (contact_of (packet_in w)) 0 (pos 0) → a₁ ≡ get_or (contact_of (packet_in w)) 1 (pos 0) → a₂ ≡ get_or (contact_of (packet_in w)) 2 (pos 0)
      → Read s (set x w.count a₀) (set y w.count a₁) (set p w.count a₂) v (k + 1)
  read_adds one a₀ a₁ a₂ e₀ e₁ e₂ = adds one (more 0 x a₀ r.xs e₀) (more 1 y a₁ r.ys e₁) (more 2 p a₂ r.ps e₂)

  full : (i : ℕ) (z : List ℤ) → most ≤ w.count → z ≡ held i r.before → z ≡ held i (r.before ++ (packet_in w ∷ []))
  full i z g e = e ∙ sym (padded-full i (packet_in w) r.before most (omega (arith, r.counted)))

  -- or are only counted.
  pub read-counts : closed (packet_in w) a ≡ packet_in w ∷ [] → most ≤ w.count → Read s x y p v (k + 1)
  read-counts one g = adds one (full 0 x g r.xs) (full 1 y g r.ys) (full 2 p g r.ps)

-- ---- the end

abbrev packets_with : ℕ → List ℤ → List ℤ → List ℤ → Bool → Packets
packets_with n x y p b = record { count = n; x = x; y = y; pressure = p; sound = b }

pub read-ends : {s : List ℕ} {x y p : List ℤ} {w : Walk} {k : ℕ} → Read s x y p w k → length s / 8 ≤ k
    → packets_at (walk_of w) x y p ≡ packets_from (packets_of (events_of s))
unfolding packets_of
read-ends {s} {x} {y} {p} {w} {k} r h =
    let H = heard (events_of s) in
    let C = closed blank H in
    let all : r.before ≡ C = sym (append-nil r.before) ∙ ap (λ l. r.before ++ closed (packet_in w) l) (sym (rest-none s k h)) ∙ r.left in
    let end : walk_of w ≡ walks start H = ap (walks (walk_of w)) (sym (rest-none s k h)) ∙ r.walked in
    let n : w.count ≡ length (map contact_of C) = r.counted ∙ ap length all ∙ sym (length-map C contact_of) in
    let b : said_at (walk_of w) ≡ finished H = ap said_at end ∙ finishes H in
    ap₂ (λ m c. packets_with m x y p c) n b
    ∙ ap₂ (λ z u. packets_with (length (map contact_of C)) z u p (finished H)) (r.xs ∙ ap (held 0) all) (r.ys ∙ ap (held 1) all)
    ∙ ap (λ z. packets_with (length (map contact_of C)) (held 0 C) (held 1 C) z (finished H)) (r.ps ∙ ap (held 2) all)
