-- The seven places of the bytes held as they are read and stored one by one, and a state laid over bytes part by part is laid there whole. Cited by the proofs of the functions. Assumes nothing.
use mathlib.Core.Path.{◌≡◌, refl, sym, ap, ap₂, ◌∙◌}
use mathlib.Core.Bool.{true}
use mathlib.Core.List.{List, [], ◌∷◌, ◌++◌, append_assoc}
use Prim.Native.Nat.{ℕ, ◌+◌, ◌≤◌, ◌<◌}
use native.Mathlib.Omega.{arith}
use lib.Dec.{eqb}
use lib.ListN.{length, get_or, take, drop, length-append, length-drop}
use lib.Seq.{get_or-take, get_or-drop, length-take-le, sets, sets-eq}
use borrow.Author.Tests.{eqb-true}
use Rattle.model.specs.Panel.{base}
use Rattle.model.specs.Records.{lay}
use Rattle.model.specs.States.{reader_good}
use Rattle.model.specs.Pieces.{places, line_good}
use Rattle.model.proofs.Bools.{is_true, holds, and_left}
use Rattle.model.proofs.Pieces.{line_facts}
use Rattle.records.proofs.Over.{lay-lay}
use Rattle.reader.specs.States as R
use Rattle.pieces.specs.declared.LineState.{LineState}
use Rattle.pieces.specs.Seen.{seen}
use Rattle.lent_reader.specs.Layout.{body_size, head_bytes, body_bytes}
use Rattle.lent_reader.proofs.Laid.{body-length, lay_all}
use Rattle.lent_reader.proofs.Stored.{good-shown, good-pending}
use Rattle.lent_line.specs.Layout.{line_kind, left_at, line_size, formed, tail_bytes, packed}

pub formed-length : (b : List ℕ) → formed b ≡ true → length b ≡ line_size
formed-length b e = eqb-true (length b) line_size (and_left (eqb (length b) line_size) _ e)

-- ---- the seven places

abbrev listed : List ℕ → List ℕ
listed l = get_or l 0 0 ∷ get_or l 1 0 ∷ get_or l 2 0 ∷ get_or l 3 0 ∷ get_or l 4 0 ∷ get_or l 5 0 ∷ get_or l 6 0 ∷ []

seven : (l : List ℕ) → length l ≡ places → listed l ≡ l
seven [] e = absurd (omega (arith, e))
seven (a ∷ []) e = absurd (omega (arith, e))
seven (a ∷ b ∷ []) e = absurd (omega (arith, e))
seven (a ∷ b ∷ c ∷ []) e = absurd (omega (arith, e))
seven (a ∷ b ∷ c ∷ d ∷ []) e = absurd (omega (arith, e))
seven (a ∷ b ∷ c ∷ d ∷ f ∷ []) e = absurd (omega (arith, e))
seven (a ∷ b ∷ c ∷ d ∷ f ∷ g ∷ []) e = absurd (omega (arith, e))
seven (a ∷ b ∷ c ∷ d ∷ f ∷ g ∷ h ∷ []) e = refl
seven (a ∷ b ∷ c ∷ d ∷ f ∷ g ∷ h ∷ k ∷ l) e = absurd (omega (arith, e))

-- Read one by one.
pub left-read : (b : List ℕ) → length b ≡ line_size
    → get_or b 1568 0 ∷ get_or b 1569 0 ∷ get_or b 1570 0 ∷ get_or b 1571 0 ∷ get_or b 1572 0 ∷ get_or b 1573 0 ∷ get_or b 1574 0 ∷ [] ≡ take places (drop left_at b)
left-read b n =
    let l = take places (drop left_at b) in
    let at : (i : ℕ) → i < places → get_or b (left_at + i) 0 ≡ get_or l i 0 = λ i h. sym (get_or-take places (drop left_at b) i 0 h ∙ get_or-drop left_at b i 0) in
    let long : length l ≡ places = length-take-le places (drop left_at b) (omega (arith, n, length-drop left_at b)) in
    rw (at 0 (omega arith), at 1 (omega arith), at 2 (omega arith), at 3 (omega arith), at 4 (omega arith), at 5 (omega arith), at 6 (omega arith)) (seven l long)

-- Stored one by one, and a 0 behind them.
pub left-stored : (left b : List ℕ) → length left ≡ places → length b ≡ line_size → sets b left_at (listed left ++ (0 ∷ [])) ≡ lay left_at (tail_bytes left) b
unfolding lay
left-stored left b e n =
    let bs = listed left ++ (0 ∷ []) in
    let end : line_size ≡ left_at + length (tail_bytes left) = omega (arith, length-append left (0 ∷ []), e) in
    sets-eq bs b left_at (omega (arith, n)) ∙ append_assoc (take left_at b) bs (drop line_size b)
    ∙ ap₂ (λ l k. take left_at b ++ (tail_bytes l ++ drop k b)) (seven left e) end

-- ---- a state that can be stored

-- The reader's part is good, and the bytes held are at most as many as there are places.
pub record Ready (s : LineState) : Type 0 where
  pub good : reader_good base (R.seen s.reader) ≡ true
  pub left : length s.left ≡ places
  pub few : s.count ≤ places

-- A good state is.
pub ready : (s : LineState) → line_good base (seen s) ≡ true → Ready s
ready s g = let f = line_facts base (seen s) (holds _ g) in record { good = is_true _ f.reader; left = f.sized; few = f.few }

module _ (s : LineState) (r : Ready s) where
  body_long : length (body_bytes s.reader) ≡ body_size
  body_long = body-length s.reader (good-shown s.reader r.good) (good-pending s.reader r.good)

  pub packed-length : length (packed s) ≡ line_size
  unfolding packed
  packed-length = omega (arith, body_long, length-append (body_bytes s.reader) (tail_bytes s.left), length-append s.left (0 ∷ []), r.left)

  -- Stored over as many bytes as it has, it is all of them.
  pub ready-laid : (b : List ℕ) → length b ≡ line_size
      → lay left_at (tail_bytes s.left) (lay 0 (head_bytes line_kind s.reader.mode s.count ++ body_bytes s.reader) b) ≡ packed s
  unfolding packed
  ready-laid b n =
      let head = head_bytes line_kind s.reader.mode s.count in
      let front = head ++ body_bytes s.reader in
      let tail = tail_bytes s.left in
      let at : left_at ≡ 0 + length front = omega (arith, body_long) in
      ap (λ k. lay k tail (lay 0 front b)) at
      ∙ lay-lay 0 front tail b (omega (arith, body_long, n))
      ∙ ap (λ l. lay 0 l b) (append_assoc head (body_bytes s.reader) tail)
      ∙ lay_all (head ++ (body_bytes s.reader ++ tail)) b (packed-length ∙ sym n)
