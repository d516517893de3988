-- Reading at a position: where the first 0x2B stands, the answer by cases, when it waits, and that the place moves on at every answer that does
-- not; what stands before the position does not matter, and bytes without a 0x2B are skipped. Cited by ForceCut and ForceWritten. Assumes nothing.
use mathlib.Core.Path.{◌≡◌, refl, sym, ap, ◌∙◌}
use mathlib.Core.Bool.{Bool, true, false, cond, not, ◌&&◌, false≢true}
use mathlib.Core.List.{List, [], ◌∷◌, ◌++◌}
use Prim.Native.Nat.{ℕ, suc, ◌+◌, ◌-◌, ◌≤◌, ◌<◌}
use native.Mathlib.Omega.{arith}
use lib.Dec.{ltb, eqb}
use lib.ListN.{length, get_or, take, drop, length-append, length-drop, take-append-drop, drop_of_length-le}
use lib.Seq.{length-take-le, drop-append-add, drop-drop, drop-cons, get_or-drop}
use borrow.Author.Tests.{ltb-true, ltb-false, lt-ltb, le-ltb, eqb-true, eqb-false, eq-eqb, ne_eqb}
use Rattle.model.specs.Force.{mark, unfinished, nothing, waits, Read, refuses, len_in, judged_by, packet_in}
use Rattle.model.specs.Force.{before_mark, no_mark, mark_from, moved_by, read_at, judged_up_to}
use Rattle.model.proofs.ForcePackets.{judged_head, packet-waits, packet-on, packet-refused, packet-stays}

-- ---- where the first 0x2B stands

-- What holds of a 0x2B and of every other byte holds.
by_byte : (b : ℕ) (P : Bool → Type 0) → (b ≡ mark → P true) → ((b ≡ mark → ⊥) → P false) → P (eqb b mark)
by_byte b P is other = go (eqb b mark) refl
  where
    go : (t : Bool) → eqb b mark ≡ t → P t
    go true e = is (eqb-true b mark e)
    go false e = other (eqb-false b mark e)

-- Where one is in the list it is a 0x2B,
before_found : (l : List ℕ) → before_mark l < length l → get_or l (before_mark l) 0 ≡ mark
before_found [] = λ h. absurd (omega arith)
before_found (b ∷ l) =
    by_byte b (λ t. cond t 0 (suc (before_mark l)) < length (b ∷ l) → get_or (b ∷ l) (cond t 0 (suc (before_mark l))) 0 ≡ mark)
    (λ e h. e)
    (λ n h. before_found l (omega arith))

-- and no byte before it is one.
before_clear : (l : List ℕ) → no_mark (take (before_mark l) l) ≡ true
before_clear [] = refl
before_clear (b ∷ l) =
    by_byte b (λ t. no_mark (take (cond t 0 (suc (before_mark l))) (b ∷ l)) ≡ true) (λ e. refl) (λ n. rw (ne_eqb b mark n) (before_clear l))

-- From there on none is skipped.
before_again : (l : List ℕ) → before_mark (drop (before_mark l) l) ≡ 0
before_again [] = refl
before_again (b ∷ l) =
    by_byte b (λ t. before_mark (drop (cond t 0 (suc (before_mark l))) (b ∷ l)) ≡ 0) (λ e. rw (eq-eqb b mark e)) (λ n. before_again l)

-- Bytes without one are all skipped.
pub before_skipped : (l more : List ℕ) → no_mark l ≡ true → before_mark (l ++ more) ≡ length l + before_mark more
before_skipped [] more = λ e. omega arith
before_skipped (b ∷ l) more =
    by_byte b (λ t. (not t && no_mark l) ≡ true → cond t 0 (suc (before_mark (l ++ more))) ≡ length (b ∷ l) + before_mark more)
    (λ e h. absurd (false≢true h))
    (λ n h. omega (arith, before_skipped l more h))

-- There is none where none was found.
pub before-none : (l : List ℕ) → length l ≤ before_mark l → no_mark l ≡ true
before-none [] = λ h. refl
before-none (b ∷ l) =
    by_byte b (λ t. length (b ∷ l) ≤ cond t 0 (suc (before_mark l)) → (not t && no_mark l) ≡ true)
    (λ e h. absurd (omega arith))
    (λ n h. before-none l (omega arith))

-- More bytes do not move one that is there,
pub before_longer : (l more : List ℕ) → before_mark l < length l → before_mark (l ++ more) ≡ before_mark l
before_longer [] more = λ h. absurd (omega arith)
before_longer (b ∷ l) more =
    by_byte b (λ t. cond t 0 (suc (before_mark l)) < length (b ∷ l) → cond t 0 (suc (before_mark (l ++ more))) ≡ cond t 0 (suc (before_mark l)))
    (λ e h. refl)
    (λ n h. ap suc (before_longer l more (omega arith)))

-- nor do fewer.
pub before_shorter : (l more : List ℕ) → before_mark (l ++ more) < length l → before_mark l ≡ before_mark (l ++ more)
before_shorter [] more = λ h. absurd (omega arith)
before_shorter (b ∷ l) more =
    by_byte b (λ t. cond t 0 (suc (before_mark (l ++ more))) < length (b ∷ l) → cond t 0 (suc (before_mark l)) ≡ cond t 0 (suc (before_mark (l ++ more))))
    (λ e h. refl)
    (λ n h. ap suc (before_shorter l more (omega arith)))

-- What is found from a position on is a 0x2B,
pub mark_found : (input : List ℕ) (at : ℕ) → mark_from input at < length input → get_or input (mark_from input at) 0 ≡ mark
mark_found input at h =
    sym (get_or-drop at input (before_mark (drop at input)) 0) ∙ before_found (drop at input) (omega (arith, length-drop at input))

-- and no byte from the position to it is one.
pub mark_clear : (input : List ℕ) (at : ℕ) → no_mark (take (mark_from input at - at) (drop at input)) ≡ true
mark_clear input at =
    let n : mark_from input at - at ≡ before_mark (drop at input) = omega arith in
    rw n (before_clear (drop at input))

-- ---- the answer by cases

module _ (input : List ℕ) (at : ℕ) where
  -- A packet begins at the first 0x2B from the position on.
  pub read_found : mark_from input at < length input → read_at input at ≡ moved_by (mark_from input at) (packet_in (drop (mark_from input at) input))
  unfolding read_at
  read_found h = rw (lt-ltb (mark_from input at) (length input) h)

  -- No 0x2B is left: nothing, at the end.
  pub read_none : length input ≤ mark_from input at → read_at input at ≡ record { answer = nothing; next = length input }
  unfolding read_at
  read_none h = rw (le-ltb (mark_from input at) (length input) h)

  -- What holds in both cases holds.
  pub by_read : (P : Read → Type 0)
      → (mark_from input at < length input → P (moved_by (mark_from input at) (packet_in (drop (mark_from input at) input))))
      → (length input ≤ mark_from input at → P (record { answer = nothing; next = length input }))
      → P (read_at input at)
  by_read P found none = by_place (ltb (mark_from input at) (length input)) refl
    where
      by_place : (t : Bool) → ltb (mark_from input at) (length input) ≡ t → P (read_at input at)
      by_place true e = let l = ltb-true (mark_from input at) (length input) e in rw (read_found l) (found l)
      by_place false e = let l = ltb-false (mark_from input at) (length input) e in rw (read_none l) (none l)

  -- The bytes from a place on.
  rest-length : length (drop (mark_from input at) input) ≡ length input - mark_from input at
  rest-length = length-drop (mark_from input at) input

  -- An answer waits exactly when the input ends before the bytes that it takes.
  pub read-waits : waits (read_at input at).answer ≡ ltb (length input) (judged_up_to input at)
  read-waits =
      let place = mark_from input at in
      let need = judged_by (len_in (drop place input)) in
      by_read (λ r. waits r.answer ≡ ltb (length input) (judged_up_to input at))
      (λ l. packet-waits (drop place input) ∙ by_need place need l (ltb (length (drop place input)) need) refl)
      (λ l. sym (lt-ltb (length input) (place + need) (omega (arith, judged_head (len_in (drop place input))))))
    where
      by_need : (place need : ℕ) → place < length input → (t : Bool) → ltb (length (drop place input)) need ≡ t → t ≡ ltb (length input) (place + need)
      by_need place need l true e =
          sym (lt-ltb (length input) (place + need) (omega (arith, ltb-true (length (drop place input)) need e, length-drop place input)))
      by_need place need l false e =
          sym (le-ltb (length input) (place + need) (omega (arith, ltb-false (length (drop place input)) need e, length-drop place input)))

  -- The place moves on at every answer that does not wait, and never past the end.
  pub read-on : waits (read_at input at).answer ≡ false → (at < (read_at input at).next) × ((read_at input at).next ≤ length input)
  read-on =
      let place = mark_from input at in
      by_read (λ r. waits r.answer ≡ false → (at < r.next) × (r.next ≤ length input))
      (λ l e.
      let on = packet-on (drop place input) e in
      (omega (arith, on.0), omega (arith, on.1, rest-length)))
      (λ l e. absurd (false≢true (sym e)))

  -- It is never past the end, whatever the answer,
  pub read_within : (read_at input at).next ≤ length input
  read_within = by_wait (waits (read_at input at).answer) refl
    where
      by_wait : (t : Bool) → waits (read_at input at).answer ≡ t → (read_at input at).next ≤ length input
      by_wait true e =
          by_read (λ r. waits r.answer ≡ true → r.next ≤ length input)
          (λ l q. let s = packet-stays (drop (mark_from input at) input) q in rw s (omega arith))
          (λ l q. omega arith)
          e
      by_wait false e = (read-on e).1

  -- A refused packet leaves it at the very next byte after its 0x2B,
  pub read-refused : refuses (read_at input at).answer ≡ true → (read_at input at).next ≡ mark_from input at + 1
  read-refused =
      let place = mark_from input at in
      by_read (λ r. refuses r.answer ≡ true → r.next ≡ place + 1)
      (λ l e. ap (λ n. place + n) (packet-refused (drop place input) e))
      (λ l e. absurd (false≢true e))

  -- an unfinished one at its 0x2B.
  pub read-unfinished : (read_at input at).answer ≡ unfinished → read_at input at ≡ record { answer = unfinished; next = mark_from input at }
  read-unfinished =
      let place = mark_from input at in
      by_read (λ r. r.answer ≡ unfinished → r ≡ record { answer = unfinished; next = place })
      (λ l q.
      let z : place + 0 ≡ place = omega arith in
      ap (moved_by place) (packet-stays (drop place input) (ap waits q)) ∙ ap (λ n. record { answer = unfinished; next = n }) z)
      (λ l q. let z : ◌≡◌ {A = ℕ} 0 1 = cc in absurd (omega arith))

-- ---- what stands before the position

module _ (before input : List ℕ) (at : ℕ) where
  behind : drop (length before + at) (before ++ input) ≡ drop at input
  behind = drop-append-add before input at

  mark-behind : mark_from (before ++ input) (length before + at) ≡ length before + mark_from input at
  mark-behind = ap (λ l. length before + at + before_mark l) behind ∙ omega arith

  -- Reading behind other bytes is reading, all places counted from there.
  pub read_behind : read_at (before ++ input) (length before + at) ≡ moved_by (length before) (read_at input at)
  unfolding read_at
  read_behind = rw mark-behind (by_place (ltb (mark_from input at) (length input)) refl)
    where
      rest : drop (length before + mark_from input at) (before ++ input) ≡ drop (mark_from input at) input
      rest = drop-append-add before input (mark_from input at)

      by_place : (t : Bool) → ltb (mark_from input at) (length input) ≡ t
          → cond (ltb (length before + mark_from input at) (length (before ++ input)))
          (moved_by (length before + mark_from input at) (packet_in (drop (length before + mark_from input at) (before ++ input))))
          (record { answer = nothing; next = length (before ++ input) })
          ≡ moved_by (length before) (read_at input at)
      by_place true e =
          let p = mark_from input at in
          let l = ltb-true p (length input) e in
          let q = packet_in (drop p input) in
          let sum : length before + p + q.next ≡ length before + (p + q.next) = omega arith in
          rw (lt-ltb (length before + p) (length (before ++ input)) (omega (arith, length-append before input)), rest, e)
          (ap (λ n. record { answer = q.answer; next = n }) sum)
      by_place false e =
          let p = mark_from input at in
          let l = ltb-false p (length input) e in
          rw (le-ltb (length before + p) (length (before ++ input)) (omega (arith, length-append before input)), e)
          (ap (λ n. record { answer = nothing; next = n }) (length-append before input))

-- From a first 0x2B on it is the first.
pub mark_again : (input : List ℕ) (at : ℕ) → mark_from input (mark_from input at) ≡ mark_from input at
mark_again input at =
    let n = before_mark (drop at input) in
    ap (λ l. at + n + before_mark l) (sym (drop-drop n at input)) ∙ omega (arith, before_again (drop at input))

-- The answer at a position is the answer at the first 0x2B from there on: nothing else of the position matters.
pub same_place : (input : List ℕ) (a b : ℕ) → mark_from input a ≡ mark_from input b → read_at input a ≡ read_at input b
unfolding read_at
same_place input a b e =
    ap (λ p. cond (ltb p (length input)) (moved_by p (packet_in (drop p input))) (record { answer = nothing; next = length input })) e

-- Bytes without a 0x2B, from a position on, are skipped.
pub mark_skipped : (input skipped rest : List ℕ) (at : ℕ) → drop at input ≡ skipped ++ rest → no_mark skipped ≡ true
    → mark_from input at ≡ at + length skipped + before_mark rest
mark_skipped input skipped rest at e h = ap (λ l. at + before_mark l) e ∙ ap (λ n. at + n) (before_skipped skipped rest h) ∙ omega arith

-- So from a position before them the answer is the one after them.
pub read_skipped : (input : List ℕ) (from at : ℕ) → from ≤ at → at ≤ length input → no_mark (take (at - from) (drop from input)) ≡ true
    → read_at input from ≡ read_at input at
read_skipped input from at h l n =
    let skipped = take (at - from) (drop from input) in
    let sum : from + (at - from) ≡ at = omega arith in
    let rest : drop from input ≡ skipped ++ drop at input =
    sym (take-append-drop (at - from) (drop from input)) ∙ ap (λ t. skipped ++ t) (drop-drop (at - from) from input ∙ ap (λ k. drop k input) sum) in
    let size : length skipped ≡ at - from = length-take-le (at - from) (drop from input) (rw (length-drop from input) (omega arith)) in
    same_place input from at (mark_skipped input skipped (drop at input) from rest n ∙ ap (λ k. from + k + before_mark (drop at input)) size ∙ omega arith)

-- ---- by the byte at the position

module _ (input : List ℕ) (at : ℕ) (inside : at < length input) where
  mark-first : mark_from input at ≡ at + cond (eqb (get_or input at 0) mark) 0 (suc (before_mark (drop (suc at) input)))
  mark-first = ap (λ l. at + before_mark l) (drop-cons input at 0 inside)

  -- At a 0x2B the first one stands,
  pub mark_here : get_or input at 0 ≡ mark → mark_from input at ≡ at
  mark_here e =
      let z : at + 0 ≡ at = omega arith in
      mark-first ∙ ap (λ t. at + cond t 0 (suc (before_mark (drop (suc at) input)))) (eq-eqb (get_or input at 0) mark e) ∙ z

  -- and at every other byte it is the first from the next byte on.
  pub mark-next : (get_or input at 0 ≡ mark → ⊥) → mark_from input at ≡ mark_from input (at + 1)
  mark-next n =
      let one : at + 1 ≡ suc at = omega arith in
      mark-first
      ∙ ap (λ t. at + cond t 0 (suc (before_mark (drop (suc at) input)))) (ne_eqb (get_or input at 0) mark n)
      ∙ rw one (omega arith)

  -- So a packet at a 0x2B is read there,
  pub read_here : get_or input at 0 ≡ mark → read_at input at ≡ moved_by at (packet_in (drop at input))
  read_here e =
      let here = mark_here e in
      read_found input at (rw here inside) ∙ ap (λ p. moved_by p (packet_in (drop p input))) here

  -- and every other byte is skipped.
  pub read_next : (get_or input at 0 ≡ mark → ⊥) → read_at input at ≡ read_at input (at + 1)
  read_next n = same_place input at (at + 1) (mark-next n)

-- There is none from the end on, nor past it.
pub mark_end : (input : List ℕ) (at : ℕ) → length input ≤ at → mark_from input at ≡ at
mark_end input at h = let z : at + 0 ≡ at = omega arith in ap (λ l. at + before_mark l) (drop_of_length-le input h) ∙ z
