-- K5: pieces of any size, empty ones too, are read as the string that they make, whatever the state holds; and a load between them comes between two
-- records of it. Cited by the crates pieces and link. Assumes nothing.
use mathlib.Core.Path.{◌≡◌, refl, sym, ap, ap₂, ◌∙◌, subst}
use mathlib.Core.Bool.{true, false}
use mathlib.Core.List.{List, [], ◌∷◌, ◌++◌, map, append_assoc, append-nil}
use Prim.Native.Nat.{ℕ, ◌+◌, ◌-◌, ◌*◌, ◌/◌, ◌%◌, ◌≤◌}
use native.Mathlib.Omega.{arith}
use lib.Dec.{T, eqb, leb}
use lib.IntN.{ℤ}
use lib.ListN.{length, take, drop, replicate, length-append, length-drop, length-replicate, take-append-drop}
use lib.Seq.{length-take-le, take_all, take-append_seam, take-append-add, drop-append-add, drop-append_seam}
use borrow.Author.Tests.{eq-eqb, eqb-true, le-leb, leb-true}
use Rattle.model.proofs.Bools.{is_true, holds, both, both_left, both_right, and_left, and_right}
use Rattle.model.proofs.Calls.{accepted-is, run_steady, load_steady}
use Rattle.model.proofs.Answers.{run-whole}
use Rattle.model.proofs.Cut.{events_append}
use Rattle.model.proofs.Chain.{run-cut}
use Rattle.model.proofs.Places.{zeros-replicate, clear_places}
-- Brought in so that the cases are checked before the laws: a wrong definition fails there, by computing.
use Rattle.model.specs.Panel.{Layout}
use Rattle.model.specs.Records.{events_from, events_of}
use Rattle.model.specs.Reader.{nothing, plus, run}
use Rattle.model.specs.States.{ReaderState, reader_good}
use Rattle.model.specs.Calls.{accepted, state, is_accepted, Ran, run_call, Loaded, load_call}
use Rattle.model.specs.Pod.{zeros}
use Rattle.model.specs.Pieces.{whole_bytes, left_bytes, string_of, places, LineState, held_in, placed, carrying, left_good, line_good}
use Rattle.model.specs.Pieces.{Taken, not_taken, read_string, take_call, both_taken, take_pieces, LineLoaded, beside, line_load_call, read_around}

-- ---- whole records, and what is left over

whole_length : (bs : List ℕ) → length (whole_bytes bs) ≡ 8 * (length bs / 8)
whole_length bs = length-take-le (8 * (length bs / 8)) bs (omega arith)

-- The bytes of whole records are a multiple of eight.
pub whole_multiple : (bs : List ℕ) → length (whole_bytes bs) % 8 ≡ 0
whole_multiple bs = omega (arith, whole_length bs)

-- Bytes of whole records are all whole.
pub whole_all : (bs : List ℕ) → length bs % 8 ≡ 0 → whole_bytes bs ≡ bs
whole_all bs h = take_all (8 * (length bs / 8)) bs (omega arith)

-- What is left over fits the places.
pub left-few : (bs : List ℕ) → length (left_bytes bs) ≤ places
left-few bs = omega (arith, length-drop (8 * (length bs / 8)) bs)

-- Bytes that fit the places hold no record, and all of them are left over.
pub few-none : (bs : List ℕ) → length bs ≤ places → whole_bytes bs ≡ []
few-none bs h = let z : 8 * (length bs / 8) ≡ 0 = omega arith in ap (λ k. take k bs) z

pub few-left : (bs : List ℕ) → length bs ≤ places → left_bytes bs ≡ bs
few-left bs h = let z : 8 * (length bs / 8) ≡ 0 = omega arith in ap (λ k. drop k bs) z

-- The left-over bytes hold no record.
pub events-whole : (bs : List ℕ) → events_of (whole_bytes bs) ≡ events_of bs
unfolding events_from
events-whole bs =
    let none : length (left_bytes bs) / 8 ≡ 0 = omega (arith, left-few bs) in
    sym (ap events_of (sym (take-append-drop (8 * (length bs / 8)) bs))
    ∙ events_append (whole_bytes bs) (left_bytes bs) (whole_multiple bs)
    ∙ ap (λ k. events_of (whole_bytes bs) ++ events_from k (left_bytes bs) 0) none
    ∙ append-nil (events_of (whole_bytes bs)))

-- Behind bytes of whole records, more bytes are whole and left over as they are by themselves.
module _ (xs ys : List ℕ) (h : length xs % 8 ≡ 0) where
  seam : 8 * (length (xs ++ ys) / 8) ≡ length xs + 8 * (length ys / 8)
  seam = omega (arith, length-append xs ys)

  pub whole-behind : whole_bytes (xs ++ ys) ≡ xs ++ whole_bytes ys
  unfolding seam
  whole-behind = ap (λ k. take k (xs ++ ys)) seam ∙ take-append-add xs ys (8 * (length ys / 8))

  pub left_behind : left_bytes (xs ++ ys) ≡ left_bytes ys
  unfolding seam
  left_behind = ap (λ k. drop k (xs ++ ys)) seam ∙ drop-append-add xs ys (8 * (length ys / 8))

-- A string with more behind it: its whole records, and then what is left over of it with the rest behind it.
module _ (bs rest : List ℕ) where
  regrouped : bs ++ rest ≡ whole_bytes bs ++ (left_bytes bs ++ rest)
  regrouped = ap (λ l. l ++ rest) (sym (take-append-drop (8 * (length bs / 8)) bs)) ∙ append_assoc (whole_bytes bs) (left_bytes bs) rest

  pub whole-on : whole_bytes (bs ++ rest) ≡ whole_bytes bs ++ whole_bytes (left_bytes bs ++ rest)
  unfolding regrouped
  whole-on = ap whole_bytes regrouped ∙ whole-behind (whole_bytes bs) (left_bytes bs ++ rest) (whole_multiple bs)

  pub left-on : left_bytes (bs ++ rest) ≡ left_bytes (left_bytes bs ++ rest)
  unfolding regrouped
  left-on = ap left_bytes regrouped ∙ left_behind (whole_bytes bs) (left_bytes bs ++ rest) (whole_multiple bs)

  -- The records of the whole that are not the string's.
  pub whole-rest : whole_bytes (left_bytes bs ++ rest) ≡ drop (length (whole_bytes bs)) (whole_bytes (bs ++ rest))
  whole-rest = sym (ap (drop (length (whole_bytes bs))) whole-on ∙ drop-append_seam (whole_bytes bs) (whole_bytes (left_bytes bs ++ rest)))

-- ---- the state

-- The facts that make a state well formed.
pub record LineFacts (l : Layout) (s : LineState) : Type 0 where
  pub reader : T (reader_good l s.reader)
  pub sized : length s.left ≡ places
  pub few : s.count ≤ places
  pub clear : zeros (drop s.count s.left) ≡ true

pub line_facts : (l : Layout) (s : LineState) → T (line_good l s) → LineFacts l s
unfolding line_good
line_facts l s g =
    let a = eqb (length s.left) places in
    let b = leb s.count places in
    let e = is_true _ (both_right (reader_good l s.reader) (left_good s.left s.count) g) in
    record {
      reader = both_left (reader_good l s.reader) _ g;
      sized = eqb-true (length s.left) places (and_left a _ e);
      few = leb-true s.count places (and_left b _ (and_right a _ e));
      clear = and_right b _ (and_right a _ e);
    }

-- A well-formed state holds as many bytes as it counts.
pub held-length : (l : Layout) (s : LineState) → T (line_good l s) → length (held_in s) ≡ s.count
held-length l s g = let f = line_facts l s g in length-take-le s.count s.left (omega (arith, f.sized, f.few))

-- What a state holds is what it was made to carry.
pub held_carried : (r : ReaderState) (held : List ℕ) → held_in (carrying r held) ≡ held
held_carried r held = take-append_seam held (replicate (places - length held) 0)

-- A well-formed state is the one that carries the bytes that it holds.
pub carried-held : (l : Layout) (s : LineState) → T (line_good l s) → carrying s.reader (held_in s) ≡ s
carried-held l s g =
    let f = line_facts l s g in
    let unused : places - length (held_in s) ≡ length s.left - s.count = omega (arith, held-length l s g, f.sized) in
    ap₂ {C = LineState} (λ bs c. record { reader = s.reader; left = bs; count = c })
    (ap (λ k. held_in s ++ replicate k 0) unused
    ∙ ap (λ u. held_in s ++ u) (clear_places s.left s.count f.clear)
    ∙ take-append-drop s.count s.left)
    (held-length l s g)

-- A well-formed reader that carries bytes which fit the places is well formed.
pub carrying-good : (l : Layout) (r : ReaderState) (held : List ℕ) → T (reader_good l r) → length held ≤ places → T (line_good l (carrying r held))
unfolding line_good
carrying-good l r held g h =
    let sized : length (placed held) ≡ places = simp (length-append, length-replicate) (omega arith) in
    let clear : zeros (drop (length held) (placed held)) ≡ true =
    rw (drop-append_seam held (replicate (places - length held) 0)) (zeros-replicate (places - length held)) in
    both (reader_good l r) _ g (holds (left_good (placed held) (length held)) (rw (eq-eqb _ _ sized, le-leb _ _ h, clear)))

-- ---- a string, and more behind it

-- A well-formed reader runs over whole records, and is well formed after them.
run-accepted : (l : Layout) (r : ReaderState) (bs : List ℕ) → T (reader_good l r) → length bs % 8 ≡ 0 → (run_call l r bs).verdict ≡ accepted
run-accepted l r bs g h = ap (λ (a : Ran). a.verdict) (run-whole l r bs (is_true _ g) (eq-eqb (length bs % 8) 0 h))

-- Reading a string is accepted, and leaves a well-formed state.
pub read-accepted : (l : Layout) (r : ReaderState) (bs : List ℕ) → T (reader_good l r) → (read_string l r bs).verdict ≡ accepted
read-accepted l r bs g = run-accepted l r (whole_bytes bs) g (whole_multiple bs)

pub read-good : (l : Layout) (r : ReaderState) (bs : List ℕ) → T (reader_good l r) → T (line_good l (read_string l r bs).state)
read-good l r bs g = carrying-good l _ (left_bytes bs) (run_steady l r (whole_bytes bs) g) (left-few bs)

-- A run's answer with bytes left over.
abbrev told : Ran → List ℕ → Taken
told a left = record { verdict = a.verdict; state = carrying a.state left; counts = a.counts }

-- Reading a string and then more is reading what is left over of it with the more behind it, counts added up.
pub read-on : (l : Layout) (r : ReaderState) (bs rest : List ℕ) → T (reader_good l r)
    → read_string l r (bs ++ rest) ≡ (let a = read_string l r bs in both_taken a (read_string l a.state.reader (left_bytes bs ++ rest)))
read-on l r bs rest g =
    let a = run_call l r (whole_bytes bs) in
    let more = left_bytes bs ++ rest in
    let b = run_call l a.state (whole_bytes more) in
    ap₂ (λ w left. told (run_call l r w) left) (whole-on bs rest) (left-on bs rest)
    ∙ ap (λ c. told c (left_bytes more)) (run-cut l r (whole_bytes bs) (whole_bytes more) (whole_multiple bs) (whole_multiple more))
    ∙ ap (λ v. record { verdict = v; state = carrying b.state (left_bytes more); counts = plus a.counts b.counts })
    (sym (accepted-is (is_accepted a.verdict) b.verdict a.verdict (subst (λ v. T (is_accepted v)) (sym (read-accepted l r bs g)) tt)))

-- Reading bytes that fit the places reads nothing: they are left over.
pub read-few : (l : Layout) (r : ReaderState) (bs : List ℕ) → T (reader_good l r) → length bs ≤ places
    → read_string l r bs ≡ record { verdict = accepted; state = carrying r bs; counts = nothing }
unfolding events_from run
read-few l r bs g h =
    ap₂ (λ w left. told (run_call l r w) left) (few-none bs h) (few-left bs h)
    ∙ ap (λ a. told a bs) (run-whole l r [] (is_true _ g) refl)

-- ---- pieces

module _ (l : Layout) (s : LineState) (g : T (line_good l s)) where
  -- A piece is read behind the bytes that are held.
  pub take-reads : (piece : List ℕ) → take_call l s piece ≡ read_string l s.reader (held_in s ++ piece)
  unfolding take_call
  take-reads piece = accepted-is (line_good l s) _ _ g

  -- Taking a piece keeps a state well formed.
  pub take_steady : (piece : List ℕ) → T (line_good l (take_call l s piece).state)
  take_steady piece =
      subst (λ (a : Taken). T (line_good l a.state)) (sym (take-reads piece)) (read-good l s.reader (held_in s ++ piece) (line_facts l s g).reader)

  -- Reading the held bytes alone changes nothing.
  read_held : read_string l s.reader (held_in s) ≡ record { verdict = accepted; state = s; counts = nothing }
  read_held =
      let f = line_facts l s g in
      read-few l s.reader (held_in s) f.reader (omega (arith, held-length l s g, f.few))
      ∙ ap (λ t. record { verdict = accepted; state = t; counts = nothing }) (carried-held l s g)

  -- An empty piece changes nothing.
  pub take-empty : take_call l s [] ≡ record { verdict = accepted; state = s; counts = nothing }
  unfolding read_held
  take-empty = take-reads [] ∙ ap (read_string l s.reader) (append-nil (held_in s)) ∙ read_held

-- Every way of cutting is what document 01's rules give for the whole records of the string, the left-over bytes in front of it: the end state with
-- its left-over bytes, the counts added up and the first skipped.
pub pieces-read : (l : Layout) (s : LineState) (pieces : List (List ℕ)) → T (line_good l s)
    → take_pieces l s pieces ≡ read_string l s.reader (held_in s ++ string_of pieces)
pieces-read l s [] g = sym (take-empty l s g) ∙ take-reads l s g []
pieces-read l s (piece ∷ pieces) g =
    let bs = held_in s ++ piece in
    let a = read_string l s.reader bs in
    let on = pieces-read l a.state pieces (read-good l s.reader bs (line_facts l s g).reader) in
    ap (λ (t : Taken). both_taken t (take_pieces l t.state pieces)) (take-reads l s g piece)
    ∙ ap (both_taken a) (on ∙ ap (λ h. read_string l a.state.reader (h ++ string_of pieces)) (held_carried a.state.reader (left_bytes bs)))
    ∙ sym (read-on l s.reader bs (string_of pieces) (line_facts l s g).reader)
    ∙ ap (read_string l s.reader) (append_assoc (held_in s) piece (string_of pieces))

-- So two ways of cutting one string give the same: end state, left-over bytes, counts and first skipped.
pub every_cut : (l : Layout) (s : LineState) (xs ys : List (List ℕ)) → T (line_good l s) → string_of xs ≡ string_of ys → take_pieces l s xs ≡ take_pieces l s ys
every_cut l s xs ys g e = pieces-read l s xs g ∙ ap (λ bs. read_string l s.reader (held_in s ++ bs)) e ∙ sym (pieces-read l s ys g)

-- A slow line: one byte at a time is the same as all of them at once.
pub byte_by_byte : (l : Layout) (s : LineState) (bs : List ℕ) → T (line_good l s) → take_pieces l s (map (λ b. b ∷ []) bs) ≡ take_call l s bs
byte_by_byte l s bs g =
    pieces-read l s (map (λ b. b ∷ []) bs) g ∙ ap (λ b. read_string l s.reader (held_in s ++ b)) (bytes-joined bs) ∙ sym (take-reads l s g bs)
  where
    bytes-joined : (bs : List ℕ) → string_of (map (λ b. b ∷ []) bs) ≡ bs
    bytes-joined [] = refl
    bytes-joined (b ∷ bs) = ap {B = List ℕ} (λ l. b ∷ l) (bytes-joined bs)

-- A state that is not well formed is refused each time and handed back, and nothing is read.
pub take-refused : (l : Layout) (s : LineState) (piece : List ℕ) → line_good l s ≡ false → take_call l s piece ≡ not_taken state s
unfolding take_call
take-refused l s piece e = rw e

pub pieces-refused : (l : Layout) (s : LineState) (piece : List ℕ) (pieces : List (List ℕ)) → line_good l s ≡ false
    → take_pieces l s (piece ∷ pieces) ≡ not_taken state s
pieces-refused l s piece [] e = ap (λ (a : Taken). both_taken a (take_pieces l a.state [])) (take-refused l s piece e)
pieces-refused l s piece (next ∷ pieces) e =
    ap (λ (a : Taken). both_taken a (take_pieces l a.state (next ∷ pieces))) (take-refused l s piece e)
    ∙ ap (both_taken (not_taken state s)) (pieces-refused l s next pieces e)

-- ---- a load between pieces

module _ (l : Layout) (s : LineState) (g : T (line_good l s)) (m : List ℤ) (c : ℕ) where
  -- A load answers as the reader's own does, and the left-over bytes stay.
  pub load_keeps : line_load_call l s m c ≡ (let a = load_call l s.reader m c in record { verdict = a.verdict; state = carrying a.state (held_in s) })
  unfolding line_load_call
  load_keeps =
      let a = load_call l s.reader m c in
      accepted-is (line_good l s) _ _ g
      ∙ ap (λ (t : LineState). record { verdict = a.verdict; state = beside t a.state })
      (sym (carried-held l s g))

  -- A load keeps a state well formed, accepted or refused.
  pub line-load_steady : T (line_good l (line_load_call l s m c).state)
  line-load_steady =
      let f = line_facts l s g in
      subst (λ (a : LineLoaded). T (line_good l a.state)) (sym load_keeps)
      (carrying-good l _ (held_in s) (load_steady l s.reader m c f.reader) (omega (arith, held-length l s g, f.few)))

module _ (l : Layout) (s : LineState) (g : T (line_good l s)) (xs : List (List ℕ)) (m : List ℤ) (c : ℕ) where
  abbrev before : List ℕ
  before = held_in s ++ string_of xs

  abbrev stood : LineState
  stood = (take_pieces l s xs).state

  stood_is : stood ≡ (read_string l s.reader before).state
  stood_is = ap (λ (a : Taken). a.state) (pieces-read l s xs g)

  stood_good : T (line_good l stood)
  unfolding stood_is
  stood_good = subst (λ t. T (line_good l t)) (sym stood_is) (read-good l s.reader before (line_facts l s g).reader)

  abbrev run-load : Loaded
  run-load = load_call l (run_call l s.reader (whole_bytes before)).state m c

  -- After any pieces a load is answered as the reader's own is after the records that are whole by then, and the bytes after these stay.
  pub load_after : line_load_call l stood m c ≡ record { verdict = run-load.verdict; state = carrying run-load.state (left_bytes before) }
  unfolding stood_is stood_good
  load_after =
      load_keeps l stood stood_good m c
      ∙ ap (λ (t : LineState). (let a = load_call l t.reader m c in record { verdict = a.verdict; state = carrying a.state (held_in t) })) stood_is
      ∙ ap (λ h. record { verdict = run-load.verdict; state = carrying run-load.state h }) (held_carried stood.reader (left_bytes before))

  -- And more pieces read as if the load had come at that place of the string: its other records are read after the load, whatever way they are cut,
  -- and its left-over bytes are left over.
  pub load_between : (ys : List (List ℕ)) → take_pieces l (line_load_call l stood m c).state ys ≡ read_around l s.reader before m c (string_of ys)
  unfolding stood_is stood_good load_after
  load_between ys =
      let t = carrying run-load.state (left_bytes before) in
      let after = string_of ys in
      let good = subst (λ (a : LineLoaded). T (line_good l a.state)) load_after (line-load_steady l stood stood_good m c) in
      ap (λ (a : LineLoaded). take_pieces l a.state ys) load_after
      ∙ pieces-read l t ys good
      ∙ ap (λ h. read_string l run-load.state (h ++ after)) (held_carried run-load.state (left_bytes before))
      ∙ ap₂ (λ w left. told (run_call l run-load.state w) left) (whole-rest before after) (sym (left-on before after))
