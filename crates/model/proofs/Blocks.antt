-- One block of the recorder: what it is answered exactly when, that a written one reads back to its number and its events, and that a good one
-- with any one byte altered is refused. Cited by Recordings and by the crate recorder. Assumes nothing.
use mathlib.Core.Path.{◌≡◌, refl, sym, ap, ap₂, ◌∙◌, subst}
use mathlib.Core.Logic.{◌≢◌}
use mathlib.Core.Bool.{Bool, true, false, ◌&&◌, cond, and-false}
use mathlib.Core.List.{List, [], ◌∷◌, ◌++◌, append_assoc}
use Prim.Native.Nat.{ℕ, zero, suc, ◌+◌, ◌-◌, ◌*◌, ◌/◌, ◌%◌, ◌≤◌, ◌<◌}
use native.Mathlib.Omega.{arith}
use lib.Dec.{T, leb, ltb, eqb, leb→le, eqb→eq}
use lib.ListN.{length, get_or, take, drop, set, replicate, length-append, length-replicate}
use lib.Seq.{length-take-le, get_or-take, take_at, drop_at, take-append-add, drop-append-add, get_or-append-add}
use lib.Seq.{take-set-lt, take-set-le, get_or-set_same, get_or-set_other}
use borrow.Author.Tests.{eq-eqb, ne_eqb, le-leb, ltb-true, ltb-false}
use Rattle.model.proofs.Bools.{holds, both_left, both_right}
use Rattle.model.proofs.Bytes.{two, four}
use Rattle.model.proofs.Exact.{exact}
use Rattle.model.proofs.Weights.{weighed_differs, weighed_swapped, check-below}
use Rattle.model.specs.Pod.{zeros}
use Rattle.model.specs.Records.{low_bytes, join32}
use Rattle.model.specs.Refusals.{Exact}
use Rattle.model.specs.Recorder.{block_length, header_length, check_place, most_in_block, full_run, number_limit, AllBytes, weighed, check_of}
use Rattle.model.specs.Recorder.{header, unchecked, block_of, number_in, count_in, check_in, part, check_good, zero_good, whole_records}
use Rattle.model.specs.Recorder.{BlockRead, events_at, wrong_check, wrong_number, count_over, not_zero, read_number, test, read_block, read_rows, said}

-- ---- what is answered exactly when

chain : (t : Bool) (why more : BlockRead) (k : ℕ) → read_number more ≡ k → read_number (test t why more) ≡ cond t k (read_number why)
chain true why more k e = e
chain false why more k e = refl

-- Each name exactly when its test fails and the earlier ones pass; none exactly when all pass.
pub read_exact : (n : ℕ) (b : List ℕ) → Exact (read_number (read_block n b)) (read_rows n b)
unfolding read_block
read_exact n b =
    exact (read_rows n b) _ tt
    (chain (check_good b) wrong_check _ _
    (chain (eqb (number_in b) n) wrong_number _ _ (chain (leb (count_in b) most_in_block) count_over _ _ (chain (zero_good b) not_zero _ 0 refl))))

-- All that a block must be to be accepted where n is expected.
pub record Good (n : ℕ) (b : List ℕ) : Type 0 where
  pub size : length b ≡ block_length
  pub check : check_of b ≡ check_in b
  pub number : number_in b ≡ n
  pub count : count_in b ≤ most_in_block
  pub clear : zero_good b ≡ true

-- What a right check says.
pub checked : (b : List ℕ) → check_good b ≡ true → (length b ≡ block_length) × (check_of b ≡ check_in b)
checked b e =
    let t = holds (check_good b) e in (
      eqb→eq (length b) block_length (both_left (eqb (length b) block_length) _ t),
      eqb→eq (check_of b) (check_in b) (both_right (eqb (length b) block_length) _ t),
    )

pub check-good : (b : List ℕ) → length b ≡ block_length → check_of b ≡ check_in b → check_good b ≡ true
check-good b h e = rw (eq-eqb (length b) block_length h) (eq-eqb (check_of b) (check_in b) e)

-- Such a block is answered with its events.
pub good-read : (n : ℕ) (b : List ℕ) → Good n b → read_block n b ≡ events_at header_length (count_in b)
unfolding read_block
good-read n b g =
    rw (check-good b g.size g.check, eq-eqb (number_in b) n g.number, le-leb (count_in b) most_in_block g.count, g.clear)

-- And only such a block is.
pub read-good : (n : ℕ) (b : List ℕ) (at count : ℕ) → read_block n b ≡ events_at at count → Good n b
unfolding read_block
read-good n b at count e =
    by_tests (check_good b) (eqb (number_in b) n) (leb (count_in b) most_in_block) (zero_good b) refl refl refl refl (ap read_number e)
  where
    by_tests : (c m k z : Bool) → check_good b ≡ c → eqb (number_in b) n ≡ m → leb (count_in b) most_in_block ≡ k → zero_good b ≡ z
        → read_number (test c wrong_check (test m wrong_number (test k count_over (test z not_zero (events_at header_length (count_in b)))))) ≡ 0 → Good n b
    by_tests true true true true c m k z q =
        record {
          size = (checked b c).0;
          check = (checked b c).1;
          number = eqb→eq (number_in b) n (holds _ m);
          count = leb→le (count_in b) most_in_block (holds _ k);
          clear = z;
        }
    by_tests false m k z c m' k' z' q = absurd (omega arith)
    by_tests true false k z c m' k' z' q = absurd (omega arith)
    by_tests true true false z c m' k' z' q = absurd (omega arith)
    by_tests true true true false c m' k' z' q = absurd (omega arith)

-- A wrong check is answered before all else, whatever number is expected.
pub check-first : (n : ℕ) (b : List ℕ) → check_good b ≡ false → read_block n b ≡ wrong_check
unfolding read_block
check-first n b e = rw e

-- A piece of any length but a block's has a wrong check.
pub short-refused : (n : ℕ) (b : List ℕ) → length b ≢ block_length → read_block n b ≡ wrong_check
short-refused n b h = check-first n b (ap (λ t. t && eqb (check_of b) (check_in b)) (ne_eqb (length b) block_length h))

-- A right check and another number.
pub number-second : (n : ℕ) (b : List ℕ) → check_good b ≡ true → number_in b ≢ n → read_block n b ≡ wrong_number
unfolding read_block
number-second n b e h = rw (e, ne_eqb (number_in b) n h)

-- ---- a good block that is altered

-- What stands for the check stays where a byte before it is altered.
stored-stays : (b : List ℕ) (i v : ℕ) → i < check_place → check_in (set b i v) ≡ check_in b
stored-stays b i v h =
    let at : (j : ℕ) → check_place ≤ j → get_or (set b i v) j 0 ≡ get_or b j 0 = λ j k. get_or-set_other b i j v 0 (λ q. omega arith) in
    rw (at 508 (omega arith), at 509 (omega arith), at 510 (omega arith), at 511 (omega arith))

-- The check before and after bytes are altered, where the block's own was right.
module _ (b : List ℕ) (size : length b ≡ block_length) (right : check_of b ≡ check_in b) where
  -- The bytes that are checked.
  abbrev summed : List ℕ
  summed = take check_place b

  summed_length : length summed ≡ check_place
  summed_length = length-take-le check_place b (omega arith)

  -- A byte that is checked: the sum changes, and what stands for it does not.
  summed_differs : (i v : ℕ) → i < check_place → v ≢ get_or b i 0 → check_of (set b i v) ≢ check_in (set b i v)
  summed_differs i v h n e =
      let n' : v ≢ get_or summed i 0 = λ q. n (q ∙ get_or-take check_place b i 0 h) in
      weighed_differs 1 summed i v (omega arith) (omega (arith, summed_length)) n'
      (ap (weighed 1) (sym (take-set-lt check_place b i v h)) ∙ e ∙ stored-stays b i v h ∙ sym right)

  -- Two of them in each other's place.
  swapped_differs : (i j : ℕ) → i < j → j < check_place → get_or b i 0 ≢ get_or b j 0
      → let c = set (set b i (get_or b j 0)) j (get_or b i 0) in check_of c ≢ check_in c
  swapped_differs i j h k n e =
      let x = get_or b i 0 in
      let y = get_or b j 0 in
      let ex : get_or summed i 0 ≡ x = get_or-take check_place b i 0 (omega arith) in
      let ey : get_or summed j 0 ≡ y = get_or-take check_place b j 0 k in
      let moved : take check_place (set (set b i y) j x) ≡ set (set summed i y) j x =
      take-set-lt check_place (set b i y) j x k ∙ ap (λ l. set l j x) (take-set-lt check_place b i y (omega arith)) in
      weighed_swapped 1 summed i j h (omega (arith, summed_length)) (λ q. n (sym ex ∙ q ∙ ey))
      (ap₂ (λ u v. weighed 1 (set (set summed i v) j u)) ex ey
      ∙ ap (weighed 1) (sym moved) ∙ e ∙ stored-stays (set b i y) j x k ∙ stored-stays b i y (omega arith) ∙ sym right)

  -- A byte of the check itself: the sum stays, and what stands for it changes.
  stored_differs : (k v : ℕ) → k < 4 → v ≢ get_or b (check_place + k) 0 → check_of (set b (check_place + k) v) ≢ check_in (set b (check_place + k) v)
  stored_differs k v h n e =
      let i = check_place + k in
      let same : check_of (set b i v) ≡ check_of b = ap (weighed 1) (take-set-le check_place b i v (omega arith)) in
      by_place k h n (sym right ∙ sym same ∙ e)
    where
      here : (i : ℕ) → i < 512 → get_or (set b i v) i 0 ≡ v
      here i q = get_or-set_same b i v 0 (omega arith)

      there : (i j : ℕ) → j ≢ i → get_or (set b i v) j 0 ≡ get_or b j 0
      there i j q = get_or-set_other b i j v 0 q

      by_place : (k : ℕ) → k < 4 → v ≢ get_or b (check_place + k) 0 → check_in b ≢ check_in (set b (check_place + k) v)
      by_place zero h n e =
          let e' : check_in b ≡ join32 v (get_or b 509 0) (get_or b 510 0) (get_or b 511 0) =
          e ∙ rw (here 508 (omega arith), there 508 509 (λ q. omega arith), there 508 510 (λ q. omega arith), there 508 511 (λ q. omega arith)) in
          n (omega arith)
      by_place (suc zero) h n e =
          let e' : check_in b ≡ join32 (get_or b 508 0) v (get_or b 510 0) (get_or b 511 0) =
          e ∙ rw (here 509 (omega arith), there 509 508 (λ q. omega arith), there 509 510 (λ q. omega arith), there 509 511 (λ q. omega arith)) in
          n (omega arith)
      by_place (suc (suc zero)) h n e =
          let e' : check_in b ≡ join32 (get_or b 508 0) (get_or b 509 0) v (get_or b 511 0) =
          e ∙ rw (here 510 (omega arith), there 510 508 (λ q. omega arith), there 510 509 (λ q. omega arith), there 510 511 (λ q. omega arith)) in
          n (omega arith)
      by_place (suc (suc (suc zero))) h n e =
          let e' : check_in b ≡ join32 (get_or b 508 0) (get_or b 509 0) (get_or b 510 0) v =
          e ∙ rw (here 511 (omega arith), there 511 508 (λ q. omega arith), there 511 509 (λ q. omega arith), there 511 510 (λ q. omega arith)) in
          n (omega arith)
      by_place (suc (suc (suc (suc k)))) h n e = absurd (omega arith)

  differs : (i v : ℕ) → i < block_length → v ≢ get_or b i 0 → check_of (set b i v) ≢ check_in (set b i v)
  differs i v h n = by_half (ltb i check_place) refl
    where
      by_half : (t : Bool) → ltb i check_place ≡ t → check_of (set b i v) ≢ check_in (set b i v)
      by_half true e = summed_differs i v (ltb-true i check_place e) n
      by_half false e =
          let past = ltb-false i check_place e in
          let z : check_place + (i - check_place) ≡ i = omega arith in
          subst (λ k. check_of (set b k v) ≢ check_in (set b k v)) z (stored_differs (i - check_place) v (omega arith) (λ q. n (q ∙ ap (λ k. get_or b k 0) z)))

-- A block whose check is wrong is refused as that, whatever number is expected.
unequal_refused : (n : ℕ) (b : List ℕ) → check_of b ≢ check_in b → read_block n b ≡ wrong_check
unequal_refused n b h = check-first n b (ap (λ t. eqb (length b) block_length && t) (ne_eqb (check_of b) (check_in b) h) ∙ and-false (eqb (length b) block_length))

-- Any one byte of the 512, altered to any other value: a block that was accepted for some number is refused for every number.
pub altered_refused : (n m : ℕ) (b : List ℕ) (i v : ℕ) → Good n b → i < block_length → v ≢ get_or b i 0 → read_block m (set b i v) ≡ wrong_check
altered_refused n m b i v g h k = unequal_refused m (set b i v) (differs b g.size g.check i v h k)

-- Two bytes before the check that differ and change places.
pub swapped_refused : (n m : ℕ) (b : List ℕ) (i j : ℕ) → Good n b → i < j → j < check_place → get_or b i 0 ≢ get_or b j 0
    → read_block m (set (set b i (get_or b j 0)) j (get_or b i 0)) ≡ wrong_check
swapped_refused n m b i j g h k d = unequal_refused m (set (set b i (get_or b j 0)) j (get_or b i 0)) (swapped_differs b g.size g.check i j h k d)

-- ---- a block that was written

pub bytes_append : (xs ys : List ℕ) → AllBytes xs → AllBytes ys → AllBytes (xs ++ ys)
bytes_append [] ys h g i = g i
bytes_append (x ∷ xs) ys h g zero = h 0
bytes_append (x ∷ xs) ys h g (suc i) = bytes_append xs ys (λ k. h (suc k)) g i

bytes-zeros : (n : ℕ) → AllBytes (replicate n 0)
bytes-zeros zero i = omega arith
bytes-zeros (suc n) zero = omega arith
bytes-zeros (suc n) (suc i) = bytes-zeros n i

pub bytes_low : (k x : ℕ) → AllBytes (low_bytes k x)
bytes_low zero x i = omega arith
bytes_low (suc k) x zero = omega arith
bytes_low (suc k) x (suc i) = bytes_low k (x / 256) i

zeros-replicate : (n : ℕ) → zeros (replicate n 0) ≡ true
zeros-replicate zero = refl
zeros-replicate (suc n) = zeros-replicate n

-- Of a block's number and the bytes of its events, of which a block has place.
module _ (n : ℕ) (es : List ℕ) (few : length es ≤ full_run) where
  abbrev head : List ℕ
  head = header n (length es / 8)

  abbrev padding : List ℕ
  padding = replicate (check_place - header_length - length es) 0

  head_bytes : AllBytes head
  head_bytes =
      let count = length es / 8 in
      bytes_append (low_bytes 4 n) (low_bytes 2 count ++ low_bytes 2 0) (bytes_low 4 n)
      (bytes_append (low_bytes 2 count) (low_bytes 2 0) (bytes_low 2 count) (bytes_low 2 0))

  pub unchecked-length : length (unchecked n es) ≡ check_place
  unchecked-length = omega (arith, length-append es padding, length-replicate {A = ℕ} (check_place - header_length - length es) 0)

  pub block-length : length (block_of n es) ≡ block_length
  unfolding block_of
  block-length = omega (arith, length-append (unchecked n es) (low_bytes 4 (weighed 1 (unchecked n es))), unchecked-length)

  -- Its number, its count and its check are those that were written.
  block-number : n < number_limit → number_in (block_of n es) ≡ n
  unfolding block_of
  block-number h = four n h

  block-count : count_in (block_of n es) ≡ length es / 8
  unfolding block_of
  block-count = two (length es / 8) (omega arith)

  block_sum : check_of (block_of n es) ≡ weighed 1 (unchecked n es)
  unfolding block_of
  block_sum = ap (weighed 1) (take_at (unchecked n es) (low_bytes 4 (weighed 1 (unchecked n es))) check_place unchecked-length)

  -- It is made of bytes.
  pub block-bytes : AllBytes es → AllBytes (block_of n es)
  unfolding block_of
  block-bytes bytes =
      let u = unchecked n es in
      let c = weighed 1 u in
      let all = bytes_append head (es ++ padding) head_bytes (bytes_append es padding bytes (bytes-zeros (check_place - header_length - length es))) in
      bytes_append u (low_bytes 4 c) all (bytes_low 4 c)

  block-check : AllBytes es → check_of (block_of n es) ≡ check_in (block_of n es)
  unfolding block_of
  block-check bytes =
      let u = unchecked n es in
      let c = weighed 1 u in
      let below : c < number_limit = subst (λ k. k < number_limit) block_sum (check-below (block_of n es) (block-bytes bytes)) in
      let at : (k : ℕ) → get_or (block_of n es) (check_place + k) 0 ≡ get_or (low_bytes 4 c) k 0 =
      λ k. ap (λ p. get_or (block_of n es) (p + k) 0) (sym unchecked-length) ∙ get_or-append-add u (low_bytes 4 c) k 0 in
      block_sum ∙ sym (four c below) ∙ sym (rw (at 0, at 1, at 2, at 3))

  -- Its events stand behind the header.
  pub block-events : part header_length (header_length + length es) (block_of n es) ≡ es
  unfolding block_of
  block-events =
      let rest = padding ++ low_bytes 4 (weighed 1 (unchecked n es)) in
      let whole : block_of n es ≡ head ++ (es ++ rest) =
      append_assoc head (es ++ padding) _ ∙ ap (λ l. head ++ l) (append_assoc es padding (low_bytes 4 (weighed 1 (unchecked n es)))) in
      ap (part header_length (header_length + length es)) whole
      ∙ ap (drop header_length) (take-append-add head (es ++ rest) (length es) ∙ ap (λ l. head ++ l) (take_at es rest (length es) refl))

  -- And all behind them is zero.
  block_clear : 8 * (length es / 8) ≡ length es → zero_good (block_of n es) ≡ true
  unfolding block_of
  block_clear whole =
      let u = unchecked n es in
      let front : take check_place (block_of n es) ≡ u = take_at u (low_bytes 4 (weighed 1 u)) check_place unchecked-length in
      let place : header_length + 8 * count_in (block_of n es) ≡ header_length + length es = omega (arith, block-count) in
      let behind : part (header_length + 8 * count_in (block_of n es)) check_place (block_of n es) ≡ padding =
      ap₂ drop place front ∙ drop-append-add head (es ++ padding) (length es) ∙ drop_at es padding (length es) refl in
      ap zeros behind ∙ zeros-replicate (check_place - header_length - length es)

  -- So a written block is good for its own number.
  pub written-good : n < number_limit → AllBytes es → T (whole_records es) → Good n (block_of n es)
  written-good h bytes whole =
      let w : 8 * (length es / 8) ≡ length es = omega (arith, eqb→eq (length es % 8) 0 whole) in
      record {
        size = block-length;
        check = block-check bytes;
        number = block-number h;
        count = omega (arith, block-count);
        clear = block_clear w;
      }

  -- It is answered with its events' place and count, which give the events back.
  pub written_read : n < number_limit → AllBytes es → T (whole_records es) → read_block n (block_of n es) ≡ events_at header_length (length es / 8)
  written_read h bytes whole = good-read n (block_of n es) (written-good h bytes whole) ∙ ap (events_at header_length) block-count

  pub written-said : n < number_limit → AllBytes es → T (whole_records es) → said (read_block n (block_of n es)) (block_of n es) ≡ es
  written-said h bytes whole =
      let w : header_length + 8 * (length es / 8) ≡ header_length + length es = omega (arith, eqb→eq (length es % 8) 0 whole) in
      ap (λ a. said a (block_of n es)) (written_read h bytes whole) ∙ ap (λ k. part header_length k (block_of n es)) w ∙ block-events

  -- Where another number is expected it is refused as that.
  pub written_elsewhere : (m : ℕ) → n < number_limit → AllBytes es → m ≢ n → read_block m (block_of n es) ≡ wrong_number
  written_elsewhere m h bytes other =
      number-second m (block_of n es) (check-good (block_of n es) block-length (block-check bytes)) (λ e. other (sym e ∙ block-number h))
