-- An input that is cut, and the rest that comes later: an answer by bytes before the cut is the same with and without the rest, and no other is
-- given but "unfinished" or "nothing", from which reading goes on as if there were no cut. Cited by ForceAll. Assumes nothing.
use mathlib.Core.Path.{◌≡◌, refl, sym, ap, ◌∙◌}
use mathlib.Core.Bool.{Bool, true, false}
use mathlib.Core.List.{List, ◌++◌}
use Prim.Native.Nat.{ℕ, ◌+◌, ◌≤◌, ◌<◌}
use native.Mathlib.Omega.{arith}
use lib.Dec.{ltb}
use lib.ListN.{length, drop, length-append, length-drop}
use lib.Seq.{drop-append-le, drop_at}
use borrow.Author.Tests.{ltb-true, ltb-false, lt-ltb, le-ltb}
use Rattle.model.specs.Force.{unfinished, nothing, waits, Read, len_in, judged_by, packet_in, before_mark, mark_from, moved_by, read_at, judged_up_to}
use Rattle.model.proofs.ForcePackets.{judged_head, len_longer, packet_longer, packet-stays}
use Rattle.model.proofs.ForceReads.{before-none, before_skipped, before_longer, before_shorter}
use Rattle.model.proofs.ForceReads.{read_found, read_none, by_read, read-waits, mark_again, same_place}

-- ---- the first 0x2B over a cut

module _ (input more : List ℕ) (at : ℕ) where
  -- One before the cut stays where it is when the rest comes,
  mark_longer : mark_from input at < length input → mark_from (input ++ more) at ≡ mark_from input at
  mark_longer h =
      ap (λ l. at + before_mark l) (drop-append-le at input more (omega arith))
      ∙ ap (λ n. at + n) (before_longer (drop at input) more (omega (arith, length-drop at input)))

  -- and where the rest is cut off.
  mark_shorter : mark_from (input ++ more) at < length input → mark_from input at ≡ mark_from (input ++ more) at
  mark_shorter h =
      let parts = drop-append-le at input more (omega arith) in
      let inside : before_mark (drop at input ++ more) < length (drop at input) = omega (arith, ap before_mark parts, length-drop at input) in
      ap (λ n. at + n) (before_shorter (drop at input) more inside) ∙ ap (λ l. at + before_mark l) (sym parts)

  -- Where there is none before the cut, it is the first from the cut on.
  mark-later : at ≤ length input → length input ≤ mark_from input at → mark_from (input ++ more) at ≡ length input + before_mark more
  mark-later a h =
      let left = length-drop at input in
      ap (λ l. at + before_mark l) (drop-append-le at input more a)
      ∙ ap (λ n. at + n) (before_skipped (drop at input) more (before-none (drop at input) (omega (arith, left))))
      ∙ omega (arith, left)

  rest_longer : mark_from input at < length input → drop (mark_from input at) (input ++ more) ≡ drop (mark_from input at) input ++ more
  rest_longer h = drop-append-le (mark_from input at) input more (omega arith)

-- From the cut on.
mark-at-cut : (input more : List ℕ) → mark_from (input ++ more) (length input) ≡ length input + before_mark more
mark-at-cut input more = ap (λ l. length input + before_mark l) (drop_at input more (length input) refl)

-- ---- one answer over a cut

module _ (input more : List ℕ) (at : ℕ) where
  -- The bytes that an answer takes are the same, where they end before the cut.
  judged_longer : judged_up_to input at ≤ length input → judged_up_to (input ++ more) at ≡ judged_up_to input at
  judged_longer h =
      let place = mark_from input at in
      let rest = drop place input in
      let head = judged_head (len_in rest) in
      let found : place < length input = omega (arith, head) in
      let there : 3 ≤ length rest = rw (length-drop place input) (omega (arith, head)) in
      ap (λ p. p + judged_by (len_in (drop p (input ++ more)))) (mark_longer input more at found)
      ∙ ap (λ l. place + judged_by (len_in l)) (rest_longer input more at found)
      ∙ ap (λ n. place + judged_by n) (len_longer rest more there)

  judged_shorter : judged_up_to (input ++ more) at ≤ length input → judged_up_to input at ≡ judged_up_to (input ++ more) at
  judged_shorter h =
      let place = mark_from (input ++ more) at in
      let head = judged_head (len_in (drop place (input ++ more))) in
      let same = mark_shorter input more at (omega (arith, head)) in
      let there : 3 ≤ length (drop place input) = rw (length-drop place input) (omega (arith, head)) in
      ap (λ p. p + judged_by (len_in (drop p input))) same
      ∙ ap (λ n. place + judged_by n) (sym (len_longer (drop place input) more there))
      ∙ ap (λ l. place + judged_by (len_in l)) (sym (drop-append-le place input more (omega (arith, head))))

  -- An answer that was given stays when the rest comes.
  pub read_longer : waits (read_at input at).answer ≡ false → read_at (input ++ more) at ≡ read_at input at
  read_longer e =
      let place = mark_from input at in
      let up = ltb-false (length input) (judged_up_to input at) (sym (read-waits input at) ∙ e) in
      let found : place < length input = omega (arith, judged_head (len_in (drop place input))) in
      let same = mark_longer input more at found in
      let given : waits (packet_in (drop place input)).answer ≡ false = ap (λ (r : Read). waits r.answer) (sym (read_found input at found)) ∙ e in
      read_found (input ++ more) at (rw same (omega (arith, length-append input more)))
      ∙ ap (λ p. moved_by p (packet_in (drop p (input ++ more)))) same
      ∙ ap (λ l. moved_by place (packet_in l)) (rest_longer input more at found)
      ∙ ap (moved_by place) (packet_longer (drop place input) more given)
      ∙ sym (read_found input at found)

  -- Cutting the input does not change an answer whose bytes all stand before the cut.
  pub cut-before : judged_up_to (input ++ more) at ≤ length input → read_at input at ≡ read_at (input ++ more) at
  cut-before h =
      sym (read_longer (read-waits input at ∙ le-ltb (length input) (judged_up_to input at) (rw (judged_shorter h) h)))

  -- Every other answer then waits for the rest,
  pub cut_inside : length input < judged_up_to (input ++ more) at → waits (read_at input at).answer ≡ true
  cut_inside h = read-waits input at ∙ lt-ltb (length input) (judged_up_to input at) (by_end (ltb (length input) (judged_up_to input at)) refl)
    where
      by_end : (t : Bool) → ltb (length input) (judged_up_to input at) ≡ t → length input < judged_up_to input at
      by_end true e = ltb-true (length input) (judged_up_to input at) e
      by_end false e = let up = ltb-false (length input) (judged_up_to input at) e in absurd (omega (arith, judged_longer up))

  -- and reading goes on, when it comes, as if there had been no cut.
  pub read-later : at ≤ length input → waits (read_at input at).answer ≡ true → read_at (input ++ more) at ≡ read_at (input ++ more) (read_at input at).next
  read-later a e =
      same_place (input ++ more) at (read_at input at).next
      (by_read input at (λ r. waits r.answer ≡ true → mark_from (input ++ more) at ≡ mark_from (input ++ more) r.next) found none e)
    where
      found : mark_from input at < length input → waits (packet_in (drop (mark_from input at) input)).answer ≡ true
          → mark_from (input ++ more) at ≡ mark_from (input ++ more) (mark_from input at + (packet_in (drop (mark_from input at) input)).next)
      found l q =
          let place = mark_from input at in
          let z : place + 0 ≡ place = omega arith in
          let here = mark_longer input more at l in
          rw (packet-stays (drop place input) q, z) (sym (mark_again (input ++ more) at) ∙ ap (mark_from (input ++ more)) here)

      none : length input ≤ mark_from input at → waits nothing ≡ true → mark_from (input ++ more) at ≡ mark_from (input ++ more) (length input)
      none l q = mark-later input more at a l ∙ sym (mark-at-cut input more)

  -- Which of the two it answers: unfinished where the 0x2B stands before the cut,
  pub cut-unfinished : mark_from (input ++ more) at < length input → length input < judged_up_to (input ++ more) at
      → read_at input at ≡ record { answer = unfinished; next = mark_from (input ++ more) at }
  cut-unfinished l h =
      let same = mark_shorter input more at l in
      let place = mark_from input at in
      let z : place + 0 ≡ mark_from (input ++ more) at = omega (arith, same) in
      let found : place < length input = omega (arith, same) in
      let waiting : waits (packet_in (drop place input)).answer ≡ true =
      ap (λ (r : Read). waits r.answer) (sym (read_found input at found)) ∙ cut_inside h in
      read_found input at found ∙ ap (moved_by place) (packet-stays (drop place input) waiting) ∙ ap (λ n. record { answer = unfinished; next = n }) z

  -- nothing where it does not.
  pub cut-nothing : length input ≤ mark_from (input ++ more) at → read_at input at ≡ record { answer = nothing; next = length input }
  cut-nothing h = read_none input at (by_place (ltb (mark_from input at) (length input)) refl)
    where
      by_place : (t : Bool) → ltb (mark_from input at) (length input) ≡ t → length input ≤ mark_from input at
      by_place true e = let l = ltb-true (mark_from input at) (length input) e in absurd (omega (arith, mark_longer input more at l))
      by_place false e = ltb-false (mark_from input at) (length input) e
