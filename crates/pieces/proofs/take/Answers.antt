-- `pieces::take`: refusal 2, a piece that ends no record, one that finds nothing held, and one that ends the record which was cut. Assumes nothing.
use mathlib.Core.Path.{◌≡◌, sym, ap, ap₂, ◌∙◌}
use mathlib.Core.Bool.{true, false, ◌&&◌, and-false}
use mathlib.Core.List.{List, ◌++◌}
use Prim.Native.Nat.{ℕ, ◌+◌, ◌≤◌, ◌<◌, ◌^◌}
use native.Mathlib.Omega.{arith}
use lib.Dec.{T, eqb, leb}
use lib.ListN.{length, take, length-append}
use borrow.Author.Rules.{rules}
use borrow.Author.Tests.{leb-true}
use Rattle.model.specs.Panel.{base}
use Rattle.model.specs.Reader.{nothing}
use Rattle.model.specs.States.{reader_good}
use Rattle.model.specs.Pieces.{places, held_in, placed, left_good, line_good, total, read_string, take_call}
use Rattle.model.proofs.Bools.{holds, and_left, and_right}
use Rattle.model.proofs.Pieces.{held-length, read-few, take-reads, take-refused}
use Rattle.common.specs.declared.Verdict.TheVariants.{Accepted, State}
use Rattle.common.specs.Seen.{counts_of, counts_from}
use Rattle.common.proofs.Back.{none_counted}
use Rattle.reader.specs.declared.RunAnswer.{RunAnswer}
use Rattle.reader.specs.States as R
use Rattle.reader.proofs.Held.{state_back as reader-back}
use Rattle.pieces.specs.declared.LineState.{LineState}
use Rattle.pieces.specs.declared.TakeAnswer.{TakeAnswer}
use Rattle.pieces.specs.Seen.{seen, taken_from, unread_from, took_from}
use Rattle.pieces.proofs.Held.{state_back}
use Rattle.pieces.proofs.Runs.{judged, judged-few, took_first}
use Rattle.pieces.proofs.take.Goals.{Else-not-state_ok, Start}
use Rattle.pieces.proofs.take.Goals as goal

-- ---- by the tests

module _ (s : LineState) where
  -- A refused piece, as it is answered.
  refused : line_good base (seen s) ≡ false → (piece : List ℕ) → unread_from State s ≡ taken_from (take_call base (seen s) piece)
  refused e piece = ap (unread_from State) (sym (state_back s)) ∙ sym (ap taken_from (take-refused base (seen s) piece e))

  bad-left : left_good s.left s.count ≡ false → line_good base (seen s) ≡ false
  unfolding line_good
  bad-left e = ap (λ b. reader_good base (seen s).reader && b) e ∙ and-false (reader_good base (seen s).reader)

  bad-reader : reader_good base (seen s).reader ≡ false → line_good base (seen s) ≡ false
  unfolding line_good
  bad-reader e = ap (λ b. b && left_good s.left s.count) e

  good : reader_good base (seen s).reader ≡ true → left_good s.left s.count ≡ true → T (line_good base (seen s))
  unfolding line_good
  good r l = holds _ (ap (λ b. b && left_good s.left s.count) r ∙ l)

-- An accepted piece, as it is answered.
module _ (s : LineState) (piece : List ℕ) (r : reader_good base (seen s).reader ≡ true) (l : left_good s.left s.count ≡ true) where
  reads : {q : TakeAnswer} → q ≡ taken_from (read_string base (seen s).reader (held_in (seen s) ++ piece)) → q ≡ taken_from (take_call base (seen s) piece)
  reads e = e ∙ sym (ap taken_from (take-reads base (seen s) (good s r l) piece))

  -- No record is whole yet.
  kept : (left : List ℕ) → left ≡ placed (held_in (seen s) ++ piece) → s.count + length piece ≤ places
      → unread_from Accepted (record { left = left; count = s.count + length piece; reader = s.reader }) ≡ taken_from (take_call base (seen s) piece)
  kept left e h =
      let bs = held_in (seen s) ++ piece in
      let n : s.count + length piece ≡ length bs = omega (arith, length-append (held_in (seen s)) piece, held-length base (seen s) (good s r l)) in
      reads
      (ap₂ (λ b k. unread_from Accepted (record { left = b; count = k; reader = s.reader })) e n
      ∙ ap (λ q. unread_from Accepted (record { left = placed bs; count = length bs; reader = q })) (sym (reader-back s.reader))
      ∙ sym (ap taken_from (read-few base (seen s).reader bs (holds _ r) (omega arith))))

  -- Nothing was held.
  first : (b : RunAnswer) → s.count ≡ 0 → b ≡ judged s.reader piece → took_from (counts_from nothing) b piece ≡ taken_from (take_call base (seen s) piece)
  first b e q = reads (took_first s.reader piece b r q ∙ ap (λ n. taken_from (read_string base (seen s).reader (take n s.left ++ piece))) (sym e))

left-good : (c : Else-not-state_ok) → left_good c.args.state.left c.args.state.count ≡ true
left-good c = let k = c in sym k.left_ok.ensures ∙ c.if-not-left_ok.false

reader-good : (c : Else-not-state_ok) → reader_good base (R.seen c.args.state.reader) ≡ true
reader-good c = sym c.state_ok.ensures ∙ c.if-not-state_ok.false

piece-fits : (c : Start) → length c.args.piece.now < 2 ^ 64
piece-fits c = search rules

few : (c : Else-not-state_ok) → c.args.state.count ≤ places
few c =
    let s = c.args.state in
    leb-true s.count places (and_left (leb s.count places) _ (and_right (eqb (length s.left) places) _ (left-good c)))

pub returns-then-not-left_ok : goal.returns-then-not-left_ok
returns-then-not-left_ok c =
    let k = c in
    let a = k.args in
    let bad = sym k.left_ok.ensures ∙ c.if-not-left_ok.true in
    c.unread.ensures ∙ refused a.state (bad-left a.state bad) a.piece.now

pub returns-then-not-state_ok : goal.returns-then-not-state_ok
returns-then-not-state_ok c =
    let k = c in
    let a = k.args in
    let bad = sym k.state_ok.ensures ∙ c.if-not-state_ok.true in
    c.unread-then-not-state_ok.ensures ∙ refused a.state (bad-reader a.state bad) a.piece.now

pub overflow_sub-count : goal.overflow_sub-count
overflow_sub-count c = omega (arith, few (goal.at.overflow_sub-count c).Else-not-state_ok)

pub longer-requires : goal.longer-requires
longer-requires c = (left-good (goal.at.longer-requires c).Else-not-state_ok, omega (arith, c.if-piece-count.true, few (goal.at.longer-requires c).Else-not-state_ok))

pub returns-then-piece-count : goal.returns-then-piece-count
returns-then-piece-count c =
    let k = c in
    let a = k.args in
    let h : a.state.count + length a.piece.now ≤ places = omega (arith, c.if-piece-count.true, few (goal.at.returns-then-piece-count k).Else-not-state_ok) in
    c.unread-then-piece-count.ensures ∙ kept a.state a.piece.now (reader-good (goal.at.returns-then-piece-count k).Else-not-state_ok) (left-good (goal.at.returns-then-piece-count k).Else-not-state_ok) c.longer.result c.longer.ensures h

pub run_accepted-requires : goal.run_accepted-requires
run_accepted-requires c = reader-good (goal.at.run_accepted-requires c).Else-not-state_ok

pub took-requires : goal.took-requires
took-requires c =
    let k = c in
    let a = k.args in
    let none = ap (λ n. total (counts_of n)) (none_counted _ c.default.ensures) in
    let ran = judged-few a.state.reader a.piece.now c.run_accepted.result (reader-good (goal.at.took-requires k).Else-not-state_ok) c.run_accepted.ensures in
    omega (arith, none, ran, piece-fits (goal.at.took-requires k).Start)

pub returns-then-count-eq0 : goal.returns-then-count-eq0
returns-then-count-eq0 c =
    let k = c in
    let a = k.args in
    let ran = c.run_accepted in
    c.took.ensures
    ∙ ap (λ n. took_from n ran.result a.piece.now) (none_counted _ c.default.ensures)
    ∙ first a.state a.piece.now (reader-good (goal.at.returns-then-count-eq0 k).Else-not-state_ok) (left-good (goal.at.returns-then-count-eq0 k).Else-not-state_ok) ran.result c.if-count-eq0.true ran.ensures

pub take_cut-requires : goal.take_cut-requires
take_cut-requires c =
    let k = c in
    (reader-good (goal.at.take_cut-requires k).Else-not-state_ok, few (goal.at.take_cut-requires k).Else-not-state_ok, omega (arith, c.if-piece-count.false, few (goal.at.take_cut-requires k).Else-not-state_ok))

pub returns : goal.returns
returns c =
    let k = c in
    let a = k.args in
    reads a.state a.piece.now (reader-good (goal.at.returns k).Else-not-state_ok) (left-good (goal.at.returns k).Else-not-state_ok) c.take_cut.ensures
