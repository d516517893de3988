-- What a run of a judged state over the whole records of a slice gives, and two of them one after the other: what a piece answers. Cited by the proofs of
-- `take` and `take_cut`. Assumes nothing.
use mathlib.Core.Path.{◌≡◌, refl, sym, ap, ap₂, ◌∙◌}
use mathlib.Core.Bool.{true}
use mathlib.Core.List.{List, [], ◌++◌}
use Prim.Native.Nat.{ℕ, ◌/◌, ◌%◌, ◌≤◌}
use native.Mathlib.Omega.{arith}
use lib.ListN.{length}
use borrow.Author.Tests.{eq-eqb}
use Rattle.model.specs.Panel.{base}
use Rattle.model.specs.Records.{events_from, events_of}
use Rattle.model.specs.Reader as R
use Rattle.model.specs.Reader.{nothing, plus}
use Rattle.model.specs.States.{reader_good}
use Rattle.model.specs.Calls as C
use Rattle.model.specs.Calls.{run_call, joined}
use Rattle.model.specs.Pieces.{whole_bytes, left_bytes, placed, carrying, total, read_string}
use Rattle.model.proofs.Bools.{is_true, holds}
use Rattle.model.proofs.Counts.{run-few}
use Rattle.model.proofs.Bytes.{events-length}
use Rattle.model.proofs.Answers.{run-whole}
use Rattle.model.proofs.Calls.{run_steady}
use Rattle.model.proofs.Chain.{run-cut}
use Rattle.model.proofs.Pieces.{whole_multiple, whole_all, events-whole, whole-behind, left_behind, read-accepted}
use Rattle.common.specs.declared.Verdict.TheVariants.{Accepted}
use Rattle.common.specs.Seen.{counts_of, counts_from}
use Rattle.common.proofs.Back.{counts-seen}
use Rattle.panel.specs.Seen.{panel_seen}
use Rattle.reader.specs.declared.ReaderState.{ReaderState}
use Rattle.reader.specs.declared.RunAnswer.{RunAnswer}
use Rattle.reader.specs.States.{seen, ran_from, answered}
use Rattle.reader.proofs.Held.{state_back}
use Rattle.reader.proofs.Promises.{run-state}
use Rattle.pieces.specs.declared.TakeAnswer.{TakeAnswer}
use Rattle.pieces.specs.Seen.{taken_from, took_from}

-- ---- one run

-- What `run_accepted` answers.
abbrev pub judged : ReaderState → List ℕ → RunAnswer
judged s bs = answered s.setup (R.run (panel_seen s.setup) (seen s).reader (events_of bs))

module _ (s : ReaderState) (bs : List ℕ) (q : RunAnswer) (g : reader_good base (seen s) ≡ true) (e : q ≡ judged s bs) where
  -- The run of a judged state is `run`'s answer to the whole records.
  pub judged-run : q ≡ ran_from (run_call base (seen s) (whole_bytes bs))
  judged-run =
      e
      ∙ ap (λ es. answered s.setup (R.run (panel_seen s.setup) (seen s).reader es)) (sym (events-whole bs))
      ∙ sym (ap ran_from (run-whole base (seen s) (whole_bytes bs) g (eq-eqb (length (whole_bytes bs) % 8) 0 (whole_multiple bs))))

  -- It leaves a well-formed state.
  pub judged-good : reader_good base (seen q.state) ≡ true
  judged-good = ap (reader_good base) (run-state s (whole_bytes bs) q judged-run) ∙ is_true _ (run_steady base (seen s) (whole_bytes bs) (holds _ g))

  -- It counts no more than there are records.
  pub judged-few : total (counts_of q.counts) ≤ length bs / 8
  judged-few =
      let r = R.run (panel_seen s.setup) (seen s).reader (events_of bs) in
      let told : counts_of q.counts ≡ r.counts = ap (λ (x : RunAnswer). counts_of x.counts) e ∙ counts-seen r.counts in
      omega (arith, ap total told, run-few (panel_seen s.setup) (seen s).reader (events_of bs), events-length (length bs / 8) bs 0)

-- ---- a run after another

-- Whole records xs and then the whole records of `rest`: what the model answers to both at once.
pub took_after : (s : ReaderState) (xs rest : List ℕ) (a b : RunAnswer) → reader_good base (seen s) ≡ true → length xs % 8 ≡ 0
    → a ≡ judged s xs → b ≡ judged a.state rest → took_from a.counts b rest ≡ taken_from (read_string base (seen s) (xs ++ rest))
took_after s xs rest a b g h ea eb =
    let x = run_call base (seen s) xs in
    let y = run_call base x.state (whole_bytes rest) in
    let l = left_bytes rest in
    let first : a ≡ ran_from x = judged-run s xs a g ea ∙ ap (λ w. ran_from (run_call base (seen s) w)) (whole_all xs h) in
    let second : b ≡ ran_from y =
    judged-run a.state rest b (judged-good s xs a g ea) eb ∙ ap (λ r. ran_from (run_call base r (whole_bytes rest))) (run-state s xs a first) in
    let counts = ap₂ plus (counted a x first) (counted b y second) in
    let whole : run_call base (seen s) (whole_bytes (xs ++ rest)) ≡ joined x y =
    ap (run_call base (seen s)) (whole-behind xs rest h) ∙ run-cut base (seen s) xs (whole_bytes rest) h (whole_multiple rest) in
    let accepted : y.verdict ≡ C.accepted = sym (ap (λ (r : C.Ran). r.verdict) whole) ∙ read-accepted base (seen s) (xs ++ rest) (holds _ g) in
    ap₂ {C = TakeAnswer} (λ r t. record { verdict = Accepted; state = record { left = placed l; count = length l; reader = r }; counts = counts_from t })
    (ap (λ (q : RunAnswer). q.state) second)
    counts
    ∙ ap (λ v. taken_from (record { verdict = v; state = carrying y.state l; counts = plus x.counts y.counts })) (sym accepted)
    ∙ sym (ap₂ (λ (r : C.Ran) m. taken_from (record { verdict = r.verdict; state = carrying r.state m; counts = r.counts })) whole (left_behind xs rest h))
  where
    counted : (q : RunAnswer) (r : C.Ran) → q ≡ ran_from r → counts_of q.counts ≡ r.counts
    counted q r e = ap (λ (z : RunAnswer). counts_of z.counts) e ∙ counts-seen r.counts

-- The whole records of a piece that finds nothing held.
pub took_first : (s : ReaderState) (piece : List ℕ) (b : RunAnswer) → reader_good base (seen s) ≡ true
    → b ≡ judged s piece → took_from (counts_from nothing) b piece ≡ taken_from (read_string base (seen s) piece)
unfolding R.run events_from
took_first s piece b g e =
    took_after s [] piece (record { verdict = Accepted; state = s; counts = counts_from nothing }) b g refl
    (ap (λ t. record { verdict = Accepted; state = t; counts = counts_from nothing }) (sym (state_back s)))
    e
