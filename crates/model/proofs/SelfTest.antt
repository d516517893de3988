-- What 02's K3 changed in the pod's machine, and what it did not. One machine reads by two tables of first bytes: a state that does not
-- wait reads as document 01's did, and one that waits differs in nothing but the first 0xF0 that stands as a first byte, over any bytes.
-- Cited by the crate pod. Assumes nothing.
use mathlib.Core.Path.{◌≡◌, refl, ap, ◌∙◌}
use mathlib.Core.Bool.{Bool, true, false, cond, not, ◌&&◌, and-false, false≢true}
use mathlib.Core.List.{List, [], ◌∷◌, ◌++◌}
use Prim.Native.Nat.{ℕ}
use lib.Dec.{ltb, eqb, leb-suc-zero, leb-suc-suc}
use lib.ListN.{length}
use borrow.Author.Tests.{eqb-true, eqb-false}
use Rattle.model.proofs.Bools.{and_left, and_right}
use Rattle.model.proofs.FirstBytes.{unwaited_row, other_row}
use Rattle.model.proofs.Pod.{key_length, formed, by_judging, by_last, step-accepted, step-formed}
use Rattle.model.specs.Numbers.{between}
use Rattle.model.specs.Pod.{Kind, kind_of, self_test, amended, unamended, length_of, State, held_in, holding, emptied, fresh, after_reset}
use Rattle.model.specs.Pod.{unfinished, well_formed, key_up, self_test_passed, passed, good_clock, clock_in, good_flags, good_stick, byte_at, judged, first_of, fed_to, fed}
use Rattle.model.specs.Pod.{Stepped, accepted, refusing, step_by, step, told, told_of, after, run_by, run, answers_by}
use Rattle.model.specs.Pod.{nothing_held, self_test_here, before_self_test, waiting, DiffersOnce}

-- ---- where the two tables agree

-- A 0xF0 opens no longer report, so the first byte of one is read alike, whether the state waits or not.
longer_alike : (w : Bool) (b : ℕ) → ltb 1 (length_of (kind_of b)) ≡ true → amended w b ≡ kind_of b
longer_alike w b e = other_row b w (λ h. false≢true (ap (ltb 1) (key_length h) ∙ e))

-- So is every byte that is not a 0xF0 that stands as a first byte.
tables_alike : (w : Bool) (held : List ℕ) (b : ℕ) → unfinished held ≡ true → (nothing_held held && eqb b self_test) ≡ false
    → amended w (first_of held b) ≡ kind_of (first_of held b)
tables_alike w [] b u e = other_row b w (eqb-false b self_test e)
tables_alike w (first ∷ rest) b u e =
    let n = length_of (kind_of first) in
    longer_alike w first (and_left (ltb 1 n) (ltb (length (first ∷ rest)) n) u)

-- Where the tables agree, so do the machines.
steps_alike : (s : State) (b : ℕ) → amended s.waits (first_of (held_in s) b) ≡ kind_of (first_of (held_in s) b) → step s b ≡ step_by unamended s b
unfolding step_by fed
steps_alike s b e = ap (λ k. cond (well_formed s) (accepted s.waits (fed_to k (held_in s ++ b ∷ []))) (refusing s)) e

-- A state that is not well formed is refused by both.
pub refused_alike : (s : State) (b : ℕ) → well_formed s ≡ false → step s b ≡ step_by unamended s b
unfolding step_by
refused_alike s b e = rw e

-- ---- a state that does not wait

-- It reads a byte exactly as document 01's machine does.
pub step-plain : (s : State) (b : ℕ) → s.waits ≡ false → step s b ≡ step_by unamended s b
step-plain s b e = steps_alike s b (rw e (unwaited_row (first_of (held_in s) b)))

-- It never waits again, by whatever table it reads.
waits_no_more : (table : Bool → ℕ → Kind) (s : State) (b : ℕ) → s.waits ≡ false → (step_by table s b).state.waits ≡ false
unfolding step_by
waits_no_more table s b e = go (well_formed s)
  where
    go : (t : Bool) → (cond t (accepted s.waits (fed (table s.waits) (held_in s) b)) (refusing s)).state.waits ≡ false
    go true = rw e (and-false (not (passed (fed (table false) (held_in s) b).report)))
    go false = e

-- Over any bytes its states and answers are document 01's.
pub run-plain : (s : State) (bs : List ℕ) → s.waits ≡ false → run s bs ≡ run_by unamended s bs
run-plain s [] e = refl
run-plain s (b ∷ bs) e =
    ap (after (told (step s b).report)) (run-plain (step s b).state bs (waits_no_more amended s b e))
    ∙ ap (λ r. after (told r.report) (run_by unamended r.state bs)) (step-plain s b e)

-- And so are its answers byte by byte.
pub answers-plain : (s : State) (bs : List ℕ) → s.waits ≡ false → answers_by amended s bs ≡ answers_by unamended s bs
answers-plain s [] e = refl
answers-plain s (b ∷ bs) e =
    ap (λ rs. (step s b).report ∷ rs) (answers-plain (step s b).state bs (waits_no_more amended s b e))
    ∙ ap (λ r. r.report ∷ answers_by unamended r.state bs) (step-plain s b e)

-- ---- document 01's machine and the wait

-- A kind of report that is never answered "self-test passed".
record Quiet (k : Kind) : Type 0 where
  quiet : (r : List ℕ) → passed (judged k r) ≡ false

-- What is quiet in one row of the table and in those below it is quiet.
by_row : (t : Bool) (row below : Kind) → Quiet row → Quiet below → Quiet (cond t row below)
by_row true row below e g = e
by_row false row below e g = g

-- So are all that 01's table opens.
table-quiet : (b : ℕ) → Quiet (kind_of b)
unfolding kind_of
table-quiet b =
    by_row (between 0x01 0x75 b) _ _ (record { quiet = λ r. refl })
    (by_row (between 0x81 0xf5 b) _ _ (record { quiet = λ r. refl })
    (by_row (between 0xf7 0xf7 b) _ _ (record { quiet = λ r. by_judging passed refl (good_flags (byte_at r 1)) _ refl })
    (by_row (between 0xf8 0xfb b) _ _ (record { quiet = λ r. refl })
    (by_row (between 0xfc 0xfc b) _ _ (record { quiet = λ r. by_judging passed refl (good_clock (clock_in r)) _ refl })
    (by_row (between 0xfd 0xfd b) _ _ (record { quiet = λ r. by_judging passed refl (good_stick (byte_at r 1) && good_stick (byte_at r 2)) _ refl })
    (by_row (between 0xfe 0xff b) _ _ (record { quiet = λ r. by_judging passed refl (good_stick (byte_at r 1)) _ refl })
    (record { quiet = λ r. refl })))))))

-- So no byte is answered so by 01's table.
quiet-fed : (held : List ℕ) (b : ℕ) → passed (fed kind_of held b).report ≡ false
quiet-fed held b = by_last (λ f. passed f.report ≡ false) kind_of held b (λ e. refl) ((table-quiet (first_of held b)).quiet (held ++ b ∷ []))

-- A state and an answer with this wait, otherwise as they were.
abbrev rewaited : Bool → Stepped → Stepped
rewaited w r = record { state = waiting w r.state; report = r.report }

-- Document 01's machine neither looks at the wait nor touches it.
blind_step : (w : Bool) (s : State) (b : ℕ) → step_by unamended (waiting w s) b ≡ rewaited w (step_by unamended s b)
unfolding step_by well_formed
blind_step w s b = go (well_formed s)
  where
    go : (t : Bool)
        → cond t (accepted w (fed kind_of (held_in s) b)) (refusing (waiting w s))
        ≡ rewaited w (cond t (accepted s.waits (fed kind_of (held_in s) b)) (refusing s))
    go true =
        let f = fed kind_of (held_in s) b in
        ap (λ p. record { state = holding (not p && w) f.held; report = f.report }) (quiet-fed (held_in s) b)
    go false = refl

-- Over any bytes its answers are the same whatever the wait,
blind_answers : (w : Bool) (s : State) (bs : List ℕ) → answers_by unamended (waiting w s) bs ≡ answers_by unamended s bs
blind_answers w s [] = refl
blind_answers w s (b ∷ bs) =
    ap (λ r. r.report ∷ answers_by unamended r.state bs) (blind_step w s b)
    ∙ ap (λ rs. (step_by unamended s b).report ∷ rs) (blind_answers w (step_by unamended s b).state bs)

-- and its states are so but for the wait.
blind_run : (w : Bool) (s : State) (bs : List ℕ) → (run_by unamended (waiting w s) bs).state ≡ waiting w (run_by unamended s bs).state
blind_run w s [] = refl
blind_run w s (b ∷ bs) = ap (λ r. (run_by unamended r.state bs).state) (blind_step w s b) ∙ blind_run w (step_by unamended s b).state bs

-- ---- a state that waits

-- What is said to be nothing is no byte.
empty : (held : List ℕ) → nothing_held held ≡ true → held ≡ []
empty [] e = refl
empty (first ∷ rest) e = absurd (false≢true e)

module _ (s : State) (b : ℕ) (e : well_formed s ≡ true) where
  -- A byte that is not a 0xF0 that stands as a first byte is read as document 01's machine does.
  pub step-on : self_test_here s b ≡ false → step s b ≡ step_by unamended s b
  step-on h = steps_alike s b (tables_alike s.waits (held_in s) b (formed s e).begun h)

  -- Where one stands nothing is held,
  held_none : self_test_here s b ≡ true → held_in s ≡ []
  held_none h = empty (held_in s) (and_left (nothing_held (held_in s)) (eqb b self_test) h)

  -- and it is a 0xF0.
  is_self_test : self_test_here s b ≡ true → b ≡ self_test
  is_self_test h = eqb-true b self_test (and_right (nothing_held (held_in s)) (eqb b self_test) h)

  -- It says that the self-test passed, and ends the wait.
  pub step-passed : s.waits ≡ true → self_test_here s b ≡ true → step s b ≡ record { state = emptied false; report = self_test_passed }
  unfolding fed amended
  step-passed w h = step-accepted s b e ∙ rw (w, held_none h, is_self_test h)

  -- To document 01's machine it is key 0x70 coming up.
  pub step_key : self_test_here s b ≡ true → step_by unamended s b ≡ record { state = emptied s.waits; report = key_up 0x70 }
  unfolding step_by fed kind_of
  step_key h = rw (e, held_none h, is_self_test h)

module _ (s : State) (b : ℕ) (bs : List ℕ) (e : well_formed s ≡ true) where
  -- After the 0xF0 that ends the wait all is document 01's.
  differs_here : s.waits ≡ true → self_test_here s b ≡ true → DiffersOnce s (b ∷ bs)
  differs_here w h =
      let now = step-passed s b e w h in
      let key = step_key s b e h in
      let rest = run-plain (emptied false) bs refl in
      record {
        answers = rw (h, now, key) (ap (λ rs. self_test_passed ∷ rs) (answers-plain (emptied false) bs refl ∙ blind_answers false (emptied s.waits) bs));
        state = rw (h, now, key, leb-suc-zero (length bs)) (ap (λ r. r.state) rest ∙ blind_run false (emptied s.waits) bs);
      }

  -- Before it the state waits on, and all is document 01's but for what comes.
  differs_later : self_test_here s b ≡ false → DiffersOnce (step_by unamended s b).state bs → DiffersOnce s (b ∷ bs)
  differs_later h d =
      let now = step-on s b e h in
      let n = before_self_test (step_by unamended s b).state bs in
      record {
        answers = rw (h, now) (ap (λ rs. (step_by unamended s b).report ∷ rs) d.answers);
        state = rw (h, now, leb-suc-suc (length bs) n) d.state;
      }

-- Over any bytes a state that waits differs from document 01's machine in nothing but the first 0xF0 that stands as a first byte.
pub differs_once : (s : State) (bs : List ℕ) → well_formed s ≡ true → s.waits ≡ true → DiffersOnce s bs
differs_once s [] e w = record { answers = refl; state = ap (λ v. waiting v s) w }
differs_once s (b ∷ bs) e w =
    elim (self_test_here s b) as (λ t. self_test_here s b ≡ t → DiffersOnce s (b ∷ bs)) [
      | true ↦ λ h. differs_here s b bs e w h
      | false ↦ λ h.
          let now = step-on s b e h in
          differs_later s b bs e h
          (differs_once (step_by unamended s b).state bs (rw now at (step-formed s b e)) (ap (λ r. r.state.waits) (blind_step s.waits s b) ∙ w))
    ] refl

-- What a run tells is what its bytes are answered, but for "more".
pub run-told : (table : Bool → ℕ → Kind) (s : State) (bs : List ℕ) → (run_by table s bs).reports ≡ told_of (answers_by table s bs)
run-told table s [] = refl
run-told table s (b ∷ bs) = ap (λ rs. told (step_by table s b).report ++ rs) (run-told table (step_by table s b).state bs)

-- ---- a reset

-- A reset's state is the fresh one, whatever the state was: the next 0xF0 says again that the self-test passed, and the one after it is key 0x70.
pub reset-fresh : (s : State) → after_reset s ≡ fresh
reset-fresh s = refl

pub reset-passes : (s : State) → run (after_reset s) (self_test ∷ self_test ∷ []) ≡ record { state = emptied false; reports = self_test_passed ∷ key_up 0x70 ∷ [] }
unfolding step_by well_formed fed amended kind_of
reset-passes s = refl
