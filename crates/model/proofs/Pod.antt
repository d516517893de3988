-- The laws of pod reports: which states are well formed and stay so, what a finished or bad report leaves, and that a run does not
-- depend on how its bytes are cut. What K3 changed, and what it did not, is SelfTest's. Cited by the proofs of the crate pod. Assumes nothing.
use mathlib.Core.Path.{◌≡◌, refl, sym, ap, ap₂, ◌∙◌}
use mathlib.Core.Bool.{Bool, true, false, cond, ◌&&◌, false≢true}
use mathlib.Core.List.{List, [], ◌∷◌, ◌++◌, append_assoc}
use Prim.Native.Nat.{ℕ, suc, ◌+◌, ◌-◌, ◌≤◌, ◌<◌}
use native.Mathlib.Omega.{arith}
use lib.Dec.{leb, ltb, eqb, lit≤}
use lib.ListN.{length, get_or, take, drop, set, replicate, length-append, length-replicate, take-append-drop}
use lib.Seq.{length-take-le, take-append_seam, drop-append_seam, drop-cons, set_split}
use borrow.Author.Tests.{ltb-true, leb-true, eqb-true, lt-ltb, le-ltb, le-leb, eq-eqb}
use Rattle.model.proofs.Bools.{and_left, and_right}
use Rattle.model.proofs.Exact.{exact}
use Rattle.model.proofs.Places.{zeros-replicate, clear_places}
use Rattle.model.specs.Refusals.{Exact, pod_rows}
use Rattle.model.specs.Pod.{Kind, key_down_report, key_up_report, absolute_report, relative_report, time_report, both_sticks_report}
use Rattle.model.specs.Pod.{one_stick_report, self_test_report, bad_byte_report, kind_of, self_test, amended, length_of, places, State, held_in, unused_in, holding, emptied, fresh}
use Rattle.model.specs.Pod.{unfinished, zeros, well_formed, Report, more, bad_byte, bad_report, report_refusal, ends, waits_after}
use Rattle.model.specs.Pod.{good_clock, clock_in, good_flags, good_stick, byte_at, judged, Fed, first_of, keeping, ending, fed_to, fed}
use Rattle.model.specs.Pod.{Stepped, accepted, refusing, step_by, step, told, after, run}

-- ---- places and the bytes held

-- The facts that make a state well formed.
pub record Formed (s : State) : Type 0 where
  pub sized : length s.bytes ≡ places
  pub few : s.count ≤ places
  pub begun : unfinished (held_in s) ≡ true
  pub clear : zeros (unused_in s) ≡ true

-- A well-formed state has these facts.
pub formed : (s : State) → well_formed s ≡ true → Formed s
unfolding well_formed
formed s e =
    let a = eqb (length s.bytes) places in
    let b = leb s.count places in
    let c = unfinished (held_in s) in
    let d = zeros (unused_in s) in
    let e1 = and_right a (b && (c && d)) e in
    let e2 = and_right b (c && d) e1 in
    record {
      sized = eqb-true (length s.bytes) places (and_left a (b && (c && d)) e);
      few = leb-true s.count places (and_left b (c && d) e1);
      begun = and_left c d e2;
      clear = and_right c d e2;
    }

-- A state with these facts is well formed.
pub forms : (s : State) → Formed s → well_formed s ≡ true
unfolding well_formed
forms s f = rw (eq-eqb _ _ f.sized, le-leb _ _ f.few, f.begun, f.clear)

-- A well-formed state holds as many bytes as it counts.
pub length-held : (s : State) → well_formed s ≡ true → length (held_in s) ≡ s.count
length-held s e = let f = formed s e in length-take-le s.count s.bytes (omega (arith, f.sized, f.few))

-- What a state holds is what it was made to hold.
pub held-holding : (w : Bool) (held : List ℕ) → held_in (holding w held) ≡ held
held-holding w held = take-append_seam held (replicate (places - length held) 0)

-- A well-formed state is the state that waits as it does and holds the bytes it holds.
pub holding-held : (s : State) → well_formed s ≡ true → holding s.waits (held_in s) ≡ s
holding-held s e =
    let f = formed s e in
    let left : places - length (held_in s) ≡ length s.bytes - s.count = omega (arith, length-held s e, f.sized) in
    ap₂ {C = State} (λ bs c. record { waits = s.waits; bytes = bs; count = c })
    (ap (λ m. held_in s ++ replicate m 0) left
    ∙ ap (λ u. held_in s ++ u) (clear_places s.bytes s.count f.clear)
    ∙ take-append-drop s.count s.bytes)
    (length-held s e)

-- ---- lengths

-- A report has a byte, and at most one more than there are places.
pub lengths : (k : Kind) → (1 ≤ length_of k) × (length_of k ≤ places + 1)
lengths (key_down_report key) = (lit≤ tt, lit≤ tt)
lengths (key_up_report key) = (lit≤ tt, lit≤ tt)
lengths absolute_report = (lit≤ tt, lit≤ tt)
lengths (relative_report left right) = (lit≤ tt, lit≤ tt)
lengths time_report = (lit≤ tt, lit≤ tt)
lengths both_sticks_report = (lit≤ tt, lit≤ tt)
lengths (one_stick_report which) = (lit≤ tt, lit≤ tt)
lengths self_test_report = (lit≤ tt, lit≤ tt)
lengths bad_byte_report = (lit≤ tt, lit≤ tt)

-- In 01's table a 0xF0 is a report of one byte, as the passed self-test is.
pub key_length : {b : ℕ} → b ≡ self_test → length_of self_test_report ≡ length_of (kind_of b)
unfolding kind_of
key_length e = ap (λ x. length_of (kind_of x)) (sym e)

-- K3 changes no length of the table.
pub amended-length : (w : Bool) (b : ℕ) → length_of (amended w b) ≡ length_of (kind_of b)
unfolding amended
amended-length w b = go (w && eqb b self_test) refl
  where
    go : (t : Bool) → (w && eqb b self_test) ≡ t → length_of (cond t self_test_report (kind_of b)) ≡ length_of (kind_of b)
    go true e = key_length (eqb-true b self_test (and_right w (eqb b self_test) e))
    go false e = refl

-- The bytes of an unfinished report are fewer than its length, whatever byte comes next.
pub fewer : (held : List ℕ) (b : ℕ) → unfinished held ≡ true → length held < length_of (kind_of (first_of held b))
fewer [] b e = omega (arith, lengths (kind_of b))
fewer (first ∷ rest) b e =
    let k = kind_of first in
    ltb-true (length (first ∷ rest)) (length_of k) (and_right (ltb 1 (length_of k)) (ltb (length (first ∷ rest)) (length_of k)) e)

-- The bytes of an unfinished report fit the places.
pub fit : (held : List ℕ) → unfinished held ≡ true → length held ≤ places
fit held e = omega (arith, fewer held 0 e, lengths (kind_of (first_of held 0)))

-- A state that holds an unfinished report is well formed.
pub formed-holding : (w : Bool) (held : List ℕ) → unfinished held ≡ true → well_formed (holding w held) ≡ true
formed-holding w held e =
    let l = fit held e in
    forms (holding w held) (record {
      sized = simp (length-append, length-replicate) (omega arith);
      few = l;
      begun = rw (held-holding w held) e;
      clear = rw (drop-append_seam held (replicate (places - length held) 0)) (zeros-replicate (places - length held));
    })

-- ---- a byte, by cases

-- A byte after those held is held too, or it is its report's last one.
pub by_last : (P : Fed → Type 0) (table : ℕ → Kind) (held : List ℕ) (b : ℕ)
    → (ltb (length (held ++ b ∷ [])) (length_of (table (first_of held b))) ≡ true → P (keeping (held ++ b ∷ [])))
    → P (ending (judged (table (first_of held b)) (held ++ b ∷ [])))
    → P (fed table held b)
unfolding fed
by_last P table held b kept last = go (ltb (length (held ++ b ∷ [])) (length_of (table (first_of held b)))) refl
  where
    go : (t : Bool) → ltb (length (held ++ b ∷ [])) (length_of (table (first_of held b))) ≡ t → P (fed table held b)
    go true e = rw e (kept e)
    go false e = rw e last

-- A state that is not well formed is refused: it comes back as it is, and the byte is not read.
pub step-refused : (s : State) (b : ℕ) → well_formed s ≡ false → step s b ≡ refusing s
unfolding step_by
step-refused s b e = rw e

-- On a well-formed state a step is what its wait and its held bytes make of the byte.
pub step-accepted : (s : State) (b : ℕ) → well_formed s ≡ true → step s b ≡ accepted s.waits (fed (amended s.waits) (held_in s) b)
unfolding step_by
step-accepted s b e = rw e

-- A step goes by whether the state is well formed.
by_form : (P : Stepped → Type 0) (s : State) (b : ℕ)
    → (well_formed s ≡ true → P (accepted s.waits (fed (amended s.waits) (held_in s) b)))
    → (well_formed s ≡ false → P (refusing s))
    → P (step s b)
by_form P s b good bad = go (well_formed s) refl
  where
    go : (t : Bool) → well_formed s ≡ t → P (step s b)
    go true e = rw (step-accepted s b e) (good e)
    go false e = rw (step-refused s b e) (bad e)

-- ---- well-formed states stay so

-- A byte that is not the last one leaves an unfinished report.
begins : (held : List ℕ) (b : ℕ) → ltb (length (held ++ b ∷ [])) (length_of (kind_of (first_of held b))) ≡ true → unfinished (held ++ b ∷ []) ≡ true
begins [] b e = rw e
begins (first ∷ rest) b e =
    let l = ltb-true (suc (length (rest ++ b ∷ []))) (length_of (kind_of first)) e in
    rw (lt-ltb 1 (length_of (kind_of first)) (omega arith), e)

-- What is held after a byte is an unfinished report.
pub unfinished-fed : (w : Bool) (held : List ℕ) (b : ℕ) → unfinished (fed (amended w) held b).held ≡ true
unfinished-fed w held b =
    by_last (λ f. unfinished f.held ≡ true) (amended w) held b (λ e. begins held b (rw (amended-length w (first_of held b)) at e)) refl

-- A step keeps a state well formed.
pub step-formed : (s : State) (b : ℕ) → well_formed s ≡ true → well_formed (step s b).state ≡ true
step-formed s b e =
    let f = fed (amended s.waits) (held_in s) b in
    rw (step-accepted s b e) (formed-holding (waits_after s.waits f.report) f.held (unfinished-fed s.waits (held_in s) b))

-- Every state that bytes lead to from a well-formed one is well formed.
pub run-formed : (s : State) (bs : List ℕ) → well_formed s ≡ true → well_formed (run s bs).state ≡ true
run-formed s [] e = e
run-formed s (b ∷ bs) e = run-formed (step s b).state bs (step-formed s b e)

-- The fresh state is well formed.
pub fresh-formed : well_formed fresh ≡ true
unfolding well_formed
fresh-formed = refl

-- Every state that bytes lead to from the fresh one is well formed.
pub reached-formed : (bs : List ℕ) → well_formed (run fresh bs).state ≡ true
reached-formed bs = run-formed fresh bs fresh-formed

-- ---- refusals

-- What holds of a report that is judged good, and of a bad one, holds of one that may be judged bad.
pub by_judging : {A : Type 0} (f : Report → A) {x : A} → f bad_report ≡ x → (t : Bool) (good : Report) → f good ≡ x → f (cond t good bad_report) ≡ x
by_judging f bad true good e = e
by_judging f bad false good e = bad

-- The judging of a report refuses nothing.
unrefused : (k : Kind) (r : List ℕ) → report_refusal (judged k r) ≡ 0
unrefused (key_down_report key) r = refl
unrefused (key_up_report key) r = refl
unrefused absolute_report r = by_judging report_refusal refl (good_flags (byte_at r 1)) _ refl
unrefused (relative_report left right) r = refl
unrefused time_report r = by_judging report_refusal refl (good_clock (clock_in r)) _ refl
unrefused both_sticks_report r = by_judging report_refusal refl (good_stick (byte_at r 1) && good_stick (byte_at r 2)) _ refl
unrefused (one_stick_report which) r = by_judging report_refusal refl (good_stick (byte_at r 1)) _ refl
unrefused self_test_report r = refl
unrefused bad_byte_report r = refl

-- Refusal 2 is given exactly when the state is not well formed.
pub refusal_exact : (s : State) (b : ℕ) → report_refusal (step s b).report ≡ cond (well_formed s) 0 2
refusal_exact s b =
    by_form (λ r. report_refusal r.report ≡ cond (well_formed s) 0 2) s b
    (λ e.
    let t = amended s.waits in
    rw e (by_last (λ f. report_refusal f.report ≡ 0) t (held_in s) b (λ l. refl) (unrefused (t (first_of (held_in s) b)) (held_in s ++ b ∷ []))))
    (λ e. rw e)

-- So it is exact, as the calls' are.
pub pod_exact : (s : State) (b : ℕ) → Exact (report_refusal (step s b).report) (pod_rows s)
pod_exact s b = exact (pod_rows s) _ tt (refusal_exact s b)

-- ---- after a report

-- An answer that ends its report leaves the fresh state but for the wait: that is as it was, unless the self-test passed.
pub fresh-after : (s : State) (b : ℕ) → ends (step s b).report ≡ true → (step s b).state ≡ emptied (waits_after s.waits (step s b).report)
fresh-after s b =
    by_form (λ r. ends r.report ≡ true → r.state ≡ emptied (waits_after s.waits r.report)) s b
    (λ e.
    by_last (λ f. ends f.report ≡ true → (accepted s.waits f).state ≡ emptied (waits_after s.waits f.report)) (amended s.waits) (held_in s) b
    (λ l m. absurd (false≢true m))
    (λ m. refl))
    (λ e m. absurd (false≢true m))

-- After a bad byte it is fresh but for the wait, which is as it was.
pub fresh-after-bad_byte : (s : State) (b : ℕ) → (step s b).report ≡ bad_byte → (step s b).state ≡ emptied s.waits
fresh-after-bad_byte s b e = fresh-after s b (ap ends e) ∙ ap (λ r. emptied (waits_after s.waits r)) e

-- After a bad report likewise.
pub fresh-after-bad-report : (s : State) (b : ℕ) → (step s b).report ≡ bad_report → (step s b).state ≡ emptied s.waits
fresh-after-bad-report s b e = fresh-after s b (ap ends e) ∙ ap (λ r. emptied (waits_after s.waits r)) e

-- Where nothing is held the next byte is a first byte: what it opens goes by the table, whatever came before.
pub fresh-first : (w : Bool) (b : ℕ) → step (emptied w) b ≡ accepted w (fed_to (amended w b) (b ∷ []))
unfolding step_by fed well_formed
fresh-first w b = refl

-- ---- a byte, in places

-- One byte more is held.
length_snoc : (held : List ℕ) (b : ℕ) → length (held ++ b ∷ []) ≡ length held + 1
length_snoc held b = length-append held (b ∷ [])

module _ (table : ℕ → Kind) (held : List ℕ) (b : ℕ) where
  -- A byte that is not its report's last one is held.
  fed-more : length held + 1 < length_of (table (first_of held b)) → fed table held b ≡ keeping (held ++ b ∷ [])
  unfolding fed
  fed-more l = rw (length_snoc held b, lt-ltb (length held + 1) (length_of (table (first_of held b))) l)

  -- A report's last byte has it judged.
  fed-last : length_of (table (first_of held b)) ≤ length held + 1 → fed table held b ≡ ending (judged (table (first_of held b)) (held ++ b ∷ []))
  unfolding fed
  fed-last l = rw (length_snoc held b, le-ltb (length held + 1) (length_of (table (first_of held b))) l)

-- Where places are clear from one on, they are clear from the next on.
clear_next : (l : List ℕ) (n : ℕ) → n < length l → zeros (drop n l) ≡ true → zeros (drop (suc n) l) ≡ true
clear_next l n h e = and_right (eqb (get_or l n 0) 0) (zeros (drop (suc n) l)) (rw (drop-cons l n 0 h) at e)

-- A byte after the used places, and zeros after it, are the places with that byte stored.
stored : (l : List ℕ) (n b : ℕ) → n < length l → zeros (drop n l) ≡ true → (take n l ++ b ∷ []) ++ replicate (length l - suc n) 0 ≡ set l n b
stored l n b h e =
    append_assoc (take n l) (b ∷ []) (replicate (length l - suc n) 0)
    ∙ ap (λ u. take n l ++ b ∷ u) (clear_places l (suc n) (clear_next l n h e))
    ∙ sym (set_split l n b h)

module _ (s : State) (b : ℕ) (e : well_formed s ≡ true) where
  -- The kind of the report that the byte belongs to.
  abbrev opens : Kind
  opens = amended s.waits (first_of (held_in s) b)

  -- A byte held after others takes the first unused place.
  holding-more : s.count < places
      → holding s.waits (held_in s ++ b ∷ []) ≡ record { waits = s.waits; bytes = set s.bytes s.count b; count = s.count + 1 }
  holding-more r =
      let f = formed s e in
      let used : length (held_in s ++ b ∷ []) ≡ s.count + 1 = length_snoc (held_in s) b ∙ ap (λ m. m + 1) (length-held s e) in
      let left : places - length (held_in s ++ b ∷ []) ≡ length s.bytes - suc s.count = omega (arith, f.sized) in
      ap₂ {C = State} (λ bs c. record { waits = s.waits; bytes = bs; count = c })
      (ap (λ m. (held_in s ++ b ∷ []) ++ replicate m 0) left ∙ stored s.bytes s.count b (omega (arith, f.sized)) f.clear)
      used

  -- A byte that is not its report's last one is stored in the first unused place.
  pub step-more : s.count + 1 < length_of opens
      → step s b ≡ record { state = record { waits = s.waits; bytes = set s.bytes s.count b; count = s.count + 1 }; report = more }
  step-more l =
      step-accepted s b e
      ∙ ap (accepted s.waits) (fed-more (amended s.waits) (held_in s) b (rw (length-held s e) l))
      ∙ ap (λ t. record { state = t; report = more }) (holding-more (omega (arith, lengths opens)))

  -- A report's last byte has it judged, after all the others of its length, and leaves nothing held.
  pub step-last : length_of opens ≤ s.count + 1 → step s b ≡ accepted s.waits (ending (judged opens (take (length_of opens - 1) s.bytes ++ b ∷ [])))
  step-last l =
      let longer = amended-length s.waits (first_of (held_in s) b) in
      let others : s.count ≡ length_of opens - 1 = omega (arith, length-held s e, fewer (held_in s) b (formed s e).begun, longer) in
      step-accepted s b e
      ∙ ap (accepted s.waits) (fed-last (amended s.waits) (held_in s) b (rw (length-held s e) l))
      ∙ ap (λ n. accepted s.waits (ending (judged opens (take n s.bytes ++ b ∷ [])))) others

-- ---- a run

-- A run over bytes and then others is the run over the first, followed by the run over the others: answers and state do not depend
-- on how the bytes are cut.
pub run-cut : (s : State) (xs ys : List ℕ) → run s (xs ++ ys) ≡ after (run s xs).reports (run (run s xs).state ys)
run-cut s [] ys = refl
run-cut s (x ∷ xs) ys =
    let now = told (step s x).report in
    let next = (step s x).state in
    ap (after now) (run-cut next xs ys)
    ∙ ap (λ rs. record { state = (run (run next xs).state ys).state; reports = rs })
    (sym (append_assoc now (run next xs).reports (run (run next xs).state ys).reports))
