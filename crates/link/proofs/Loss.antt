-- Demand 2 of the code, after a reported loss: SYN_DROPPED, a bad value or a report of repeated ids, at any record of any bytes, leaves the
-- reader lost; and then every slot is answered "unknown", whatever is called, until a load is accepted. Cited by docs/PROMISES.md. Assumes nothing.
use mathlib.Core.Path.{◌≡◌, refl, sym, ap, ◌∙◌, subst}
use mathlib.Core.Bool.{Bool, true, false, not, ◌||◌}
use mathlib.Core.List.{List, [], ◌∷◌}
use Prim.Native.Nat.{ℕ, ◌*◌, ◌/◌, ◌%◌, ◌<◌}
use lib.Dec.{T}
use lib.IntN.{ℤ}
use lib.ListN.{length, take}
use Rattle.model.specs.Panel.{base}
use Rattle.model.specs.Records.{event_at}
use Rattle.model.specs.Reader.{Lost}
use Rattle.model.specs.Loss.{is_dropped, loses_track}
use Rattle.model.specs.States as S
use Rattle.model.specs.Calls as C
use Rattle.model.specs.Calls.{is_accepted, run_call, load_verdict, load_call}
use Rattle.model.proofs.Instances.{base-good}
use Rattle.model.proofs.Chain as M
use Rattle.panel.specs.declared.Setup.{Setup}
use Rattle.common.specs.declared.Verdict.TheVariants.{Accepted}
use Rattle.panel.specs.Seen.{table_of, panel_seen}
use Rattle.common.specs.Seen.{verdict_from}
use Rattle.panel.proofs.Setups.{holds}
use Rattle.records.specs.declared.Event.{Event}
use Rattle.records.specs.Seen.{event_of}
use Rattle.reader.specs.declared.ReaderState.{ReaderState}
use Rattle.reader.specs.declared.RunAnswer.{RunAnswer}
use Rattle.reader.specs.declared.FreshAnswer.{FreshAnswer}
use Rattle.reader.specs.States.{seen, ran_from}
use Rattle.reader.specs.declared.SlotAnswer.{SlotAnswer}
use Rattle.reader.specs.declared.SlotAnswer.TheVariants.{Unknown}
use Rattle.reader.specs.declared.LoadAnswer.{LoadAnswer}
use Rattle.reader.specs.Seen.{asked_from}
use Rattle.reader.proofs.Promises.{run-state, read_one_state, load-state}
use Rattle.link.specs.Promises.{ReaderMade, Ran, ReadOne, Loaded, Asked, GoodReader, LostTrack}
use Rattle.link.specs.Host.{HostCall, run, read_one, load, ask, Allowed, state_after, AllAllowed, state_after_all, NoLoad, NoLoads}
use Rattle.link.proofs.Steady.{reader-made-good, reader-made-setup, ran-good, calls_good, calls_setup}

-- ---- a loss among the records of a run

-- Whole records of any kind and number, record i of which takes a reader off the track that has pending what the records before it left: SYN_DROPPED
-- with any value, a listed code with a bad value, or a report while live ids repeat. After the run the mode is not following.
pub run_loses : (s : ReaderState) (bs : List ℕ) (i : ℕ) (a q : RunAnswer) → GoodReader s → length bs % 8 ≡ 0 → i < length bs / 8
    → Ran s (take (8 * i) bs) a → T (loses_track (panel_seen s.setup) (table_of a.state.pending) (event_at bs (8 * i)))
    → Ran s bs q → LostTrack q.state
run_loses s bs i a q g w b ea t e =
    let event = event_at bs (8 * i) in
    let t' = subst (λ (x : S.ReaderState). T (loses_track (panel_seen s.setup) x.reader.pending event)) (run-state s (take (8 * i) bs) a ea) t in
    subst (λ (x : S.ReaderState). Lost x.reader.mode) (sym (run-state s bs q e)) (M.run_loses base base-good (seen s) (holds _ g) bs i w b t')

first-test : (a b : Bool) → T a → T (a || b)
first-test true b t = tt
first-test false b t = absurd t

-- The students' error: after SYN_DROPPED at any record, the old table is not known any more.
pub dropped_loses : (s : ReaderState) (bs : List ℕ) (i : ℕ) (q : RunAnswer) → GoodReader s → length bs % 8 ≡ 0 → i < length bs / 8
    → T (is_dropped (event_at bs (8 * i))) → Ran s bs q → LostTrack q.state
dropped_loses s bs i q g w b t e =
    run_loses s bs i (ran_from (run_call base (seen s) (take (8 * i) bs))) q g w b (λ j. ran_from (run_call base (seen s) (take (8 * i) bs)))
    (first-test (is_dropped (event_at bs (8 * i))) _ t)
    e

-- The same of one record by itself.
pub read_one_loses : (s : ReaderState) (e : Event) (q : RunAnswer) → GoodReader s → T (loses_track (panel_seen s.setup) (table_of s.pending) (event_of e))
    → ReadOne s e q → LostTrack q.state
read_one_loses s e q g t h =
    subst (λ (x : S.ReaderState). Lost x.reader.mode) (sym (read_one_state s e q h)) (M.step_loses base base-good (seen s) (holds _ g) (event_of e) t)

-- ---- lost, until a load is accepted

pub not-accepted : (v : C.Verdict) → (verdict_from v ≡ Accepted → ⊥) → T (not (is_accepted v))
not-accepted C.accepted n = absurd (n refl)
not-accepted C.setup n = tt
not-accepted C.state n = tt
not-accepted C.frame n = tt
not-accepted C.value n = tt
not-accepted C.no_room n = tt
not-accepted C.ragged n = tt
not-accepted C.not_stale n = tt
not-accepted C.image n = tt
not-accepted C.too_many n = tt
not-accepted C.unfinished n = tt
not-accepted C.command n = tt

refused-load : (s : ReaderState) (m : List ℤ) (c : ℕ) (q : LoadAnswer) → Loaded s m c q → (q.verdict ≡ Accepted → ⊥)
    → T (not (is_accepted (load_verdict base (seen s) m c)))
unfolding load_call
refused-load s m c q e n = not-accepted (load_verdict base (seen s) m c) (λ a. n (ap (λ (x : LoadAnswer). x.verdict) e ∙ a))

lost_call : (s : ReaderState) (x : HostCall) → Allowed s x → NoLoad x → LostTrack s → LostTrack (state_after s x)
lost_call s (run bs q) e n f = subst (λ (x : S.ReaderState). Lost x.reader.mode) (sym (run-state s bs q e)) (M.run_lost base (seen s) bs f)
lost_call s (read_one e q) h n f = subst (λ (x : S.ReaderState). Lost x.reader.mode) (sym (read_one_state s e q h)) (M.step_lost base (seen s) (event_of e) f)
lost_call s (load m c q) e n f =
    subst (λ (x : S.ReaderState). Lost x.reader.mode) (sym (load-state s m c q e)) (M.load_lost base (seen s) m c (refused-load s m c q e n) f)
lost_call s (ask k r) e n f = f

lost_calls : (s : ReaderState) (xs : List HostCall) → AllAllowed s xs → NoLoads xs → LostTrack s → LostTrack (state_after_all s xs)
lost_calls s [] h n f = f
lost_calls s (x ∷ xs) h n f = lost_calls (state_after s x) xs h.1 n.1 (lost_call s x h.0 n.0 f)

-- A well-formed reader that lost track answers "unknown" for every slot of its panel after any calls, as long as no load among them was accepted.
pub unknown_until_load : (s : ReaderState) (xs : List HostCall) (k : ℕ) (r : SlotAnswer) → GoodReader s → LostTrack s → AllAllowed s xs → NoLoads xs
    → k < s.setup.n → Asked (state_after_all s xs) k r → r ≡ Unknown
unknown_until_load s xs k r g f h n b e =
    let t = state_after_all s xs in
    let below = subst (λ (u : Setup). k < u.n) (sym (calls_setup s xs h)) b in
    e ∙ ap asked_from (M.lost_asked base (seen t) k (holds _ (calls_good s xs h g)) (lost_calls s xs h n f) below)

-- The whole chain: from a fresh reader, through any calls, a run with a loss at one of its records, and any calls in which no load was accepted,
-- every slot of the panel is answered "unknown".
pub unknown-after-loss : (u : Setup) (made : FreshAnswer) (before after : List HostCall) (bs : List ℕ) (i : ℕ) (a q : RunAnswer) (k : ℕ) (r : SlotAnswer)
    → ReaderMade u made → made.verdict ≡ Accepted → AllAllowed made.state before
    → (let s = state_after_all made.state before in
    length bs % 8 ≡ 0 → i < length bs / 8
    → Ran s (take (8 * i) bs) a → T (loses_track (panel_seen s.setup) (table_of a.state.pending) (event_at bs (8 * i)))
    → Ran s bs q → AllAllowed q.state after → NoLoads after → k < u.n → Asked (state_after_all q.state after) k r → r ≡ Unknown)
unknown-after-loss u made before after bs i a q k r m v h w b ea t e l n c x =
    let s = state_after_all made.state before in
    let good = calls_good made.state before h (reader-made-good u made m v) in
    let setup : q.state.setup ≡ u = calls_setup s (run bs q ∷ []) (e, tt) ∙ calls_setup made.state before h ∙ reader-made-setup u made m v in
    unknown_until_load q.state after k r (ran-good s bs q e good) (run_loses s bs i a q good w b ea t e) l n
    (subst (λ (z : Setup). k < z.n) (sym setup) c)
    x
