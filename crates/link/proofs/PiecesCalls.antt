-- K5's calls of the code: the claims of specs/Pieces are the contracts themselves, their refusals are exact, a fresh state is well formed, pieces from a
-- fresh state, and what is asked between pieces. Cited by docs/PROMISES.md. Assumes nothing.
use mathlib.Core.Path.{◌≡◌, refl, sym, ap, ap₂, ◌∙◌, subst}
use mathlib.Core.List.{List, [], ◌∷◌, ◌++◌}
use Prim.Native.Nat.{ℕ, ◌*◌, ◌/◌, ◌<◌}
use native.Mathlib.Omega.{arith}
use lib.Dec.{T}
use lib.IntN.{ℤ}
use lib.ListN.{length}
use Rattle.model.specs.Panel.{base}
use Rattle.model.specs.Calls.{fresh_reader_call, run_call}
use Rattle.model.specs.Records.{event_at}
use Rattle.model.specs.Loss.{is_dropped}
use Rattle.model.specs.Refusals.{Exact, fresh_rows}
use Rattle.model.specs.Pieces.{whole_bytes, line_good, fresh_line_call, take_call, line_load_call, line_ask_call, line_rows, line_load_rows}
use Rattle.model.proofs.Bools.{is_true, holds}
use Rattle.model.proofs.Calls.{accepted-is}
use Rattle.model.proofs.Pieces.{whole_multiple, line_facts, carrying-good}
use Rattle.model.proofs.PiecesCalls as M
use Rattle.common.specs.declared.Verdict.TheVariants.{Accepted}
use Rattle.common.specs.Seen.{verdict_number}
use Rattle.panel.specs.declared.Setup.{Setup}
use Rattle.panel.specs.Seen.{setup_of}
use Rattle.reader.specs.declared.RunAnswer.{RunAnswer}
use Rattle.reader.specs.declared.FreshAnswer.{FreshAnswer as ReaderFresh}
use Rattle.reader.specs.declared.SlotAnswer.{SlotAnswer}
use Rattle.reader.specs.declared.SlotAnswer.TheVariants.{Unknown}
use Rattle.reader.specs.States as R
use Rattle.reader.specs.Seen.{refusal_of, asked_from}
use Rattle.pieces.specs.declared.LineState.{LineState}
use Rattle.pieces.specs.declared.FreshAnswer.{FreshAnswer}
use Rattle.pieces.specs.declared.TakeAnswer.{TakeAnswer}
use Rattle.pieces.specs.declared.LoadAnswer.{LoadAnswer}
use Rattle.pieces.specs.Seen.{seen}
use Rattle.pieces.proofs.LineState.fresh.Reads as fresh
use Rattle.pieces.proofs.take.Reads as take
use Rattle.pieces.proofs.load.Reads as load
use Rattle.pieces.proofs.ask.Reads as ask
use Rattle.link.specs.Promises.{ReaderMade, Ran, Asked, GoodReader}
use Rattle.link.specs.Host.{run}
use Rattle.link.specs.Pieces.{LineMade, Took, LineLoaded, LineAsked, GoodLine, held_by, Piece, AllTook, line_after, line_bytes, ReadAs}
use Rattle.link.proofs.Exact.{held_exact}
use Rattle.link.proofs.Steady.{reader-made-good, ran-good, calls_setup}
use Rattle.link.proofs.Loss.{dropped_loses, unknown_until_load}
use Rattle.link.proofs.Pieces.{line-good, pieces-read}

-- ---- the claims are the contracts

pub line-made-is : (κs : _) (a : _) (r : FreshAnswer) (t : _) → fresh.Learnt κs a r t
    → LineMade (record { n = a.0; x = a.1.0; y = a.1.1.0; pressure = a.1.1.1.0; major = a.1.1.1.1.0; minor = a.1.1.1.1.1.0 }) r
line-made-is κs a r t e = e

pub took_is : (κs : _) (a : _) (q : TakeAnswer) (t : _) → take.Learnt κs a q t → Took a.0 a.1.0.now q
took_is κs a q t e = e

pub line_loaded_is : (κs : _) (a : _) (q : LoadAnswer) (t : _) → load.Learnt κs a q t → LineLoaded a.0 a.1.0.now a.1.1.0.0 q
line_loaded_is κs a q t e = e

pub line-asked-is : (κs : _) (a : _) (r : SlotAnswer) (t : _) → ask.Learnt κs a r t → LineAsked a.0 a.1.0.0 r
line-asked-is κs a r t e = e.answer

-- ---- refusals exactly as stated

-- `LineState::fresh`: 1.
pub line-made_exact : (u : Setup) (r : FreshAnswer) → LineMade u r → Exact (verdict_number r.verdict) (fresh_rows base (setup_of u))
line-made_exact u r e =
    let m = fresh_line_call base (setup_of u) in
    held_exact (fresh_rows base (setup_of u)) m.verdict r.verdict (ap (λ (x : FreshAnswer). x.verdict) e) (M.fresh-line_exact base (setup_of u))

-- `take`: 2, and never 6.
pub took_exact : (s : LineState) (piece : List ℕ) (q : TakeAnswer) → Took s piece q → Exact (verdict_number q.verdict) (line_rows base (seen s))
took_exact s piece q e =
    let m = take_call base (seen s) piece in
    held_exact (line_rows base (seen s)) m.verdict q.verdict (ap (λ (x : TakeAnswer). x.verdict) e) (M.take_exact base (seen s) piece)

-- `load`: 2, 7, 8.
pub line_loaded_exact : (s : LineState) (m : List ℤ) (c : ℕ) (q : LoadAnswer) → LineLoaded s m c q
    → Exact (verdict_number q.verdict) (line_load_rows base (seen s) m c)
line_loaded_exact s m c q e =
    let l = line_load_call base (seen s) m c in
    held_exact (line_load_rows base (seen s) m c) l.verdict q.verdict (ap (λ (x : LoadAnswer). x.verdict) e) (M.line-load_exact base (seen s) m c)

-- `ask`: 2.
pub line-asked_exact : (κs : _) (a : _) (r : SlotAnswer) (t : _) → ask.Learnt κs a r t → Exact (refusal_of r) (line_rows base (seen a.0))
line-asked_exact κs a r t e = subst (λ n. Exact n (line_rows base (seen a.0))) (sym e.number) (M.line-ask_exact base (seen a.0) a.1.0.0)

-- ---- what is asked between pieces

-- A question of a well-formed state is answered as the reader's own is: left-over bytes are no event yet.
pub line_asks : (s : LineState) (k : ℕ) (r : SlotAnswer) → GoodLine s → LineAsked s k r → Asked s.reader k r
unfolding line_ask_call
line_asks s k r g e = e ∙ ap asked_from (accepted-is (line_good base (seen s)) _ _ (holds _ g))

-- Demand 2 on a line: after SYN_DROPPED at any whole record of the string, whatever way it was cut, every slot is answered "unknown".
pub line-unknown : (s : LineState) (ps : List Piece) (i k : ℕ) (r : SlotAnswer) → GoodLine s → AllTook s ps
    → (let bs = whole_bytes (held_by s ++ line_bytes ps) in
    i < length bs / 8 → T (is_dropped (event_at bs (8 * i))) → k < s.reader.setup.n → LineAsked (line_after s ps) k r → r ≡ Unknown)
line-unknown s ps i k r g a b t n e =
    let string = held_by s ++ line_bytes ps in
    let bs = whole_bytes string in
    let q = R.ran_from (run_call base (R.seen s.reader) bs) in
    let good : GoodReader s.reader = is_true _ (line_facts base (seen s) (holds _ g)).reader in
    let lost = dropped_loses s.reader bs i q good (whole_multiple string) b t refl in
    let setup = calls_setup s.reader (run bs q ∷ []) (refl, tt) in
    let asked = line_asks (line_after s ps) k r (line-good s ps a g) e in
    unknown_until_load q.state [] k r (ran-good s.reader bs q refl good) lost tt tt (subst (λ (u : Setup). k < u.n) (sym setup) n)
    (subst (λ x. Asked x k r) (pieces-read s ps a g q refl).reader asked)

-- ---- from a fresh state

module _ (u : Setup) (made : FreshAnswer) (e : LineMade u made) (h : made.verdict ≡ Accepted) where
  -- The reader that `ReaderState::fresh` answers for the same setup.
  abbrev same : ReaderFresh
  same = R.fresh_from (fresh_reader_call base (setup_of u))

  same-accepted : same.verdict ≡ Accepted
  unfolding fresh_line_call
  same-accepted = sym (ap (λ (x : FreshAnswer). x.verdict) e) ∙ h

  -- A fresh state that is not refused is well formed.
  pub line-made-good : GoodLine made.state
  unfolding fresh_line_call same-accepted
  line-made-good =
      ap (λ (x : FreshAnswer). line_good base (seen x.state)) e
      ∙ is_true _ (carrying-good base (R.seen same.state) [] (holds _ (reader-made-good u same refl same-accepted)) (omega arith))

  -- Any pieces of a string from a fresh state are read as `run` reads its whole records, from the fresh reader of the same setup.
  pub fresh-pieces : (r : ReaderFresh) (ps : List Piece) (q : RunAnswer) → ReaderMade u r → AllTook made.state ps
      → Ran r.state (whole_bytes (line_bytes ps)) q → ReadAs made.state ps (line_bytes ps) q
  unfolding fresh_line_call
  fresh-pieces r ps q d a w =
      let none : held_by made.state ≡ [] = ap (λ (x : FreshAnswer). held_by x.state) e in
      let reader : r.state ≡ made.state.reader = ap (λ (x : ReaderFresh). x.state) d ∙ sym (ap (λ (x : FreshAnswer). x.state.reader) e) in
      let run : Ran made.state.reader (whole_bytes (held_by made.state ++ line_bytes ps)) q =
      w ∙ ap₂ (λ t bs. R.ran_from (run_call base (R.seen t) (whole_bytes (bs ++ line_bytes ps)))) reader (sym none) in
      subst (λ bs. ReadAs made.state ps (bs ++ line_bytes ps) q) none (pieces-read made.state ps a line-made-good q run)
