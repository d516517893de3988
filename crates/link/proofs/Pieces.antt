-- K5 of the code, from the promises of the calls alone: any pieces that make a string, empty ones too, are read as `run` reads its whole records, whatever
-- way it is cut; and with a load between them as if the load had come at that place. Cited by docs/PROMISES.md. Assumes nothing.
use mathlib.Core.Path.{◌≡◌, refl, sym, ap, ap₂, ◌∙◌, subst}
use mathlib.Core.List.{List, [], ◌∷◌, ◌++◌, map}
use Prim.Native.Nat.{ℕ}
use lib.IntN.{ℤ}
use lib.ListN.{length, take}
use Rattle.model.specs.Panel.{base}
use Rattle.model.specs.Reader.{plus}
use Rattle.model.specs.Calls.{run_call}
use Rattle.model.specs.Pieces.{whole_bytes, left_bytes, placed, line_good, Taken, read_string, take_call, take_pieces, line_load_call}
use Rattle.model.proofs.Bools.{holds, is_true}
use Rattle.model.proofs.Calls.{accepted-is}
use Rattle.model.proofs.Pieces as P
use Rattle.common.specs.declared.Verdict.TheVariants.{Accepted}
use Rattle.common.specs.Seen.{verdict_from, counts_of, counts_from}
use Rattle.common.proofs.Back.{counts-seen}
use Rattle.reader.specs.declared.RunAnswer.{RunAnswer}
use Rattle.reader.specs.declared.LoadAnswer.{LoadAnswer as ReaderLoad}
use Rattle.reader.specs.States as R
use Rattle.pieces.specs.declared.LineState.{LineState}
use Rattle.pieces.specs.declared.TakeAnswer.{TakeAnswer}
use Rattle.pieces.specs.declared.LoadAnswer.{LoadAnswer}
use Rattle.pieces.specs.Seen.{seen, held, loaded_from}
use Rattle.pieces.proofs.Held.{state_back}
use Rattle.pieces.proofs.Promises.{take-state, load-state}
use Rattle.link.specs.Promises.{Ran, Loaded}
use Rattle.link.specs.Pieces.{Took, LineLoaded, GoodLine, held_by, Piece, AllTook, line_after, counted_all, AllAccepted, line_bytes}
use Rattle.link.specs.Pieces.{ReadAs, LoadedBeside, records_from}

-- ---- the answers as the model's

-- The pieces without their answers.
abbrev handed : List Piece → List (List ℕ)
handed ps = map (λ (p : Piece). p.bytes) ps

after_is : (s : LineState) (ps : List Piece) → AllTook s ps → seen (line_after s ps) ≡ (take_pieces base (seen s) (handed ps)).state
after_is s [] a = refl
after_is s (p ∷ ps) a =
    after_is p.answer.state ps a.1
    ∙ ap (λ t. (take_pieces base t (handed ps)).state) (take-state s p.bytes p.answer a.0)

counts_are : (s : LineState) (ps : List Piece) → AllTook s ps → counted_all ps ≡ counts_from (take_pieces base (seen s) (handed ps)).counts
counts_are s [] a = refl
counts_are s (p ∷ ps) a =
    let x = take_call base (seen s) p.bytes in
    let one = ap (λ (q : TakeAnswer). counts_of q.counts) a.0 ∙ counts-seen x.counts in
    let more =
    ap counts_of (counts_are p.answer.state ps a.1)
    ∙ counts-seen (take_pieces base (seen p.answer.state) (handed ps)).counts
    ∙ ap (λ t. (take_pieces base t (handed ps)).counts) (take-state s p.bytes p.answer a.0) in
    ap₂ (λ u v. counts_from (plus u v)) one more

-- Taking a piece keeps a state well formed, and is accepted.
pub took_good : (s : LineState) (piece : List ℕ) (q : TakeAnswer) → Took s piece q → GoodLine s → GoodLine q.state
took_good s piece q e g = ap (line_good base) (take-state s piece q e) ∙ is_true _ (P.take_steady base (seen s) (holds _ g) piece)

took_accepted : (s : LineState) (piece : List ℕ) (q : TakeAnswer) → Took s piece q → GoodLine s → q.verdict ≡ Accepted
took_accepted s piece q e g =
    let t = holds _ g in
    ap (λ (x : TakeAnswer). x.verdict) e
    ∙ ap (λ (x : Taken). verdict_from x.verdict) (P.take-reads base (seen s) t piece)
    ∙ ap verdict_from (P.read-accepted base (R.seen s.reader) (held_by s ++ piece) (P.line_facts base (seen s) t).reader)

all_accepted : (s : LineState) (ps : List Piece) → AllTook s ps → GoodLine s → AllAccepted ps
all_accepted s [] a g = tt
all_accepted s (p ∷ ps) a g =
    (took_accepted s p.bytes p.answer a.0 g, all_accepted p.answer.state ps a.1 (took_good s p.bytes p.answer a.0 g))

-- A state stays well formed after any pieces.
pub line-good : (s : LineState) (ps : List Piece) → AllTook s ps → GoodLine s → GoodLine (line_after s ps)
line-good s [] a g = g
line-good s (p ∷ ps) a g = line-good p.answer.state ps a.1 (took_good s p.bytes p.answer a.0 g)

-- ---- any pieces

module _ (s : LineState) (ps : List Piece) (a : AllTook s ps) (g : GoodLine s) where
  abbrev whole : List ℕ
  whole = held_by s ++ line_bytes ps

  read : take_pieces base (seen s) (handed ps) ≡ read_string base (R.seen s.reader) whole
  read = P.pieces-read base (seen s) (handed ps) (holds _ g)

  after_read : line_after s ps ≡ held (read_string base (R.seen s.reader) whole).state
  unfolding read
  after_read = sym (state_back (line_after s ps)) ∙ ap held (after_is s ps a ∙ ap (λ (t : Taken). t.state) read)

  -- The pieces are read as `run` reads the whole records of the string that they make behind the left-over bytes: the end state, the counts added up
  -- and the first skipped, and the bytes after the last whole record are left over.
  pub pieces-read : (q : RunAnswer) → Ran s.reader (whole_bytes whole) q → ReadAs s ps whole q
  unfolding read after_read
  pieces-read q e =
      record {
        accepted = all_accepted s ps a g;
        reader = ap (λ (t : LineState). t.reader) after_read ∙ sym (ap (λ (r : RunAnswer). r.state) e);
        counts = counts_are s ps a ∙ ap (λ (t : Taken). counts_from t.counts) read ∙ sym (ap (λ (r : RunAnswer). r.counts) e);
        left = ap (λ (t : LineState). t.left) after_read;
        count = ap (λ (t : LineState). t.count) after_read;
      }

-- So any two ways of cutting one string end in the same state, left-over bytes and all, and count the same, with the same first skipped.
pub every_cut : (s : LineState) (ps qs : List Piece) → AllTook s ps → AllTook s qs → GoodLine s → line_bytes ps ≡ line_bytes qs
    → (line_after s ps ≡ line_after s qs) × (counted_all ps ≡ counted_all qs)
every_cut s ps qs a b g e =
    let same = P.every_cut base (seen s) (handed ps) (handed qs) (holds _ g) e in (
      sym (state_back (line_after s ps)) ∙ ap held (after_is s ps a ∙ ap (λ (t : Taken). t.state) same ∙ sym (after_is s qs b)) ∙ state_back (line_after s qs),
      counts_are s ps a ∙ ap (λ (t : Taken). counts_from t.counts) same ∙ sym (counts_are s qs b),
    )

-- ---- a load between pieces

-- A load keeps a state well formed, accepted or refused.
pub line_loaded_good : (s : LineState) (m : List ℤ) (c : ℕ) (q : LoadAnswer) → LineLoaded s m c q → GoodLine s → GoodLine q.state
line_loaded_good s m c q e g = ap (line_good base) (load-state s m c q e) ∙ is_true _ (P.line-load_steady base (seen s) (holds _ g) m c)

-- A load of a well-formed state is the reader's own load, and the left-over bytes stay.
pub load-beside : (s : LineState) (m : List ℤ) (c : ℕ) (q : LoadAnswer) (l : ReaderLoad) → GoodLine s → LineLoaded s m c q → Loaded s.reader m c l
    → LoadedBeside s q l
unfolding line_load_call
load-beside s m c q l g e d =
    let is : q ≡ record { verdict = l.verdict; state = record { left = s.left; count = s.count; reader = l.state } } =
    e
    ∙ ap loaded_from (accepted-is (line_good base (seen s)) _ _ (holds _ g))
    ∙ ap (λ (x : ReaderLoad). record { verdict = x.verdict; state = record { left = s.left; count = s.count; reader = x.state } }) (sym d) in
    record {
      verdict = ap (λ (x : LoadAnswer). x.verdict) is;
      reader = ap (λ (x : LoadAnswer). x.state.reader) is;
      left = ap (λ (x : LoadAnswer). x.state.left) is;
      count = ap (λ (x : LoadAnswer). x.state.count) is;
    }

module _ (s : LineState) (ps : List Piece) (a : AllTook s ps) (g : GoodLine s)
    (m : List ℤ) (c : ℕ) (q : LoadAnswer) (e : LineLoaded (line_after s ps) m c q) where
  abbrev before : List ℕ
  before = held_by s ++ line_bytes ps

  -- After any pieces a load is the reader's own, after the records that are whole by then; and the bytes after these stay.
  pub load_after : (r : RunAnswer) (l : ReaderLoad) → Ran s.reader (whole_bytes before) r → Loaded r.state m c l → LoadedBeside (line_after s ps) q l
  load_after r l x y =
      load-beside (line_after s ps) m c q l (line-good s ps a g) e (subst (λ t. Loaded t m c l) (sym (pieces-read s ps a g r x).reader) y)

  -- And more pieces are read as if the load had come at that place of the string: the records that were not whole yet are read after it, the one that it
  -- came into too, whatever way they are cut.
  pub load_between : (rs : List Piece) → AllTook q.state rs → (r : RunAnswer) (l : ReaderLoad) (z : RunAnswer)
      → Ran s.reader (whole_bytes before) r → Loaded r.state m c l → Ran l.state (records_from before (line_bytes rs)) z
      → ReadAs q.state rs (before ++ line_bytes rs) z
  load_between rs b r l z x y w =
      let after = line_bytes rs in
      let stood = pieces-read s ps a g r x in
      let beside = load_after r l x y in
      let holds-left : held_by q.state ≡ left_bytes before =
      ap₂ take (beside.count ∙ stood.count) (beside.left ∙ stood.left) ∙ P.held_carried (R.seen s.reader) (left_bytes before) in
      let string = ap (λ h. h ++ after) holds-left in
      let run : Ran q.state.reader (whole_bytes (held_by q.state ++ after)) z =
      w ∙ ap₂ (λ t bs. R.ran_from (run_call base (R.seen t) bs)) (sym beside.reader) (sym (ap whole_bytes string ∙ P.whole-rest before after)) in
      let told = pieces-read q.state rs b (line_loaded_good (line_after s ps) m c q e (line-good s ps a g)) z run in
      let left = ap left_bytes string ∙ sym (P.left-on before after) in
      record {
        accepted = told.accepted;
        reader = told.reader;
        counts = told.counts;
        left = told.left ∙ ap placed left;
        count = told.count ∙ ap length left;
      }
