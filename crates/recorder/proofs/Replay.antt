-- A host that records and reads back, over what the calls promise: any events, laid by any number of calls, come back; a recording that was tampered
-- with is refused at the first place that differs. Cited by docs/PROMISES.md. Assumes nothing.
use mathlib.Core.Path.{◌≡◌, refl, sym, ap, ap₂, ◌∙◌, subst}
use mathlib.Core.Logic.{◌≢◌}
use mathlib.Core.Bool.{Bool, ◌&&◌}
use mathlib.Core.List.{List, [], ◌∷◌, ◌++◌, map}
use Prim.Native.Nat.{ℕ, suc, zero, ◌+◌, ◌-◌, ◌*◌, ◌/◌, ◌%◌, ◌≤◌, ◌<◌}
use native.Mathlib.Omega.{arith}
use lib.Dec.{T, leb, leb→le}
use lib.ListN.{length, get_or, take, drop, set, length-append}
use Rattle.std.specs.Prelude.{Result, Err}
use Rattle.model.specs.Calls.{room_for}
use Rattle.model.specs.Events.{Event}
use Rattle.model.specs.Records.{bytes_of, events_of}
use Rattle.model.specs.Numbers.{between}
use Rattle.model.specs.Recorder as M
use Rattle.model.specs.Recorder.{block_length, full_run, number_limit, AllBytes, blocks_for, recording, joined, pieces, answers, read_back}
use Rattle.model.proofs.Bools.{is_true, both_left, both_right}
use Rattle.model.proofs.Bytes.{AllCarried, decoded, laid-part}
use Rattle.model.proofs.Blocks.{bytes_append}
use Rattle.model.proofs.Recordings as R
use Rattle.model.proofs.Tampered as T
use Rattle.common.specs.Seen.{verdict_number}
use Rattle.recorder.specs.declared.BlocksLaid.{BlocksLaid}
use Rattle.recorder.specs.declared.Run.{Run}
use Rattle.recorder.specs.declared.BlockRefusal.{BlockRefusal}
use Rattle.recorder.specs.declared.BlockRefusal.TheVariants.{WrongCheck, WrongNumber}
use Rattle.recorder.specs.Seen.{held_read, read_seen}
use Rattle.recorder.specs.Host.{Recorded, RecordingOf, Answered, heard, AllEvents, RefusedAs}
use Rattle.recorder.proofs.Laws.{read-seen, answered}
use Rattle.recorder.proofs.Promises.{laid_exact}
use Rattle.recorder.proofs.Outcome.{lay_done}

-- ---- what an accepted call laid

module _ (n : ℕ) (es : List ℕ) where
  abbrev room : ℕ → List ℕ → Bool
  room at buf = room_for (M.lay_need es) at (length buf)

  passed_all : (s : List ℕ) (c : Recorded n es s) → T (M.numbers_good n es && room c.at c.before && M.whole_records es)
  passed_all s c = (laid_exact n es c.at c.before c.after c.answer c.promised).1.1.1.0 (ap verdict_number c.accepted)

  -- Its blocks have numbers, there was room for them, and its events were whole records.
  numbered : (s : List ℕ) → Recorded n es s → T (M.numbers_good n es)
  numbered s c = both_left (M.numbers_good n es) _ (both_left (M.numbers_good n es && room c.at c.before) _ (passed_all s c))

  roomy : (s : List ℕ) (c : Recorded n es s) → T (room c.at c.before)
  roomy s c = both_right (M.numbers_good n es) _ (both_left (M.numbers_good n es && room c.at c.before) _ (passed_all s c))

  whole : (s : List ℕ) → Recorded n es s → T (M.whole_records es)
  whole s c = both_right (M.numbers_good n es && room c.at c.before) _ (passed_all s c)

  fit : (s : List ℕ) → Recorded n es s → n + blocks_for (length es) ≤ number_limit
  fit s c = leb→le (n + blocks_for (length es)) number_limit (both_right (between 1 (number_limit - 1) n) _ (numbered s c))

  -- It laid the recording of its events.
  laid-is : (s : List ℕ) → Recorded n es s → s ≡ joined (recording n es)
  laid-is s c =
      let all = recording n es in
      let done = lay_done n es c.at c.before (is_true _ (numbered s c)) (is_true _ (roomy s c)) (is_true _ (whole s c)) in
      let answer = c.promised.answer ∙ sym done.answer in
      let count : block_length * c.answer.blocks ≡ length (joined all) =
      ap (λ (x : BlocksLaid). block_length * x.blocks) answer
      ∙ sym (R.joined_length all (R.blocks_long (blocks_for (length es)) n es) ∙ ap (λ k. block_length * k) (R.blocks-count (blocks_for (length es)) n es)) in
      let inside = leb→le c.at (length c.before) (both_left (leb c.at (length c.before)) _ (roomy s c)) in
      c.bytes
      ∙ ap₂ (λ k b. take k (drop c.at b)) count (c.promised.buffer ∙ sym done.buffer)
      ∙ laid-part c.at (joined all) c.before inside

  -- The number that it gives for the next block; after the last number it is 0.
  pub next-is : (s : List ℕ) (c : Recorded n es s) → c.answer.next ≡ (n + blocks_for (length es)) % number_limit
  next-is s c =
      let done = lay_done n es c.at c.before (is_true _ (numbered s c)) (is_true _ (roomy s c)) (is_true _ (whole s c)) in
      ap (λ (x : BlocksLaid). x.next) (c.promised.answer ∙ sym done.answer)

-- An accepted call lays a recording.
pub recorded : (n : ℕ) (es s : List ℕ) → Recorded n es s → AllBytes es → RecordingOf n es s
recorded n es s c bytes = record { laid = laid-is n es s c; numbers = fit n es s c; bytes = bytes; records = whole n es s c }

-- A call that goes on with the number that the one before gave goes on with the block after it.
pub goes_on : (n : ℕ) (xs s ys t : List ℕ) (c : Recorded n xs s) → Recorded c.answer.next ys t → c.answer.next ≡ n + blocks_for (length xs)
goes_on n xs s ys t c d =
    let m = c.answer.next in
    let one = leb→le 1 m (both_left (leb 1 m) _ (both_left (between 1 (number_limit - 1) m) _ (numbered m ys t d))) in
    omega (arith, next-is n xs s c, fit n xs s c)

-- And what it lays behind a recording of full blocks is, with that, the recording of all events.
pub continued : (n m : ℕ) (xs s ys t : List ℕ) → RecordingOf n xs s → length xs % full_run ≡ 0 → m ≡ n + blocks_for (length xs)
    → Recorded m ys t → AllBytes ys → RecordingOf n (xs ++ ys) (s ++ t)
continued n m xs s ys t r full e d bytes =
    let l = length-append xs ys in
    let later = recording (n + blocks_for (length xs)) ys in
    record {
      laid =
          ap₂ (λ x y. x ++ y) r.laid (laid-is m ys t d ∙ ap (λ k. joined (recording k ys)) e)
          ∙ sym (ap joined (R.in_parts n xs ys full) ∙ R.joined_append (recording n xs) later);
      numbers = omega (arith, fit m ys t d);
      bytes = bytes_append xs ys r.bytes bytes;
      records = R.is_whole (xs ++ ys) (omega (arith, R.whole_is xs r.records, R.whole_is ys (whole m ys t d)));
    }

-- ---- answers to pieces, one after the other, are the model's

held-answers : (n : ℕ) (ps : List (List ℕ)) (rs : List (Result Run BlockRefusal)) → Answered n ps rs → rs ≡ map held_read (answers n ps)
held-answers n [] [] a = refl
held-answers n [] (r ∷ rs) a = absurd a
held-answers n (p ∷ ps) [] a = absurd a
held-answers n (p ∷ ps) (r ∷ rs) a = ap₂ {C = List (Result Run BlockRefusal)} (λ x xs. x ∷ xs) a.0.answer (held-answers (suc n) ps rs a.1)

-- There are such answers, whatever the pieces.
pub answers_are : (n : ℕ) (ps : List (List ℕ)) → Answered n ps (map held_read (answers n ps))
answers_are n [] = tt
answers_are n (p ∷ ps) = (answered n p (held_read (M.read_block n p)) refl, answers_are (suc n) ps)

pub heard_back : (n : ℕ) (ps : List (List ℕ)) (rs : List (Result Run BlockRefusal)) → Answered n ps rs → heard ps rs ≡ read_back n ps
heard_back n [] rs a = refl
heard_back n (p ∷ ps) [] a = absurd a
heard_back n (p ∷ ps) (r ∷ rs) a =
    ap₂ (λ x y. M.said x p ++ y) (ap read_seen a.0.answer ∙ read-seen (M.read_block n p)) (heard_back (suc n) ps rs a.1)

all_events : (n : ℕ) (ps : List (List ℕ)) (rs : List (Result Run BlockRefusal)) → Answered n ps rs → M.NoneRefused (answers n ps) → AllEvents rs
all_events n [] [] a h = tt
all_events n [] (r ∷ rs) a h = absurd a
all_events n (p ∷ ps) [] a h = absurd a
all_events n (p ∷ ps) (r ∷ rs) a h = (a.0.name ∙ h.0, all_events (suc n) ps rs a.1 h.1)

take-held : (j : ℕ) (l : List M.BlockRead) → take j (map held_read l) ≡ map held_read (take j l)
take-held zero l = refl
take-held (suc j) [] = refl
take-held (suc j) (x ∷ l) = ap (λ r. held_read x ∷ r) (take-held j l)

drop-held : (j : ℕ) (l : List M.BlockRead) → drop j (map held_read l) ≡ map held_read (drop j l)
drop-held zero l = refl
drop-held (suc j) [] = refl
drop-held (suc j) (x ∷ l) = drop-held j l

set-held : (j : ℕ) (l : List M.BlockRead) (x : M.BlockRead) → map held_read (set l j x) ≡ set (map held_read l) j (held_read x)
set-held j [] x = refl
set-held zero (y ∷ l) x = refl
set-held (suc j) (y ∷ l) x = ap (λ r. held_read y ∷ r) (set-held j l x)

-- What is refused of the model's answers is refused of a host's.
held-refused : (j n : ℕ) (why : M.BlockRead) (name : BlockRefusal) (whole ps : List (List ℕ)) (ws rs : List (Result Run BlockRefusal))
    → held_read why ≡ Err name → M.RefusedAt j why n whole ps → Answered n whole ws → Answered n ps rs → RefusedAs j name ws rs
held-refused j n why name whole ps ws rs h r a b =
    let w = held-answers n whole ws a in
    let e = held-answers n ps rs b in
    record {
      before = ap (take j) e ∙ take-held j (answers n ps) ∙ ap (map held_read) r.before ∙ sym (ap (take j) w ∙ take-held j (answers n whole));
      there =
          ap (λ l. take 1 (drop j l)) e ∙ ap (take 1) (drop-held j (answers n ps)) ∙ take-held 1 (drop j (answers n ps)) ∙ ap (map held_read) r.there
          ∙ ap (λ x. x ∷ []) h;
    }

-- ---- what a recording is answered

module _ (n : ℕ) (es s : List ℕ) (c : RecordingOf n es s) where
  abbrev all : List (List ℕ)
  all = recording n es

  long : R.AllLong all
  long = R.blocks_long (blocks_for (length es)) n es

  cut : pieces s ≡ all
  cut = ap pieces c.laid ∙ R.pieces-joined all long

  -- Its pieces, read one after the other, give back the records that were recorded, and none is refused.
  pub reads_back : (rs : List (Result Run BlockRefusal)) → Answered n (pieces s) rs → heard (pieces s) rs ≡ es
  reads_back rs a =
      heard_back n (pieces s) rs a ∙ ap (λ x. read_back n (pieces x)) c.laid ∙ R.reads_back n es c.numbers c.bytes c.records

  pub none-refused : (rs : List (Result Run BlockRefusal)) → Answered n (pieces s) rs → AllEvents rs
  none-refused rs a =
      all_events n (pieces s) rs a
      (subst (λ x. M.NoneRefused (answers n (pieces x))) (sym c.laid) (R.none-refused n es c.numbers c.bytes c.records))

  -- What is refused of the model's recording is refused of these bytes.
  refused : (j : ℕ) (why : M.BlockRead) (name : BlockRefusal) (ps : List (List ℕ)) (ws rs : List (Result Run BlockRefusal))
      → held_read why ≡ Err name → M.RefusedAt j why n all ps → Answered n (pieces s) ws → Answered n ps rs → RefusedAs j name ws rs
  refused j why name ps ws rs h r a b = held-refused j n why name (pieces s) ps ws rs h (subst (λ w. M.RefusedAt j why n w ps) (sym cut) r) a b

  -- A block left out, unless it is the last; a block doubled; two blocks in each other's place.
  pub left_out : (xs : List (List ℕ)) (b d : List ℕ) (ys : List (List ℕ)) (ws rs : List (Result Run BlockRefusal)) → pieces s ≡ xs ++ b ∷ d ∷ ys
      → Answered n (pieces s) ws → Answered n (pieces (joined (xs ++ d ∷ ys))) rs → RefusedAs (length xs) WrongNumber ws rs
  left_out xs b d ys ws rs e =
      refused (length xs) M.wrong_number WrongNumber _ ws rs refl (T.left_out n es c.numbers c.bytes c.records xs b d ys (sym cut ∙ e))

  pub doubled : (xs : List (List ℕ)) (b : List ℕ) (ys : List (List ℕ)) (ws rs : List (Result Run BlockRefusal)) → pieces s ≡ xs ++ b ∷ ys
      → Answered n (pieces s) ws → Answered n (pieces (joined (xs ++ b ∷ b ∷ ys))) rs → RefusedAs (suc (length xs)) WrongNumber ws rs
  doubled xs b ys ws rs e =
      refused (suc (length xs)) M.wrong_number WrongNumber _ ws rs refl (T.doubled n es c.numbers c.bytes c.records xs b ys (sym cut ∙ e))

  pub exchanged : (xs : List (List ℕ)) (b : List ℕ) (ys : List (List ℕ)) (d : List ℕ) (zs : List (List ℕ)) (ws rs : List (Result Run BlockRefusal))
      → pieces s ≡ xs ++ b ∷ (ys ++ d ∷ zs)
      → Answered n (pieces s) ws → Answered n (pieces (joined (xs ++ d ∷ (ys ++ b ∷ zs)))) rs → RefusedAs (length xs) WrongNumber ws rs
  exchanged xs b ys d zs ws rs e =
      refused (length xs) M.wrong_number WrongNumber _ ws rs refl (T.exchanged n es c.numbers c.bytes c.records xs b ys d zs (sym cut ∙ e))

  -- A cut inside a block; a cut between two blocks, which nothing tells: the answers are those of the blocks before it.
  pub cut_inside : (k : ℕ) (ws rs : List (Result Run BlockRefusal)) → k < length s → k % block_length ≢ 0
      → Answered n (pieces s) ws → Answered n (pieces (take k s)) rs → RefusedAs (k / block_length) WrongCheck ws rs
  cut_inside k ws rs h r a b =
      let t = T.cut_inside n es c.numbers c.bytes c.records k (subst (λ x. k < length x) c.laid h) r in
      refused (k / block_length) M.wrong_check WrongCheck (pieces (take k s)) ws rs refl
      (subst (λ x. M.RefusedAt (k / block_length) M.wrong_check n all (pieces (take k x))) (sym c.laid) t) a b

  pub cut-between : (j : ℕ) (ws rs : List (Result Run BlockRefusal)) → j ≤ length (pieces s)
      → Answered n (pieces s) ws → Answered n (pieces (take (block_length * j) s)) rs → rs ≡ take j ws
  cut-between j ws rs h a b =
      let t = T.cut-between n es c.numbers c.bytes c.records j (subst (λ ps. j ≤ length ps) cut h) in
      let k = block_length * j in
      let same : pieces (take k s) ≡ take j (pieces s) = ap (λ x. pieces (take k x)) c.laid ∙ t ∙ sym (ap (take j) cut) in
      held-answers n (pieces (take k s)) rs b ∙ ap (λ ps. map held_read (answers n ps)) same ∙ ap (map held_read) (sym (T.answers-take j n (pieces s)))
      ∙ sym (ap (take j) (held-answers n (pieces s) ws a) ∙ take-held j (answers n (pieces s)))

  -- One byte altered, anywhere: the piece that it is in is refused, and every other is answered as before.
  pub altered : (i v : ℕ) (ws rs : List (Result Run BlockRefusal)) → i < length s → v ≢ get_or s i 0
      → Answered n (pieces s) ws → Answered n (pieces (set s i v)) rs → rs ≡ set ws (i / block_length) (Err WrongCheck)
  altered i v ws rs h d a b =
      let inside = subst (λ y. i < length y) c.laid h in
      let other = subst (λ y. v ≢ get_or y i 0) c.laid d in
      let t = T.altered_recording n es c.numbers c.bytes c.records i v inside other in
      held-answers n (pieces (set s i v)) rs b ∙ ap (λ y. map held_read (answers n (pieces (set y i v)))) c.laid ∙ ap (map held_read) t
      ∙ set-held (i / block_length) (answers n all) M.wrong_check
      ∙ ap (λ l. set l (i / block_length) (Err WrongCheck)) (sym (held-answers n (pieces s) ws a ∙ ap (λ ps. map held_read (answers n ps)) cut))

-- The same of events that records can carry, which the reader of records reads again.
pub events_back : (n : ℕ) (es : List Event) (s : List ℕ) (rs : List (Result Run BlockRefusal)) → AllCarried es → RecordingOf n (bytes_of es) s
    → Answered n (pieces s) rs → events_of (heard (pieces s) rs) ≡ es
events_back n es s rs carried c a = ap events_of (reads_back n (bytes_of es) s c rs a) ∙ decoded es carried
