-- K11 of the code, from the promises over lent bytes alone: what the other files say of calls by value holds for C hosts. A reader's bytes tell the writer's table after
-- each frame of any shift, and every slot is unknown after a loss. Demand 2 is Long's and the loss is Loss's. Cited by docs/PROMISES.md. Assumes nothing.
use mathlib.Core.Path.{◌≡◌, refl, sym, ap, ap₂, ◌∙◌, subst}
use mathlib.Core.Bool.{true, cond}
use mathlib.Core.List.{List, [], ◌∷◌, ◌++◌, append-nil}
use Prim.Native.Nat.{ℕ, zero, suc, ◌*◌, ◌/◌, ◌%◌, ◌<◌}
use native.Mathlib.Omega.{arith}
use borrow.Author.Tests.{eq-eqb}
use lib.Dec.{T, eqb}
use lib.IntN.{ℤ}
use lib.ListN.{length, get_or, take, drop}
use Rattle.model.specs.Panel.{base, setup_good}
use Rattle.model.specs.Records.{event_at}
use Rattle.model.specs.Loss.{is_dropped}
use Rattle.model.specs.Calls as C
use Rattle.model.specs.Calls.{check, is_accepted, fresh_reader_call, run_call, load_call, ask_call}
use Rattle.model.specs.Pointing.{FreshPointer, fresh_pointer_call, pointer_call, pointer_buffer}
use Rattle.model.proofs.Bools.{holds, is_true}
use Rattle.model.proofs.Answers.{reader-made}
use Rattle.model.proofs.Calls.{passed}
use Rattle.model.proofs.PointerCalls.{pointer_made}
use Rattle.common.specs.declared.Verdict.TheVariants as Verdicts
use Rattle.common.specs.declared.Mode.TheVariants.{Following}
use Rattle.common.specs.Seen.{verdict_from, verdict_number}
use Rattle.panel.specs.declared.Setup.{Setup}
use Rattle.panel.specs.Seen.{setup_of}
use Rattle.writer.specs.declared.WriterState.{WriterState}
use Rattle.writer.specs.declared.FreshWriter.{FreshWriter}
use Rattle.writer.specs.Seen as W
use Rattle.reader.specs.declared.ReaderState.{ReaderState}
use Rattle.reader.specs.declared.FreshAnswer.{FreshAnswer}
use Rattle.reader.specs.declared.RunAnswer.{RunAnswer}
use Rattle.reader.specs.declared.LoadAnswer.{LoadAnswer}
use Rattle.reader.specs.States as R
use Rattle.reader.specs.Seen.{loaded_from, asked_from, answer_seen}
use Rattle.reader.proofs.Back.{back_call}
use Rattle.lent_writer.specs.Seen as LentWriter
use Rattle.lent_writer.specs.Seen.{setup_given, fresh_refusal, fresh_state, Freshens}
use Rattle.lent_writer.proofs.Back as WriterBack
use Rattle.lent_reader.specs.Layout as LentReader
use Rattle.lent_reader.specs.Layout.{reader_size, mode_in, mode_byte}
use Rattle.lent_reader.specs.Seen.{bare, asked_row, fresh_verdict_in, asked_of, FreshIn, LoadIn, AskIn}
use Rattle.lent_reader.proofs.Fits.{good_again}
use Rattle.link.specs.Promises.{Ran, GoodWriter, GoodReader, LostTrack, pupil_of}
use Rattle.link.specs.Host as Host
use Rattle.link.specs.Host.{HostCall, AllAllowed, state_after_all, NoLoads}
use Rattle.link.specs.Shift.{WriteCall, AllWrote, writer_after, bytes_from}
use Rattle.link.specs.Long.{AtMoment}
use Rattle.link.specs.Hosts.{LentWrite, LentWrote, AllLent, bytes_after, wrote_bytes, all_bytes, WritesAs, LentRun, LentRan, RunsAs}
use Rattle.link.specs.Hosts.{LentCall, run, load, ask, LentAllowed, left_by, AllLentAllowed, left_by_all, NoLentLoad, NoLentLoads}
use Rattle.link.specs.Hosts.{LentFrame, carried, alone, AllCarried, Tells, AllTold}
use Rattle.link.proofs.Steady.{writer-made-good, written-good, reader-made-good, reader-made-setup, ran-good, loaded_good, calls_setup}
use Rattle.link.proofs.Loss.{dropped_loses, unknown_until_load}
use Rattle.link.proofs.Long.{shift_read, fresh-pupil, every_moment}
use Rattle.link.proofs.HostsFit.{writer-fits}
use Rattle.link.proofs.HostsCalls.{writes_as, runs_as, LoadsAs, loads_as}

-- ---- a state that lies in bytes

-- The bytes b are formed, hold the writer's state s, and it is well formed.
record WriterIn (b : List ℕ) (s : WriterState) : Type 0 where
  formed : LentWriter.formed b ≡ true
  holds : LentWriter.unpacked b ≡ s
  good : GoodWriter s

-- The same of a reader's.
record ReaderIn (b : List ℕ) (s : ReaderState) : Type 0 where
  formed : LentReader.formed b ≡ true
  holds : LentReader.unpacked b ≡ s
  good : GoodReader s

-- A well-formed state lies in its own bytes.
writer_in : (s : WriterState) → GoodWriter s → (b : List ℕ) → b ≡ LentWriter.packed s → WriterIn b s
writer_in s good b e =
    let fits = writer-fits s good in
    record { formed = ap LentWriter.formed e ∙ WriterBack.packed-formed s fits; holds = ap LentWriter.unpacked e ∙ WriterBack.unpacked_back s fits; good = good }

reader_in : (s : ReaderState) → GoodReader s → (b : List ℕ) → b ≡ LentReader.packed s → ReaderIn b s
reader_in s good b e =
    let again = good_again s good in
    record { formed = ap LentReader.formed e ∙ again.0; holds = ap LentReader.unpacked e ∙ again.1; good = good }

-- A fresh writer's bytes, where `fresh` returned 0.
module _ (b us w : List ℕ) (on : ℕ) (m : Freshens b us on 0 w) where
  abbrev asked : Setup
  asked = setup_given us

  abbrev made : FreshWriter
  made = W.fresh_from (fresh_pointer_call base (eqb on 1) (setup_of asked))

  pub setup-good : setup_good base (setup_of asked) ≡ true
  setup-good =
      let fair = setup_good base (setup_of asked) in
      is_true fair (passed fair C.setup _ tt (holds (is_accepted (fresh_refusal b us on)) (ap (λ n. eqb n 0) (sym m.number)))).0

  made-accepted : made.verdict ≡ Verdicts.Accepted
  made-accepted = ap (λ (x : FreshPointer). verdict_from x.verdict) (pointer_made base (eqb on 1) (setup_of asked) setup-good)

  made-good : GoodWriter made.state
  made-good = writer-made-good asked (eqb on 1) made refl made-accepted

  made_in : WriterIn w made.state
  made_in = writer_in made.state made-good w (m.state ∙ ap (λ n. cond (eqb n 0) (LentWriter.packed (fresh_state us on)) b) (sym m.number))

-- A fresh reader's, where `reader_fresh` returned 0.
module _ (b us r : List ℕ) (m : FreshIn b us 0 r) where
  abbrev begun : FreshAnswer
  begun = R.fresh_from (fresh_reader_call base (setup_of (setup_given us)))

  begun-accepted : begun.verdict ≡ Verdicts.Accepted
  begun-accepted =
      let fair = setup_good base (setup_of (setup_given us)) in
      let ok = is_true fair (passed fair C.setup _ tt (holds (is_accepted (fresh_verdict_in reader_size b us)) (ap (λ n. eqb n 0) (sym m.number)))).0 in
      ap (λ (x : C.FreshReader). (R.fresh_from x).verdict) (reader-made base (setup_of (setup_given us)) ok)

  begun_in : ReaderIn r begun.state
  begun_in =
      reader_in begun.state (reader-made-good (setup_given us) begun refl begun-accepted) r
      (m.state ∙ ap (λ n. cond (eqb n 0) (LentReader.packed begun.state) b) (sym m.number))

-- ---- calls of `write` as those by value

-- The call by value on this state.
abbrev valued : WriterState → LentWrite → WriteCall
valued s c = record {
  frame = c.frame;
  at = c.at;
  buffer = c.buffer;
  answer = W.written_from (pointer_call base (W.seen s) c.frame c.at (length c.buffer));
  after = pointer_buffer base (W.seen s) c.frame c.at c.buffer;
}

-- Calls, each on the state that the one before answered.
abbrev all_valued : WriterState → List LentWrite → List WriteCall
all_valued s [] = []
all_valued s (c ∷ cs) = valued s c ∷ all_valued (valued s c).answer.state cs

all_wrote : (s : WriterState) (cs : List LentWrite) → AllWrote s (all_valued s cs)
all_wrote s [] = tt
all_wrote s (c ∷ cs) = ((refl, refl), all_wrote (valued s c).answer.state cs)

module _ (b : List ℕ) (s : WriterState) (c : LentWrite) (i : WriterIn b s) (h : LentWrote b c) where
  as_valued : WritesAs b c (valued s c).answer (valued s c).after
  as_valued =
      let back = sym i.holds in
      writes_as b c i.formed h (valued s c).answer (valued s c).after (
        ap (λ z. W.written_from (pointer_call base (W.seen z) c.frame c.at (length c.buffer))) back,
        ap (λ z. pointer_buffer base (W.seen z) c.frame c.at c.buffer) back,
      )

  left_in : WriterIn c.state (valued s c).answer.state
  left_in =
      let same = as_valued in
      record {
        formed = same.formed;
        holds = same.state;
        good = written-good s c.frame c.at c.buffer (valued s c).answer (valued s c).after (refl, refl) i.good;
      }

  wrote-same : wrote_bytes c ≡ take (8 * (valued s c).answer.count) (drop c.at (valued s c).after)
  wrote-same =
      ap₂ (λ t l. wrote_bytes (record { frame = c.frame; at = c.at; buffer = c.buffer; number = c.number; state = c.state; told = t; after = l }))
      as_valued.told as_valued.buffer

all_in : (b : List ℕ) (s : WriterState) (cs : List LentWrite) → WriterIn b s → AllLent b cs → WriterIn (bytes_after b cs) (writer_after s (all_valued s cs))
all_in b s [] i h = i
all_in b s (c ∷ cs) i h = all_in c.state (valued s c).answer.state cs (left_in b s c i h.0) h.1

all_same : (b : List ℕ) (s : WriterState) (cs : List LentWrite) → WriterIn b s → AllLent b cs → all_bytes cs ≡ bytes_from (all_valued s cs)
all_same b s [] i h = refl
all_same b s (c ∷ cs) i h =
    ap₂ {C = List ℕ} (λ x y. x ++ y) (wrote-same b s c i h.0) (all_same c.state (valued s c).answer.state cs (left_in b s c i h.0) h.1)

-- K14 for C hosts: after any calls over the bytes of a fresh writer all that `every_moment` says is true of the state that the bytes then hold and of all bytes
-- written.
pub host_moment : (b us w : List ℕ) (on : ℕ) (cs : List LentWrite) → Freshens b us on 0 w → AllLent w cs
    → AtMoment (setup_given us) (LentWriter.unpacked (bytes_after w cs)) (all_bytes cs)
host_moment b us w on cs m h =
    let s = (made b us w on m).state in
    let i = made_in b us w on m in
    let moment = every_moment (setup_given us) (eqb on 1) (made b us w on m) (all_valued s cs) refl (made-accepted b us w on m) (all_wrote s cs) in
    subst (λ z. AtMoment (setup_given us) z (all_bytes cs)) (sym (all_in w s cs i h).holds)
    (subst (AtMoment (setup_given us) (writer_after s (all_valued s cs))) (sym (all_same w s cs i h)) moment)

-- ---- a run as that by value

module _ (b bs : List ℕ) (s : ReaderState) (x : LentRun) (i : ReaderIn b s) (h : LentRan b bs x) where
  abbrev ran_by : RunAnswer
  ran_by = R.ran_from (run_call base (R.seen s) bs)

  as_ran : RunsAs b x ran_by
  as_ran = runs_as b bs x i.formed h ran_by (ap (λ z. R.ran_from (run_call base (R.seen z) bs)) (sym i.holds))

  ran_in : ReaderIn x.state ran_by.state
  ran_in = record { formed = as_ran.formed; holds = as_ran.state; good = ran-good s bs ran_by refl i.good }

-- ---- a writer's and a reader's bytes, frame by frame

-- The writer's bytes hold s, and the reader's its own reader.
record Linked (w r : List ℕ) (s : WriterState) : Type 0 where
  writer : WriterIn w s
  reader : ReaderIn r (pupil_of s)

mode_following : (v : ℕ) → mode_in v ≡ Following → v ≡ mode_byte Following
mode_following zero e = refl
mode_following (suc zero) e = ap mode_byte e
mode_following (suc (suc v)) e = absurd (omega (arith, ap mode_byte e))

linked_tells : (w r : List ℕ) (s : WriterState) → Linked w r s → Tells w r
linked_tells w r s l =
    let e : LentReader.unpacked r ≡ pupil_of (LentWriter.unpacked w) = l.reader.holds ∙ ap pupil_of (sym l.writer.holds) in
    record {
      follows = mode_following (get_or r LentReader.mode_at 0) (ap (λ (z : ReaderState). z.mode) e);
      current = ap (λ (z : ReaderState). z.current.0) e;
      shown = ap (λ (z : ReaderState). z.shown) e;
    }

module _ (w r : List ℕ) (s : WriterState) (l : Linked w r s) (c : LentWrite) (h : LentWrote w c) where
  abbrev next : WriterState
  next = (valued s c).answer.state

  -- By demand 2, over this one call.
  frame-read : (x : LentRun) → LentRan r (wrote_bytes c) x → (x.number ≡ 0) × Linked c.state x.state next
  frame-read x k =
      let q = ran_by r (wrote_bytes c) (pupil_of s) x l.reader k in
      let whole = wrote-same w s c l.writer h ∙ sym (append-nil (take (8 * (valued s c).answer.count) (drop c.at (valued s c).after))) in
      let ran : Ran (pupil_of s) (bytes_from (valued s c ∷ [])) q = ap (λ b. R.ran_from (run_call base (R.seen (pupil_of s)) b)) whole in
      let follows = shift_read s (valued s c ∷ []) l.writer.good (all_wrote s (c ∷ [])) q ran in
      let same = as_ran r (wrote_bytes c) (pupil_of s) x l.reader k in (
        same.number ∙ ap verdict_number follows.accepted,
        record { writer = left_in w s c l.writer h; reader = subst (ReaderIn x.state) follows.state (ran_in r (wrote_bytes c) (pupil_of s) x l.reader k) },
      )

  -- A refused frame leaves both.
  frame_refused : (c.number ≡ 0 → ⊥) → Linked c.state r next
  frame_refused n =
      let same = as_valued w s c l.writer h in
      let not : (valued s c).answer.verdict ≡ Verdicts.Accepted → ⊥ = λ v. n (same.number ∙ ap verdict_number v) in
      let kept : s ≡ next = sym l.writer.holds ∙ sym (ap LentWriter.unpacked (same.refused not)) ∙ same.state in
      record { writer = left_in w s c l.writer h; reader = subst (λ z. ReaderIn r (pupil_of z)) kept l.reader }

linked_told : (w r : List ℕ) (s : WriterState) (xs : List LentFrame) → Linked w r s → AllCarried w r xs → AllTold r xs
linked_told w r s [] l h = tt
linked_told w r s (carried c x ∷ xs) l h =
    let step = frame-read w r s l c h.0.0 x h.0.1 in
    ((step.0, linked_tells c.state x.state _ step.1), linked_told c.state x.state (valued s c).answer.state xs step.1 h.1)
linked_told w r s (alone c ∷ xs) l h =
    let step = frame_refused w r s l c h.0.0 h.0.1 in
    (linked_tells c.state r _ step, linked_told c.state r (valued s c).answer.state xs step h.1)

-- What `fresh` accepts `reader_fresh` accepts too, over as many bytes as a reader's state has.
pub reader-begins : (b c us w r : List ℕ) (on n : ℕ) → Freshens b us on 0 w → length c ≡ reader_size → FreshIn c us n r → n ≡ 0
reader-begins b c us w r on n m size k =
    k.number
    ∙ ap₂ (λ t z. C.verdict_number (check t C.setup (check z C.state C.accepted))) (setup-good b us w on m) (eq-eqb (length c) reader_size size)

module _ (b c us w r : List ℕ) (on : ℕ) (m : Freshens b us on 0 w) (k : FreshIn c us 0 r) where
  fresh_linked : Linked w r (made b us w on m).state
  fresh_linked =
      let pupil = fresh-pupil (setup_given us) (eqb on 1) (made b us w on m) [] refl (made-accepted b us w on m) tt (begun c us r k) refl in
      record { writer = made_in b us w on m; reader = subst (ReaderIn r) pupil (begun_in c us r k) }

  -- The long shift for C hosts: a writer's and a reader's bytes, fresh from one setup, with pointer emulation or without, and any frames over the writer's, refused
  -- ones among them, each frame's bytes given to `run` over the reader's. At the start and after each frame the reader's bytes tell the writer's table.
  pub host_shift : (xs : List LentFrame) → AllCarried w r xs → Tells w r × AllTold r xs
  host_shift xs h = (linked_tells w r _ fresh_linked, linked_told w r (made b us w on m).state xs fresh_linked h)

-- ---- after a loss

-- The call by value on this state.
abbrev valued_call : ReaderState → LentCall → HostCall
valued_call s (run bs x) = Host.run bs (R.ran_from (run_call base (R.seen s) bs))
valued_call s (load m c n next) = Host.load m c (loaded_from (load_call base (R.seen s) m c))
valued_call s (ask k n told) = Host.ask k (asked_from (ask_call base (R.seen s) k))

abbrev valued_calls : ReaderState → List LentCall → List HostCall
valued_calls s [] = []
valued_calls s (x ∷ xs) = valued_call s x ∷ valued_calls (Host.state_after s (valued_call s x)) xs

call_allowed : (s : ReaderState) (x : LentCall) → Host.Allowed s (valued_call s x)
call_allowed s (run bs x) = refl
call_allowed s (load m c n next) = refl
call_allowed s (ask k n told) = refl

calls_allowed : (s : ReaderState) (xs : List LentCall) → AllAllowed s (valued_calls s xs)
calls_allowed s [] = tt
calls_allowed s (x ∷ xs) = (call_allowed s x, calls_allowed (Host.state_after s (valued_call s x)) xs)

module _ (b : List ℕ) (s : ReaderState) (m : List ℤ) (c n : ℕ) (next : List ℕ) (i : ReaderIn b s) (h : LoadIn b m c n next) where
  abbrev loaded_by : LoadAnswer
  loaded_by = loaded_from (load_call base (R.seen s) m c)

  as_loaded : LoadsAs n next loaded_by
  as_loaded = loads_as b m c n next i.formed h loaded_by (ap (λ z. loaded_from (load_call base (R.seen z) m c)) (sym i.holds))

call_in : (b : List ℕ) (s : ReaderState) (x : LentCall) → ReaderIn b s → LentAllowed b x → ReaderIn (left_by b x) (Host.state_after s (valued_call s x))
call_in b s (run bs x) i h = ran_in b bs s x i h
call_in b s (load m c n next) i h =
    let same = as_loaded b s m c n next i h in
    record { formed = same.formed; holds = same.state; good = loaded_good s m c (loaded_by b s m c n next i h) refl i.good }
call_in b s (ask k n told) i h = i

calls_in : (b : List ℕ) (s : ReaderState) (xs : List LentCall) → ReaderIn b s → AllLentAllowed b xs → ReaderIn (left_by_all b xs) (state_after_all s (valued_calls s xs))
calls_in b s [] i h = i
calls_in b s (x ∷ xs) i h = calls_in (left_by b x) (Host.state_after s (valued_call s x)) xs (call_in b s x i h.0) h.1

no_load : (b : List ℕ) (s : ReaderState) (x : LentCall) → ReaderIn b s → LentAllowed b x → NoLentLoad x → Host.NoLoad (valued_call s x)
no_load b s (run bs x) i h n = tt
no_load b s (load m c k next) i h n = λ v. n ((as_loaded b s m c k next i h).number ∙ ap verdict_number v)
no_load b s (ask k r told) i h n = tt

no_loads : (b : List ℕ) (s : ReaderState) (xs : List LentCall) → ReaderIn b s → AllLentAllowed b xs → NoLentLoads xs → NoLoads (valued_calls s xs)
no_loads b s [] i h n = tt
no_loads b s (x ∷ xs) i h n =
    (no_load b s x i h.0 n.0, no_loads (left_by b x) (Host.state_after s (valued_call s x)) xs (call_in b s x i h.0) h.1 n.1)

-- Over the bytes of a lost reader, any calls and then a question.
lost_asked : (b : List ℕ) (s : ReaderState) (xs : List LentCall) (k n : ℕ) (told : List ℤ) → ReaderIn b s → LostTrack s → AllLentAllowed b xs → NoLentLoads xs
    → k < s.setup.n → AskIn (left_by_all b xs) k n told → (n ≡ 0) × (told ≡ bare 0)
lost_asked b s xs k n told i lost h loads below a =
    let t = state_after_all s (valued_calls s xs) in
    let there = calls_in b s xs i h in
    let call = ask_call base (R.seen t) k in
    let unknown = unknown_until_load s (valued_calls s xs) k (asked_from call) i.good lost (calls_allowed s xs) (no_loads b s xs i h loads) below refl in
    let is : call ≡ C.unknown = sym (back_call t k) ∙ ap answer_seen unknown in
    let by_form : asked_of (left_by_all b xs) k ≡ ask_call base (R.seen (LentReader.unpacked (left_by_all b xs))) k =
    ap (λ f. cond f (ask_call base (R.seen (LentReader.unpacked (left_by_all b xs))) k) (C.refused C.state)) there.formed in
    let all = by_form ∙ ap (λ z. ask_call base (R.seen z) k) there.holds ∙ is in
    (a.number ∙ ap C.asked_number all, a.answer ∙ ap asked_row all)

-- The loss for C hosts: over the bytes of a fresh reader any calls, then a run with SYN_DROPPED at one of its records, then any calls of which no load returned 0.
-- `ask` for any slot of the panel returns 0 and answers 0, "unknown", with zeros.
pub host_unknown : (b us r : List ℕ) (before after : List LentCall) (bs : List ℕ) (i : ℕ) (x : LentRun) (k n : ℕ) (told : List ℤ) → FreshIn b us 0 r
    → AllLentAllowed r before → length bs % 8 ≡ 0 → i < length bs / 8 → T (is_dropped (event_at bs (8 * i))) → LentRan (left_by_all r before) bs x
    → AllLentAllowed x.state after → NoLentLoads after → k < (setup_given us).n → AskIn (left_by_all x.state after) k n told → (n ≡ 0) × (told ≡ bare 0)
host_unknown b us r before after bs i x k n told m h whole inside dropped ran l loads below a =
    let first = (begun b us r m).state in
    let s = state_after_all first (valued_calls first before) in
    let there = calls_in r first before (begun_in b us r m) h in
    let q = R.ran_from (run_call base (R.seen s) bs) in
    let lost = dropped_loses s bs i q there.good whole inside dropped refl in
    let setup : q.state.setup ≡ setup_given us =
    calls_setup s (Host.run bs q ∷ []) (refl, tt) ∙ calls_setup first (valued_calls first before) (calls_allowed first before)
    ∙ reader-made-setup (setup_given us) (begun b us r m) refl (begun-accepted b us r m) in
    lost_asked x.state q.state after k n told (ran_in (left_by_all r before) bs s x there ran) lost l loads (subst (λ (z : Setup). k < z.n) (sym setup) below) a
