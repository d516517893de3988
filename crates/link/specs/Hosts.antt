-- What a C host does over state bytes that it lends (K11), call after call, and what it is told; and what a reader's bytes tell of a writer's. Assumes nothing.
use Rattle.std.specs.Prelude.{◌≡◌, true, List, [], ◌∷◌, ◌++◌, ℕ, ◌*◌, ℤ, get_or, take, drop}
use Rattle.model.specs.Panel.{records}
use Rattle.common.specs.declared.Verdict.TheVariants.{Accepted}
use Rattle.common.specs.declared.Mode.TheVariants.{Following}
use Rattle.common.specs.Seen.{verdict_number, counts_of}
use Rattle.records.specs.Seen.{word_at}
use Rattle.writer.specs.declared.Written.{Written}
use Rattle.reader.specs.declared.RunAnswer.{RunAnswer}
use Rattle.lent.specs.Lent.{slots_from}
use Rattle.lent_writer.specs.Layout as WriterAt
use Rattle.lent_writer.specs.Seen as LentWriter
use Rattle.lent_writer.specs.Seen.{WritesFrame}
use Rattle.lent_reader.specs.Layout as LentReader
use Rattle.lent_reader.specs.Seen.{counts_row, RunIn, LoadIn, AskIn}

-- ---- calls of `write` over a writer's bytes

-- The frame, the position and the buffer that was lent; the number that was returned, and the state's bytes, the answer and the buffer afterwards.
pub record LentWrite : Type 0 where
  pub frame : List ℤ
  pub at : ℕ
  pub buffer : List ℕ
  pub number : ℕ
  pub state : List ℕ
  pub told : List ℕ
  pub after : List ℕ

-- The contract of `write` allows the call, where these state bytes were lent.
abbrev pub LentWrote : List ℕ → LentWrite → Type 0
LentWrote b c = WritesFrame b c.frame c.at c.buffer c.number c.state c.told c.after

-- So it is for calls in order, each over the bytes that the one before left.
abbrev pub AllLent : List ℕ → List LentWrite → Type 0
AllLent b [] = Unit {0}
AllLent b (c ∷ cs) = LentWrote b c × AllLent c.state cs

-- The state's bytes after them.
abbrev pub bytes_after : List ℕ → List LentWrite → List ℕ
bytes_after b [] = b
bytes_after b (c ∷ cs) = bytes_after c.state cs

-- The bytes that a call wrote: from its position on, eight for each event that it told of.
abbrev pub wrote_bytes : LentWrite → List ℕ
wrote_bytes c = take (8 * get_or c.told 0 0) (drop c.at c.after)

-- Those of all calls, in order.
abbrev pub all_bytes : List LentWrite → List ℕ
all_bytes [] = []
all_bytes (c ∷ cs) = wrote_bytes c ++ all_bytes cs

-- The call c over the formed bytes b is the call by value, whose answer is r and whose buffer is then `after`: it returns the number of r's verdict, leaves the
-- bytes of r's state if it is accepted and b if not, which hold r's state either way, and tells r's count, need and changed slots.
pub record WritesAs (b : List ℕ) (c : LentWrite) (r : Written) (after : List ℕ) : Type 0 where
  pub number : c.number ≡ verdict_number r.verdict
  pub accepted : r.verdict ≡ Accepted → c.state ≡ LentWriter.packed r.state
  pub refused : (r.verdict ≡ Accepted → ⊥) → c.state ≡ b
  pub formed : LentWriter.formed c.state ≡ true
  pub state : LentWriter.unpacked c.state ≡ r.state
  pub told : c.told ≡ r.count ∷ r.need ∷ r.changed ∷ []
  pub buffer : c.after ≡ after

-- ---- calls over a reader's bytes

-- What a run returned, left and told.
pub record LentRun : Type 0 where
  pub number : ℕ
  pub state : List ℕ
  pub told : List ℕ

-- The contract of `run` allows it, where these state bytes and these events' bytes were lent.
abbrev pub LentRan : List ℕ → List ℕ → LentRun → Type 0
LentRan b bs x = RunIn b bs x.number x.state x.told

-- The run x over the formed bytes b is the run by value, whose answer is q: as in WritesAs, and it tells q's counts.
pub record RunsAs (b : List ℕ) (x : LentRun) (q : RunAnswer) : Type 0 where
  pub number : x.number ≡ verdict_number q.verdict
  pub accepted : q.verdict ≡ Accepted → x.state ≡ LentReader.packed q.state
  pub refused : (q.verdict ≡ Accepted → ⊥) → x.state ≡ b
  pub formed : LentReader.formed x.state ≡ true
  pub state : LentReader.unpacked x.state ≡ q.state
  pub told : x.told ≡ counts_row (counts_of q.counts)

-- A call with what it returned and left: a run over bytes, a load of an image and a current slot, or a question for a slot.
pub data LentCall : Type 0 where
  run : List ℕ → LentRun → LentCall
  load : List ℤ → ℕ → ℕ → List ℕ → LentCall
  ask : ℕ → ℕ → List ℤ → LentCall

-- Its contract allows it, where these state bytes were lent.
abbrev pub LentAllowed : List ℕ → LentCall → Type 0
LentAllowed b (run bs x) = LentRan b bs x
LentAllowed b (load m c n next) = LoadIn b m c n next
LentAllowed b (ask k n told) = AskIn b k n told

-- The state's bytes after it; a question leaves them.
abbrev pub left_by : List ℕ → LentCall → List ℕ
left_by b (run bs x) = x.state
left_by b (load m c n next) = next
left_by b (ask k n told) = b

-- So it is for calls in order, each over the bytes that the one before left.
abbrev pub AllLentAllowed : List ℕ → List LentCall → Type 0
AllLentAllowed b [] = Unit {0}
AllLentAllowed b (x ∷ xs) = LentAllowed b x × AllLentAllowed (left_by b x) xs

-- The state's bytes after them.
abbrev pub left_by_all : List ℕ → List LentCall → List ℕ
left_by_all b [] = b
left_by_all b (x ∷ xs) = left_by_all (left_by b x) xs

-- The call is not a load that returned 0.
abbrev pub NoLentLoad : LentCall → Type 0
NoLentLoad (run bs x) = Unit {0}
NoLentLoad (load m c n next) = n ≡ 0 → ⊥
NoLentLoad (ask k n told) = Unit {0}

-- None of the calls is.
abbrev pub NoLentLoads : List LentCall → Type 0
NoLentLoads [] = Unit {0}
NoLentLoads (x ∷ xs) = NoLentLoad x × NoLentLoads xs

-- ---- frames that one host writes and another reads

-- A frame, and the run over the bytes that it wrote; or a frame that was refused, whose reader is not called.
pub data LentFrame : Type 0 where
  carried : LentWrite → LentRun → LentFrame
  alone : LentWrite → LentFrame

-- The contracts allow it, over the writer's bytes w and the reader's bytes r.
abbrev pub Carried : List ℕ → List ℕ → LentFrame → Type 0
Carried w r (carried c x) = LentWrote w c × LentRan r (wrote_bytes c) x
Carried w r (alone c) = LentWrote w c × (c.number ≡ 0 → ⊥)

-- The writer's bytes after it.
abbrev pub writer_left : LentFrame → List ℕ
writer_left (carried c x) = c.state
writer_left (alone c) = c.state

-- The reader's, where r were its bytes before.
abbrev pub reader_left : List ℕ → LentFrame → List ℕ
reader_left r (carried c x) = x.state
reader_left r (alone c) = r

-- So it is for frames in order.
abbrev pub AllCarried : List ℕ → List ℕ → List LentFrame → Type 0
AllCarried w r [] = Unit {0}
AllCarried w r (x ∷ xs) = Carried w r x × AllCarried (writer_left x) (reader_left r x) xs

-- A reader's bytes r tell what a writer's bytes w hold: the mode's byte is that of following, the current slot is the writer's, and the shown table is the
-- writer's table, all 32 slots.
pub record Tells (w r : List ℕ) : Type 0 where
  pub follows : get_or r LentReader.mode_at 0 ≡ LentReader.mode_byte Following
  pub current : word_at r LentReader.current_at ≡ word_at w WriterAt.current_at
  pub shown : slots_from records r LentReader.shown_at ≡ slots_from records w WriterAt.table_at

-- After the frame they do, and its run was accepted.
abbrev pub Told : List ℕ → LentFrame → Type 0
Told r (carried c x) = (x.number ≡ 0) × Tells c.state x.state
Told r (alone c) = Tells c.state r

-- So it is after each of the frames.
abbrev pub AllTold : List ℕ → List LentFrame → Type 0
AllTold r [] = Unit {0}
AllTold r (x ∷ xs) = Told r x × AllTold (reader_left r x) xs
