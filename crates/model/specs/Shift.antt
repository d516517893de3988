-- A shift: a writer's calls one after the other, refused ones among them, what they write, and what a reader that follows them all tells.
-- The theorems of K1 speak of it. Assumes nothing.
use Rattle.std.specs.Prelude.{Bool, cond, List, [], ◌∷◌, ◌++◌, ℕ, ◌+◌, ◌*◌, ℤ, length, take, drop}
use Rattle.model.specs.Panel.{Layout, Panel, panel_of}
use Rattle.model.specs.Table.{Table}
use Rattle.model.specs.Events.{Event}
use Rattle.model.specs.Reader.{Skipped, none, event, Counts}
use Rattle.model.specs.Loss.{is_report}
use Rattle.model.specs.Skips.{type_unknown, code_unknown, skipped_by}
use Rattle.model.specs.States.{WriterState}
use Rattle.model.specs.Calls.{is_accepted, frame_events, write_verdict, write_call, write_buffer}

-- ---- calls

-- What is handed to `write`: a frame, a position, and a buffer that is lent.
pub record FrameCall : Type 0 where
  pub frame : List ℤ
  pub at : ℕ
  pub buffer : List ℕ

-- The writer that the call answers.
abbrev pub wrote : Layout → WriterState → FrameCall → WriterState
wrote l s q = (write_call l s q.frame q.at (length q.buffer)).state

-- The writer after calls, each on the one that the call before answered.
abbrev pub wrote_all : Layout → WriterState → List FrameCall → WriterState
wrote_all l s [] = s
wrote_all l s (q ∷ qs) = wrote_all l (wrote l s q) qs

-- ---- what they write

-- The events of a call: those of its frame, or none where it is refused.
abbrev pub sent : Layout → WriterState → FrameCall → List Event
sent l s q = cond (is_accepted (write_verdict l s q.frame q.at (length q.buffer))) (frame_events (panel_of l s.setup) s.writer q.frame) []

-- Those of all calls.
abbrev pub sent_all : Layout → WriterState → List FrameCall → List Event
sent_all l s [] = []
sent_all l s (q ∷ qs) = sent l s q ++ sent_all l (wrote l s q) qs

-- What is in the buffer from the position on, for eight times the count.
abbrev pub written : Layout → WriterState → List ℤ → ℕ → List ℕ → List ℕ
written l s f at buf = take (8 * (write_call l s f at (length buf)).count) (drop at (write_buffer l s f at buf))

-- The bytes of all calls.
abbrev pub written_all : Layout → WriterState → List FrameCall → List ℕ
written_all l s [] = []
written_all l s (q ∷ qs) = written l s q.frame q.at q.buffer ++ written_all l (wrote l s q) qs

-- ---- what a reader tells of them

-- How many events pass a test.
abbrev pub how_many : (Event → Bool) → List Event → ℕ
how_many f [] = 0
how_many f (e ∷ es) = cond (f e) 1 0 + how_many f es

-- The first that passes it, by type and code, or none.
abbrev pub first_of : (Event → Bool) → List Event → Skipped
first_of f [] = none
first_of f (e ∷ es) = cond (f e) (event e.type e.code) (first_of f es)

-- The counts of a reader that follows throughout: a table shown for each SYN_REPORT, the unknown types and codes, and the first of these.
abbrev pub followed : Panel → List Event → Counts
followed p es = record {
  shown = how_many is_report es;
  types = how_many type_unknown es;
  codes = how_many (code_unknown p) es;
  bad = 0;
  ignored = 0;
  first = first_of (skipped_by p) es;
}

-- ---- a writer's table as an image

-- The numbers of slots, one slot after the other.
abbrev pub flat : Table → List ℤ
flat [] = []
flat (s ∷ t) = s ++ flat t

-- The image of a table for a reader's load: the panel's slots, without the records past them.
abbrev pub image_of : Panel → Table → List ℤ
image_of p t = flat (take p.slots t)
