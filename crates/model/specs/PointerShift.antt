-- A shift with pointer emulation (K6): a writer's calls one after the other, refused ones among them, what they write, and in which of them each
-- contact began. Assumes nothing.
use Rattle.std.specs.Prelude.{cond, List, [], ◌∷◌, ◌++◌, ℕ, suc, ◌*◌, ℤ, length, take, drop}
use Rattle.model.specs.Panel.{Layout, panel_of}
use Rattle.model.specs.Events.{Event}
use Rattle.model.specs.Frame.{rows_of, Fate, none, goes_on, begins}
use Rattle.model.specs.Calls.{Verdict, is_accepted, frame_events}
use Rattle.model.specs.Shift.{FrameCall}
use Rattle.model.specs.Ranks.{fates}
use Rattle.model.specs.Pointing.{PointerState, pointer_events, pointer_verdict, pointer_call, pointer_buffer}

-- ---- calls

-- The verdict of a call.
abbrev pub pointer_judged : Layout → PointerState → FrameCall → Verdict
pointer_judged l s k = pointer_verdict l s k.frame k.at (length k.buffer)

-- The writer that the call answers.
abbrev pub pointer_wrote : Layout → PointerState → FrameCall → PointerState
pointer_wrote l s k = (pointer_call l s k.frame k.at (length k.buffer)).state

-- The writer after calls, each on the one that the call before answered.
abbrev pub pointer_wrote_all : Layout → PointerState → List FrameCall → PointerState
pointer_wrote_all l s [] = s
pointer_wrote_all l s (k ∷ ks) = pointer_wrote_all l (pointer_wrote l s k) ks

-- The calls that are accepted, in order.
abbrev pub accepted_calls : Layout → PointerState → List FrameCall → List FrameCall
accepted_calls l s [] = []
accepted_calls l s (k ∷ ks) = let later = accepted_calls l (pointer_wrote l s k) ks in cond (is_accepted (pointer_judged l s k)) (k ∷ later) later

-- ---- what they write

-- The events of a call: those of its frame, or none where it is refused.
abbrev pub pointer_sent : Layout → PointerState → FrameCall → List Event
pointer_sent l s k = cond (is_accepted (pointer_judged l s k)) (pointer_events l s k.frame) []

-- Those of all calls.
abbrev pub pointer_sent_all : Layout → PointerState → List FrameCall → List Event
pointer_sent_all l s [] = []
pointer_sent_all l s (k ∷ ks) = pointer_sent l s k ++ pointer_sent_all l (pointer_wrote l s k) ks

-- The contact events alone.
abbrev pub contacts_sent : Layout → PointerState → FrameCall → List Event
contacts_sent l s k = cond (is_accepted (pointer_judged l s k)) (frame_events (panel_of l s.base.setup) s.base.writer k.frame) []

abbrev pub contacts_sent_all : Layout → PointerState → List FrameCall → List Event
contacts_sent_all l s [] = []
contacts_sent_all l s (k ∷ ks) = contacts_sent l s k ++ contacts_sent_all l (pointer_wrote l s k) ks

-- What is in the buffer from the position on, for eight times the count.
abbrev pub pointer_written : Layout → PointerState → List ℤ → ℕ → List ℕ → List ℕ
pointer_written l s f at buf = take (8 * (pointer_call l s f at (length buf)).count) (drop at (pointer_buffer l s f at buf))

-- The bytes of all calls.
abbrev pub pointer_written_all : Layout → PointerState → List FrameCall → List ℕ
pointer_written_all l s [] = []
pointer_written_all l s (k ∷ ks) = pointer_written l s k.frame k.at k.buffer ++ pointer_written_all l (pointer_wrote l s k) ks

-- ---- in which call each contact began: what ranks stand for. No state holds it

-- The call in which a record's contact began, after call n; of an unused record it says nothing.
abbrev pub born_in : ℕ → Fate → ℕ → ℕ
born_in n none b = b
born_in n goes_on b = b
born_in n begins b = n

-- That of each record.
abbrev pub born_after : ℕ → List Fate → List ℕ → List ℕ
born_after n [] bs = []
born_after n (a ∷ fs) [] = []
born_after n (a ∷ fs) (b ∷ bs) = born_in n a b ∷ born_after n fs bs

-- After calls, the first of which is call n: a refused one begins nothing.
abbrev pub born_all : Layout → PointerState → List FrameCall → ℕ → List ℕ → List ℕ
born_all l s [] n bs = bs
born_all l s (k ∷ ks) n bs =
    let fs = fates (rows_of (panel_of l s.base.setup) k.frame) s.base.writer.table in
    born_all l (pointer_wrote l s k) ks (suc n) (cond (is_accepted (pointer_judged l s k)) (born_after n fs bs) bs)
