-- What K12's call promises of its answer and of the buffer, and what a type A frame is to a host. Assumes nothing.
use Rattle.std.specs.Prelude.{◌≡◌, List, ℕ, ℤ, length}
use Rattle.model.specs.Panel.{base}
use Rattle.model.specs.Records.{events_of}
use Rattle.model.specs.Packets.{Contact, packets_of}
use Rattle.model.specs.Anonymous.{anonymous_frame, anonymous_call, anonymous_buffer}
use Rattle.writer.specs.declared.WriterState.{WriterState}
use Rattle.writer.specs.declared.Written.{Written}
use Rattle.writer.specs.Seen as W

-- What `anonymous::write` promises of its answer and of the buffer afterwards.
abbrev pub WroteAnonymous : WriterState → List ℕ → ℕ → List ℕ → Written → List ℕ → Type 0
WroteAnonymous s bs at buf r after =
    (r ≡ W.written_from (anonymous_call base (W.seen s) bs at (length buf))) × (after ≡ anonymous_buffer base (W.seen s) bs at buf)

-- The contacts that the records tell.
abbrev pub contacts_in : List ℕ → List Contact
contacts_in bs = (packets_of (events_of bs)).contacts

-- The type B frame that is made of them.
abbrev pub frame_by : WriterState → List ℕ → List ℤ
frame_by s bs = anonymous_frame base (W.seen s) bs
