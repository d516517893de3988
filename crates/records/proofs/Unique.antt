-- The promises on records leave no choice: each law is of the contract itself. Assumes nothing.
use mathlib.Core.Path.{◌≡◌, sym, ap, ◌∙◌}
use Prim.Native.Nat.{◌<◌}
use Rattle.model.specs.Events as E
use Rattle.model.specs.Records.{bits_of}
use Rattle.model.specs.Unique.{OneAnswer, OneLeft}
use Rattle.model.proofs.Bytes.{bits-signed}
use Rattle.records.specs.declared.Event.{Event}
use Rattle.records.specs.Seen.{event_of}
use Rattle.records.proofs.join32.Reads as join32
use Rattle.records.proofs.record_at.Reads as record-at
use Rattle.records.proofs.word_at.Reads as word_at
use Rattle.records.proofs.bits_of.Reads as bits_of
use Rattle.records.proofs.signed_of.Reads as Signed-of
use Rattle.records.proofs.put.Reads as put

pub join32_one : OneAnswer join32.Learnt
join32_one κs a r q s t e g = e ∙ sym g

pub word-at_one : OneAnswer word_at.Learnt
word-at_one κs a r q s t e g = e ∙ sym g

pub bits_of_one : OneAnswer bits_of.Learnt
bits_of_one κs a r q s t e g = e ∙ sym g

pub signed_of_one : OneAnswer Signed-of.Learnt
signed_of_one κs a r q s t e g = e ∙ sym g

-- A value of 32 bits is known by its signed number.
abbrev event_from : E.Event → Event
event_from e = record { kind = e.type; code = e.code; value = bits_of e.value }

event_back : (e : Event) → e.value < 4_294_967_296 → event_from (event_of e) ≡ e
event_back e h = ap (λ v. record { kind = e.kind; code = e.code; value = v }) (bits-signed e.value h)

pub record_at_one : (κs : _) (a : _) (r q : Event) (s t : _) → r.value < 4_294_967_296 → q.value < 4_294_967_296 → record-at.Learnt κs a r s → record-at.Learnt κs a q t → r ≡ q
record_at_one κs a r q s t h k e g = sym (event_back r h) ∙ ap event_from (e ∙ sym g) ∙ event_back q k

-- It answers nothing; every byte of the buffer.
pub put_left : OneLeft put.Learnt (λ κs s. s.0.now)
put_left κs a r q s t e g = e ∙ sym g
