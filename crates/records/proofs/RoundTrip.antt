-- Reading a written record gives it back. Assumes nothing.
use mathlib.Core.Path.{◌≡◌, ap, ◌∙◌}
use mathlib.Core.List.{List, [], ◌∷◌}
use Prim.Native.Nat.{ℕ, ◌/◌, ◌<◌}
use native.Mathlib.Omega.{arith}
use lib.ListN.{length}
use Rattle.model.specs.Records.{signed_of, record_bytes, event_at, events_from, events_of}
use Rattle.model.proofs.Bytes.{two, four}
use Rattle.records.specs.Seen.{over, event_of}
use Rattle.records.specs.declared.Event.{Event}
use Rattle.records.proofs.Over.{record_length, over-same}

-- What `record_at` reads of a part after `put` is what was put, whatever stood there.
pub put_then_read : (t c v : ℕ) (old : List ℕ) → t < 65_536 → c < 65_536 → v < 4_294_967_296
    → event_at (over (record_bytes t c v) old) 0 ≡ record { type = t; code = c; value = signed_of v }
unfolding over record_bytes
put_then_read t c v old h g f = rw (two t h, two c g, four v f)

-- Eight bytes that a record was put into hold that record.
pub one_record : (e : Event) (old : List ℕ) → length old ≡ 8 → e.kind < 65_536 → e.code < 65_536 → e.value < 4_294_967_296
    → events_of (over (record_bytes e.kind e.code e.value) old) ≡ event_of e ∷ []
unfolding events_from
one_record e old l a b c =
    let bs = record_bytes e.kind e.code e.value in
    let n : length (over bs old) / 8 ≡ 1 = omega (arith, over-same bs old (omega (arith, record_length e.kind e.code e.value)), l) in
    ap (λ k. events_from k (over bs old) 0) n ∙ ap (λ x. x ∷ []) (put_then_read e.kind e.code e.value old a b c)
