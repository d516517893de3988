-- What an old display is told (K6): the bytes that the code lays down are those of the model's emulated events. Cited by the writer. Assumes nothing.
use mathlib.Core.Path.{◌≡◌, refl, sym, ap, ap₂, ◌∙◌}
use mathlib.Core.Bool.{Bool, true, false, ◌||◌}
use mathlib.Core.List.{List, [], ◌∷◌, ◌++◌, append_assoc, append-nil}
use Prim.Native.Nat.{ℕ}
use lib.Dec.{eqb}
use lib.IntN.{pos}
use Rattle.model.specs.Events.{Event}
use Rattle.model.specs.Records.{bits_of, record_bytes, event_bytes, bytes_of}
use Rattle.model.specs.Sending.{unless, one_unless}
use Rattle.model.specs.Pointer.{button, axis, events_before, events_after, swaps, moves}
use Rattle.pointer.specs.declared.Pointer.{Pointer}
use Rattle.pointer.specs.Seen.{pointer_of}
use Rattle.send.specs.Sent.{none_if}
use Rattle.send.specs.Told.{one_if, touch_bytes, tool_bytes, place_bytes}

-- ---- lists of events

pub bytes_append : (xs ys : List Event) → bytes_of (xs ++ ys) ≡ bytes_of xs ++ bytes_of ys
unfolding bytes_of
bytes_append [] ys = refl
bytes_append (e ∷ xs) ys = ap (λ l. event_bytes e ++ l) (bytes_append xs ys) ∙ sym (append_assoc (event_bytes e) (bytes_of xs) (bytes_of ys))

unless-bytes : (b : Bool) (e : Event) (l : List Event) → bytes_of (unless b e l) ≡ none_if b (event_bytes e) ++ bytes_of l
unfolding bytes_of
unless-bytes true e l = refl
unless-bytes false e l = refl

none-bytes : bytes_of [] ≡ []
unfolding bytes_of
none-bytes = refl

button-bytes : (c v : ℕ) → event_bytes (button c v) ≡ record_bytes 1 c v
unfolding bits_of
button-bytes c v = refl

axis-bytes : (c v : ℕ) → event_bytes (axis c (pos v)) ≡ record_bytes 3 c v
unfolding bits_of
axis-bytes c v = refl

-- ---- tests as numbers

zero-told : (b : Bool) → eqb (one_unless b) 0 ≡ b
zero-told true = refl
zero-told false = refl

one_told : (b : Bool) → eqb (one_if b) 1 ≡ b
one_told true = refl
one_told false = refl

-- ---- the display's events

pub touch-bytes : (q z : Pointer) → bytes_of (events_before (pointer_of q) (pointer_of z)) ≡ touch_bytes q z
touch-bytes q z =
    unless-bytes (eqb q.touch z.touch) (button 0x14a z.touch) []
    ∙ ap₂ (λ a b. none_if (eqb q.touch z.touch) a ++ b) (button-bytes 0x14a z.touch) none-bytes ∙ append-nil (touch_bytes q z)

tool-bytes : (q z : Pointer) → bytes_of (swaps q.tool z.tool) ≡ tool_bytes q z
tool-bytes q z =
    let off = eqb q.tool z.tool || eqb q.tool 0 in
    let on = eqb q.tool z.tool || eqb z.tool 0 in
    unless-bytes off (button q.tool 0) (unless on (button z.tool 1) [])
    ∙ ap₂ (λ a b. none_if off a ++ b) (button-bytes q.tool 0)
    (unless-bytes on (button z.tool 1) [] ∙ ap₂ (λ a b. none_if on a ++ b) (button-bytes z.tool 1) none-bytes ∙ append-nil (none_if on (record_bytes 1 z.tool 1)))
    ∙ ap₂ (λ a b. none_if a (record_bytes 1 q.tool 0) ++ none_if b (record_bytes 1 z.tool 1)) (sym (zero-told off)) (sym (one_told on))

place-bytes : (q z : Pointer) → bytes_of (moves (pointer_of q) (pointer_of z)) ≡ place_bytes q z
place-bytes q z =
    let x = eqb q.x z.x in
    let y = eqb q.y z.y in
    unless-bytes x (axis 0 (pos z.x)) (unless y (axis 1 (pos z.y)) [])
    ∙ ap₂ (λ a b. none_if x a ++ b) (axis-bytes 0 z.x)
    (unless-bytes y (axis 1 (pos z.y)) [] ∙ ap₂ (λ a b. none_if y a ++ b) (axis-bytes 1 z.y) none-bytes ∙ append-nil (none_if y (record_bytes 3 1 z.y)))

pub display-bytes : (q z : Pointer) → bytes_of (events_after (pointer_of q) (pointer_of z)) ≡ tool_bytes q z ++ place_bytes q z
display-bytes q z =
    bytes_append (swaps q.tool z.tool) (moves (pointer_of q) (pointer_of z)) ∙ ap₂ (λ a b. a ++ b) (tool-bytes q z) (place-bytes q z)
