-- What becomes of one slot, as the code's records. Cited by the contracts here. Assumes nothing.
use Rattle.std.specs.Prelude.{Bool, true, false, ◌&&◌, ◌||◌, List, [], ◌∷◌, ℤ, pos, get_or}
use Rattle.std.specs.Int.Signed.{le_z}
use Rattle.model.specs.Numbers.{eq_z, minus_one}
use Rattle.model.specs.Table.{numbers_of}
use Rattle.model.specs.Records.{bits_of}
use Rattle.model.specs.Frame.{kind_of, Fate, none, goes_on, begins}
use Rattle.panel.specs.declared.Slot.{Slot}

-- A contact begins.
abbrev pub begun : Fate → Bool
begun none = false
begun goes_on = false
begun begins = true

-- A slot with an id and the bits of its row's numbers: no good row has a negative one.
abbrev pub contact_of : ℤ → List ℤ → Slot
contact_of i g = record {
  id = record { 0 = i };
  x = bits_of (get_or g 1 (pos 0));
  y = bits_of (get_or g 2 (pos 0));
  pressure = bits_of (get_or g 3 (pos 0));
  major = bits_of (get_or g 4 (pos 0));
  minor = bits_of (get_or g 5 (pos 0));
}

-- A slot without a contact: its other numbers stay.
abbrev pub lifted : Slot → Slot
lifted was = record { id = record { 0 = minus_one }; x = was.x; y = was.y; pressure = was.pressure; major = was.major; minor = was.minor }

-- A slot in which no contact begins, by whether its kind is 0.
abbrev pub stayed : Bool → Slot → List ℤ → Slot
stayed true was g = lifted was
stayed false was g = contact_of was.id.0 g

-- No number is negative.
abbrev pub unsigned : List ℤ → Bool
unsigned [] = true
unsigned (v ∷ vs) = le_z (pos 0) v && unsigned vs

-- Kind 0, or no number is negative: such a row's numbers are their own bits.
abbrev pub plain_row : List ℤ → Bool
plain_row g = eq_z (kind_of g) (pos 0) || unsigned (numbers_of g)
