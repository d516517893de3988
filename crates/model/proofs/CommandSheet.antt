-- The sheet of the commands: the definitions give every row, by computing. Brought in by the first law on commands, so that a wrong definition
-- fails here. Assumes nothing.
use mathlib.Core.Path.{◌≡◌, refl}
use mathlib.Core.List.{List, ◌∷◌, map, ◌++◌}
use lib.ListN.{length}
use Rattle.model.specs.Records.{lay}
use Rattle.model.specs.Pod.{well_formed}
use Rattle.model.specs.Pod as P
use Rattle.model.specs.Commands.{kind_of, command_in, read_at, reads, write_verdict, write_call, write_buffer}
use Rattle.model.specs.CommandSheet.{ReadRow, ten_row, other_rows, refused_rows, unfinished_rows, WriteRow, accepted_rows, refused_writes}

-- What is read of every input.
pub inputs_hold : (let rows : List ReadRow = ten_row ∷ other_rows ++ refused_rows ++ unfinished_rows in
    map (λ (r : ReadRow). reads r.input r.at) rows ≡ map (λ (r : ReadRow). r.gives) rows)
unfolding kind_of command_in read_at
inputs_hold = refl

-- What every write answers,
pub writes_hold : (let rows : List WriteRow = accepted_rows ++ refused_writes in
    map (λ (r : WriteRow). write_call r.pod r.given r.at (length r.buffer)) rows ≡ map (λ (r : WriteRow). r.answer) rows)
unfolding well_formed P.kind_of write_verdict write_call
writes_hold = refl

-- and what it leaves in the buffer.
pub buffers_hold : (let rows : List WriteRow = accepted_rows ++ refused_writes in
    map (λ (r : WriteRow). write_buffer r.pod r.given r.at r.buffer) rows ≡ map (λ (r : WriteRow). r.after) rows)
unfolding well_formed P.kind_of write_verdict write_buffer lay
buffers_hold = refl
