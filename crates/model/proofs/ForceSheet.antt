-- The force stick's sheet: the definitions give every row, by computing. Brought in by the first law on packets, so that a wrong definition
-- fails here. Assumes nothing.
use mathlib.Core.Path.{◌≡◌, refl}
use mathlib.Core.List.{List, map, ◌++◌}
use Rattle.model.specs.Records.{lay}
use Rattle.model.specs.Force.{check_of, signed_in, bits_in, data_of, packet_of, packet_in, read_at, reads, write_verdict, write_call, write_buffer}
use Rattle.model.specs.ForceSheet.{ReadRow, report_rows, other_rows, refused_rows, unfinished_rows, WriteRow, write_rows}
use lib.ListN.{length}

-- What is read of every input.
pub inputs_hold : (let rows : List ReadRow = report_rows ++ other_rows ++ refused_rows ++ unfinished_rows in
    map (λ (r : ReadRow). reads r.input r.at) rows ≡ map (λ (r : ReadRow). r.gives) rows)
unfolding check_of signed_in bits_in packet_in read_at
inputs_hold = refl

-- What every write answers,
pub writes_hold : map (λ (r : WriteRow). write_call r.given r.at (length r.buffer)) write_rows ≡ map (λ (r : WriteRow). r.answer) write_rows
unfolding write_verdict write_call
writes_hold = refl

-- and what it leaves in the buffer.
pub buffers_hold : map (λ (r : WriteRow). write_buffer r.given r.at r.buffer) write_rows ≡ map (λ (r : WriteRow). r.after) write_rows
unfolding check_of bits_in data_of packet_of write_verdict write_buffer lay
buffers_hold = refl
