-- The recorder's worked cases: the definitions give every row, by computing. Assumes nothing.
use mathlib.Core.Path.{◌≡◌, refl}
use mathlib.Core.List.{[], ◌∷◌, map}
use lib.ListN.{length, replicate}
use Rattle.model.specs.Calls.{accepted, value, ragged}
use Rattle.model.specs.Bench.{bytes1}
use Rattle.model.specs.Recorder.{read_block, block_of, recording, number_in, count_in, block_verdict, block_call, lay_verdict, lay_call}
use Rattle.model.specs.Recorded.{first, PieceCase, piece_cases, LayCase, lay_cases}

pieces_hold : map (λ (c : PieceCase). read_block c.number c.piece) piece_cases ≡ map (λ (c : PieceCase). c.gives) piece_cases
unfolding read_block
pieces_hold = refl

lays_hold : map (λ (c : LayCase). lay_call c.number (replicate c.bytes 0) c.at c.size) lay_cases ≡ map (λ (c : LayCase). c.gives) lay_cases
unfolding lay_call lay_verdict
lays_hold = refl

-- P1's events make the block that is read above.
first_made : block_call 1 bytes1 ≡ record { verdict = accepted; block = first }
unfolding block_call block_verdict block_of
first_made = refl

-- 63 events are two blocks: number and count of each.
two_blocks : map (λ b. number_in b ∷ count_in b ∷ length b ∷ []) (recording 7 (replicate 504 0)) ≡ (7 ∷ 62 ∷ 512 ∷ []) ∷ (8 ∷ 1 ∷ 512 ∷ []) ∷ []
unfolding block_of
two_blocks = refl

-- No event, 63 of them, and number 0, are refused with 4, and 7 bytes with 6; the block is then zeros.
none_made : block_call 1 [] ≡ record { verdict = value; block = replicate 512 0 }
unfolding block_call block_verdict
none_made = refl

too_many : block_call 1 (replicate 504 0) ≡ record { verdict = value; block = replicate 512 0 }
unfolding block_call block_verdict
too_many = refl

no_number : block_call 0 bytes1 ≡ record { verdict = value; block = replicate 512 0 }
unfolding block_call block_verdict
no_number = refl

cut_record : block_call 1 (replicate 7 0) ≡ record { verdict = ragged; block = replicate 512 0 }
unfolding block_call block_verdict
cut_record = refl
