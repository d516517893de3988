-- What the calls that write answer, by their tests. Cited by the proofs of `make_block` and `lay_blocks`. Assumes nothing.
use mathlib.Core.Path.{◌≡◌, ap, ◌∙◌}
use mathlib.Core.Bool.{true, false, ◌&&◌, and-false}
use mathlib.Core.List.{List}
use Prim.Native.Nat.{ℕ, ◌+◌, ◌-◌, ◌≤◌, ◌<◌}
use lib.Dec.{leb}
use lib.ListN.{length}
use borrow.Author.Tests.{le-leb, lt-leb}
use Rattle.model.specs.Numbers.{between}
use Rattle.model.specs.Records.{lay}
use Rattle.model.specs.Calls.{room_for}
use Rattle.model.specs.Recorder.{full_run, number_limit, block_of, blocks_for, recording, joined, whole_records, block_verdict, block_call}
use Rattle.model.specs.Recorder.{numbers_good, lay_need, have_laid, lay_verdict, lay_call, lay_buffer}
use Rattle.common.specs.declared.Verdict.TheVariants.{Accepted, Value, NoRoom, Ragged}
use Rattle.recorder.specs.declared.BlockMade.{BlockMade}
use Rattle.recorder.specs.Seen.{made_from, not_made, laid_from, not_laid, LaysAs}

-- ---- one block

module _ (n : ℕ) (es : List ℕ) where
  pub made_unnumbered : between 1 (number_limit - 1) n ≡ false → not_made Value ≡ made_from (block_call n es)
  unfolding block_call block_verdict
  made_unnumbered e = rw e

  pub made_unsized : between 1 (number_limit - 1) n ≡ true → between 1 full_run (length es) ≡ false → not_made Value ≡ made_from (block_call n es)
  unfolding block_call block_verdict
  made_unsized e f = rw (e, f)

  module _ (numbered : between 1 (number_limit - 1) n ≡ true) (sized : between 1 full_run (length es) ≡ true) where
    pub made_ragged : whole_records es ≡ false → not_made Ragged ≡ made_from (block_call n es)
    unfolding block_call block_verdict
    made_ragged e = rw (numbered, sized, e)

    pub made : whole_records es ≡ true → ◌≡◌ {A = BlockMade} (record { verdict = Accepted; block = block_of n es }) (made_from (block_call n es))
    unfolding block_call block_verdict
    made e = rw (numbered, sized, e)

-- ---- a recording's next blocks

module _ (n : ℕ) (es : List ℕ) (at : ℕ) (buf : List ℕ) where
  pub lay-value : numbers_good n es ≡ false → LaysAs n es at buf buf (not_laid Value n 0)
  unfolding lay_call lay_buffer lay_verdict
  lay-value e = record { answer = rw e; buffer = rw e }

  module _ (numbered : numbers_good n es ≡ true) where
    pub lay_no_room : room_for (lay_need es) at (length buf) ≡ false → LaysAs n es at buf buf (not_laid NoRoom n (lay_need es))
    unfolding lay_call lay_buffer lay_verdict
    lay_no_room e = record { answer = rw (numbered, e); buffer = rw (numbered, e) }

    module _ (room : room_for (lay_need es) at (length buf) ≡ true) where
      pub lay_ragged : whole_records es ≡ false → LaysAs n es at buf buf (not_laid Ragged n 0)
      unfolding lay_call lay_buffer lay_verdict
      lay_ragged e = record { answer = rw (numbered, room, e); buffer = rw (numbered, room, e) }

      pub lay_done : whole_records es ≡ true → LaysAs n es at buf (lay at (joined (recording n es)) buf) (laid_from (have_laid n (blocks_for (length es))))
      unfolding lay_call lay_buffer lay_verdict
      lay_done e = record { answer = rw (numbered, room, e); buffer = rw (numbered, room, e) }

-- Number and blocks by themselves.
pub unnumbered : (n : ℕ) (es : List ℕ) → between 1 (number_limit - 1) n ≡ false → numbers_good n es ≡ false
unnumbered n es e = ap (λ t. t && leb (n + blocks_for (length es)) number_limit) e

pub past : (n : ℕ) (es : List ℕ) → number_limit < n + blocks_for (length es) → numbers_good n es ≡ false
past n es h =
    ap (λ t. between 1 (number_limit - 1) n && t) (lt-leb (n + blocks_for (length es)) number_limit h) ∙ and-false (between 1 (number_limit - 1) n)

pub numbers : (n : ℕ) (es : List ℕ) → between 1 (number_limit - 1) n ≡ true → n + blocks_for (length es) ≤ number_limit → numbers_good n es ≡ true
numbers n es e h = rw e (le-leb (n + blocks_for (length es)) number_limit h)

-- The position and the room behind it.
pub past_end : (need at size : ℕ) → size < at → room_for need at size ≡ false
past_end need at size h = ap (λ t. t && leb need (size - at)) (lt-leb at size h)

pub too_short : (need at size : ℕ) → at ≤ size → size - at < need → room_for need at size ≡ false
too_short need at size h k = rw (le-leb at size h) (lt-leb need (size - at) k)

pub room-is : (need at size : ℕ) → at ≤ size → need ≤ size - at → room_for need at size ≡ true
room-is need at size h k = rw (le-leb at size h) (le-leb need (size - at) k)
