-- `recorder::put_blocks` lays all blocks: before block k, what is left to lay over the buffer is what was left at the start. Assumes nothing.
use mathlib.Core.Path.{◌≡◌, refl, sym, ap, ◌∙◌}
use mathlib.Core.List.{List, ◌++◌}
use Prim.Native.Nat.{ℕ, ◌+◌, ◌-◌, ◌*◌, ◌≤◌, ◌<◌, min}
use native.Mathlib.Omega.{arith}
use lib.ListN.{length, take, drop, length-take}
use borrow.Rule.Slice.PartMut.{put_mid}
use Rattle.model.specs.Records.{lay}
use Rattle.model.specs.Recorder.{block_length, full_run, block_of, joined, blocks_from}
use Rattle.model.proofs.Blocks.{block-length}
use Rattle.records.specs.Seen.{over}
use Rattle.records.proofs.Over.{lay_nil, turn-length, turn-lay}
use Rattle.recorder.proofs.Left.{left, left_all, left-none, left-length, left-next, run_is}
use Rattle.recorder.proofs.put_blocks.Goals as goal

-- Block k is laid at its place into a buffer with room for it and for those after it.
module _ (number : ℕ) (es : List ℕ) (blocks at k : ℕ) (buf : List ℕ) (h : k < blocks) (room : at + block_length * blocks ≤ length buf) where
  abbrev to : ℕ
  to = at + block_length * k

  abbrev block : List ℕ
  block = block_of (number + k) (take full_run (drop (full_run * k) es))

  abbrev rest : List ℕ
  rest = left number es blocks (k + 1)

  next : left number es blocks k ≡ block ++ rest
  next = left-next number es blocks k h

  long : length block ≡ block_length
  long =
      let run = drop (full_run * k) es in
      block-length (number + k) (take full_run run) (omega (arith, length-take full_run run))

  fits : to + length (block ++ rest) ≤ length buf
  fits = omega (arith, ap length next, left-length number es blocks k)

  made : (end : ℕ) (b : List ℕ) → end ≡ full_run * k + min full_run (length es - full_run * k)
      → b ≡ block_of (number + k) (take (end - full_run * k) (drop (full_run * k) es)) → b ≡ block
  made end b e q = q ∙ ap (block_of (number + k)) (run_is es (full_run * k) end e)

  module _ (P : List ℕ) (e : P ≡ over block (take (length buf - to) (drop to buf))) where
    size : length (put_mid to (length buf - to) buf P) ≡ length buf
    size = turn-length to (length block) block rest buf P refl fits e

    bytes : lay to (left number es blocks k) buf ≡ lay (at + block_length * (k + 1)) rest (put_mid to (length buf - to) buf P)
    bytes =
        let z : to + block_length ≡ at + block_length * (k + 1) = omega arith in
        ap (λ bs. lay to bs buf) next
        ∙ turn-lay to block_length block rest buf P (sym long) fits e
        ∙ ap (λ p. lay p rest (put_mid to (length buf - to) buf P)) z

pub loop-k-init : goal.loop-k-init
loop-k-init c =
    let a = c.args in
    let z : a.at + block_length * 0 ≡ a.at = omega arith in
    record { size = refl; bytes = ap (λ p. lay p (left a.number a.events.now a.blocks 0) a.buf.now) (sym z) }

pub loop-k-preserved : goal.loop-k-preserved
loop-k-preserved c =
    let a = c.args in
    let l = c.loop-k in
    let r : a.at + block_length * a.blocks ≤ length l.buf = omega (arith, l.invariant.size, c.requires.room) in
    let b = made a.number a.events.now a.blocks a.at l.k l.buf (omega arith) r c.run_end-end.result c.build-b.result c.run_end-end.ensures c.build-b.ensures in
    let to = a.at + block_length * l.k in
    let e = c.copy.ensures ∙ ap (λ b. over b (take (length l.buf - to) (drop to l.buf))) b in
    record {
      size = size a.number a.events.now a.blocks a.at l.k l.buf (omega arith) r c.copy.new.b e ∙ l.invariant.size;
      bytes = l.invariant.bytes ∙ bytes a.number a.events.now a.blocks a.at l.k l.buf (omega arith) r c.copy.new.b e;
    }

pub returns : goal.returns
returns c =
    let l = c.loop-k in
    let a = c.args in
    let e : l.k ≡ a.blocks = omega arith in
    let none = ap (left a.number a.events.now a.blocks) e ∙ left-none a.number a.events.now a.blocks in
    let whole = left_all a.number a.events.now a.blocks ∙ ap (λ m. joined (blocks_from m a.number a.events.now)) c.requires.count in
    let to = a.at + block_length * l.k in
    sym (ap (λ bs. lay a.at bs a.buf.now) (sym whole) ∙ l.invariant.bytes ∙ ap (λ bs. lay to bs l.buf) none ∙ lay_nil to l.buf)
