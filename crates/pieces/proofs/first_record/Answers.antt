-- `pieces::first_record`: the bytes held, laid over the start, and the piece's first bytes, laid behind them. Assumes nothing.
use mathlib.Core.Path.{◌≡◌, sym, ap, ◌∙◌}
use Prim.Native.Nat.{ℕ, ◌+◌, ◌-◌}
use native.Mathlib.Omega.{arith}
use lib.ListN.{length, take, replicate}
use lib.Seq.{paste, length-take-le}
use borrow.Author.Rules.{rules}
use Rattle.pieces.proofs.Laid.{two-laid}
use Rattle.pieces.proofs.first_record.Goals.{After-r-3-1, After-left-1}
use Rattle.pieces.proofs.first_record.Goals as goal

-- As many bytes are lent of either as are used.
held-length : (c : After-left-1) → (let a = c.args in length (take a.count a.left) ≡ a.count)
held-length c = length-take-le _ _ (search rules)

lacked-length : (c : After-r-3-1)
    → (let a = c.args in length (take (8 - a.count) a.piece.now) ≡ 8 - a.count)
lacked-length c = length-take-le _ _ (search rules)

pub slice_bounds-lay-end-2 : goal.slice_bounds-lay-end-2
slice_bounds-lay-end-2 c = sym (held-length (goal.at.slice_bounds-lay-end-2 c).After-left-1)

pub lay-requires : goal.lay-requires
lay-requires c = omega (arith, held-length (goal.at.lay-requires c).After-left-1)

pub slice_bounds-lay-length : goal.slice_bounds-lay-length
slice_bounds-lay-length c = sym (lacked-length (goal.at.slice_bounds-lay-length c).After-r-3-1)

pub lay-requires-2 : goal.lay-requires-2
lay-requires-2 c =
    let s : length c.lay.new.to ≡ 8 = search rules in
    omega (arith, lacked-length (goal.at.lay-requires-2 c).After-r-3-1)

pub returns : goal.returns
returns c =
    let a = c.args in
    let d = replicate {A = ℕ} 8 0 in
    let held = take a.count a.left in
    let lacked = take (8 - a.count) a.piece.now in
    let n = held-length (goal.at.returns c).After-left-1 in
    let whole : length held + length lacked ≡ length d = omega (arith, n, lacked-length (goal.at.returns c).After-r-3-1) in
    c.lay-2.ensures
    ∙ ap (λ x. paste x a.count lacked (length lacked)) c.lay.ensures
    ∙ ap (λ k. paste (paste d 0 held (length held)) k lacked (length lacked)) (sym n)
    ∙ two-laid d held lacked whole
