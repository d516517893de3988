-- `replay::hear` reads what a piece says: its events, which lie inside it, or a loss. Assumes nothing.
use Rattle.std.proofs.Common.{◌≡◌, ◌*◌, ◌≤◌, length, ap, ◌∙◌, arith}
use Rattle.model.specs.Panel.{base}
use Rattle.model.specs.Calls.{run_call}
use Rattle.model.specs.Recorder.{header_length, most_in_block, block_length}
use Rattle.reader.specs.States.{seen, held}
use Rattle.replay.proofs.Laws.{inside, cut, lost, hears}
use Rattle.replay.proofs.hear.Goals.{In-Ok}
use Rattle.replay.proofs.hear.Goals as goal

-- The events lie inside the piece.
found : (c : In-Ok)
    → (c.in-Ok.run'.at ≡ header_length) × (c.in-Ok.run'.count ≤ most_in_block)
    × (length c.args.piece.now ≡ block_length)
found c = inside c.args.place c.args.piece.now _ _ c.judged.ensures c.in-Ok.is

pub overflow_mul-events : goal.overflow_mul-events
overflow_mul-events c = let k = found (goal.at.overflow_mul-events c).In-Ok in omega (arith, k.0, k.1)

pub overflow_add-events : goal.overflow_add-events
overflow_add-events c = let k = found (goal.at.overflow_add-events c).In-Ok in omega (arith, k.0, k.1)

pub slice_bounds-events-end : goal.slice_bounds-events-end
slice_bounds-events-end c = let k = found (goal.at.slice_bounds-events-end c).In-Ok in omega (arith, k.0, k.1, k.2)

pub returns-in-Ok : goal.returns-in-Ok
returns-in-Ok c =
    let a = c.args in
    let run = c.in-Ok.run' in
    hears a.state a.place a.piece.now _ _ _ _ c.judged.ensures c.in-Ok.is
    (c.followed.ensures.0 ∙ ap (λ bs. held (run_call base (seen a.state) bs).state) (cut run.at (8 * run.count) a.piece.now))
    c.followed.ensures.1

pub returns-in-Err : goal.returns-in-Err
returns-in-Err c =
    let a = c.args in
    hears a.state a.place a.piece.now _ _ _ _ c.judged.ensures c.in-Err.is
    (c.refused.ensures.0 ∙ ap (λ bs. held (run_call base (seen a.state) bs).state) (lost c.in-Err.why a.piece.now))
    c.refused.ensures.1
