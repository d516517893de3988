-- `write_anonymous::take_all` leaves no more than the longest frame, so the buffer always has room. Assumes nothing.
use Rattle.std.proofs.Common.{◌≡◌, ℕ, ◌+◌, ◌<◌, ◌≤◌, length, arith, rules}
use Rattle.stream.specs.Left.{left}
use Rattle.write_anonymous.specs.Room.{longest}
use Rattle.write_anonymous.proofs.take_all.Goals as goal

pub returns-clause-held : goal.returns-clause-held
returns-clause-held c =
    let less : left c.take_input.result < longest + 1 = c.take_input.ensures.fewer (longest + 1) (λ f o b n a g s. search rules) (omega arith) in
    omega (arith, less)

pub returns-clause-room : goal.returns-clause-room
returns-clause-room c =
    let less : left c.take_input.result < longest + 1 = c.take_input.ensures.fewer (longest + 1) (λ f o b n a g s. search rules) (omega arith) in
    let whole : length c.take_input.new.buf ≡ 65536 = search rules in
    omega (arith, less, whole)
