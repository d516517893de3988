-- `pointer::tool_of` is the tool by how many contacts are live. Assumes nothing.
use native.Mathlib.Omega.{arith}
use mathlib.Core.Path.{sym}
use Rattle.pointer.proofs.Numbers.{tool_many}
use Rattle.pointer.proofs.tool_of.Goals as goal

pub returns-in_default : goal.returns-in_default
returns-in_default c =
    sym (tool_many c.args.live (λ e. omega arith) (λ e. omega arith) (λ e. omega arith) (λ e. omega arith) (λ e. omega arith))
