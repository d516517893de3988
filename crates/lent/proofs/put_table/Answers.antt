-- `lent::put_table`: as many slots are stored as were passed. Assumes nothing.
use mathlib.Core.Path.{◌≡◌, ap, ◌∙◌}
use Prim.Native.Nat.{◌+◌, ◌*◌}
use native.Mathlib.Numerals.{add-one}
use native.Mathlib.Omega.{arith}
use lib.ListN.{length, get_or}
use borrow.Author.Rules.{rules}
use Rattle.model.specs.Panel.{records}
use Rattle.model.specs.Records.{lay}
use Rattle.panel.specs.Seen.{blank}
use Rattle.lent.specs.Lent.{slot_size, slot_bytes}
use Rattle.lent.proofs.Tables.{front_none, front_more}
use Rattle.lent.proofs.put_table.Goals.{At-loop-i}
use Rattle.lent.proofs.put_table.Goals as goal

pub loop-i-init : goal.loop-i-init
loop-i-init c = (omega arith, front_none c.args.t c.args.at c.args.b.now)

pub loop-i-preserved : goal.loop-i-preserved
loop-i-preserved c =
    let a = c.args in
    let l = c.loop-i in
    let full : length a.t ≡ records = search rules in (
      omega arith,
      rw add-one (
          c.put_slot.ensures
          ∙ ap (lay (a.at + slot_size * l.i) (slot_bytes (get_or a.t l.i blank))) l.invariant.1
          ∙ front_more l.i a.t a.at a.b.now (omega arith) (omega arith)
          ),
    )
