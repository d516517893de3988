-- `packets::said_of`: what a record says, by its head. Assumes nothing.
use native.Mathlib.Omega.{arith}
use Rattle.packets.proofs.Heads.{skipped}
use Rattle.packets.proofs.said_of.Goals as goal

pub returns-in-3473411 : goal.returns-in-3473411
returns-in-3473411 c = λ v. rw c.in-3473411.is

pub returns-in-3538947 : goal.returns-in-3538947
returns-in-3538947 c = λ v. rw c.in-3538947.is

pub returns-in-3801091 : goal.returns-in-3801091
returns-in-3801091 c = λ v. rw c.in-3801091.is

pub returns-in-131072 : goal.returns-in-131072
returns-in-131072 c = λ v. rw c.in-131072.is

pub returns-in-0 : goal.returns-in-0
returns-in-0 c = λ v. rw c.in-0.is

pub returns-in-196608 : goal.returns-in-196608
returns-in-196608 c = λ v. rw c.in-196608.is

pub returns-in_default : goal.returns-in_default
returns-in_default c =
    λ v.
    skipped c.args.head v (record {
      loss = λ e. omega arith;
      report = λ e. omega arith;
      close = λ e. omega arith;
      pressure = λ e. omega arith;
      y = λ e. omega arith;
      x = λ e. omega arith;
    })
