-- The promises of the lent pod leave no choice: each law is of the contract itself. Assumes nothing.
use mathlib.Core.Path.{sym, ◌∙◌}
use Rattle.model.specs.Unique.{OneAnswer, OneLeft}
use Rattle.lent_pod.proofs.pod_fresh.Reads as pod-fresh
use Rattle.lent_pod.proofs.pod_step.Reads as pod-step
use Rattle.lent_pod.proofs.command_write.Reads as command-write
use Rattle.lent_pod.proofs.command_read.Reads as command-read

pub pod-fresh_one : OneAnswer pod-fresh.Learnt
pod-fresh_one κs a r q s t e g = e.number ∙ sym g.number

-- Every byte of the state.
pub pod-fresh-state : OneLeft pod-fresh.Learnt (λ κs s. s.0.now)
pod-fresh-state κs a r q s t e g = e.state ∙ sym g.state

pub pod-step_one : OneAnswer pod-step.Learnt
pod-step_one κs a r q s t e g = e.number ∙ sym g.number

pub pod-step-state : OneLeft pod-step.Learnt (λ κs s. s.0.now)
pod-step-state κs a r q s t e g = e.state ∙ sym g.state

-- Every number of the answer.
pub pod-step-answer : OneLeft pod-step.Learnt (λ κs s. s.1.1.0.now)
pod-step-answer κs a r q s t e g = e.answer ∙ sym g.answer

pub command_write_one : OneAnswer command-write.Learnt
command_write_one κs a r q s t e g = e.number ∙ sym g.number

pub command_write_state : OneLeft command-write.Learnt (λ κs s. s.0.now)
command_write_state κs a r q s t e g = e.state ∙ sym g.state

-- Every byte of the buffer.
pub command_write_left : OneLeft command-write.Learnt (λ κs s. s.1.1.0.now)
command_write_left κs a r q s t e g = e.buffer ∙ sym g.buffer

pub command_write_answer : OneLeft command-write.Learnt (λ κs s. s.1.1.1.1.0.now)
command_write_answer κs a r q s t e g = e.answer ∙ sym g.answer

pub command-read_one : OneAnswer command-read.Learnt
command-read_one κs a r q s t e g = e.next ∙ sym g.next

pub command-read-answer : OneLeft command-read.Learnt (λ κs s. s.1.1.0.now)
command-read-answer κs a r q s t e g = e.answer ∙ sym g.answer
