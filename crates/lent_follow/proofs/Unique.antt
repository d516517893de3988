-- The promise of a run in place leaves no choice: each law is of the contract itself. With `both_same` of `Back`, the two tables fix every byte that it leaves. Assumes nothing.
use mathlib.Core.Path.{sym, ap, ◌∙◌}
use Rattle.model.specs.Unique.{OneAnswer, OneLeft}
use Rattle.follow.specs.declared.Ended.{Ended}
use Rattle.lent_follow.specs.declared.EndedIn.{EndedIn}
use Rattle.lent_follow.specs.InPlace.{shown_in, pending_in}
use Rattle.lent_follow.proofs.follow.Reads as follow

-- The answer is what an end has beside its tables.
abbrev rest : Ended → EndedIn
rest e = record { current = e.current; mode = e.mode; counts = e.counts }

pub follow_one : OneAnswer follow.Learnt
follow_one κs a r q s t e g = ap rest (e ∙ sym g)

pub follow-shown : OneLeft follow.Learnt (λ κs s. shown_in s.1.0.now)
follow-shown κs a r q s t e g = ap (λ (x : Ended). x.shown) (e ∙ sym g)

pub follow-pending : OneLeft follow.Learnt (λ κs s. pending_in s.1.0.now)
follow-pending κs a r q s t e g = ap (λ (x : Ended). x.pending) (e ∙ sym g)
