-- `pointer::age` is the age by which a record's rank is counted. Assumes nothing.
use mathlib.Core.Path.{◌≡◌, sym, ap, ap₂, ◌∙◌}
use mathlib.Core.Bool.{true, false, cond}
use mir.Syntax.{w32}
use mir.ValLaws.{to_z-of_z}
use Rattle.model.specs.Numbers.{eq_z}
use Rattle.model.specs.Table.{live}
use Rattle.model.specs.Frame.{none, goes_on, begins}
use Rattle.pointer.specs.Marks.{age_by}
use Rattle.pointer.proofs.age.Goals.{After-lives, After-same}
use Rattle.pointer.proofs.age.Goals as goal

lives-is : (c : After-lives) → c.lives.result ≡ live c.args.is
lives-is c = c.lives.ensures ∙ ap live (to_z-of_z w32 c.args.is c.ranges.is)

same-is : (c : After-same) → c.same.result ≡ eq_z c.args.was c.args.is
same-is c =
    let s = c in
    c.same.ensures ∙ ap₂ eq_z (to_z-of_z w32 s.args.was s.ranges.was) (to_z-of_z w32 s.args.is s.ranges.is)

pub returns-then-not-lives : goal.returns-then-not-lives
returns-then-not-lives c =
    let s = c in
    let a = s.args in
    let no : live a.is ≡ false = sym (lives-is (goal.at.returns-then-not-lives c).After-lives) ∙ c.if-not-lives.true in
    sym (ap (λ b. age_by (cond b (cond (eq_z a.was a.is) goes_on begins) none) a.rank) no)

pub returns-then-same : goal.returns-then-same
returns-then-same c =
    let at = goal.at.returns-then-same c in
    let k = c in
    let m = k in
    let e = m in
    let a = e.args in
    let yes : live a.is ≡ true = sym (lives-is at.After-lives) ∙ e.if-not-lives.false in
    c.from.ensures ∙ sym (ap₂ (λ b d. age_by (cond b (cond d goes_on begins) none) a.rank) yes (sym (same-is at.After-same) ∙ k.if-same.true))

pub returns : goal.returns
returns c =
    let at = goal.at.returns c in
    let m = c in
    let e = m in
    let a = e.args in
    let yes : live a.is ≡ true = sym (lives-is at.After-lives) ∙ e.if-not-lives.false in
    sym (ap₂ (λ b d. age_by (cond b (cond d goes_on begins) none) a.rank) yes (sym (same-is at.After-same) ∙ c.if-same.false))
