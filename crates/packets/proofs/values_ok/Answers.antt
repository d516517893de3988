-- `packets::values_ok`: whether a panel takes the contacts. The loop has judged i of them. Assumes nothing.
use borrow.Author.Rules.{rules}
use mathlib.Core.Path.{◌≡◌, sym, ◌∙◌}
use mathlib.Core.Bool.{◌&&◌}
use mathlib.Core.List.{List}
use Prim.Native.Nat.{ℕ, suc, ◌+◌, ◌-◌}
use native.Mathlib.Omega.{arith}
use lib.IntN.{ℤ, pos}
use lib.ListN.{get_or}
use mir.Syntax.{w32}
use mir.Val.{SFits}
use mir.ValLaws.{to_z-of_z}
use Rattle.model.specs.Packets.{contact_good, contacts_good}
use Rattle.common.proofs.Signs.{first-true, first-false}
use Rattle.panel.specs.Seen.{panel_seen}
use Rattle.packets.specs.Seen.{contact_at, contacts_from}
use Rattle.packets.proofs.Steps.{row_same}
use Rattle.packets.proofs.values_ok.Goals.{After-contact_ok}
use Rattle.packets.proofs.values_ok.Goals as goal

abbrev rest : After-contact_ok → ℕ → List (List ℤ)
rest t i = let a = t.args in contacts_from (a.count - i) i a.x a.y a.pressure

turn : (t : After-contact_ok) → let a = t.args in let i = t.loop-i.i in
    contacts_good (panel_seen a.setup) (rest t i)
    ≡ (contact_good (panel_seen a.setup) (contact_at i a.x a.y a.pressure) && contacts_good (panel_seen a.setup) (rest t (i + 1)))
turn t =
    let z : t.args.count - t.loop-i.i ≡ suc (t.args.count - (t.loop-i.i + 1)) = omega arith in
    rw z

judged : (t : After-contact_ok) → let a = t.args in
    t.contact_ok.result ≡ contact_good (panel_seen a.setup) (contact_at t.loop-i.i a.x a.y a.pressure)
judged t =
    let a = t.args in
    let i = t.loop-i.i in
    let fx : SFits w32 (get_or a.x i (pos 0)) = search rules in
    let fy : SFits w32 (get_or a.y i (pos 0)) = search rules in
    let fp : SFits w32 (get_or a.pressure i (pos 0)) = search rules in
    t.contact_ok.ensures ∙ row_same a.setup (to_z-of_z w32 _ fx) (to_z-of_z w32 _ fy) (to_z-of_z w32 _ fp)

-- ---- the needs

pub returns-then-not-contact_ok : goal.returns-then-not-contact_ok
returns-then-not-contact_ok c =
    let here = (goal.at.returns-then-not-contact_ok c).After-contact_ok in
    let t = c in
    sym (t.loop-i.invariant.1 ∙ turn here ∙ first-false _ _ (sym (judged here) ∙ c.if-not-contact_ok.true))

pub loop-i-preserved : goal.loop-i-preserved
loop-i-preserved c =
    let here = (goal.at.loop-i-preserved c).After-contact_ok in
    let t = c in
    (omega arith, t.loop-i.invariant.1 ∙ turn here ∙ first-true _ _ (sym (judged here) ∙ c.if-not-contact_ok.false))

pub returns : goal.returns
returns c =
    let a = c.args in
    let z : a.count - c.loop-i.i ≡ 0 = omega arith in
    sym (c.loop-i.invariant.1 ∙ rw z)
