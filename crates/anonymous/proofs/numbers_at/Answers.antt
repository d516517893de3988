-- `anonymous::numbers_at` pairs the new contacts with the old ones and gives each record its own. Assumes nothing.
use borrow.Author.Rules.{rules}
use mathlib.Core.Path.{◌≡◌, sym, ap, ap₂, subst, ◌∙◌}
use mathlib.Core.List.{map}
use Prim.Native.Nat.{◌-◌}
use native.Mathlib.Omega.{arith}
use lib.ListN.{length, length-map}
use Rattle.model.specs.Panel.{records}
use Rattle.model.specs.Table.{id_of, live}
use Rattle.model.specs.Pairing.{points}
use Rattle.model.specs.Anonymous.{contact_point}
use Rattle.panel.specs.Seen.{slot_of, table_of}
use Rattle.panel.proofs.Tables.{unmapped}
use Rattle.pairing.specs.Cells.{Numbers}
use Rattle.anonymous.specs.Held.{OldsOf, contacts_in, Judged}
use Rattle.anonymous.proofs.Places.{paired_numbers, numbers_are}
use Rattle.anonymous.proofs.numbers_at.Goals.{After-plain-ny, Start}
use Rattle.anonymous.proofs.numbers_at.Goals as goal

olds : (p : After-plain-ny) → OldsOf p.args.t p.olds_of-o.result
olds p = p.olds_of-o.ensures

news : (p : After-plain-ny) → Judged p.args.p
news p = p.requires.1

news-are : (p : After-plain-ny) → points p.args.p.count 0 p.plain-nx.result p.plain-ny.result ≡ map contact_point (contacts_in p.args.p)
news-are p = ap₂ (λ x y. points p.args.p.count 0 x y) p.plain-nx.ensures p.plain-ny.ensures ∙ (news p).points

full : (s : Start) → length s.args.t ≡ records
full s = search (rules, unmapped)

pub place-requires : goal.place-requires
place-requires c =
    let at = goal.at.place-requires c in
    let u = c in
    let p = u in
    let t = p.args.t in
    let o = p.olds_of-o.result in (
      ap length (olds at.After-plain-ny).live ∙ length-map (table_of t) (λ s. live (id_of s)) ∙ length-map t slot_of ∙ full at.Start,
      search rules,
      subst (λ l. Numbers l) (sym u.pair_up-pairing.ensures)
          (paired_numbers p.args.p.count (records - o.count) p.plain-nx.result p.plain-ny.result (points o.count 0 o.x o.y) (news at.After-plain-ny).few),
      omega (arith, (news at.After-plain-ny).few),
    )

pub returns : goal.returns
returns c =
    let here = (goal.at.returns c).After-plain-ny in
    let u = c in
    let p = u in
    c.place.ensures
    ∙ numbers_are p.args.t p.args.p p.olds_of-o.result p.plain-nx.result p.plain-ny.result u.pair_up-pairing.result (olds here) (news here) (news-are here)
    u.pair_up-pairing.ensures
