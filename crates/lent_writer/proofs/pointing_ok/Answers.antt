-- `lent_writer::pointing_ok` tells whether ranks and told numbers are well formed, by the option. Assumes nothing.
use mathlib.Core.Path.{◌≡◌, sym, ap, ap₂, subst, ◌∙◌}
use mathlib.Core.Bool.{true}
use native.Mathlib.Omega.{arith}
use lib.ListN.{length, drop, length-drop}
use lib.Seq.{length-take-le}
use borrow.Author.Tests.{eq-eqb}
use Rattle.model.specs.Panel.{records}
use Rattle.model.specs.Pointing.{good_pointing}
use Rattle.panel.specs.Seen.{table_of, panel_seen}
use Rattle.pointer.specs.Seen.{pointing_of}
use Rattle.pointer.specs.Moved.{Unused}
use Rattle.lent_writer.specs.Layout.{option_at, ranks_at}
use Rattle.lent_writer.specs.Seen.{byte_at, told_in, ranks_in, unpacked}
use Rattle.lent_writer.proofs.Outcomes.{table_is, part-size}
use Rattle.lent_writer.proofs.pointing_ok.Goals as goal

pub apt-requires : goal.apt-requires
apt-requires c =
    let bs = c.args.b.now in
    let ranked : length (ranks_in bs) ≡ records = length-take-le records (drop ranks_at bs) (omega (arith, length-drop ranks_at bs, c.requires.0)) in
    (subst (Unused c.args.setup.n) (sym (table_is bs c.requires.0)) c.requires.1, part-size bs c.requires.0, ranked)

pub returns-then-b-eq1 : goal.returns-then-b-eq1
returns-then-b-eq1 c =
    let bs = c.args.b.now in
    let u = panel_seen c.args.setup in
    c.apt.ensures ∙ ap₂ (λ l q. good_pointing true u (table_of l) (pointing_of (ranks_in bs) q)) (table_is bs c.requires.0) c.told_at.ensures
    ∙ sym (ap (λ v. good_pointing v u (table_of (unpacked bs).table) (pointing_of (ranks_in bs) (told_in bs))) (eq-eqb (byte_at bs option_at) 1 c.if-b-eq1.true))
