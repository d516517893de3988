-- `lent_table::rest_unused` tells whether the records from n up were never used. The loop has gathered those below i. Assumes nothing.
use borrow.Author.Rules.{rules}
use mathlib.Core.Path.{◌≡◌, refl, sym, ap, ap₂, ◌∙◌}
use mathlib.Core.Bool.{Bool, ◌&&◌}
use mathlib.Core.List.{List, [], ◌∷◌}
use Prim.Native.Nat.{ℕ, ◌+◌, ◌*◌, ◌<◌, ◌^◌}
use native.Mathlib.Omega.{arith}
use lib.Bits.{and_le_l}
use lib.Dec.{eqb}
use lib.ListN.{get_or, get_or-replicate}
use Rattle.model.specs.Panel.{records}
use Rattle.model.specs.Table.{eq_slot}
use Rattle.common.proofs.Signs.{and-true}
use Rattle.panel.specs.Seen.{slot_of, blank, unused, unused_all}
use Rattle.panel.proofs.Tables.{rest-none, same_turn, same_over}
use Rattle.lent.specs.Lent.{slot_size, slot_in, table_in}
use Rattle.lent_table.proofs.Gathered.{ones, none, idle, idle_more, ones_are}
use Rattle.lent_table.proofs.Read.{full, slot_is}
use Rattle.lent_table.proofs.rest_unused.Invariants.{rest_good}
use Rattle.lent_table.proofs.rest_unused.Goals.{After-word_at-minor}
use Rattle.lent_table.proofs.rest_unused.Goals as goal

abbrev id : After-word_at-minor → ℕ
id c = c.word_at-ids.result

abbrev others : After-word_at-minor → List ℕ
others c =
    c.word_at-x.result
    ∷ c.word_at-y.result
    ∷ c.word_at-pressure.result
    ∷ c.word_at-major.result
    ∷ c.word_at-minor.result
    ∷ []

id-fits : (c : After-word_at-minor) → id c < 2 ^ 32
id-fits c = search rules

-- It is unused where its numbers are an unused record's.
unused-by : (c : After-word_at-minor) → (let l = c in eq_slot (slot_of (slot_in l.args.t.now (slot_size * l.loop-i.i))) (slot_of unused) ≡ idle (id c) (others c))
unused-by c =
    rw (← c.word_at-ids.ensures, ← c.word_at-x.ensures, ← c.word_at-y.ensures, ← c.word_at-pressure.ensures, ← c.word_at-major.ensures, ← c.word_at-minor.ensures)
    (ap (λ b. b && none (others c)) (sym (ones_are (id c) (id-fits c))))

-- What it says of the rest.
rest-by : (c : After-word_at-minor) → (let l = c in let t = table_in l.args.t.now in rest_good t l.loop-i.i ≡ (idle (id c) (others c) && rest_good t (l.loop-i.i + 1)))
rest-by c =
    let l = c in
    let i = l.loop-i.i in
    let b = l.args.t.now in
    let t = table_in b in
    let below : i < records = search rules in
    let e : get_or unused_all i blank ≡ unused = get_or-replicate records i unused blank (search rules) in
    let test = ap₂ (λ x y. eq_slot (slot_of x) (slot_of y)) (sym (slot_is b i below)) e ∙ unused-by c in
    same_turn t unused_all i (omega (arith, full b, below)) (search rules) ∙ ap (λ x. x && rest_good t (i + 1)) test

-- ---- the needs

pub loop-i-preserved : goal.loop-i-preserved
loop-i-preserved c =
    let g = c.loop-i in
    let rest = rest_good (table_in c.args.t.now) (g.i + 1) in
    let were = g.x ∷ g.y ∷ g.pressure ∷ g.major ∷ g.minor ∷ [] in
    let more = idle_more g.ids were (id (goal.at.loop-i-preserved c).After-word_at-minor) (others (goal.at.loop-i-preserved c).After-word_at-minor) g.invariant.0 (id-fits (goal.at.loop-i-preserved c).After-word_at-minor) refl rest in
    (omega (arith, g.invariant.0, and_le_l g.ids (id (goal.at.loop-i-preserved c).After-word_at-minor)), g.invariant.1 ∙ ap (λ b. idle g.ids were && b) (rest-by (goal.at.loop-i-preserved c).After-word_at-minor) ∙ more)

pub returns : goal.returns
returns c =
    let b = c.args.t.now in
    let t = table_in b in
    let g = c.loop-i in
    let past = same_over t unused_all g.i (rest-none t g.i (omega (arith, full b, c.loop-i-test.false)) ∙ sym (rest-none unused_all g.i (search rules))) in
    let gathered = idle g.ids (g.x ∷ g.y ∷ g.pressure ∷ g.major ∷ g.minor ∷ []) in
    let all = g.invariant.1 ∙ ap (λ r. gathered && r) past ∙ and-true gathered in
    let up_to : Bool → Bool = λ m. eqb g.ids ones && (eqb g.x 0 && (eqb g.y 0 && (eqb g.pressure 0 && (eqb g.major 0 && m)))) in
    ap up_to (sym (and-true (eqb g.minor 0))) ∙ sym all
