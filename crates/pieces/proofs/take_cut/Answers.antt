-- `pieces::take_cut`: two runs, over the record that was cut and over the others, are one run over the bytes held and the piece. Assumes nothing.
use mathlib.Core.Path.{◌≡◌, ap, ap₂, ◌∙◌}
use mathlib.Core.Bool.{true}
use mathlib.Core.List.{List, ◌++◌, append_assoc}
use Prim.Native.Nat.{ℕ, ◌-◌, ◌%◌, ◌<◌, ◌^◌}
use native.Mathlib.Omega.{arith}
use lib.ListN.{length, take, drop, length-drop, take-append-drop}
use lib.Seq.{take_all}
use borrow.Author.Rules.{rules}
use Rattle.model.specs.Panel.{base}
use Rattle.model.specs.States.{reader_good}
use Rattle.model.specs.Pieces.{read_string}
use Rattle.reader.specs.States.{seen}
use Rattle.pieces.specs.Seen.{taken_from}
use Rattle.pieces.proofs.Runs.{judged-good, judged-few, took_after}
use Rattle.pieces.proofs.take_cut.Goals.{After-run_accepted-one, Start}
use Rattle.pieces.proofs.take_cut.Goals as goal

piece-fits : (c : Start) → length c.args.piece.now < 2 ^ 64
piece-fits c = search rules

cut-length : (c : After-run_accepted-one) → length c.first_record-record.result ≡ 8
cut-length c = search rules

-- The bytes after it, as they are lent.
abbrev others : After-run_accepted-one → List ℕ
others c = let a = c.args in take (length a.piece.now - (8 - a.count)) (drop (8 - a.count) a.piece.now)

others-are : (c : After-run_accepted-one) → others c ≡ drop (8 - c.args.count) c.args.piece.now
others-are c =
    let a = c.args in
    let k = 8 - a.count in
    take_all (length a.piece.now - k) (drop k a.piece.now) (omega (arith, length-drop k a.piece.now))

-- After it the reader is well formed.
one-good : (c : After-run_accepted-one) → reader_good base (seen c.run_accepted-one.result.state) ≡ true
one-good c = judged-good c.args.reader c.first_record-record.result c.run_accepted-one.result c.requires.0 c.run_accepted-one.ensures

pub run_accepted-requires : goal.run_accepted-requires
run_accepted-requires c = one-good (goal.at.run_accepted-requires c).After-run_accepted-one

pub took-requires : goal.took-requires
took-requires c =
    let one = c in
    let a = one.args in
    let few = judged-few a.reader one.first_record-record.result one.run_accepted-one.result one.requires.0 one.run_accepted-one.ensures in
    let more = judged-few one.run_accepted-one.result.state (others (goal.at.took-requires one).After-run_accepted-one) c.run_accepted.result (one-good (goal.at.took-requires one).After-run_accepted-one) c.run_accepted.ensures in
    omega (arith, few, more, piece-fits (goal.at.took-requires one).Start, cut-length (goal.at.took-requires one).After-run_accepted-one, ap length (others-are (goal.at.took-requires one).After-run_accepted-one), length-drop (8 - a.count) a.piece.now)

pub returns : goal.returns
returns c =
    let one = c in
    let a = one.args in
    let held = take a.count a.left in
    let lacked = take (8 - a.count) a.piece.now in
    let rest = drop (8 - a.count) a.piece.now in
    let whole : one.first_record-record.result ++ others (goal.at.returns one).After-run_accepted-one ≡ held ++ a.piece.now =
    ap₂ {C = List ℕ} (λ x y. x ++ y) one.first_record-record.ensures (others-are (goal.at.returns one).After-run_accepted-one)
    ∙ append_assoc held lacked rest
    ∙ ap (λ r. held ++ r) (take-append-drop (8 - a.count) a.piece.now) in
    let eight : length one.first_record-record.result % 8 ≡ 0 = omega (arith, cut-length (goal.at.returns one).After-run_accepted-one) in
    c.took.ensures
    ∙ took_after a.reader one.first_record-record.result (others (goal.at.returns one).After-run_accepted-one) one.run_accepted-one.result c.run_accepted.result one.requires.0 eight
    one.run_accepted-one.ensures
    c.run_accepted.ensures
    ∙ ap (λ bs. taken_from (read_string base (seen a.reader) bs)) whole
