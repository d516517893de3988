-- `crane_reader::load`: refusals 2, 7, 8, and the loaded state. Assumes nothing.
use mathlib.Core.Path.{◌≡◌, sym, ap, ◌∙◌}
use mathlib.Core.Bool.{true}
use Rattle.model.specs.Panel.{crane}
use Rattle.model.specs.States.{reader_good}
use Rattle.model.specs.Calls.{is_stale}
use Rattle.model.proofs.Answers.{load-bad-state, load-not_stale, load-bad-image, load-taken}
use Rattle.common.specs.declared.Verdict.TheVariants as W
use Rattle.common.specs.Seen.{mode_of}
use Rattle.common.proofs.Images.{image-length}
use Rattle.crane_panel.specs.Seen.{panel_seen}
use Rattle.crane_reader.specs.States.{seen}
use Rattle.crane_reader.specs.Seen.{loaded_from}
use Rattle.crane_reader.proofs.Held.{state_back}
use Rattle.crane_reader.proofs.States.{good-small}
use Rattle.crane_reader.proofs.load.Goals.{Else-not-is_stale, Else-not-state_ok}
use Rattle.crane_reader.proofs.load.Goals as goal

-- The state passed its test, and then the mode its own.
good : (c : Else-not-state_ok) → reader_good crane (seen c.args.state) ≡ true
good c = sym c.state_ok.ensures ∙ c.if-not-state_ok.false

stale : (c : Else-not-is_stale) → is_stale (mode_of c.args.state.mode) ≡ true
stale c = sym c.is_stale.ensures ∙ c.if-not-is_stale.false

pub returns-then-not-state_ok : goal.returns-then-not-state_ok
returns-then-not-state_ok c =
    let a = c.args in
    ap (λ s. record { verdict = W.State; state = s }) (sym (state_back a.state))
    ∙ sym (ap loaded_from (load-bad-state crane (seen a.state) a.image.now a.current.0 (sym c.state_ok.ensures ∙ c.if-not-state_ok.true)))

pub returns-then-not-is_stale : goal.returns-then-not-is_stale
returns-then-not-is_stale c =
    let p = c in
    let a = p.args in
    ap (λ s. record { verdict = W.NotStale; state = s }) (sym (state_back a.state))
    ∙ sym (ap loaded_from (load-not_stale crane (seen a.state) a.image.now a.current.0 (good (goal.at.returns-then-not-is_stale p).Else-not-state_ok) (sym c.is_stale.ensures ∙ c.if-not-is_stale.true)))

pub image_ok-requires : goal.image_ok-requires
image_ok-requires c =
    let p = c in
    (good-small p.args.state (good (goal.at.image_ok-requires p).Else-not-state_ok)).n

pub returns-then-not-image_ok : goal.returns-then-not-image_ok
returns-then-not-image_ok c =
    let q = c in
    let p = q in
    let a = p.args in
    ap (λ s. record { verdict = W.Image; state = s }) (sym (state_back a.state))
    ∙ sym (ap loaded_from (load-bad-image crane (seen a.state) a.image.now a.current.0 (good (goal.at.returns-then-not-image_ok p).Else-not-state_ok) (stale (goal.at.returns-then-not-image_ok q).Else-not-is_stale) (sym c.image_ok.ensures ∙ c.if-not-image_ok.true)))

pub load_accepted-requires : goal.load_accepted-requires
load_accepted-requires c =
    let p = c in
    let a = p.args in
    ((good-small a.state (good (goal.at.load_accepted-requires p).Else-not-state_ok)).n, image-length (panel_seen a.state.setup) a.image.now a.current.0 (sym c.image_ok.ensures ∙ c.if-not-image_ok.false))

pub returns : goal.returns
returns c =
    let q = c in
    let p = q in
    let a = p.args in
    c.load_accepted.ensures
    ∙ sym (ap loaded_from (load-taken crane (seen a.state) a.image.now a.current.0 (good (goal.at.returns p).Else-not-state_ok) (stale (goal.at.returns q).Else-not-is_stale) (sym c.image_ok.ensures ∙ c.if-not-image_ok.false)))
