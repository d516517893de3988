-- `lent_devices::read_block`: the library's answer as numbers. Assumes nothing.
use mathlib.Core.Path.{◌≡◌, ap, ◌∙◌}
use Rattle.model.specs.Recorder.{read_block, read_number}
use Rattle.recorder.specs.Seen.{read_seen}
use Rattle.recorder.proofs.Laws.{read-seen}
use Rattle.lent_devices.specs.Blocks.{read_told}
use Rattle.lent_devices.proofs.read_block.Goals as goal

pub returns : goal.returns
returns c =
    let q : read_seen c.read_block-a.result ≡ read_block c.args.number c.args.block.now =
    ap read_seen c.read_block-a.ensures.answer ∙ read-seen (read_block c.args.number c.args.block.now) in
    record { number = c.name_of.ensures ∙ ap read_number q; answer = c.read_told.ensures ∙ ap read_told q }
