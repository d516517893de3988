-- `lent_devices::lay_blocks`: the library's answer as numbers. Assumes nothing.
use Rattle.lent_devices.proofs.Made.{laid-is}
use Rattle.lent_devices.proofs.lay_blocks.Goals as goal

pub returns : goal.returns
returns c =
    let a = c.args in
    laid-is a.number a.events.now a.at a.buf.now c.lay_blocks-a.new.buf c.lay_blocks-a.result c.number_of.result c.lay_blocks-a.ensures c.number_of.ensures
