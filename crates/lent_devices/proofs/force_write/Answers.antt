-- `lent_devices::force_write`: a refusal of numbers that no report holds, or the library's answer as numbers. Assumes nothing.
use mathlib.Core.Path.{sym, ◌∙◌}
use Rattle.lent_devices.proofs.Written.{untyped, written}
use Rattle.lent_devices.proofs.force_write.Goals as goal

pub returns-then-not-typed : goal.returns-then-not-typed
returns-then-not-typed c =
    let a = c.args in
    untyped a.report.now a.at a.buf.now c.number_of.result (sym c.typed.ensures ∙ c.if-not-typed.true) c.number_of.ensures

pub returns : goal.returns
returns c =
    let a = c.args in
    written a.report.now a.at a.buf.now c.write-a.new.buf c.report_of.result c.write-a.result c.number_of-2.result
    (sym c.typed.ensures ∙ c.if-not-typed.false)
    c.report_of.ensures
    c.write-a.ensures
    c.number_of-2.ensures
