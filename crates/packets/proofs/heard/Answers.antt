-- `packets::heard`: one record more in the walk. Assumes nothing.
use Rattle.packets.proofs.heard.Goals as goal

pub returns-in-Skipped : goal.returns-in-Skipped
returns-in-Skipped c = rw c.in-Skipped.is

pub returns-in-X : goal.returns-in-X
returns-in-X c = rw c.in-X.is

pub returns-in-Y : goal.returns-in-Y
returns-in-Y c = rw c.in-Y.is

pub returns-in-Pressure : goal.returns-in-Pressure
returns-in-Pressure c = rw c.in-Pressure.is

pub returns-in-Close : goal.returns-in-Close
returns-in-Close c = rw c.in-Close.is c.closed.ensures

pub returns-in-Report : goal.returns-in-Report
returns-in-Report c = rw c.in-Report.is

pub returns-in-Loss : goal.returns-in-Loss
returns-in-Loss c = rw c.in-Loss.is
