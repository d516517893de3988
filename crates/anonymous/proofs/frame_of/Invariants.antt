-- `anonymous::frame_of` makes a frame of the contacts' numbers. The loop has made s rows. Assumes nothing.
use Rattle.packets.specs.Seen.{most, contacts_from}
use Rattle.anonymous.proofs.Frames.{Framed}
use Rattle.anonymous.proofs.frame_of.Given as goal

abbrev pub invariant-loop-s : goal.invariant-loop-s
invariant-loop-s l = Framed (contacts_from most 0 l.p.x l.p.y l.p.pressure) l.numbers l.f l.n l.s
