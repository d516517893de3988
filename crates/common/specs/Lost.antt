-- The mode of a reader that lost track: all else of its state stays until a load. The contract of `last_mode`. Assumes nothing.
use Rattle.std.specs.Prelude.{cond, List, [], ◌∷◌, eqb}
use Rattle.model.specs.Events.{Event, Act, skip, bad, report, loss, slot, number, of_type, syn_act}
use Rattle.model.specs.Reader.{Mode, following, dropped, stale}

-- What an event asks, as far as a reader that lost track hears it: type 0 alone.
abbrev pub heard : Event → Act
heard e = cond (eqb e.type 0) (syn_act e.code) (skip of_type e.type e.code)

-- The mode after an act that finds it lost.
abbrev pub on_lost : Mode → Act → Mode
on_lost following a = following
on_lost dropped (skip w t c) = dropped
on_lost dropped bad = dropped
on_lost dropped report = stale
on_lost dropped loss = dropped
on_lost dropped (slot k) = dropped
on_lost dropped (number i v) = dropped
on_lost stale (skip w t c) = stale
on_lost stale bad = stale
on_lost stale report = stale
on_lost stale loss = dropped
on_lost stale (slot k) = stale
on_lost stale (number i v) = stale

-- The mode after events that find it lost.
unfoldable pub last_mode : Mode → List Event → Mode
last_mode m [] = m
last_mode m (e ∷ es) = last_mode (on_lost m (heard e)) es
