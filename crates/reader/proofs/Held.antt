-- What is seen of a reader's state and held again is the state, whatever it holds; and what is held of a good one is seen again. Cited by the proofs of the calls and by Promises. Assumes nothing.
use mathlib.Core.Path.{◌≡◌}
use lib.Dec.{T}
use Rattle.model.specs.Panel.{base}
use Rattle.model.specs.Reader as R
use Rattle.model.specs.States.{reader_good}
use Rattle.model.proofs.Tables.{good-records}
use Rattle.model.proofs.Calls.{reader-state}
use Rattle.panel.specs.Seen.{setup_of, panel_seen}
use Rattle.panel.specs.declared.Setup.{Setup}
use Rattle.panel.proofs.Back.{table_back, table-seen}
use Rattle.reader.specs.declared.ReaderState.{ReaderState}
use Rattle.common.proofs.Back.{mode_back, mode-seen}
use Rattle.reader.specs.States.{seen, held}

pub state_back : (s : ReaderState) → held (seen s) ≡ s
state_back s = rw (table_back s.shown, table_back s.pending, mode_back s.mode)

-- ---- held and seen again

pub good-seen : (u : Setup) (r : R.Reader) → T (reader_good base (record { setup = setup_of u; reader = r })) → seen (held (record { setup = setup_of u; reader = r })) ≡ record { setup = setup_of u; reader = r }
good-seen u r g =
    let p = panel_seen u in
    let facts = reader-state base (record { setup = setup_of u; reader = r }) g in
    let shown = table-seen u u.n r.shown (good-records p r.shown facts.reader.shows) in
    let pending = table-seen u u.n r.pending (good-records p r.pending facts.reader.pends) in
    λ i. record { setup = setup_of u; reader = record { shown = shown i; pending = pending i; current = r.current; mode = mode-seen r.mode i } }
