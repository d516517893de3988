-- What a well-formed state gives, and a run of it by the mode that it finds. Cited by the proofs of the public functions. Assumes nothing.
use mathlib.Core.Path.{◌≡◌, refl, sym, ap, ap₂, ◌∙◌, subst}
use mathlib.Core.Bool.{true}
use mathlib.Core.List.{List}
use Prim.Native.Nat.{ℕ, ◌-◌, ◌*◌, ◌/◌, ◌<◌}
use native.Mathlib.Omega.{arith}
use lib.ListN.{length}
use Rattle.model.specs.Panel.{Panel, base, setup_good}
use Rattle.model.specs.Records.{events_from, events_of}
use Rattle.model.specs.Reader as R
use Rattle.model.specs.Reader.{Lost}
use Rattle.model.specs.States.{reader_good}
use Rattle.model.proofs.Bools.{is_true}
use Rattle.model.proofs.ReaderSteady.{lost_settled}
use Rattle.model.proofs.Calls.{reader-state}
use Rattle.panel.specs.Seen.{table_of, setup_of, panel_seen, unused_all, SameFrom}
use Rattle.panel.proofs.Setups.{holds, Small, small}
use Rattle.panel.proofs.Tables.{table-rest}
use Rattle.common.specs.declared.Mode.{Mode}
use Rattle.common.specs.declared.Mode.TheVariants.{Following}
use Rattle.reader.specs.declared.ReaderState.{ReaderState}
use Rattle.common.specs.Seen.{mode_of}
use Rattle.follow.specs.Seen.{reader_of}
use Rattle.follow.specs.declared.Ended.{Ended}
use Rattle.common.specs.Runs.{onward}
use Rattle.common.proofs.Runs.{onward-start}
use Rattle.follow.specs.Runs.{ended_from, lost_at}
use Rattle.follow.proofs.Ends.{lost_ended}
use Rattle.reader.specs.States.{seen, answered, accepted}

module _ (s : ReaderState) (g : reader_good base (seen s) ≡ true) where
  pub good-setup : setup_good base (setup_of s.setup) ≡ true
  good-setup = is_true _ (reader-state base (seen s) (holds _ g)).setup

  pub good-small : Small s.setup
  good-small = small s.setup (is_true _ (reader-state base (seen s) (holds _ g)).setup)

  pub good-current : s.current.0 < s.setup.n
  good-current = (reader-state base (seen s) (holds _ g)).reader.below

  pub good-rest : SameFrom s.setup.n s.pending unused_all
  good-rest = table-rest s.setup s.pending (reader-state base (seen s) (holds _ g)).reader.pends

  pub good-settled : Lost (mode_of s.mode) → table_of s.pending ≡ table_of s.shown
  good-settled = lost_settled (mode_of s.mode) (table_of s.shown) (table_of s.pending) (reader-state base (seen s) (holds _ g)).reader.settles

-- ---- a run, by the mode that it finds

module _ (s : ReaderState) (bs : List ℕ) where
  abbrev panel : Panel
  panel = panel_seen s.setup

  -- An answer that holds a run's end is the model's.
  pub ran-is : (e : Ended) (r : R.Run) → e ≡ ended_from r → accepted s.setup e ≡ answered s.setup r
  ran-is e r q = ap (accepted s.setup) q

  pub follow-run : s.mode ≡ Following
      → onward panel (reader_of s.shown s.pending s.current.0 R.following) R.nothing (events_of bs) ≡ R.run panel (seen s).reader (events_of bs)
  follow-run e =
      onward-start panel (reader_of s.shown s.pending s.current.0 R.following) (events_of bs)
      ∙ ap (λ m. R.run panel (reader_of s.shown s.pending s.current.0 (mode_of m)) (events_of bs)) (sym e)

  pub lost_run : (m : Mode) → reader_good base (seen s) ≡ true → s.mode ≡ m → Lost (mode_of m)
      → lost_at s.shown s.current (mode_of m) R.nothing (events_from (length bs / 8 - 0) bs (8 * 0)) ≡ ended_from (R.run panel (seen s).reader (events_of bs))
  lost_run m g e l =
      let z : length bs / 8 - 0 ≡ length bs / 8 = omega arith in
      let p : table_of s.pending ≡ table_of s.shown = good-settled s g (subst (λ q. Lost (mode_of q)) (sym e) l) in
      let whole = onward-start panel (R.settled_at (table_of s.shown) s.current.0 (mode_of m)) (events_of bs) in
      let state = ap₂ (λ t q. R.run panel (record { shown = table_of s.shown; pending = t; current = s.current.0; mode = mode_of q }) (events_of bs)) (sym p) (sym e) in
      rw z (lost_ended panel s.shown s.current.0 (mode_of m) R.nothing (events_of bs) l refl ∙ ap ended_from (whole ∙ state))
