-- What the loop of a run in place keeps: what `follow`'s loop keeps, of the tables that the bytes hold. Cited by the proof of `follow`. Assumes nothing.
use mathlib.Core.Path.{◌≡◌, sym, subst}
use mathlib.Core.Bool.{Bool}
use mathlib.Core.List.{List}
use Prim.Native.Nat.{ℕ}
use lib.ListN.{length}
use Rattle.model.specs.Reader as R
use Rattle.panel.specs.declared.Setup.{Setup}
use Rattle.panel.specs.declared.Slot.{Slot}
use Rattle.follow.specs.declared.SoFar.{SoFar}
use Rattle.follow.proofs.Kept.{Kept}
use Rattle.lent_follow.specs.InPlace.{both_size, shown_in, pending_in, Holds}

pub record Runs
    (setup : Setup)
    (bytes : List ℕ)
    (start : R.Reader)
    (t : List ℕ)
    (written : Bool)
    (current : ℕ)
    (so : SoFar)
    (from opened k : ℕ)
    : Type 0 where
  pub size : length t ≡ both_size
  pub kept : Kept setup bytes start (shown_in t) (pending_in t) written current so from opened k

-- A turn that leaves bytes which hold these tables.
pub goes_on : {u : Setup} {bytes : List ℕ} {start : R.Reader} {s p : List Slot} {w : Bool} {c : ℕ} {so : SoFar} {f o k : ℕ} (t : List ℕ)
    → length t ≡ both_size → Holds s p t → Kept u bytes start s p w c so f o k → Runs u bytes start t w c so f o k
goes_on {u} {bytes} {start} {s} {p} {w} {c} {so} {f} {o} {k} t size h kept = record {
  size = size;
  kept =
      subst (λ x. Kept u bytes start x (pending_in t) w c so f o k) (sym h.shown)
      (subst (λ x. Kept u bytes start s x w c so f o k) (sym h.pending) kept);
}
