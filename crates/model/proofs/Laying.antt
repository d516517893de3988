-- The recorder's calls that write: each refusal exactly when its test fails and the earlier ones pass, and what a refusal leaves. Cited by the
-- crate recorder. Assumes nothing.
use mathlib.Core.Path.{◌≡◌, refl, ap, ◌∙◌}
use mathlib.Core.List.{List}
use Prim.Native.Nat.{ℕ}
use Rattle.model.proofs.Exact.{exact, chain, carries}
use Rattle.model.specs.Calls as C
use Rattle.model.specs.Calls.{verdict_number, room_for}
use Rattle.model.specs.Refusals.{Exact}
use Rattle.model.specs.Recorder.{block_good, whole_records, block_verdict, block_call, numbers_good, lay_need, Laid, lay_verdict, lay_call, block_rows, lay_rows}

-- VALUE, then RAGGED.
pub block_exact : (n : ℕ) (es : List ℕ) → Exact (verdict_number (block_call n es).verdict) (block_rows n es)
unfolding block_call block_verdict
block_exact n es = exact (block_rows n es) _ tt (chain (block_good n es) C.value _ _ (chain (whole_records es) C.ragged C.accepted 0 refl))

module _ (n : ℕ) (es : List ℕ) (at size : ℕ) where
  lay_has : (lay_call n es at size).verdict ≡ lay_verdict n es at size
  unfolding lay_call
  lay_has = carries (λ (a : Laid). a.verdict) (lay_verdict n es at size) _ _ refl refl

  -- VALUE, NO ROOM and RAGGED, in this order.
  pub lay_exact : Exact (verdict_number (lay_call n es at size).verdict) (lay_rows n es at size)
  unfolding lay_verdict
  lay_exact =
      exact (lay_rows n es at size) _ tt
      (ap verdict_number lay_has
      ∙ chain (numbers_good n es) C.value _ _ (chain (room_for (lay_need es) at size) C.no_room _ _ (chain (whole_records es) C.ragged C.accepted 0 refl)))
