-- The calls of a shift as the model's calls: the writer that they leave and the bytes that they wrote are the model's. Cited by Cranes, Pointer and
-- PointerTold. Assumes nothing.
use mathlib.Core.Path.{◌≡◌, refl, sym, ap, ap₂, ◌∙◌}
use mathlib.Core.Bool.{Bool}
use mathlib.Core.List.{List, [], ◌∷◌, ◌++◌}
use Prim.Native.Nat.{ℕ, ◌*◌}
use lib.Dec.{T}
use lib.ListN.{take, drop}
use Rattle.model.specs.Panel.{base, setup_good}
use Rattle.model.specs.Calls as C
use Rattle.model.specs.Shift.{FrameCall}
use Rattle.model.specs.Pointing.{FreshPointer, fresh_pointer_call}
use Rattle.model.specs.PointerShift.{pointer_wrote, pointer_wrote_all, pointer_written_all}
use Rattle.model.proofs.Bools.{is_true}
use Rattle.model.proofs.Calls.{passed}
use Rattle.model.proofs.PointerCalls.{pointer_made}
use Rattle.common.specs.declared.Verdict.TheVariants.{Accepted}
use Rattle.panel.specs.declared.Setup.{Setup}
use Rattle.panel.specs.Seen.{setup_of}
use Rattle.writer.specs.declared.WriterState.{WriterState}
use Rattle.writer.specs.declared.FreshWriter.{FreshWriter}
use Rattle.writer.specs.declared.Written.{Written}
use Rattle.writer.specs.Seen as W
use Rattle.writer.proofs.Demands.{answer-seen}
use Rattle.link.specs.Promises.{WriterMade, Wrote}
use Rattle.link.specs.Shift.{WriteCall, AllWrote, writer_after, bytes_from}
use Rattle.link.proofs.Steady.{was_accepted}

-- What was handed in.
abbrev pub handed : WriteCall → FrameCall
handed c = record { frame = c.frame; at = c.at; buffer = c.buffer }

abbrev pub all_handed : List WriteCall → List FrameCall
all_handed [] = []
all_handed (c ∷ cs) = handed c ∷ all_handed cs

module _ (s : WriterState) (c : WriteCall) (w : Wrote s c.frame c.at c.buffer c.answer c.after) where
  pub state-is : W.seen c.answer.state ≡ pointer_wrote base (W.seen s) (handed c)
  state-is = ap (λ (x : Written). W.seen x.state) w.0 ∙ answer-seen s c.frame c.buffer c.at

-- The writer after the calls.
pub writer-is : (s : WriterState) (cs : List WriteCall) → AllWrote s cs → W.seen (writer_after s cs) ≡ pointer_wrote_all base (W.seen s) (all_handed cs)
unfolding state-is
writer-is s [] h = refl
writer-is s (c ∷ cs) h = writer-is c.answer.state cs h.1 ∙ ap (λ x. pointer_wrote_all base x (all_handed cs)) (state-is s c h.0)

-- The bytes that they wrote.
pub bytes_are : (s : WriterState) (cs : List WriteCall) → AllWrote s cs → bytes_from cs ≡ pointer_written_all base (W.seen s) (all_handed cs)
unfolding state-is
bytes_are s [] h = refl
bytes_are s (c ∷ cs) h =
    let w = h.0 in
    ap₂ {C = List ℕ} (λ a b. a ++ b)
    (ap₂ (λ (n : ℕ) (b : List ℕ). take (8 * n) (drop c.at b)) (ap (λ (x : Written). x.count) w.0) w.1)
    (bytes_are c.answer.state cs h.1 ∙ ap (λ x. pointer_written_all base x (all_handed cs)) (state-is s c w))

-- ---- from a fresh writer that is not refused

module _ (u : Setup) (on : Bool) (r : FreshWriter) (m : WriterMade u on r) (v : r.verdict ≡ Accepted) where
  -- Its setup is good.
  pub fresh-setup : T (setup_good base (setup_of u))
  unfolding fresh_pointer_call
  fresh-setup =
      let took = was_accepted (fresh_pointer_call base on (setup_of u)).verdict r.verdict (ap (λ (x : FreshWriter). x.verdict) m) v in
      (passed (setup_good base (setup_of u)) C.setup C.accepted tt took).0

  -- It is the model's.
  pub fresh-is : W.seen r.state ≡ (fresh_pointer_call base on (setup_of u)).state
  fresh-is =
      let made = pointer_made base on (setup_of u) (is_true _ fresh-setup) in
      ap (λ (x : FreshWriter). W.seen x.state) m
      ∙ ap (λ (x : FreshPointer). W.seen (W.held x.state)) made
      ∙ sym (ap (λ (x : FreshPointer). x.state) made)
