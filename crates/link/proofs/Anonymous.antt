-- K12 of the code, from the promise of `anonymous::write` alone: refusals exactly in document 02's order; a refusal leaves all; an accepted frame is one that `write` took, so demands 2 and 3 hold of what is sent; the pairing is the best, and who is where follows from it. Cited by docs/PROMISES.md. Assumes nothing.
use mathlib.Core.Path.{◌≡◌, sym, ap, subst, ◌∙◌}
use mathlib.Core.List.{List}
use Prim.Native.Nat.{ℕ, ◌+◌, ◌*◌, ◌<◌}
use native.Mathlib.Omega.{arith}
use lib.Dec.{T}
use lib.ListN.{length, take, drop}
use Rattle.model.specs.Panel.{base, panel_of}
use Rattle.model.specs.Records.{events_of}
use Rattle.model.specs.Sending.{fewest}
use Rattle.model.specs.Calls.{is_accepted}
use Rattle.model.specs.Refusals.{Exact}
use Rattle.model.specs.Pointing.{PointerState}
use Rattle.model.specs.Anonymous.{SlotMade, Placed, anonymous_verdict, anonymous_call, anonymous_rows}
use Rattle.model.proofs.Calls.{writer-state}
use Rattle.model.proofs.Pointing.{pointer_facts}
use Rattle.model.proofs.Tables.{good_length}
use Rattle.model.proofs.Anonymous.{contacts_long}
use Rattle.model.proofs.AnonymousCalls.{judged, slots-there, anonymous_exact, anonymous_writes, anonymous_passed, anonymous_laid, anonymous_left}
use Rattle.model.proofs.AnonymousSlots.{slot-made}
use Rattle.model.proofs.AnonymousPlaces.{contacts-placed}
use Rattle.common.specs.declared.Verdict.TheVariants.{Accepted}
use Rattle.common.specs.Seen.{verdict_number}
use Rattle.panel.specs.Seen.{table_of}
use Rattle.writer.specs.declared.WriterState.{WriterState}
use Rattle.writer.specs.declared.Written.{Written}
use Rattle.writer.specs.Seen as W
use Rattle.writer.proofs.Back.{state_back}
use Rattle.reader.specs.declared.RunAnswer.{RunAnswer}
use Rattle.anonymous.proofs.write.Reads as anonymous
use Rattle.link.specs.Promises.{Wrote, Ran, pupil_of}
use Rattle.link.specs.Pointer.{retold}
use Rattle.link.specs.Anonymous.{WroteAnonymous, contacts_in, frame_by}
use Rattle.link.proofs.Exact.{held_exact}
use Rattle.link.proofs.Steady.{was_accepted}
use Rattle.link.proofs.Loss.{not-accepted}
use Rattle.link.proofs.Demands.{reads_back, fewest-events}
use Rattle.link.proofs.Pointer.{left_is}

-- What is claimed is the contract itself.
pub anonymous_wrote-is : (κs : _) (a : _) (r : Written) (t : _) → anonymous.Learnt κs a r t
    → WroteAnonymous a.0 a.1.0.now a.1.1.1.0 a.1.1.0.now r t.1.1.0.now
anonymous_wrote-is κs a r t e = e

-- 2, 6, 9, 10, 4, 5, each exactly when its test fails and those before it pass; 0 exactly when all pass.
pub anonymous_wrote_exact : (s : WriterState) (bs : List ℕ) (at : ℕ) (buf : List ℕ) (r : Written) (after : List ℕ) → WroteAnonymous s bs at buf r after
    → Exact (verdict_number r.verdict) (anonymous_rows base (W.seen s) bs at (length buf))
anonymous_wrote_exact s bs at buf r after w =
    let m = anonymous_call base (W.seen s) bs at (length buf) in
    held_exact (anonymous_rows base (W.seen s) bs at (length buf)) m.verdict r.verdict (ap (λ (x : Written). x.verdict) w.0)
    (anonymous_exact (W.seen s) bs at (length buf))

module _ (s : WriterState) (bs : List ℕ) (at : ℕ) (buf : List ℕ) (r : Written) (after : List ℕ) (w : WroteAnonymous s bs at buf r after) (h : r.verdict ≡ Accepted) where
  passed : T (is_accepted (anonymous_verdict base (W.seen s) bs))
  passed =
      anonymous_passed (W.seen s) bs at (length buf)
      (was_accepted (anonymous_call base (W.seen s) bs at (length buf)).verdict r.verdict (ap (λ (x : Written). x.verdict) w.0) h)

  -- What is accepted is a frame that `write` took: all that is proved of `write` holds of it, demands 2 and 3 among them.
  pub anonymous_is_write : Wrote s (frame_by s bs) at buf r after
  unfolding passed
  anonymous_is_write = (
    w.0 ∙ ap W.written_from (anonymous_writes (W.seen s) bs at (length buf) passed),
    w.1 ∙ anonymous_laid (W.seen s) bs at buf passed,
  )

  -- The pairing is the best, live slots have its contacts, and those left over the lowest unused slots, each once.
  pub anonymous_placed : Placed s.setup.n (table_of s.table) (contacts_in bs)
  unfolding passed
  anonymous_placed =
      let j = judged (W.seen s) bs passed in
      let facts = writer-state base (W.seen s).base (pointer_facts base (W.seen s) j.good).writer in
      contacts-placed (W.seen s).base.setup (table_of s.table) (contacts_in bs) facts.setup facts.writer.good j.few j.values

  -- What becomes of each slot of the panel: contacts that are paired keep slot and id, old ones left over end, new ones left over begin.
  pub anonymous_slots : (k : ℕ) → k < s.setup.n → SlotMade (table_of s.table) (table_of r.state.table) (contacts_in bs) k
  unfolding passed anonymous_is_write
  anonymous_slots k below =
      let j = judged (W.seen s) bs passed in
      let own = (W.seen s).base in
      let facts = writer-state base own (pointer_facts base (W.seen s) j.good).writer in
      let size = good_length (panel_of base own.setup) own.writer.table facts.writer.good in
      let there = slots-there (W.seen s) bs j.good in
      let new = left_is s (frame_by s bs) at buf r after anonymous_is_write h in
      subst (λ t. SlotMade (table_of s.table) t (contacts_in bs) k) (sym (ap (λ (x : PointerState). x.base.writer.table) new))
      (slot-made (contacts_in bs) own.setup own.writer.table own.writer.counter facts.setup (contacts_long (events_of bs)) there facts.writer.counts
      (omega (arith, size)) k below)

  -- Demand 2: the writer's own reader that runs the bytes shows the new table.
  pub anonymous_reads_back : (q : RunAnswer) → Ran (pupil_of s) (take (8 * r.count) (drop at after)) q → q.state ≡ pupil_of r.state
  unfolding anonymous_is_write
  anonymous_reads_back q e = ap (λ (x : RunAnswer). x.state) (reads_back s (frame_by s bs) at buf r after anonymous_is_write h q e)

  -- Demand 3: the fewest events, and on top those for an old display.
  pub anonymous_fewest : r.count ≡ fewest s.current.0 (table_of s.table) (table_of r.state.table) + retold s r.state
  unfolding anonymous_is_write
  anonymous_fewest = fewest-events s (frame_by s bs) at buf r after anonymous_is_write h

-- A refusal hands the state back and touches no byte.
pub anonymous_refused : (s : WriterState) (bs : List ℕ) (at : ℕ) (buf : List ℕ) (r : Written) (after : List ℕ) → WroteAnonymous s bs at buf r after
    → (r.verdict ≡ Accepted → ⊥) → (r.state ≡ s) × (after ≡ buf)
anonymous_refused s bs at buf r after w n =
    let m = anonymous_call base (W.seen s) bs at (length buf) in
    let left = anonymous_left (W.seen s) bs at buf (not-accepted m.verdict (λ e. n (ap (λ (x : Written). x.verdict) w.0 ∙ e))) in
    (ap (λ (x : Written). x.state) w.0 ∙ ap W.held left.0 ∙ state_back s, w.1 ∙ left.1)
