-- K6 of the code, from the promises of the calls alone: states stay well formed and keep the option, and what they told an old display is what their table
-- gives, call after call. Cited by docs/PROMISES.md. Assumes nothing.
use mathlib.Core.Path.{◌≡◌, refl, sym, ap, ap₂, ◌∙◌, subst}
use mathlib.Core.Bool.{Bool, true, false, cond, false≢true}
use mathlib.Core.List.{List, [], ◌∷◌}
use Prim.Native.Nat.{ℕ, zero, suc, ◌+◌, ◌<◌}
use native.Mathlib.Omega.{arith}
use lib.Dec.{T}
use lib.IntN.{ℤ, pos}
use lib.ListN.{length, get_or, length-map, replicate}
use Rattle.model.specs.Panel.{Panel, records, base}
use Rattle.model.specs.Records.{events_of}
use Rattle.model.specs.Frame.{rows_of, new_table}
use Rattle.model.specs.States.{Writer}
use Rattle.model.specs.Calls.{is_accepted}
use Rattle.model.specs.Ranks.{fates}
use Rattle.model.specs.Pointer.{unmoved, still, oldest_number, pointed, display, heard}
use Rattle.model.specs.Pointing.{Pointing, good_pointing, pointing_after, PointerState, FreshPointer, fresh_pointer, pointer_verdict, PointerWritten, pointer_call}
use Rattle.model.specs.PointerShift.{pointer_wrote_all, born_after, born_all}
use Rattle.model.proofs.Bools.{is_true}
use Rattle.model.proofs.Calls.{by_verdict}
use Rattle.model.proofs.Instances.{base-good}
use Rattle.model.proofs.Pointed.{still-live}
use Rattle.model.proofs.Pointing as P
use Rattle.model.proofs.PointerCalls.{pointer_has, pointer_made}
use Rattle.model.proofs.PointerShift.{calls_events, calls_told}
use Rattle.model.proofs.Births.{InOrder, calls_in_order, fresh_in_order, follows-earliest}
use Rattle.common.specs.declared.Verdict.TheVariants.{Accepted}
use Rattle.common.specs.Seen.{natural, verdict_of}
use Rattle.common.proofs.Back.{verdict-seen}
use Rattle.panel.specs.declared.Slot.{Slot}
use Rattle.panel.specs.declared.Setup.{Setup}
use Rattle.panel.specs.Seen.{slot_of, table_of, blank, setup_of, panel_seen}
use Rattle.panel.proofs.Setups.{holds}
use Rattle.pointer.specs.Seen.{pointer_of, pointer_from}
use Rattle.writer.specs.declared.WriterState.{WriterState}
use Rattle.writer.specs.declared.FreshWriter.{FreshWriter}
use Rattle.writer.specs.declared.Written.{Written}
use Rattle.writer.specs.Seen as W
use Rattle.link.specs.Promises.{WriterMade, Wrote, GoodWriter}
use Rattle.link.specs.Shift.{WriteCall, AllWrote, writer_after, bytes_from}
use Rattle.link.specs.Pointer.{told_by, contacts, followed_slot, NothingTold, born_by, Follows}
use Rattle.link.proofs.Steady.{writer-made-good, written-good}
use Rattle.link.proofs.Shift.{all_handed, state-is, writer-is, bytes_are, fresh-setup, fresh-is}
use Rattle.link.proofs.Pointer.{left_is}

-- ---- the option stays, and states stay well formed

option_kept : (s : PointerState) (f : List ℤ) (at size : ℕ) → (pointer_call base s f at size).state.on ≡ s.on
unfolding pointer_call
option_kept s f at size = by_verdict (λ (a : PointerWritten). a.state.on ≡ s.on) (is_accepted (pointer_verdict base s f at size)) _ _ (λ h. refl) refl

-- Accepted or refused, a frame leaves the option as it was.
pub option_stays : (s : WriterState) (f : List ℤ) (at : ℕ) (buf : List ℕ) (r : Written) (after : List ℕ) → Wrote s f at buf r after
    → r.state.pointer ≡ s.pointer
option_stays s f at buf r after w = ap (λ (x : Written). x.state.pointer) w.0 ∙ option_kept (W.seen s) f at (length buf)

-- So it is after any calls, and a well-formed state stays so, with the option on or off.
pub shift_option : (s : WriterState) (cs : List WriteCall) → AllWrote s cs → (writer_after s cs).pointer ≡ s.pointer
shift_option s [] a = refl
shift_option s (c ∷ cs) a =
    shift_option c.answer.state cs a.1 ∙ option_stays s c.frame c.at c.buffer c.answer c.after a.0

pub shift_good : (s : WriterState) (cs : List WriteCall) → AllWrote s cs → GoodWriter s → GoodWriter (writer_after s cs)
shift_good s [] a g = g
shift_good s (c ∷ cs) a g =
    shift_good c.answer.state cs a.1 (written-good s c.frame c.at c.buffer c.answer c.after a.0 g)

-- ---- what was told is what the table gives

given : (on : Bool) (p : Panel) (w : Writer) (q : Pointing) (f : List ℤ) → on ≡ true
    → (let z = pointing_after on p w q f in z.last ≡ pointed (new_table w.counter (rows_of p f) w.table) z.ranks q.last)
given true p w q f o = refl
given false p w q f o = absurd (false≢true o)

module _ (s : WriterState) (f : List ℤ) (at : ℕ) (buf : List ℕ) (r : Written) (after : List ℕ) (w : Wrote s f at buf r after) (h : r.verdict ≡ Accepted)
    (o : s.pointer ≡ true) where
  -- The option on: after an accepted frame the state holds as told what its new table and ranks give.
  pub told_is : pointer_of r.state.told ≡ pointed (table_of r.state.table) r.state.ranks (pointer_of s.told)
  told_is =
      let e = left_is s f at buf r after w h in
      ap (λ (x : PointerState). x.pointing.last) e
      ∙ given s.pointer (panel_seen s.setup) (W.plain s).writer (W.seen s).pointing f o
      ∙ sym (ap (λ (x : PointerState). pointed x.base.writer.table x.pointing.ranks (pointer_of s.told)) e)

  -- X and Y keep still when no contact is live.
  pub keep_still : contacts r.state ≡ 0 → (r.state.told.x ≡ s.told.x) × (r.state.told.y ≡ s.told.y)
  unfolding told_is
  keep_still n =
      let t = table_of r.state.table in
      let rs = r.state.ranks in (
        ap natural (ap (λ q. q.x) told_is ∙ ap (λ m. still m (pos s.told.x) (oldest_number 1 t rs)) n),
        ap natural (ap (λ q. q.y) told_is ∙ ap (λ m. still m (pos s.told.y) (oldest_number 2 t rs)) n),
      )

on-good : (s : WriterState) → GoodWriter s → s.pointer ≡ true → P.OnFacts (panel_seen s.setup) (table_of s.table) (W.seen s).pointing
on-good s g o =
    let p = panel_seen s.setup in
    let t = table_of s.table in
    let q = (W.seen s).pointing in
    P.on_facts p t q (subst (λ b. T (good_pointing b p t q)) o (P.pointer_facts base (W.seen s) (holds _ g)).pointing)

-- Any well-formed state with the option on holds what its table and ranks give, whatever the calls before it were.
pub told-good : (s : WriterState) → GoodWriter s → s.pointer ≡ true → pointer_of s.told ≡ pointed (table_of s.table) s.ranks (pointer_of s.told)
told-good s g o = (on-good s g o).given

-- ---- a display that hears all events

-- After any calls, refused ones among them, a display that showed what a well-formed state had told it and hears all written events shows what the state
-- then holds as told.
pub display-shows : (s : WriterState) (cs : List WriteCall) → AllWrote s cs → GoodWriter s
    → heard (told_by s) (events_of (bytes_from cs)) ≡ told_by (writer_after s cs)
display-shows s cs a g =
    let ks = all_handed cs in
    ap (heard (told_by s)) (ap events_of (bytes_are s cs a) ∙ calls_events base base-good (W.seen s) ks (holds _ g))
    ∙ calls_told base base-good tt (W.seen s) ks (holds _ g)
    ∙ ap (λ (x : PointerState). display x.pointing.last) (sym (writer-is s cs a))

-- ---- from a fresh writer that is not refused

module _ (u : Setup) (on : Bool) (made : FreshWriter) (m : WriterMade u on made) (v : made.verdict ≡ Accepted) where
  made-is : W.seen made.state ≡ fresh_pointer base on (setup_of u)
  made-is = fresh-is u on made m v ∙ ap (λ (x : FreshPointer). x.state) (pointer_made base on (setup_of u) (is_true _ (fresh-setup u on made m v)))

  -- It told nothing yet: all numbers and ranks are 0.
  pub nothing-told : NothingTold made.state
  unfolding made-is
  nothing-told =
      record {
        ranks = ap (λ (x : PointerState). x.pointing.ranks) made-is;
        told = ap (λ (x : PointerState). pointer_from x.pointing.last) made-is;
      }

  -- A display of zeros that hears all events of any calls from a fresh writer on shows the numbers that the state holds.
  pub display-fresh : (cs : List WriteCall) → AllWrote made.state cs
      → heard (display unmoved) (events_of (bytes_from cs)) ≡ told_by (writer_after made.state cs)
  unfolding made-is
  display-fresh cs a =
      ap (λ (x : PointerState). heard (display x.pointing.last) (events_of (bytes_from cs))) (sym made-is)
      ∙ display-shows made.state cs a (writer-made-good u on made m v)

-- ---- in which call a contact began

born_is : (s : WriterState) (cs : List WriteCall) (n : ℕ) (bs : List ℕ) → AllWrote s cs → born_by s cs n bs ≡ born_all base (W.seen s) (all_handed cs) n bs
born_is s [] n bs a = refl
born_is s (c ∷ cs) n bs a =
    let w = a.0 in
    let fs = fates (rows_of (panel_seen s.setup) c.frame) (table_of s.table) in
    let size = length c.buffer in
    let x = pointer_call base (W.seen s) c.frame c.at size in
    let has = pointer_has base (W.seen s) c.frame c.at size in
    let verdict = ap (λ (y : Written). verdict_of y.verdict) w.0 ∙ verdict-seen x.verdict ∙ has in
    let next = cond (is_accepted (verdict_of c.answer.verdict)) (born_after n fs bs) bs in
    born_is c.answer.state cs (suc n) next a.1
    ∙ ap₂ (λ y b. born_all base y (all_handed cs) (suc n) b) (state-is s c w) (ap (λ z. cond (is_accepted z) (born_after n fs bs) bs) verdict)

x-at : (t : List Slot) (k : ℕ) → get_or (get_or (table_of t) k []) 1 (pos 0) ≡ pos (get_or t k blank).x
x-at [] k = refl
x-at (s ∷ t) zero = refl
x-at (s ∷ t) (suc k) = x-at t k

y-at : (t : List Slot) (k : ℕ) → get_or (get_or (table_of t) k []) 2 (pos 0) ≡ pos (get_or t k blank).y
y-at [] k = refl
y-at (s ∷ t) zero = refl
y-at (s ∷ t) (suc k) = y-at t k

-- From a fresh writer with the option on, after any calls, refused ones among them, while a contact is live: X and Y are those of the contact that began
-- in the earliest call, in the lower slot on a tie.
pub follow-earliest : (u : Setup) (made : FreshWriter) (cs : List WriteCall) → WriterMade u true made → made.verdict ≡ Accepted → AllWrote made.state cs
    → (let z = writer_after made.state cs in 0 < contacts z → Follows z (born_by made.state cs 0 (replicate records 0)) (followed_slot z))
unfolding made-is
follow-earliest u made cs m v a live =
    let z = writer_after made.state cs in
    let t = table_of z.table in
    let ks = all_handed cs in
    let none : List ℕ = replicate records 0 in
    let births = born_by made.state cs 0 none in
    let first = fresh_pointer base true (setup_of u) in
    let e = made-is u true made m v in
    let seen : W.seen z ≡ pointer_wrote_all base first ks = writer-is made.state cs a ∙ ap (λ x. pointer_wrote_all base x ks) e in
    let born : births ≡ born_all base first ks 0 none = born_is made.state cs 0 none a ∙ ap (λ x. born_all base x ks 0 none) e in
    let order = calls_in_order base first ks 0 none refl (fresh_in_order base (setup_of u)) in
    let all = pointer_wrote_all base first ks in
    let timed = subst (λ bs. InOrder all.base.writer.table all.pointing.ranks bs (length ks + 0)) (sym born) order in
    let own = subst (λ (x : PointerState). InOrder x.base.writer.table x.pointing.ranks births (length ks + 0)) (sym seen) timed in
    let good = shift_good made.state cs a (writer-made-good u true made m v) in
    let on : z.pointer ≡ true = shift_option made.state cs a ∙ ap (λ (x : PointerState). x.on) e in
    let facts = on-good z good on in
    let earliest = follows-earliest t z.ranks births (length ks + 0) own facts.ranked live in
    let told = told-good z good on in
    let size : length t ≡ length z.table = length-map z.table slot_of in
    record {
      live = earliest.0;
      earliest = λ j b l. (earliest.1 j (omega arith) l).0;
      lower = λ j b l k. (earliest.1 j (omega arith) l).1 k;
      x = ap natural (ap (λ q. q.x) told ∙ still-live (contacts z) _ _ live ∙ x-at z.table (followed_slot z));
      y = ap natural (ap (λ q. q.y) told ∙ still-live (contacts z) _ _ live ∙ y-at z.table (followed_slot z));
    }
