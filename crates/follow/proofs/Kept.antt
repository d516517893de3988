-- What the reader's loop keeps, and how each arm keeps it or ends the run: a law for each, over the loop's locals. Cited by `follow`. Assumes nothing.
use mathlib.Core.Path.{◌≡◌, sym, ap, subst, ◌∙◌}
use mathlib.Core.Bool.{Bool, true, false}
use mathlib.Core.List.{List}
use Prim.Native.Nat.{ℕ, suc, ◌+◌, ◌-◌, ◌*◌, ◌/◌, ◌^◌, ◌≤◌, ◌<◌}
use native.Mathlib.Omega.{arith}
use lib.IntN.{ℤ}
use lib.ListN.{length, get_or, set}
use Rattle.model.specs.Panel.{base, setup_good, records}
use Rattle.model.specs.Table.{ids_differ}
use Rattle.model.specs.Events as E
use Rattle.model.specs.Reader as R
use Rattle.model.specs.Reader.{following, nothing}
use Rattle.model.specs.Records.{event_at, events_of}
use Rattle.common.specs.Runs.{onward, FirstWithin, first_after}
use Rattle.common.proofs.Firsts.{names, stays_within}
use Rattle.common.proofs.Turns.{Pending, uncompared, compared, with_id, with_number, sofar}
use Rattle.common.proofs.Turns.{Place, before, asks, Goes, skips-type, skips-code, selects, shows, repeats, drops, spoils, stores}
use Rattle.panel.specs.declared.Setup.{Setup}
use Rattle.panel.specs.declared.Slot.{Slot}
use Rattle.panel.specs.Seen.{slot_of, table_of, setup_of, panel_seen, blank, unused, unused_all, SameFrom}
use Rattle.panel.proofs.Setups.{small}
use Rattle.follow.specs.declared.Ended.{Ended}
use Rattle.follow.specs.declared.SoFar.{SoFar}
use Rattle.follow.specs.Seen.{reader_of}
use Rattle.follow.specs.Runs.{ended_from, lost_at, left_from, so_far, Skips}
use Rattle.follow.proofs.Agree.{Agree, begins, settles, opens, stores as stored, two-copied}
use Rattle.follow.proofs.Ends.{loses}

-- k records are read, and what is left of the run is the whole run's answer.
pub record Kept
    (setup : Setup)
    (bytes : List ℕ)
    (start : R.Reader)
    (shown pending : List Slot)
    (written : Bool)
    (current : ℕ)
    (so : SoFar)
    (from opened k : ℕ)
    : Type 0 where
  pub inside : k ≤ length bytes / 8
  pub below : current < setup.n
  pub last : from < setup.n
  pub slots : setup.n ≤ records
  pub few : so.frames + so.types + so.codes ≤ k
  pub opens : opened ≤ k + 2
  pub there : FirstWithin (so.types + so.codes) so.first (length bytes)
  pub pends : Pending slot_of blank unused records setup.n written pending
  pub agree : Agree blank shown pending from current opened
  pub left :
      onward (panel_seen setup) start nothing (events_of bytes)
      ≡ onward (panel_seen setup) (reader_of shown pending current following) (so_far bytes so 0) (left_from bytes k)

-- What the call is to answer.
abbrev pub answer : Setup → List ℕ → R.Reader → Ended
answer u bytes start = ended_from (onward (panel_seen u) start nothing (events_of bytes))

-- Nothing is counted yet.
abbrev pub none : SoFar
none = record { frames = 0; types = 0; codes = 0; first = 0 }

-- A run begins as if any slot had been selected, since anything may be pending.
pub kept-begins : (u : Setup) (bytes : List ℕ) (shown pending : List Slot) (c o : ℕ) → setup_good base (setup_of u) ≡ true → c < u.n
    → length shown ≡ records → length pending ≡ records → SameFrom u.n pending unused_all → 2 ≤ o → o ≤ 2
    → Kept u bytes (reader_of shown pending c following) shown pending true c none c o 0
kept-begins u bytes shown pending c o g b ls lp s many few =
    let z : length bytes / 8 - 0 ≡ length bytes / 8 = omega arith in
    record {
      inside = omega arith;
      below = b;
      last = b;
      slots = (small u g).n;
      few = omega arith;
      opens = omega arith;
      there = tt;
      pends = uncompared slot_of blank unused records u.n pending lp s;
      agree = begins shown pending c o (ls ∙ sym lp) many;
      left = rw z;
    }

-- ---- a turn

module _
    {u : Setup}
    {bytes : List ℕ}
    {start : R.Reader}
    {shown pending : List Slot}
    {written : Bool}
    {current : ℕ}
    {so : SoFar}
    {from opened k : ℕ}
    (i : Kept u bytes start shown pending written current so from opened k)
    (h : k < length bytes / 8)
  where
    abbrev pub here : Place slot_of blank
    here =
        record {
          panel = panel_seen u;
          bytes = bytes;
          count = length bytes / 8;
          k = k;
          inside = h;
          shown = shown;
          pending = pending;
          current = current;
          frames = so.frames;
          types = so.types;
          codes = so.codes;
          first = (so_far bytes so 0).first;
        }

    held : current < length pending
    held = omega (arith, i.below, i.slots, i.pends.full)

    -- A report that copies two slots shows the pending table.
    pub two-shown : opened < 2 → set (set shown from (get_or pending from blank)) current (get_or pending current blank) ≡ pending
    two-shown few =
        two-copied i.agree few
        (omega (arith, i.last, i.slots, i.pends.full, i.agree.sizes))
        (omega (arith, held, i.agree.sizes))

    pub skips : length bytes < 2 ^ 64 → Skips so (length bytes)
    skips l = record { few = omega arith; there = i.there }

    -- ---- an end

    -- Track is lost here, with so many bad records.
    abbrev pub lost_here : R.Mode → ℕ → Ended
    lost_here m bad = lost_at shown (record { 0 = current }) m (so_far bytes so bad) (left_from bytes (k + 1))

    ends_here : (m : R.Mode) (bad : ℕ) (r : Ended) → R.Lost m → Goes here (R.settled_at (table_of shown) current m) (so_far bytes so bad)
        → r ≡ lost_here m bad → r ≡ answer u bytes start
    ends_here m bad r l g e = e ∙ loses here m bad l g ∙ ap ended_from (sym i.left)

    pub ends-bad : (r : Ended) → r ≡ lost_here R.dropped 1 → asks here ≡ E.bad → r ≡ answer u bytes start
    ends-bad r q e = ends_here R.dropped 1 r tt (spoils here e) q

    pub ends_lost : (r : Ended) → r ≡ lost_here R.dropped 0 → asks here ≡ E.loss → r ≡ answer u bytes start
    ends_lost r q e = ends_here R.dropped 0 r tt (drops here e) q

    pub ends_stale : (r : Ended) → r ≡ lost_here R.stale 1 → asks here ≡ E.report → ids_differ (table_of pending) ≡ false → r ≡ answer u bytes start
    ends_stale r q e d = ends_here R.stale 1 r tt (repeats here e d) q

    -- ---- a turn that goes on

    pub kept_select : (j : ℕ) → j < u.n → asks here ≡ E.slot j → Kept u bytes start shown pending written j so from (opened + 1) (k + 1)
    kept_select j b e =
        record {
          inside = omega arith;
          below = b;
          last = i.last;
          slots = i.slots;
          few = omega arith;
          opens = omega arith;
          there = i.there;
          pends = i.pends;
          agree = opens i.agree j;
          left = i.left ∙ selects here j e;
        }

    -- The table t that is shown then is the pending one.
    pub kept-report : (t : List Slot) (w : Bool) → t ≡ pending → asks here ≡ E.report → ids_differ (table_of pending) ≡ true
        → Kept u bytes start t pending w current (record { frames = so.frames + 1; types = so.types; codes = so.codes; first = so.first }) current 0 (k + 1)
    kept-report t w same e differ =
        let more : SoFar = record { frames = so.frames + 1; types = so.types; codes = so.codes; first = so.first } in
        record {
          inside = omega arith;
          below = i.below;
          last = i.below;
          slots = i.slots;
          few = omega arith;
          opens = omega arith;
          there = i.there;
          pends = compared u.n written w pending i.pends differ;
          agree = subst (λ s. Agree blank s pending current current 0) (sym same) (settles pending current);
          left =
              i.left ∙ shows here e differ
              ∙ ap (λ s. onward (panel_seen u) (reader_of s pending current following) (so_far bytes more 0) (left_from bytes (k + 1))) (sym same);
        }

    -- ---- a number stored: x is the slot with it

    module _ (n : ℕ) (v : ℤ) (x : Slot) (e : asks here ≡ E.number n v) (q : slot_of x ≡ set (slot_of (get_or pending current blank)) n v) where
      kept_store : (w : Bool) → Pending slot_of blank unused records u.n w (set pending current x)
          → Kept u bytes start shown (set pending current x) w current so from opened (k + 1)
      kept_store w table =
          record {
            inside = omega arith;
            below = i.below;
            last = i.last;
            slots = i.slots;
            few = omega arith;
            opens = omega arith;
            there = i.there;
            pends = table;
            agree = stored i.agree x;
            left = i.left ∙ stores here n v x e held q;
          }

      pub kept-id : Kept u bytes start shown (set pending current x) true current so from opened (k + 1)
      kept-id = kept_store true (with_id u.n written pending i.pends current x i.below)

      pub kept-number : x.id.0 ≡ (get_or pending current blank).id.0 → Kept u bytes start shown (set pending current x) written current so from opened (k + 1)
      kept-number s = kept_store written (with_number u.n written pending i.pends current x i.below s)

    -- ---- a record skipped: j is the number of the first one then

    module _ (j : ℕ) (made : j ≡ first_after (so.types + so.codes) so.first k) (e : E.Event) (is : e ≡ event_at bytes (8 * k)) where
      abbrev counts : ℕ → ℕ → SoFar
      counts t c = record { frames = so.frames; types = t; codes = c; first = j }

      skipped : (t c : ℕ) → suc (so.types + so.codes) ≡ t + c
          → onward (panel_seen u) start nothing (events_of bytes)
          ≡ onward (panel_seen u) (before here) (sofar so.frames t c (R.earlier here.first (R.event e.type e.code))) (left_from bytes (k + 1))
          → Kept u bytes start shown pending written current (counts t c) from opened (k + 1)
      skipped t c more left =
          let n = so.types + so.codes in
          let name = names bytes n (t + c) so.first j k more made e.type e.code (sym (ap (λ x. x.type) is)) (sym (ap (λ x. x.code) is)) in
          record {
            inside = omega arith;
            below = i.below;
            last = i.last;
            slots = i.slots;
            few = omega arith;
            opens = omega arith;
            there = stays_within bytes n (t + c) so.first j k more made (length bytes) i.there (omega arith);
            pends = i.pends;
            agree = i.agree;
            left = left ∙ ap (λ f. onward (panel_seen u) (before here) (sofar so.frames t c f) (left_from bytes (k + 1))) name;
          }

      pub kept-type : asks here ≡ E.skip E.of_type e.type e.code
          → Kept u bytes start shown pending written current (counts (so.types + 1) so.codes) from opened (k + 1)
      kept-type a = skipped (so.types + 1) so.codes (omega arith) (i.left ∙ skips-type here e.type e.code a)

      pub kept-code : asks here ≡ E.skip E.of_code e.type e.code
          → Kept u bytes start shown pending written current (counts so.types (so.codes + 1)) from opened (k + 1)
      kept-code a = skipped so.types (so.codes + 1) (omega arith) (i.left ∙ skips-code here e.type e.code a)
