-- Ranks are the order of beginning (K6): after any calls the contact that X and Y follow is the one that began in the earliest of them, in the lower slot on a tie.
-- Assumes nothing.
use mathlib.Core.Path.{◌≡◌, refl, sym, ap, ◌∙◌, subst}
use mathlib.Core.Bool.{true, false, not, cond}
use mathlib.Core.List.{List, [], ◌∷◌}
use Prim.Native.Nat.{ℕ, zero, suc, ◌+◌, ◌≤◌, ◌<◌}
use native.Mathlib.Omega.{arith}
use lib.Dec.{T, ltb, ltb→lt, nltb→le}
use lib.IntN.{ℤ}
use lib.ListN.{length, get_or, replicate, length-replicate}
use Rattle.model.proofs.WriterSteady.{length_rows}
use Rattle.model.proofs.Ids.{fated}
use Rattle.model.proofs.Ranks.{Goes, goes, length-fates}
use Rattle.model.proofs.RanksMarks.{length-rerank}
use Rattle.model.proofs.RanksOrder.{Going, Begun, kept_order, kept_ties, begun-last, begun-ties}
use Rattle.model.proofs.Pointed.{some_follows}
use Rattle.model.specs.Panel.{Layout, Setup, Field, panel_of}
use Rattle.model.specs.Table.{Table, id_of, live, ids, unused_slot}
use Rattle.model.specs.Frame.{rows_of, kind_of, Fate, none, goes_on, begins, fate, free_id, taken_after, counter_after, planned}
use Rattle.model.specs.Shift.{FrameCall}
use Rattle.model.specs.States.{fresh_table}
use Rattle.model.specs.Calls.{is_accepted}
use Rattle.model.specs.Ranks.{good_ranks, fates, ranks_after, live_count}
use Rattle.model.specs.Pointer.{unmoved, oldest_slot}
use Rattle.model.specs.Pointing.{zero_pointing, pointing_after, PointerState, pointer_need, pointer_refused, pointer_taken, pointer_call}
use Rattle.model.specs.PointerShift.{pointer_judged, pointer_wrote, pointer_wrote_all, born_in, born_after, born_all}

-- A contact is there after the frame.
abbrev Contact : Fate → Type 0
Contact none = ⊥
Contact goes_on = Unit {0}
Contact begins = Unit {0}

-- Slot i holds a live contact.
abbrev pub LiveAt : Table → ℕ → Type 0
LiveAt t i = T (live (id_of (get_or t i [])))

-- ---- slot by slot

born_at : (n : ℕ) (fs : List Fate) (bs : List ℕ) (i : ℕ) → i < length fs → i < length bs → get_or (born_after n fs bs) i 0 ≡ born_in n (get_or fs i none) (get_or bs i 0)
born_at n [] bs i a b = absurd (omega arith)
born_at n (x ∷ fs) [] i a b = absurd (omega arith)
born_at n (x ∷ fs) (y ∷ bs) zero a b = refl
born_at n (x ∷ fs) (y ∷ bs) (suc i) a b = born_at n fs bs i (omega arith) (omega arith)

length_born : (n : ℕ) (fs : List Fate) (bs : List ℕ) → length fs ≡ length bs → length (born_after n fs bs) ≡ length bs
length_born n [] bs e = e
length_born n (x ∷ fs) [] e = refl
length_born n (x ∷ fs) (y ∷ bs) e = ap suc (length_born n fs bs (omega arith))

-- What is live after a frame goes on or begins.
live-contact : (taken : List ℤ) (c : ℕ) (fr : List (List ℤ)) (t : Table) (i : ℕ) → i < length t → LiveAt (planned taken c fr t).table i
    → Contact (get_or (fates fr t) i none)
live-contact taken c [] [] i l h = absurd (omega arith)
live-contact taken c [] (s ∷ t) zero l h =
    (elim (live (id_of s)) as (λ b. T b → Contact (cond b goes_on none)) [
      | true ↦ λ u. tt
      | false ↦ λ u. u
    ]) h
live-contact taken c [] (s ∷ t) (suc i) l h = live-contact taken c [] t i (omega arith) h
live-contact taken c (g ∷ fr) [] i l h = absurd (omega arith)
live-contact taken c (g ∷ fr) (s ∷ t) zero l h =
    (elim (fate (kind_of g) (id_of s)) as (λ a. LiveAt (fated a taken c g fr s t) 0 → Contact a) [
      | none ↦ λ u. u
      | goes_on ↦ λ u. tt
      | begins ↦ λ u. tt
    ]) h
live-contact taken c (g ∷ fr) (s ∷ t) (suc i) l h =
    let f = fate (kind_of g) (id_of s) in
    let j = free_id taken c in
    live-contact (taken_after f j taken) (counter_after f j c) fr t i (omega arith) h

-- What goes on was live before.
going_live : (fr : List (List ℤ)) (t : Table) (i : ℕ) → i < length t → Going (get_or (fates fr t) i none) → LiveAt t i
going_live [] [] i l h = absurd (omega arith)
going_live [] (s ∷ t) zero l h =
    (elim (live (id_of s)) as (λ b. (T b → T (live (id_of s))) → Going (cond b goes_on none) → T (live (id_of s))) [
      | true ↦ λ y u. y tt
      | false ↦ λ y u. absurd u
    ]) (λ x. x) h
going_live [] (s ∷ t) (suc i) l h = going_live [] t i (omega arith) h
going_live (g ∷ fr) [] i l h = absurd (omega arith)
going_live (g ∷ fr) (s ∷ t) zero l h =
    (elim (fate (kind_of g) (id_of s)) as (λ a. Goes a (id_of s) → Going a → T (live (id_of s))) [
      | none ↦ λ y u. absurd u
      | goes_on ↦ λ y u. y
      | begins ↦ λ y u. absurd u
    ]) (goes (kind_of g) (id_of s)) h
going_live (g ∷ fr) (s ∷ t) (suc i) l h = going_live fr t i (omega arith) h

-- ---- order

order_back : (a b x y : ℕ) → (b < a → y < x) → (a ≡ b → x ≡ y) → x < y → a < b
order_back a b x y down tie l =
    (elim (ltb a b) as (λ e. (T e → a < b) → (T (not e) → b ≤ a) → a < b) [
      | true ↦ λ p n. p tt
      | false ↦ λ p n.
          (elim (ltb b a) as (λ e. (T e → b < a) → (T (not e) → a ≤ b) → a < b) [
            | true ↦ λ u v. absurd (omega (arith, down (u tt)))
            | false ↦ λ u v. absurd (omega (arith, tie (omega (arith, n tt, v tt))))
          ]) (ltb→lt b a) (nltb→le b a)
    ]) (ltb→lt a b) (nltb→le a b)

tie_back : (a b x y : ℕ) → (a < b → x < y) → (b < a → y < x) → x ≡ y → a ≡ b
tie_back a b x y up down l =
    (elim (ltb a b) as (λ e. (T e → a < b) → (T (not e) → b ≤ a) → a ≡ b) [
      | true ↦ λ p n. absurd (omega (arith, up (p tt)))
      | false ↦ λ p n.
          (elim (ltb b a) as (λ e. (T e → b < a) → (T (not e) → a ≤ b) → a ≡ b) [
            | true ↦ λ u v. absurd (omega (arith, down (u tt)))
            | false ↦ λ u v. omega (arith, n tt, v tt)
          ]) (ltb→lt b a) (nltb→le b a)
    ]) (ltb→lt a b) (nltb→le a b)

later_by : (n b c x y : ℕ) (f g : Fate) → Contact f → Contact g → (Going f → Going g → x < y → b < c) → (Going f → b < n) → (Begun f → Going g → y < x)
    → (Begun f → Begun g → x ≡ y)
    → x < y → born_in n f b < born_in n g c
later_by n b c x y none g u v kk kn bk bb l = absurd u
later_by n b c x y goes_on none u v kk kn bk bb l = absurd v
later_by n b c x y goes_on goes_on u v kk kn bk bb l = kk tt tt l
later_by n b c x y goes_on begins u v kk kn bk bb l = kn tt
later_by n b c x y begins none u v kk kn bk bb l = absurd v
later_by n b c x y begins goes_on u v kk kn bk bb l = absurd (omega (arith, bk tt tt))
later_by n b c x y begins begins u v kk kn bk bb l = absurd (omega (arith, bb tt tt))

same_by : (n b c x y : ℕ) (f g : Fate) → Contact f → Contact g → (Going f → Going g → x ≡ y → b ≡ c) → (Going f → Begun g → x < y) → (Begun f → Going g → y < x)
    → x ≡ y → born_in n f b ≡ born_in n g c
same_by n b c x y none g u v kk kb bk l = absurd u
same_by n b c x y goes_on none u v kk kb bk l = absurd v
same_by n b c x y goes_on goes_on u v kk kb bk l = kk tt tt l
same_by n b c x y goes_on begins u v kk kb bk l = absurd (omega (arith, kb tt tt))
same_by n b c x y begins none u v kk kb bk l = absurd v
same_by n b c x y begins goes_on u v kk kb bk l = absurd (omega (arith, bk tt tt))
same_by n b c x y begins begins u v kk kb bk l = refl

past_by : (n b : ℕ) (f : Fate) → Contact f → (Going f → b < n) → born_in n f b < suc n
past_by n b none u k = absurd u
past_by n b goes_on u k = omega (arith, k tt)
past_by n b begins u k = omega arith

-- ---- the ranks of live contacts are in the order of the frames in which they began

pub record InOrder (t : Table) (rs bs : List ℕ) (n : ℕ) : Type 0 where
  pub ranks : length rs ≡ length t
  pub births : length bs ≡ length t
  pub past : (i : ℕ) → i < length t → LiveAt t i → get_or bs i 0 < n
  pub later : (i j : ℕ) → i < length t → j < length t → LiveAt t i → LiveAt t j → get_or rs i 0 < get_or rs j 0 → get_or bs i 0 < get_or bs j 0
  pub same : (i j : ℕ) → i < length t → j < length t → LiveAt t i → LiveAt t j → get_or rs i 0 ≡ get_or rs j 0 → get_or bs i 0 ≡ get_or bs j 0

-- Frame n keeps them so.
pub frame_in_order : (taken : List ℤ) (c : ℕ) (fr : List (List ℤ)) (t : Table) (rs bs : List ℕ) (n : ℕ) → InOrder t rs bs n
    → InOrder (planned taken c fr t).table (ranks_after (fates fr t) rs) (born_after n (fates fr t) bs) (suc n)
frame_in_order taken c fr t rs bs n h =
    let fs = fates fr t in
    let new = (planned taken c fr t).table in
    let lf = length-fates fr t in
    let ln = length_rows taken c fr t in
    let lr = h.ranks in
    let lb = h.births in
    let f : ℕ → Fate = λ i. get_or fs i none in
    let x : ℕ → ℕ = λ i. get_or (ranks_after fs rs) i 0 in
    let contact : (i : ℕ) → i < length new → LiveAt new i → Contact (f i) = λ i l a. live-contact taken c fr t i (omega arith) a in
    let was : (i : ℕ) → i < length new → Going (f i) → LiveAt t i = λ i l g. going_live fr t i (omega arith) g in
    let born : (i : ℕ) → i < length new → get_or (born_after n fs bs) i 0 ≡ born_in n (f i) (get_or bs i 0) = λ i l. born_at n fs bs i (omega arith) (omega arith) in
    let up : (i j : ℕ) → i < length new → j < length new → Going (f i) → Going (f j) → get_or rs i 0 < get_or rs j 0 → x i < x j =
    λ i j a b. kept_order fs rs i j (omega arith) (omega arith) (omega arith) (omega arith) in
    let tie : (i j : ℕ) → i < length new → j < length new → Going (f i) → Going (f j) → get_or rs i 0 ≡ get_or rs j 0 → x i ≡ x j =
    λ i j a b. kept_ties fs rs i j (omega arith) (omega arith) (omega arith) (omega arith) in
    let last : (i j : ℕ) → i < length new → j < length new → Going (f i) → Begun (f j) → x i < x j =
    λ i j a b. begun-last fs rs i j (omega arith) (omega arith) (omega arith) (omega arith) in
    let both : (i j : ℕ) → i < length new → j < length new → Begun (f i) → Begun (f j) → x i ≡ x j =
    λ i j a b. begun-ties fs rs i j (omega arith) (omega arith) (omega arith) (omega arith) in
    record {
      ranks = length-rerank _ _ fs rs (omega arith) ∙ lr ∙ sym ln;
      births = length_born n fs bs (omega arith) ∙ lb ∙ sym ln;
      past = λ i l a. subst (λ m. m < suc n) (sym (born i l)) (past_by n (get_or bs i 0) (f i) (contact i l a) (λ g. h.past i (omega arith) (was i l g)));
      later = λ i j l m a b o.
          subst (λ u. u < get_or (born_after n fs bs) j 0) (sym (born i l))
          (subst (λ u. born_in n (f i) (get_or bs i 0) < u) (sym (born j m))
          (later_by n (get_or bs i 0) (get_or bs j 0) (x i) (x j) (f i) (f j) (contact i l a) (contact j m b)
          (λ g k e. h.later i j (omega arith) (omega arith) (was i l g) (was j m k) (order_back (get_or rs i 0) (get_or rs j 0) (x i) (x j) (up j i m l k g) (tie i j l m g k) e))
          (λ g. h.past i (omega arith) (was i l g))
          (λ g k. last j i m l k g)
          (both i j l m)
          o));
      same = λ i j l m a b o.
          born i l
          ∙ same_by n (get_or bs i 0) (get_or bs j 0) (x i) (x j) (f i) (f j) (contact i l a) (contact j m b)
          (λ g k e. h.same i j (omega arith) (omega arith) (was i l g) (was j m k) (tie_back (get_or rs i 0) (get_or rs j 0) (x i) (x j) (up i j l m g k) (up j i m l k g) e))
          (last i j l m)
          (λ g k. last j i m l k g)
          o
          ∙ sym (born j m);
    }

-- A call that begins nothing is in the past too.
in_order_more : (t : Table) (rs bs : List ℕ) (n : ℕ) → InOrder t rs bs n → InOrder t rs bs (suc n)
in_order_more t rs bs n h = record { ranks = h.ranks; births = h.births; past = λ i l a. omega (arith, h.past i l a); later = h.later; same = h.same }

-- ---- what X and Y follow

-- The followed contact began no later than any live one, and earlier than any in a lower slot.
pub follows-earliest : (t : Table) (rs bs : List ℕ) (n : ℕ) → InOrder t rs bs n → T (good_ranks (ids t) rs) → 0 < live_count (ids t)
    → (let k = oldest_slot (ids t) rs in LiveAt t k × ((j : ℕ) → j < length t → LiveAt t j → (get_or bs k 0 ≤ get_or bs j 0) × (j < k → get_or bs k 0 < get_or bs j 0)))
follows-earliest t rs bs n h g l =
    let k = oldest_slot (ids t) rs in
    let o = (some_follows t rs unmoved g l).0 in
    let sooner : (j : ℕ) → j < length t → LiveAt t j → 0 < get_or rs j 0 → get_or bs k 0 < get_or bs j 0 =
    λ j b a p. h.later k j o.there b o.lives a (omega (arith, o.first)) in (
      o.lives,
      λ j b a. (
        (elim (ltb 0 (get_or rs j 0)) as (λ e. (T e → 0 < get_or rs j 0) → (T (not e) → get_or rs j 0 ≤ 0) → get_or bs k 0 ≤ get_or bs j 0) [
          | true ↦ λ p q. omega (arith, sooner j b a (p tt))
          | false ↦ λ p q. omega (arith, h.same k j o.there b o.lives a (omega (arith, o.first, q tt)))
        ]) (ltb→lt 0 (get_or rs j 0)) (nltb→le 0 (get_or rs j 0)),
        λ m. sooner j b a (o.lowest j m a),
      ),
    )

-- ---- calls one after the other

-- A call keeps the option.
call_on : (l : Layout) (s : PointerState) (k : FrameCall) → (pointer_wrote l s k).on ≡ s.on
unfolding pointer_call
call_on l s k =
    let v = pointer_judged l s k in
    elim (is_accepted v) as (λ b. (cond b (pointer_taken l s k.frame) (pointer_refused v s (pointer_need l s k.frame))).state.on ≡ s.on) [
      | true ↦ refl
      | false ↦ refl
    ]

-- The option on: a call keeps the ranks in the order of beginning.
call_in_order : (l : Layout) (s : PointerState) (k : FrameCall) (n : ℕ) (bs : List ℕ) → s.on ≡ true → InOrder s.base.writer.table s.pointing.ranks bs n
    → (let z = pointer_wrote l s k in
    let fs = fates (rows_of (panel_of l s.base.setup) k.frame) s.base.writer.table in
    InOrder z.base.writer.table z.pointing.ranks (cond (is_accepted (pointer_judged l s k)) (born_after n fs bs) bs) (suc n))
unfolding pointer_call
call_in_order l s k n bs e h =
    let p = panel_of l s.base.setup in
    let w = s.base.writer in
    let fr = rows_of p k.frame in
    let v = pointer_judged l s k in
    let after = pointer_taken l s k.frame in
    let before = pointer_refused v s (pointer_need l s k.frame) in
    elim (is_accepted v) as (λ t. InOrder (cond t after before).state.base.writer.table (cond t after before).state.pointing.ranks (cond t (born_after n (fates fr w.table) bs) bs) (suc n)) [
      | true ↦
          subst (λ on. InOrder (planned (ids w.table) w.counter fr w.table).table (pointing_after on p w s.pointing k.frame).ranks (born_after n (fates fr w.table) bs) (suc n)) (sym e)
          (frame_in_order (ids w.table) w.counter fr w.table s.pointing.ranks bs n h)
      | false ↦ in_order_more w.table s.pointing.ranks bs n h
    ]

-- The option on: any calls keep the ranks in the order of beginning.
pub calls_in_order : (l : Layout) (s : PointerState) (ks : List FrameCall) (n : ℕ) (bs : List ℕ) → s.on ≡ true
    → InOrder s.base.writer.table s.pointing.ranks bs n
    → (let z = pointer_wrote_all l s ks in InOrder z.base.writer.table z.pointing.ranks (born_all l s ks n bs) (length ks + n))
calls_in_order l s [] n bs e h = let z : n ≡ 0 + n = omega arith in subst (InOrder s.base.writer.table s.pointing.ranks bs) z h
calls_in_order l s (k ∷ ks) n bs e h =
    let p = panel_of l s.base.setup in
    let w = s.base.writer in
    let fr = rows_of p k.frame in
    let z : length ks + suc n ≡ suc (length ks) + n = omega arith in
    let born = cond (is_accepted (pointer_judged l s k)) (born_after n (fates fr w.table) bs) bs in
    let kept : InOrder (pointer_wrote l s k).base.writer.table (pointer_wrote l s k).pointing.ranks born (suc n) = call_in_order l s k n bs e h in
    let on : (pointer_wrote l s k).on ≡ true = call_on l s k ∙ e in
    subst (InOrder (pointer_wrote_all l s (k ∷ ks)).base.writer.table (pointer_wrote_all l s (k ∷ ks)).pointing.ranks (born_all l s (k ∷ ks) n bs)) z
    (calls_in_order l (pointer_wrote l s k) ks (suc n) born on kept)

none-live : (fs : List Field) (m i : ℕ) → i < m → LiveAt (replicate m (unused_slot fs)) i → ⊥
none-live fs zero i l a = omega arith
none-live [] (suc m) zero l a = a
none-live (f ∷ fs) (suc m) zero l a = a
none-live fs (suc m) (suc i) l a = none-live fs m i (omega arith) a

-- A fresh state's are, whatever the births are said to be.
pub fresh_in_order : (l : Layout) (u : Setup) → (let p = panel_of l u in InOrder (fresh_table p) (zero_pointing l.records).ranks (replicate l.records 0) 0)
fresh_in_order l u =
    let m = l.records in
    let fs = (panel_of l u).fields in
    let n : length (replicate m (unused_slot fs)) ≡ m = length-replicate m (unused_slot fs) in
    let dead : (i : ℕ) → i < length (replicate m (unused_slot fs)) → LiveAt (replicate m (unused_slot fs)) i → ⊥ = λ i b a. none-live fs m i (omega arith) a in
    record {
      ranks = length-replicate m 0 ∙ sym n;
      births = length-replicate m 0 ∙ sym n;
      past = λ i b a. absurd (dead i b a);
      later = λ i j b d a z o. absurd (dead i b a);
      same = λ i j b d a z o. absurd (dead i b a);
    }
