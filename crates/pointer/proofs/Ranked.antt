-- Ranks by flags and their sums are those after the frame; what a walk knows that finds ranks good or not. Cited by the proofs of `ranks_after` and `ranks_good`. Assumes nothing.
use mathlib.Core.Path.{◌≡◌, refl, sym, ap, ap₂, ◌∙◌, subst}
use mathlib.Core.Bool.{Bool, true, false, cond, ◌&&◌, ◌||◌}
use mathlib.Core.List.{List, [], ◌∷◌}
use Prim.Native.Nat.{ℕ, zero, suc, ◌+◌, ◌≤◌, ◌<◌}
use native.Mathlib.Omega.{arith}
use lib.Dec.{T, eqb, ltb, not_T}
use lib.IntN.{ℤ, pos}
use lib.ListN.{length, drop, get_or, set, length-set}
use Rattle.model.specs.Panel.{records}
use Rattle.model.specs.Table.{live}
use Rattle.model.specs.Frame.{Fate, none, goes_on, begins}
use Rattle.model.specs.Ranks.{among, one_more_if, held_below, live_ranks, zero_unused, no_gaps, good_ranks, ages, ranked, ranks_after}
use Rattle.model.proofs.Bools.{is_false}
use Rattle.model.proofs.Ranks.{eqb_self, or_right}
use Rattle.model.proofs.RanksCode.{rank_small}
use Rattle.model.proofs.RanksMarks.{Marked, marked_going, ranks_are}
use Rattle.pointer.specs.Seen.{fate_by, fates_by}
use Rattle.pointer.specs.Marks.{Marks, Sums, Told, age_by}
use Rattle.pointer.proofs.Turns.{unused-turn, ranks-turn}
use Rattle.pointer.proofs.Tops.{Above, above-met}

-- ---- ranks after a frame

-- A sum is how many different numbers are held below.
sums_held : (m s k : List ℕ) (b : ℕ) → length m ≡ records → Marks m k → Sums m s → b ≤ records → get_or s b 0 ≡ held_below b k
sums_held m s k zero e h z l = z.first
sums_held m s k (suc b) e h z l = z.more b (omega arith) ∙ ap₂ one_more_if (h.tells b (omega arith)) (sums_held m s k b e h z (omega arith))

pub age_small : (a : Fate) (r : ℕ) → r < records → age_by a r < suc records
age_small none r h = omega arith
age_small goes_on r h = omega arith
age_small begins r h = omega arith

age_ranked : (k : List ℕ) (a : Fate) (r : ℕ) → held_below (age_by a r) k ≡ ranked (λ b. held_below b k) records a r
age_ranked k none r = refl
age_ranked k goes_on r = refl
age_ranked k begins r = refl

length-fates : (l m : List ℤ) → length m ≡ length l → length (fates_by l m) ≡ length l
length-fates [] m e = refl
length-fates (a ∷ l) [] e = absurd (omega arith)
length-fates (a ∷ l) (b ∷ m) e = ap suc (length-fates l m (omega arith))

fate-at : (l m : List ℤ) (i : ℕ) → length m ≡ length l → i < length l → get_or (fates_by l m) i none ≡ fate_by (get_or l i (pos 0)) (get_or m i (pos 0))
fate-at [] m i e h = absurd (omega arith)
fate-at (a ∷ l) [] i e h = absurd (omega arith)
fate-at (a ∷ l) (b ∷ m) zero e h = refl
fate-at (a ∷ l) (b ∷ m) (suc i) e h = fate-at l m i (omega arith) (omega arith)

-- Each record's rank is the sum at its age: these are the ranks after the frame.
pub summed : (old new : List ℤ) (rs m s l : List ℕ) → Told old new rs → T (good_ranks old rs) → length m ≡ records → Marks m (ages records (fates_by old new) rs) → Sums m s
    → length l ≡ records → ((i : ℕ) → i < records → get_or l i 0 ≡ get_or s (age_by (fate_by (get_or old i (pos 0)) (get_or new i (pos 0))) (get_or rs i 0)) 0)
    → l ≡ ranks_after (fates_by old new) rs
summed old new rs m s l told g em h z el H =
    let fs = fates_by old new in
    let k = ages records fs rs in
    let even : length new ≡ length old = told.after ∙ sym told.before in
    let at : (i : ℕ) → i < records → get_or l i 0 ≡ ranked (λ b. held_below b k) records (get_or fs i none) (get_or rs i 0) =
    λ i q.
    let a = fate_by (get_or old i (pos 0)) (get_or new i (pos 0)) in
    let small : age_by a (get_or rs i 0) ≤ records = omega (arith, age_small a (get_or rs i 0) (told.small i q)) in
    H i q ∙ sums_held m s k (age_by a (get_or rs i 0)) em h z small ∙ age_ranked k a (get_or rs i 0)
    ∙ ap (λ x. ranked (λ b. held_below b k) records x (get_or rs i 0)) (sym (fate-at old new i even (omega (arith, told.before)))) in
    ranks_are old fs rs l g (length-fates old new even ∙ told.before ∙ sym told.ranked) (el ∙ sym told.ranked)
    (subst (λ n. (i : ℕ) → i < n → get_or l i 0 ≡ ranked (λ b. held_below b (ages n fs rs)) n (get_or fs i none) (get_or rs i 0)) (sym told.ranked) at)

-- ---- good ranks

among-at : (rs : List ℕ) (i : ℕ) → i < length rs → T (among (get_or rs i 0) rs)
among-at [] i h = absurd (omega arith)
among-at (r ∷ rs) zero h = rw (eqb_self r) tt
among-at (r ∷ rs) (suc i) h = or_right (eqb (get_or rs i 0) r) (among (get_or rs i 0) rs) (among-at rs i (omega arith))

-- A rank that may index a table.
pub rank_at-small : (l : List ℤ) (rs : List ℕ) (i : ℕ) → T (good_ranks l rs) → i < length rs → get_or rs i 0 < length rs
rank_at-small l rs i g h = rank_small l rs (get_or rs i 0) g (among-at rs i h)

-- One that may not: no ranks are good with it.
pub too_high : (l : List ℤ) (rs : List ℕ) (i : ℕ) → i < length rs → length rs ≤ get_or rs i 0 → good_ranks l rs ≡ false
too_high l rs i h b = is_false (good_ranks l rs) (not_T (good_ranks l rs) (λ g. absurd (omega (arith, rank_at-small l rs i g h))))

-- What is known of ranks after i records: `held` marks those of live contacts, `top` is above them, and no unused record has one.
pub record GoodTo (l : List ℤ) (rs held : List ℕ) (top i : ℕ) : Type 0 where
  pub inside : i ≤ records
  pub full : length held ≡ records
  pub low : top ≤ records
  pub marks : Marked held (live_ranks (drop i l) (drop i rs)) (live_ranks l rs)
  pub tops : Above top (live_ranks (drop i l) (drop i rs)) (live_ranks l rs)
  pub unused : zero_unused l rs ≡ zero_unused (drop i l) (drop i rs)

module _ (l : List ℤ) (rs held : List ℕ) (top i : ℕ) (g : GoodTo l rs held top i) (h : i < length l) (k : i < length rs) where
  abbrev more : List ℕ
  more = live_ranks (drop (i + 1) l) (drop (i + 1) rs)

  -- An unused record with a rank.
  pub rank_unused : live (get_or l i (pos 0)) ≡ false → eqb (get_or rs i 0) 0 ≡ false → good_ranks l rs ≡ false
  rank_unused idle some =
      let turn = unused-turn l rs i h k in
      let rest = zero_unused (drop (i + 1) l) (drop (i + 1) rs) in
      ap (λ b. b && no_gaps (live_ranks l rs) (live_ranks l rs)) (g.unused ∙ turn ∙ ap₂ (λ a b. (a || b) && rest) idle some)

  live-rest : live (get_or l i (pos 0)) ≡ true → live_ranks (drop i l) (drop i rs) ≡ get_or rs i 0 ∷ more
  live-rest lives = ranks-turn l rs i h k ∙ ap (λ b. cond b (get_or rs i 0 ∷ more) more) lives

  idle_rest : live (get_or l i (pos 0)) ≡ false → live_ranks (drop i l) (drop i rs) ≡ more
  idle_rest idle = ranks-turn l rs i h k ∙ ap (λ b. cond b (get_or rs i 0 ∷ more) more) idle

module _ (l : List ℤ) (rs held : List ℕ) (top i : ℕ) (g : GoodTo l rs held top i) (h : i < length l) (k : i < length rs) (e : i < records) where
  abbrev rest : Bool
  rest = zero_unused (drop (i + 1) l) (drop (i + 1) rs)

  -- A live contact's rank is marked.
  pub good-live : live (get_or l i (pos 0)) ≡ true → get_or rs i 0 < records → (z : ℕ) → z ≡ cond (ltb (get_or rs i 0) top) top (suc (get_or rs i 0)) → z ≤ records
      → GoodTo l rs (set held (get_or rs i 0) 1) z (i + 1)
  unfolding live-rest
  good-live lives small z ez low =
      let r = get_or rs i 0 in
      let next = live-rest l rs held top i g h k lives in
      let m = live_ranks (drop (i + 1) l) (drop (i + 1) rs) in
      record {
        inside = omega arith;
        full = length-set held r 1 ∙ g.full;
        low = low;
        marks = marked_going held m (live_ranks l rs) r (omega (arith, g.full)) (subst (λ x. Marked held x (live_ranks l rs)) next g.marks);
        tops = subst (λ t. Above t m (live_ranks l rs)) (sym ez) (above-met top r m (live_ranks l rs) (subst (λ x. Above top x (live_ranks l rs)) next g.tops));
        unused = g.unused ∙ unused-turn l rs i h k ∙ ap (λ b. (b || eqb r 0) && rest) lives;
      }

  -- An unused record has rank 0.
  pub good_idle : live (get_or l i (pos 0)) ≡ false → eqb (get_or rs i 0) 0 ≡ true → GoodTo l rs held top (i + 1)
  unfolding idle_rest
  good_idle idle zeroed =
      let next = idle_rest l rs held top i g h k idle in
      record {
        inside = omega arith;
        full = g.full;
        low = g.low;
        marks = subst (λ x. Marked held x (live_ranks l rs)) next g.marks;
        tops = subst (λ x. Above top x (live_ranks l rs)) next g.tops;
        unused = g.unused ∙ unused-turn l rs i h k ∙ ap₂ (λ a b. (a || b) && rest) idle zeroed;
      }
