-- What moves, by the ids that were taken out of the tables before a frame and after it. Cited by the proofs of `moves`, here and over lent bytes. Assumes nothing.
use mathlib.Core.Path.{◌≡◌, sym, ap, ap₂, ◌∙◌, subst}
use mathlib.Core.Bool.{true}
use mathlib.Core.List.{List}
use Prim.Native.Nat.{ℕ}
use native.Mathlib.Omega.{arith}
use lib.Dec.{T}
use lib.IntN.{ℤ}
use lib.ListN.{length, get_or}
use Rattle.model.specs.Panel.{records}
use Rattle.model.specs.Table.{ids, eq_slot}
use Rattle.model.specs.Ranks.{live_count, good_ranks, ranks_after}
use Rattle.model.specs.Pointer.{touch_of, tool_of}
use Rattle.model.proofs.Bools.{holds}
use Rattle.model.proofs.Tables.{eq_slot→eq}
use Rattle.panel.specs.declared.Slot.{Slot}
use Rattle.panel.specs.Seen.{table_of, blank}
use Rattle.pointer.specs.declared.Pointer.{Pointer}
use Rattle.pointer.specs.declared.Moved.{Moved}
use Rattle.pointer.specs.Seen.{pointer_of, fates_by}
use Rattle.pointer.specs.Marks.{Told}
use Rattle.pointer.specs.Moved.{Covers, oldest_or0, ranks_by, shown_of, placed_at, Moving, MovesTo}
use Rattle.pointer.proofs.Ranked.{rank_at-small}
use Rattle.pointer.proofs.Numbers.{placed-shown, shown-is}
use Rattle.pointer.proofs.Kept.{ranks-kept}
use Rattle.pointer.proofs.Covered.{changed_covers}

module _ (n : ℕ) (old new : List Slot) (slots : ℕ) (last : Moved) (p : Moving n old new slots last) (lo : length old ≡ records) (ln : length new ≡ records)
    (was is : List ℤ) (ew : was ≡ ids (table_of old)) (ei : is ≡ ids (table_of new)) (before : length was ≡ records) (after : length is ≡ records) where
  abbrev rs : List ℕ
  rs = last.ranks

  -- The changed slots cover those whose id changes.
  pub covers : Covers slots was is
  covers = changed_covers old new slots was is lo ln p.changed ew ei

  -- The ranks before the frame are good beside the ids.
  pub old_good : T (good_ranks was rs)
  old_good = subst (λ l. T (good_ranks l rs)) (sym ew) p.before

  pub ranked_by : length rs ≡ records → Told was is rs
  ranked_by e = record { before = before; after = after; ranked = e; small = λ i h. omega (arith, e, rank_at-small was rs i old_good (omega (arith, h, before))) }

  -- Every id stays: so do the ranks, and the display's X and Y follow the oldest contact.
  pub stayed : eq_slot was is ≡ true → (q : Pointer) → pointer_of q ≡ placed_at (get_or new (oldest_or0 is rs) blank) (pointer_of last.told) → MovesTo old new rs last.told (record { ranks = rs; told = q })
  stayed e q eq =
      let same : was ≡ is = eq_slot→eq was is (holds _ e) in
      let stay : ids (table_of old) ≡ is = sym ew ∙ same in
      let kept = ap (λ x. ranks_after (fates_by was x) rs) (sym same) ∙ ranks-kept was rs before old_good in
      let touch = ap (λ p. p.touch) p.shown ∙ ap (λ x. touch_of (live_count x)) stay in
      let tool = ap (λ p. p.tool) p.shown ∙ ap (λ x. tool_of (live_count x)) stay in
      record {
        ranks = sym kept ∙ ap₂ (λ x y. ranks_after (fates_by x y) rs) ew ei;
        told =
            eq ∙ placed-shown (live_count is) (get_or new (oldest_or0 is rs) blank) (pointer_of last.told) touch tool
            ∙ shown-is new rs (pointer_of last.told) ln is ei after (subst (λ x. T (good_ranks x rs)) same old_good);
      }

  -- An id changes: ranks are made anew, and the display shows what they and the table give.
  pub ranked_anew : (made : List ℕ) → made ≡ ranks_after (fates_by was is) rs → (q : Pointer) → pointer_of q ≡ shown_of (live_count is) (get_or new (oldest_or0 is made) blank) (pointer_of last.told)
      → MovesTo old new rs last.told (record { ranks = made; told = q })
  ranked_anew made em q eq =
      let own : made ≡ ranks_by old new rs = em ∙ ap₂ (λ x y. ranks_after (fates_by x y) rs) ew ei in
      let good = subst (λ l. T (good_ranks l made)) (sym ei) (subst (λ r. T (good_ranks (ids (table_of new)) r)) (sym own) p.after) in
      record { ranks = own; told = eq ∙ shown-is new made (pointer_of last.told) ln is ei after good }
