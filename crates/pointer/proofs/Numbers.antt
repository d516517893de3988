-- The display's numbers: touch and tool by how many contacts are live, zeros, and X and Y of the oldest contact. Cited by the proofs here. Assumes nothing.
use mathlib.Core.Path.{◌≡◌, refl, sym, ap, ap₂, ◌∙◌, subst}
use mathlib.Core.Bool.{Bool, true, false, not, cond, ◌&&◌, ◌||◌}
use mathlib.Core.List.{List, []}
use Prim.Native.Nat.{ℕ, zero, suc, ◌+◌, ◌-◌, ◌≤◌, ◌<◌}
use native.Mathlib.Omega.{arith}
use lib.Dec.{T, eqb, ltb}
use borrow.Author.Tests.{lt-ltb, le-ltb}
use lib.IntN.{ℤ, pos}
use lib.ListN.{length, drop, get_or}
use Rattle.model.specs.Panel.{records}
use Rattle.model.specs.Table.{ids}
use Rattle.model.specs.Ranks.{live_count, good_ranks}
use Rattle.model.specs.Pointer as P
use Rattle.model.specs.Pointer.{touch_of, tool_of, still, oldest_slot, oldest_number, pointed}
use Rattle.model.specs.Pointing.{zeros}
use Rattle.model.proofs.RanksOldest.{oldest_there}
use Rattle.panel.specs.declared.Slot.{Slot}
use Rattle.panel.specs.Seen.{slot_of, table_of, blank}
use Rattle.panel.proofs.Tables.{slot_at}
use Rattle.pointer.specs.Moved.{oldest_or0, shown_of, placed_at}
use Rattle.pointer.proofs.Turns.{next, past}

-- ---- by how many contacts are live

pub touch_some : (m : ℕ) → (m ≡ 0 → ⊥) → touch_of m ≡ 1
touch_some zero n = absurd (n refl)
touch_some (suc m) n = refl

pub tool_many : (m : ℕ) → (m ≡ 0 → ⊥) → (m ≡ 1 → ⊥) → (m ≡ 2 → ⊥) → (m ≡ 3 → ⊥) → (m ≡ 4 → ⊥) → tool_of m ≡ 0x148
tool_many zero a b c d e = absurd (a refl)
tool_many (suc zero) a b c d e = absurd (b refl)
tool_many (suc (suc zero)) a b c d e = absurd (c refl)
tool_many (suc (suc (suc zero))) a b c d e = absurd (d refl)
tool_many (suc (suc (suc (suc zero)))) a b c d e = absurd (e refl)
tool_many (suc (suc (suc (suc (suc m))))) a b c d e = refl

pub positive : (a m : ℕ) → a ≡ m → (a ≡ 0 → ⊥) → 0 < m
positive zero m e n = absurd (n refl)
positive (suc a) m e n = omega (arith, e)

-- ---- zeros

module _ (rs : List ℕ) (i : ℕ) where
  pub zeros-turn : length rs ≡ records → i < records → zeros (records - i) (drop i rs) ≡ (eqb (get_or rs i 0) 0 && zeros (records - (i + 1)) (drop (i + 1) rs))
  zeros-turn e h =
      let n : records - i ≡ suc (records - (i + 1)) = omega arith in
      ap₂ zeros n (next rs i 0 (omega arith))

  pub zeros-over : length rs ≡ records → records ≤ i → zeros (records - i) (drop i rs) ≡ true
  zeros-over e h =
      let n : records - i ≡ 0 = omega arith in
      ap₂ zeros n (past rs i (omega arith))

pub neither : (a b c : Bool) → (not a && (b && c)) ≡ (not (a || not b) && c)
neither true b c = refl
neither false true c = refl
neither false false c = refl

-- ---- X and Y

pub oldest_found : (o k : ℕ) → k ≡ o → k < records → k ≡ cond (ltb o records) o 0
oldest_found o k e h = e ∙ ap (λ b. cond b o 0) (sym (lt-ltb o records (omega (arith, e))))

pub oldest_none : (o : ℕ) → records ≤ o → 0 ≡ cond (ltb o records) o 0
oldest_none o h = ap (λ b. cond b o 0) (sym (le-ltb o records h))

still-is : (m : ℕ) (o v w : ℤ) → (0 < m → v ≡ w) → still m o v ≡ still m o w
still-is zero o v w H = refl
still-is (suc m) o v w H = H (omega arith)

-- While as many contacts are live as the display shows, it is told of the oldest one's place alone.
pub placed-shown : (m : ℕ) (s : Slot) (q : P.Pointer) → q.touch ≡ touch_of m → q.tool ≡ tool_of m → placed_at s q ≡ shown_of m s q
placed-shown m s q e g =
    let x = ap (λ k. still k q.x (pos s.x)) e ∙ touched m q.x (pos s.x) in
    let y = ap (λ k. still k q.y (pos s.y)) e ∙ touched m q.y (pos s.y) in
    λ i. record { touch = e i; tool = g i; x = x i; y = y i }
  where
    touched : (m : ℕ) (o v : ℤ) → still (touch_of m) o v ≡ still m o v
    touched zero o v = refl
    touched (suc m) o v = refl

-- What is shown of the oldest contact's slot, or of slot 0 where none is live, is what a table and its good ranks give.
module _ (t : List Slot) (rs : List ℕ) (q : P.Pointer) (full : length t ≡ records) where
  abbrev own : List ℤ
  own = ids (table_of t)

  slot : length own ≡ records → T (good_ranks own rs) → 0 < live_count own → slot_of (get_or t (oldest_or0 own rs) blank) ≡ get_or (table_of t) (oldest_slot own rs) []
  slot e g p =
      let o = oldest_slot own rs in
      let inside : o < records = omega (arith, e, oldest_there own rs g p) in
      ap (λ k. slot_of (get_or t k blank)) (sym (oldest_found o o refl inside)) ∙ sym (slot_at t o (omega (arith, full, inside)))

  own-shown : length own ≡ records → T (good_ranks own rs) → shown_of (live_count own) (get_or t (oldest_or0 own rs) blank) q ≡ pointed (table_of t) rs q
  unfolding slot
  own-shown e g =
      let m = live_count own in
      let s = get_or t (oldest_or0 own rs) blank in
      let x = still-is m q.x (pos s.x) (oldest_number 1 (table_of t) rs) (λ p. ap (λ n. get_or n 1 (pos 0)) (slot e g p)) in
      let y = still-is m q.y (pos s.y) (oldest_number 2 (table_of t) rs) (λ p. ap (λ n. get_or n 2 (pos 0)) (slot e g p)) in
      λ i. record { touch = touch_of m; tool = tool_of m; x = x i; y = y i }

  pub shown-is : (l : List ℤ) → l ≡ ids (table_of t) → length l ≡ records → T (good_ranks l rs) → shown_of (live_count l) (get_or t (oldest_or0 l rs) blank) q ≡ pointed (table_of t) rs q
  unfolding own-shown
  shown-is l e h g =
      ap (λ k. shown_of (live_count k) (get_or t (oldest_or0 k rs) blank) q) e
      ∙ own-shown (sym (ap length e) ∙ h) (subst (λ k. T (good_ranks k rs)) e g)
