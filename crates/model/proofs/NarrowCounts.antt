-- K1: of events that the long panel lists, the short one skips those of the later fields, each as an unknown code. Cited by Narrow. Assumes nothing.
use mathlib.Core.Path.{◌≡◌, refl, sym, ap, ap₂, ◌∙◌, subst}
use mathlib.Core.Bool.{Bool, true, false, not, cond, ◌&&◌, ◌||◌, false≢true}
use mathlib.Core.List.{List, [], ◌∷◌}
use Prim.Native.Nat.{ℕ, zero, suc, ◌+◌}
use lib.Dec.{T, eqb}
use lib.ListN.{take, drop}
use borrow.Author.Tests.{eqb-true}
use Rattle.model.proofs.Bools.{is_true, both_left, both_right, and_left, and_right}
use Rattle.model.proofs.Codes.{Tellable}
use Rattle.model.proofs.Skips.{Listed}
use Rattle.model.specs.Panel.{Field, Panel, slot_code, unlisted, codes_differ, field_codes}
use Rattle.model.specs.Events.{Event}
use Rattle.model.specs.Reader.{event}
use Rattle.model.specs.Skips.{known_type, known_code, type_unknown, code_unknown, skipped_by}
use Rattle.model.specs.Shift.{how_many, first_of, followed}
use Rattle.model.specs.Narrow.{cut_panel, has_code, short_counts, AllListed}

-- ---- codes

-- The codes of the fields from k on.
abbrev past : ℕ → Panel → List ℕ
past k p = drop k (field_codes p.fields)

codes-cut : (k : ℕ) (fs : List Field) → field_codes (take k fs) ≡ take k (field_codes fs)
codes-cut zero fs = refl
codes-cut (suc k) [] = refl
codes-cut (suc k) (f ∷ fs) = ap {B = List ℕ} (λ l. f.code ∷ l) (codes-cut k fs)

unlisted-drop : (c k : ℕ) (codes : List ℕ) → T (unlisted c codes) → T (unlisted c (drop k codes))
unlisted-drop c zero codes h = h
unlisted-drop c (suc k) [] h = h
unlisted-drop c (suc k) (d ∷ codes) h = unlisted-drop c k codes (both_right (not (eqb d c)) _ h)

-- Of codes that all differ, a listed one is among the first k or among the later ones, and not both.
one_part : (c k : ℕ) (codes : List ℕ) → T (codes_differ codes) → unlisted c codes ≡ false → unlisted c (take k codes) ≡ not (unlisted c (drop k codes))
one_part c zero codes d h = sym (ap not h)
one_part c (suc k) [] d h = absurd (false≢true (sym h))
one_part c (suc k) (a ∷ codes) d h = by_first (eqb a c) refl (one_part c k codes (both_right (unlisted a codes) _ d))
  where
    by_first : (b : Bool) → eqb a c ≡ b → (unlisted c codes ≡ false → unlisted c (take k codes) ≡ not (unlisted c (drop k codes)))
        → unlisted c (a ∷ take k codes) ≡ not (unlisted c (drop k codes))
    by_first true q on =
        let apart = subst (λ x. T (unlisted x codes)) (eqb-true a c q) (both_left (unlisted a codes) _ d) in
        rw (q, is_true (unlisted c (drop k codes)) (unlisted-drop c k codes apart))
    by_first false q on = rw q (on (rw q at h))

-- ---- one event

not-false : (b : Bool) → not b ≡ false → b ≡ true
not-false true q = refl
not-false false q = sym q

pub listed : (p : Panel) (e : Event) → skipped_by p e ≡ false → Listed p e
listed p e h =
    let both = not-false (known_type e && known_code p e) h in
    record { type = and_left (known_type e) _ both; code = and_right (known_type e) _ both }

or_false : (a b : Bool) → (a || b) ≡ true → a ≡ false → b ≡ true
or_false true b h f = absurd (false≢true (sym f))
or_false false b h f = h

not-true : (b : Bool) → not b ≡ true → b ≡ false
not-true true q = sym q
not-true false q = refl

not-not : (b : Bool) → not (not b) ≡ b
not-not true = refl
not-not false = refl

-- A listed event has a code that the short panel does not know just where the code is one of the later fields'.
known_cut : (k m : ℕ) (p : Panel) → Tellable p → (e : Event) → Listed p e → not (known_code (cut_panel k m p) e) ≡ has_code (past k p) e
known_cut k m p w e l = by_type (eqb e.type 0) refl
  where
    codes : List ℕ
    codes = field_codes p.fields

    by_code : (b : Bool) → eqb e.code slot_code ≡ b → eqb e.type 0 ≡ false → eqb e.type 3 ≡ true
        → not (known_code (cut_panel k m p) e) ≡ has_code (past k p) e
    by_code true a z t =
        let slot = sym (eqb-true e.code slot_code a) in
        let apart = subst (λ c. T (unlisted c codes)) slot w.slot_apart in
        rw (z, a, t, is_true (unlisted e.code (past k p)) (unlisted-drop e.code k codes apart))
    by_code false a z t =
        let c = l.code in
        let known : not (unlisted e.code codes) ≡ true = rw (z, a) at c in
        rw (z, a, t)
        (not-not (unlisted e.code (field_codes (take k p.fields)))
        ∙ ap (unlisted e.code) (codes-cut k p.fields)
        ∙ one_part e.code k codes w.codes_apart (not-true (unlisted e.code codes) known))

    by_type : (b : Bool) → eqb e.type 0 ≡ b → not (known_code (cut_panel k m p) e) ≡ has_code (past k p) e
    by_type true z =
        let c = l.code in
        let syn : (eqb e.code 0 || eqb e.code 3) ≡ true = rw z at c in
        let t : eqb e.type 3 ≡ false = ap (λ n. eqb n 3) (eqb-true e.type 0 z) in
        rw (z, syn, t)
    by_type false z = by_code (eqb e.code slot_code) refl z (or_false (eqb e.type 0) (eqb e.type 3) l.type z)

-- ---- all events

module _ (k m : ℕ) (p : Panel) (w : Tellable p) where
  abbrev short : Panel
  short = cut_panel k m p

  pub code-cut : (e : Event) → Listed p e → code_unknown short e ≡ has_code (past k p) e
  code-cut e l = ap (λ b. b && not (known_code short e)) l.type ∙ known_cut k m p w e l

  skipped_cut : (e : Event) → Listed p e → skipped_by short e ≡ has_code (past k p) e
  skipped_cut e l = ap (λ b. not (b && known_code short e)) l.type ∙ known_cut k m p w e l

  no_types : (es : List Event) → AllListed p es → how_many type_unknown es ≡ 0
  no_types [] h = refl
  no_types (e ∷ es) h = ap₂ (λ b n. cond (not b) 1 0 + n) (listed p e h.0).type (no_types es h.1)

  codes-later : (es : List Event) → AllListed p es → how_many (code_unknown short) es ≡ how_many (has_code (past k p)) es
  codes-later [] h = refl
  codes-later (e ∷ es) h = ap₂ (λ b n. cond b 1 0 + n) (code-cut e (listed p e h.0)) (codes-later es h.1)

  first-later : (es : List Event) → AllListed p es → first_of (skipped_by short) es ≡ first_of (has_code (past k p)) es
  first-later [] h = refl
  first-later (e ∷ es) h = ap₂ (λ b n. cond b (event e.type e.code) n) (skipped_cut e (listed p e h.0)) (first-later es h.1)

  -- What a short reader counts that follows such events throughout.
  pub counts-later : (es : List Event) → AllListed p es → followed short es ≡ short_counts (past k p) es
  counts-later es h = rw (no_types es h, codes-later es h, first-later es h)
