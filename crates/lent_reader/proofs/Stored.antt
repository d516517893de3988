-- What is stored by the verdict, the verdict of a fresh state by its two tests, and what a good state's bytes need. Cited by Calls and by lent_line. Assumes nothing.
use mathlib.Core.Path.{◌≡◌, refl, sym, ap, ap₂, ◌∙◌}
use mathlib.Core.Bool.{Bool, true, false}
use mathlib.Core.List.{List, ◌++◌}
use Prim.Native.Nat.{ℕ, ◌≤◌, ◌<◌, ◌^◌}
use native.Mathlib.Omega.{arith}
use lib.Dec.{eqb}
use lib.ListN.{length}
use borrow.Author.Tests.{eqb-true, eq-eqb, ne_eqb}
use Rattle.model.specs.Panel.{base, records, setup_good}
use Rattle.model.specs.Records.{lay}
use Rattle.model.specs.States.{reader_good}
use Rattle.model.specs.Calls as C
use Rattle.model.specs.Calls.{check}
use Rattle.model.proofs.Bools.{holds, and_left}
use Rattle.model.proofs.Tables.{good_length}
use Rattle.model.proofs.Calls.{reader-state}
use Rattle.panel.specs.Seen.{slot_of, table_of, setup_of, panel_seen}
use Rattle.panel.proofs.Tables.{unmapped}
use Rattle.reader.specs.declared.ReaderState.{ReaderState}
use Rattle.reader.specs.States.{seen}
use Rattle.reader.proofs.States.{good-small, good-current}
use Rattle.lent_reader.specs.Layout.{reader_size, reader_kind, formed, head_bytes, body_bytes, packed}
use Rattle.lent_reader.specs.Seen.{setup_from, fresh_verdict_in, stored}
use Rattle.lent_reader.proofs.Laid.{packed-length, lay_all}

pub formed-length : (b : List ℕ) → formed b ≡ true → length b ≡ reader_size
formed-length b e = eqb-true (length b) reader_size (and_left (eqb (length b) reader_size) _ e)

pub formed-room : (b : List ℕ) → formed b ≡ true → reader_size ≤ length b
formed-room b e = omega (arith, formed-length b e)

-- ---- a state that is good

module _ (s : ReaderState) (g : reader_good base (seen s) ≡ true) where
  pub good-shown : length s.shown ≡ records
  good-shown = unmapped _ _ slot_of s.shown records (good_length (panel_seen s.setup) (table_of s.shown) (reader-state base (seen s) (holds _ g)).reader.shows)

  pub good-pending : length s.pending ≡ records
  good-pending = unmapped _ _ slot_of s.pending records (good_length (panel_seen s.setup) (table_of s.pending) (reader-state base (seen s) (holds _ g)).reader.pends)

  pub good-n : s.setup.n < 2 ^ 32
  good-n = omega (arith, (good-small s g).n)

  pub good-slot : s.current.0 < 2 ^ 32
  good-slot = omega (arith, (good-small s g).n, good-current s g)

  -- Stored over as many bytes as it has, it is all of them.
  pub good-laid : (b : List ℕ) → length b ≡ reader_size → lay 0 (head_bytes reader_kind s.mode 0 ++ body_bytes s) b ≡ packed s
  unfolding packed
  good-laid b e = lay_all (head_bytes reader_kind s.mode 0 ++ body_bytes s) b (packed-length s good-shown good-pending ∙ sym e)

-- ---- by the verdict

pub stored-not : (v : C.Verdict) (next b : List ℕ) → (C.verdict_number v ≡ 0 → ⊥) → b ≡ stored v next b
stored-not v next b h = rw (ne_eqb (C.verdict_number v) 0 h)

pub stored_is : (v : C.Verdict) (next b : List ℕ) → C.verdict_number v ≡ 0 → next ≡ stored v next b
stored_is v next b h = rw (eq-eqb (C.verdict_number v) 0 h)

-- ---- the verdict of a fresh state

module _ (t : Bool) where
  -- By the setup alone.
  abbrev by_setup : ℕ
  by_setup = C.verdict_number (check t C.setup C.accepted)

  pub bad-setup : (by_setup ≡ 0 → ⊥) → t ≡ false
  bad-setup = (elim t as (λ t. (C.verdict_number (check t C.setup C.accepted) ≡ 0 → ⊥) → t ≡ false) [ true ↦ (λ h. absurd (h refl)) | false ↦ (λ h. refl) ])

  pub good-setup : by_setup ≡ 0 → t ≡ true
  good-setup = (elim t as (λ t. C.verdict_number (check t C.setup C.accepted) ≡ 0 → t ≡ true) [ true ↦ (λ h. refl) | false ↦ (λ h. absurd (omega (arith, h))) ])

module _ (size : ℕ) (b s : List ℕ) where
  abbrev asked : Bool
  asked = setup_good base (setup_of (setup_from s))

  pub fresh-bad : (C.verdict_number (check asked C.setup C.accepted) ≡ 0 → ⊥) → C.setup ≡ fresh_verdict_in size b s
  fresh-bad h = ap (λ t. check t C.setup (check (eqb (length b) size) C.state C.accepted)) (sym (bad-setup asked h))

  pub fresh-short : C.verdict_number (check asked C.setup C.accepted) ≡ 0 → (length b ≡ size → ⊥) → C.state ≡ fresh_verdict_in size b s
  fresh-short h n = ap₂ (λ t u. check t C.setup (check u C.state C.accepted)) (sym (good-setup asked h)) (sym (ne_eqb (length b) size n))

  pub fresh-taken : C.verdict_number (check asked C.setup C.accepted) ≡ 0 → length b ≡ size → C.accepted ≡ fresh_verdict_in size b s
  fresh-taken h n = ap₂ (λ t u. check t C.setup (check u C.state C.accepted)) (sym (good-setup asked h)) (sym (eq-eqb (length b) size n))
