-- A good state's numbers have room in its bytes: so what an accepted call stores is formed and holds the model's next state, and calls over bytes go on as the model's do. Cited by lent_line and export. Assumes nothing.
use mathlib.Core.Path.{◌≡◌, refl, sym, ap, ◌∙◌, subst}
use mathlib.Core.Bool.{Bool, true, false, cond}
use mathlib.Core.List.{List, [], ◌∷◌}
use Prim.Native.Nat.{ℕ, zero, suc}
use native.Mathlib.Omega.{arith}
use lib.Dec.{T, leb, leb→le, eqb}
use lib.ListN.{length}
use lib.IntN.{ℤ, pos, negsuc}
use mir.Syntax.{w32}
use mir.Val.{SFits}
use Rattle.model.specs.Panel.{base, last_id, id_field, setup_good}
use Rattle.model.specs.Table.{fits, eq_slot, good_slot, good_records}
use Rattle.model.specs.States.{reader_good}
use Rattle.model.specs.Calls as C
use Rattle.model.specs.Calls.{fresh_reader_call, run_call, load_call}
use Rattle.model.proofs.Bools.{holds, both_left, both_right}
use Rattle.model.proofs.Tables.{eq_slot→eq, good-records}
use Rattle.model.proofs.Calls.{reader-state}
use Rattle.panel.specs.Seen.{slot_of, slot_from, table_of, setup_of, panel_seen, fields_of, unused}
use Rattle.common.specs.Seen.{verdict_number}
use Rattle.common.proofs.Back.{number-seen}
use Rattle.panel.specs.declared.Slot.{Slot}
use Rattle.panel.specs.declared.Setup.{Setup}
use Rattle.panel.proofs.Setups.{Small}
use Rattle.reader.specs.declared.ReaderState.{ReaderState}
use Rattle.reader.specs.States.{seen, held, fresh_from, ran_from}
use Rattle.reader.specs.Seen.{loaded_from}
use Rattle.reader.proofs.States.{good-small}
use Rattle.lent.specs.Lent.{SlotFits, SlotsFit, SetupFits}
use Rattle.lent_reader.specs.Layout.{reader_size, formed, unpacked, packed, StateFits}
use Rattle.lent_reader.specs.Seen.{setup_from, fresh_verdict_in, ran_in, loaded_in, FreshIn, RunIn, LoadIn}
use Rattle.lent_reader.proofs.Stored.{good-shown, good-pending, good-slot, stored_is}
use Rattle.lent_reader.proofs.Calls.{fresh-number, fresh-good, run-good, load-good}
use Rattle.lent_reader.proofs.Asked.{slot-few}
use Rattle.lent_reader.proofs.Back.{unpacked_back, packed-formed}

-- ---- slots

id-fits : (v : ℤ) → T (fits id_field v) → SFits w32 v
id-fits (pos n) t = record { sfits = omega (arith, leb→le n last_id t) }
id-fits (negsuc n) t = record { sfits = omega (arith, leb→le n 0 (both_left (leb n 0) true t)) }

-- A good slot's numbers are within its panel's, so they fit.
slot-fits : (u : Setup) → Small u → (s : Slot) → T (good_slot (fields_of u) (slot_of s)) → SlotFits s
slot-fits u few s g =
    let h = slot-few u few s g in
    record {
      id = id-fits s.id.0 (both_left (fits id_field s.id.0) _ g);
      x = record { fits = omega (arith, h.0) };
      y = record { fits = omega (arith, h.1) };
      pressure = record { fits = omega (arith, h.2) };
      major = record { fits = omega (arith, h.3) };
      minor = record { fits = omega (arith, h.4) };
    }

unused-fits : (s : Slot) → slot_of s ≡ slot_of unused → SlotFits s
unused-fits s e =
    subst SlotFits (sym (ap slot_from e))
    (record {
      id = record { sfits = omega arith };
      x = record { fits = omega arith };
      y = record { fits = omega arith };
      pressure = record { fits = omega arith };
      major = record { fits = omega arith };
      minor = record { fits = omega arith };
    })

table_fits : (u : Setup) → Small u → (n : ℕ) (t : List Slot) → T (good_records (fields_of u) n (table_of t)) → SlotsFit t
table_fits u few zero [] g = tt
table_fits u few zero (s ∷ t) g =
    let here = eq_slot (slot_of s) (slot_of unused) in
    (unused-fits s (eq_slot→eq (slot_of s) (slot_of unused) (both_left here _ g)), table_fits u few zero t (both_right here _ g))
table_fits u few (suc n) [] g = absurd g
table_fits u few (suc n) (s ∷ t) g =
    let here = good_slot (fields_of u) (slot_of s) in
    (slot-fits u few s (both_left here _ g), table_fits u few n t (both_right here _ g))

-- ---- states

setup-fits : (u : Setup) → Small u → SetupFits u
setup-fits u few = record {
  n = record { fits = omega (arith, few.n) };
  x = record { fits = omega (arith, few.x) };
  y = record { fits = omega (arith, few.y) };
  pressure = record { fits = omega (arith, few.pressure) };
  major = record { fits = omega (arith, few.major) };
  minor = record { fits = omega (arith, few.minor) };
}

module _ (s : ReaderState) (g : reader_good base (seen s) ≡ true) where
  pub good-fits : StateFits s
  good-fits =
      let p = panel_seen s.setup in
      let few = good-small s g in
      let facts = (reader-state base (seen s) (holds _ g)).reader in
      record {
        whole = good-shown s g;
        whole_pending = good-pending s g;
        shown = table_fits s.setup few s.setup.n s.shown (good-records p (table_of s.shown) facts.shows);
        pending = table_fits s.setup few s.setup.n s.pending (good-records p (table_of s.pending) facts.pends);
        setup = setup-fits s.setup few;
        current = good-slot s g;
      }

  -- So a good state is read again from its bytes.
  pub good_again : (formed (packed s) ≡ true) × (unpacked (packed s) ≡ s)
  good_again = (packed-formed s good-fits, unpacked_back s good-fits)

-- ---- what an accepted call leaves

-- The bytes are formed and hold this state.
abbrev pub Holds : List ℕ → ReaderState → Type 0
Holds b s = (formed b ≡ true) × (unpacked b ≡ s)

holds-packed : (b : List ℕ) (s : ReaderState) → reader_good base (seen s) ≡ true → b ≡ packed s → Holds b s
holds-packed b s g e = subst (λ l. Holds l s) (sym e) (good_again s g)

-- An accepted call found its bytes formed.
run-formed : (t : Bool) (a n : C.Ran) → n.verdict ≡ C.state → C.verdict_number (cond t a n).verdict ≡ 0 → t ≡ true
run-formed true a n e h = refl
run-formed false a n e h = absurd (omega (arith, sym (ap C.verdict_number e) ∙ h))

load-formed : (t : Bool) (a n : C.Loaded) → n.verdict ≡ C.state → C.verdict_number (cond t a n).verdict ≡ 0 → t ≡ true
load-formed true a n e h = refl
load-formed false a n e h = absurd (omega (arith, sym (ap C.verdict_number e) ∙ h))

-- An accepted fresh state passed the first of its tests.
pub first-passed : (t : Bool) (v : C.Verdict) → C.verdict_number (C.check t C.setup v) ≡ 0 → C.verdict_number (C.check t C.setup C.accepted) ≡ 0
first-passed true v h = refl
first-passed false v h = h

module _ (b s : List ℕ) (r : ℕ) (next : List ℕ) (p : FreshIn b s r next) (h : r ≡ 0) where
  -- The fresh state of the setup.
  pub fresh_holds : Holds next (held (fresh_reader_call base (setup_of (setup_from s))).state)
  fresh_holds =
      let made = fresh_from (fresh_reader_call base (setup_of (setup_from s))) in
      let v = fresh_verdict_in reader_size b s in
      let n : C.verdict_number v ≡ 0 = sym p.number ∙ h in
      let ok : verdict_number made.verdict ≡ 0 = fresh-number s made refl ∙ first-passed (setup_good base (setup_of (setup_from s))) (C.check (eqb (length b) reader_size) C.state C.accepted) n in
      holds-packed next made.state (fresh-good s made refl ok) (p.state ∙ sym (stored_is v (packed made.state) b n))

module _ (b bytes : List ℕ) (r : ℕ) (next told : List ℕ) (p : RunIn b bytes r next told) (h : r ≡ 0) where
  -- The state after the run.
  pub run_holds : Holds next (held (ran_in b bytes).state)
  run_holds =
      let a = run_call base (seen (unpacked b)) bytes in
      let no = C.not_run C.state (seen (unpacked b)) in
      let v = (ran_in b bytes).verdict in
      let n : C.verdict_number v ≡ 0 = sym p.number ∙ h in
      let f : formed b ≡ true = run-formed (formed b) a no refl n in
      let same : ran_in b bytes ≡ a = ap (λ t. cond t a no) f in
      let ok : verdict_number (ran_from a).verdict ≡ 0 = number-seen a.verdict ∙ ap (λ (x : C.Ran). C.verdict_number x.verdict) (sym same) ∙ n in
      let g : reader_good base (seen (held (ran_in b bytes).state)) ≡ true = ap (λ (x : C.Ran). reader_good base (seen (held x.state))) same ∙ run-good b bytes f (ran_from a) refl ok in
      holds-packed next (held (ran_in b bytes).state) g (p.state ∙ sym (stored_is v (packed (held (ran_in b bytes).state)) b n))

module _ (b : List ℕ) (image : List ℤ) (k r : ℕ) (next : List ℕ) (p : LoadIn b image k r next) (h : r ≡ 0) where
  -- The state after the load.
  pub load-holds : Holds next (held (loaded_in b image k).state)
  load-holds =
      let a = load_call base (seen (unpacked b)) image k in
      let no : C.Loaded = record { verdict = C.state; state = seen (unpacked b) } in
      let v = (loaded_in b image k).verdict in
      let n : C.verdict_number v ≡ 0 = sym p.number ∙ h in
      let f : formed b ≡ true = load-formed (formed b) a no refl n in
      let same : loaded_in b image k ≡ a = ap (λ t. cond t a no) f in
      let ok : verdict_number (loaded_from a).verdict ≡ 0 = number-seen a.verdict ∙ ap (λ (x : C.Loaded). C.verdict_number x.verdict) (sym same) ∙ n in
      let g : reader_good base (seen (held (loaded_in b image k).state)) ≡ true = ap (λ (x : C.Loaded). reader_good base (seen (held x.state))) same ∙ load-good b image k f (loaded_from a) refl ok in
      holds-packed next (held (loaded_in b image k).state) g (p.state ∙ sym (stored_is v (packed (held (loaded_in b image k).state)) b n))
