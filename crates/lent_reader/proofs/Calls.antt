-- A fresh state and a load by value, stored where they were accepted, are what the promises over bytes say, and so is a run whose answer is known. Cited by the proofs of the public functions. Assumes nothing.
use mathlib.Core.Path.{◌≡◌, refl, sym, ap, ◌∙◌}
use mathlib.Core.Bool.{Bool, true, false, cond}
use mathlib.Core.List.{List, ◌++◌}
use Prim.Native.Nat.{ℕ}
use native.Mathlib.Omega.{arith}
use lib.Dec.{T}
use lib.IntN.{ℤ}
use lib.ListN.{length}
use Rattle.model.specs.Panel.{base, setup_good, panel_of}
use Rattle.model.specs.Records.{lay}
use Rattle.model.specs.States.{reader_good, fresh_reader}
use Rattle.model.specs.Calls as C
use Rattle.model.specs.Calls.{check, fresh_reader_call, run_call, load_call}
use Rattle.model.proofs.Bools.{is_true, holds}
use Rattle.model.proofs.Answers.{reader-made, run-bad-state, load-bad-state}
use Rattle.model.proofs.Calls.{state-reader, run_steady, load_steady}
use Rattle.model.proofs.FreshSteady.{fresh-reader}
use Rattle.panel.specs.Seen.{setup_of}
use Rattle.common.specs.Seen.{verdict_number}
use Rattle.common.proofs.Back.{number-seen}
use Rattle.reader.specs.declared.ReaderState.{ReaderState}
use Rattle.reader.specs.declared.FreshAnswer.{FreshAnswer}
use Rattle.reader.specs.declared.RunAnswer.{RunAnswer}
use Rattle.reader.specs.declared.LoadAnswer.{LoadAnswer}
use Rattle.reader.specs.States.{seen, held, fresh_from, ran_from}
use Rattle.reader.specs.Seen.{loaded_from}
use Rattle.reader.proofs.Held.{good-seen}
use Rattle.reader.proofs.Promises.{run-state, load-state}
use Rattle.lent_reader.specs.Layout.{reader_size, reader_kind, formed, unpacked, head_bytes, body_bytes, packed}
use Rattle.lent_reader.specs.Seen.{setup_from, counts_row, fresh_verdict_in, ran_in, loaded_in, stored, FreshIn, RunIn, LoadIn}
use Rattle.lent_reader.proofs.Stored.{formed-length, good-laid, stored-not, stored_is, bad-setup, good-setup, fresh-bad, fresh-short, fresh-taken}

-- A state's bytes as they are laid over those before.
abbrev over : ReaderState → List ℕ → List ℕ
over s b = lay 0 (head_bytes reader_kind s.mode 0 ++ body_bytes s) b

-- ---- a fresh state

-- Where the verdict is known.
fresh_in : (b s : List ℕ) (v : C.Verdict) → v ≡ fresh_verdict_in reader_size b s
    → FreshIn b s (C.verdict_number v) (stored v (packed (held (fresh_reader_call base (setup_of (setup_from s))).state)) b)
fresh_in b s v e = record { number = ap C.verdict_number e; state = ap (λ x. stored x (packed (held (fresh_reader_call base (setup_of (setup_from s))).state)) b) e }

module _ (s : List ℕ) (q : FreshAnswer) (e : q ≡ fresh_from (fresh_reader_call base (setup_of (setup_from s)))) where
  pub fresh-number : verdict_number q.verdict ≡ C.verdict_number (check (setup_good base (setup_of (setup_from s))) C.setup C.accepted)
  unfolding fresh_reader_call
  fresh-number = ap (λ (x : FreshAnswer). verdict_number x.verdict) e ∙ number-seen (check (setup_good base (setup_of (setup_from s))) C.setup C.accepted)

  -- An accepted one is good.
  pub fresh-good : verdict_number q.verdict ≡ 0 → reader_good base (seen q.state) ≡ true
  fresh-good h =
      let u = setup_from s in
      let r = fresh_reader (panel_of base (setup_of u)) in
      let ok : setup_good base (setup_of u) ≡ true = good-setup _ (sym fresh-number ∙ h) in
      let g : T (reader_good base (record { setup = setup_of u; reader = r })) = state-reader base _ (record { setup = holds _ ok; reader = fresh-reader base (setup_of u) (holds _ ok) }) in
      ap (λ (x : FreshAnswer). reader_good base (seen x.state)) e
      ∙ ap (λ (x : C.FreshReader). reader_good base (seen (held x.state))) (reader-made base (setup_of u) ok)
      ∙ ap (reader_good base) (good-seen u r g)
      ∙ is_true _ g

  module _ (b : List ℕ) where
    pub fresh-refused : (r : ℕ) → r ≡ verdict_number q.verdict → (r ≡ 0 → ⊥) → FreshIn b s r b
    fresh-refused r n h =
        let no : C.verdict_number (check (setup_good base (setup_of (setup_from s))) C.setup C.accepted) ≡ 0 → ⊥ = λ z. h (n ∙ fresh-number ∙ z) in
        let x = fresh_in b s C.setup (fresh-bad reader_size b s no) in
        record { number = n ∙ fresh-number ∙ ap (λ t. C.verdict_number (check t C.setup C.accepted)) (bad-setup (setup_good base (setup_of (setup_from s))) no) ∙ x.number; state = x.state }

    pub fresh_unfit : verdict_number q.verdict ≡ 0 → (length b ≡ reader_size → ⊥) → FreshIn b s 2 b
    fresh_unfit h n = fresh_in b s C.state (fresh-short reader_size b s (sym fresh-number ∙ h) n)

    pub fresh-stored : (next : List ℕ) → verdict_number q.verdict ≡ 0 → length b ≡ reader_size → next ≡ over q.state b → FreshIn b s 0 next
    fresh-stored next h n x =
        let y = fresh_in b s C.accepted (fresh-taken reader_size b s (sym fresh-number ∙ h) n) in
        record { number = y.number; state = x ∙ good-laid q.state (fresh-good h) b n ∙ ap (λ (z : FreshAnswer). packed z.state) e ∙ y.state }

-- ---- a run

module _ (b bytes : List ℕ) where
  abbrev ran : C.Ran
  ran = run_call base (seen (unpacked b)) bytes

  abbrev by_test : Bool → C.Ran
  by_test t = cond t ran (C.not_run C.state (seen (unpacked b)))

  -- Where the model's answer is known.
  pub run_in : (t : Bool) → formed b ≡ t → (r : ℕ) (next told : List ℕ)
      → r ≡ C.verdict_number (by_test t).verdict → next ≡ stored (by_test t).verdict (packed (held (by_test t).state)) b → told ≡ counts_row (by_test t).counts → RunIn b bytes r next told
  run_in t e r next told n x c =
      let q : by_test t ≡ ran_in b bytes = ap by_test (sym e) in
      record {
        number = n ∙ ap (λ (y : C.Ran). C.verdict_number y.verdict) q;
        state = x ∙ ap (λ (y : C.Ran). stored y.verdict (packed (held y.state)) b) q;
        answer = c ∙ ap (λ (y : C.Ran). counts_row y.counts) q;
      }

  module _ (f : formed b ≡ true) (q : RunAnswer) (e : q ≡ ran_from ran) where
    run-number : verdict_number q.verdict ≡ C.verdict_number ran.verdict
    run-number = ap (λ (x : RunAnswer). verdict_number x.verdict) e ∙ number-seen ran.verdict

    -- An accepted one was of a good state.
    run_found : (t : Bool) → reader_good base (seen (unpacked b)) ≡ t → verdict_number q.verdict ≡ 0 → T t
    run_found true g h = tt
    run_found false g h = absurd (omega (arith, sym (ap (λ (x : C.Ran). C.verdict_number x.verdict) (run-bad-state base (seen (unpacked b)) bytes g)) ∙ sym run-number ∙ h))

    -- And leaves one.
    pub run-good : verdict_number q.verdict ≡ 0 → reader_good base (seen q.state) ≡ true
    run-good h = ap (reader_good base) (run-state (unpacked b) bytes q e) ∙ is_true _ (run_steady base (seen (unpacked b)) bytes (run_found _ refl h))

-- ---- a load

module _ (b : List ℕ) (image : List ℤ) (k : ℕ) where
  abbrev loaded : C.Loaded
  loaded = load_call base (seen (unpacked b)) image k

  abbrev by_form : Bool → C.Loaded
  by_form t = cond t loaded (record { verdict = C.state; state = seen (unpacked b) })

  -- Where the model's answer is known.
  pub load_in : (t : Bool) → formed b ≡ t → (r : ℕ) (next : List ℕ)
      → r ≡ C.verdict_number (by_form t).verdict → next ≡ stored (by_form t).verdict (packed (held (by_form t).state)) b → LoadIn b image k r next
  load_in t e r next n x =
      let q : by_form t ≡ loaded_in b image k = ap by_form (sym e) in
      record {
        number = n ∙ ap (λ (y : C.Loaded). C.verdict_number y.verdict) q;
        state = x ∙ ap (λ (y : C.Loaded). stored y.verdict (packed (held y.state)) b) q;
      }

  module _ (f : formed b ≡ true) (q : LoadAnswer) (e : q ≡ loaded_from loaded) where
    load-number : verdict_number q.verdict ≡ C.verdict_number loaded.verdict
    load-number = ap (λ (x : LoadAnswer). verdict_number x.verdict) e ∙ number-seen loaded.verdict

    pub load-refused : (r : ℕ) → r ≡ verdict_number q.verdict → (r ≡ 0 → ⊥) → LoadIn b image k r b
    load-refused r n h = load_in true f r b (n ∙ load-number) (stored-not loaded.verdict (packed (held loaded.state)) b (λ z. h (n ∙ load-number ∙ z)))

    load_found : (t : Bool) → reader_good base (seen (unpacked b)) ≡ t → verdict_number q.verdict ≡ 0 → T t
    load_found true g h = tt
    load_found false g h = absurd (omega (arith, sym (ap (λ (x : C.Loaded). C.verdict_number x.verdict) (load-bad-state base (seen (unpacked b)) image k g)) ∙ sym load-number ∙ h))

    pub load-good : verdict_number q.verdict ≡ 0 → reader_good base (seen q.state) ≡ true
    load-good h = ap (reader_good base) (load-state (unpacked b) image k q e) ∙ is_true _ (load_steady base (seen (unpacked b)) image k (load_found _ refl h))

    pub load_stored : (next : List ℕ) → verdict_number q.verdict ≡ 0 → next ≡ over q.state b → LoadIn b image k 0 next
    load_stored next h x =
        let laid = x ∙ good-laid q.state (load-good h) b (formed-length b f) ∙ ap (λ (y : LoadAnswer). packed y.state) e in
        load_in true f 0 next (sym h ∙ load-number) (laid ∙ stored_is loaded.verdict (packed (held loaded.state)) b (sym load-number ∙ h))
