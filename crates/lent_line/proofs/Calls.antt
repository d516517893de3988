-- Each call by value, with its state stored where it was accepted and its answer in numbers, is what the promise over bytes says. Cited by the proofs of the public functions. Assumes nothing.
use mathlib.Core.Path.{◌≡◌, refl, sym, ap, ◌∙◌}
use mathlib.Core.Bool.{Bool, true, false, cond}
use mathlib.Core.List.{List, ◌++◌}
use Prim.Native.Nat.{ℕ}
use native.Mathlib.Omega.{arith}
use lib.Dec.{T}
use lib.IntN.{ℤ}
use lib.ListN.{length}
use Rattle.model.specs.Panel.{base, setup_good}
use Rattle.model.specs.Records.{lay}
use Rattle.model.specs.States.{reader_good}
use Rattle.model.specs.Calls as C
use Rattle.model.specs.Calls.{check, fresh_reader_call}
use Rattle.model.specs.Pieces as M
use Rattle.model.specs.Pieces.{line_good, fresh_line_call, take_call, line_load_call}
use Rattle.model.proofs.Bools.{is_true}
use Rattle.model.proofs.Pieces.{take-refused, take_steady, line-load_steady}
use Rattle.panel.specs.Seen.{setup_of}
use Rattle.common.specs.Seen.{verdict_number, counts_of}
use Rattle.common.proofs.Back.{number-seen, counts-seen}
use Rattle.reader.specs.States as R
use Rattle.pieces.specs.declared.LineState.{LineState}
use Rattle.pieces.specs.declared.FreshAnswer.{FreshAnswer}
use Rattle.pieces.specs.declared.TakeAnswer.{TakeAnswer}
use Rattle.pieces.specs.declared.LoadAnswer.{LoadAnswer}
use Rattle.pieces.specs.Seen.{seen, held, fresh_from, taken_from, loaded_from}
use Rattle.pieces.proofs.Promises.{take-state, load-state}
use Rattle.lent_reader.specs.Layout.{head_bytes, body_bytes}
use Rattle.lent_reader.specs.Seen.{setup_from, counts_row, fresh_verdict_in, stored}
use Rattle.lent_reader.proofs.Stored.{stored-not, stored_is, bad-setup, fresh-bad, fresh-short, fresh-taken}
use Rattle.lent_reader.proofs.Calls as Reader
use Rattle.lent_line.specs.Layout.{line_kind, left_at, line_size, formed, unpacked, tail_bytes, packed}
use Rattle.lent_line.specs.Seen.{taken_in, loaded_in, FreshIn, TakeIn, LoadIn}
use Rattle.lent_line.proofs.Laid.{formed-length, Ready, ready, ready-laid}

-- A state's bytes as they are laid over those before.
abbrev over : LineState → List ℕ → List ℕ
over s b = lay left_at (tail_bytes s.left) (lay 0 (head_bytes line_kind s.reader.mode s.count ++ body_bytes s.reader) b)

-- ---- a fresh state

-- Where the verdict is known.
fresh_in : (b s : List ℕ) (v : C.Verdict) → v ≡ fresh_verdict_in line_size b s
    → FreshIn b s (C.verdict_number v) (stored v (packed (held (fresh_line_call base (setup_of (setup_from s))).state)) b)
fresh_in b s v e = record { number = ap C.verdict_number e; state = ap (λ x. stored x (packed (held (fresh_line_call base (setup_of (setup_from s))).state)) b) e }

module _ (s : List ℕ) (q : FreshAnswer) (e : q ≡ fresh_from (fresh_line_call base (setup_of (setup_from s)))) where
  abbrev asked : Bool
  asked = setup_good base (setup_of (setup_from s))

  pub fresh-number : verdict_number q.verdict ≡ C.verdict_number (check asked C.setup C.accepted)
  unfolding fresh_line_call fresh_reader_call
  fresh-number = ap (λ (x : FreshAnswer). verdict_number x.verdict) e ∙ number-seen (check asked C.setup C.accepted)

  -- An accepted one can be stored.
  pub fresh-ready : verdict_number q.verdict ≡ 0 → Ready q.state
  unfolding fresh_line_call fresh_reader_call
  fresh-ready h =
      let made = R.fresh_from (fresh_reader_call base (setup_of (setup_from s))) in
      let same : verdict_number q.verdict ≡ verdict_number made.verdict = ap (λ (x : FreshAnswer). verdict_number x.verdict) e in
      record {
        good = ap (λ (x : FreshAnswer). reader_good base (R.seen x.state.reader)) e ∙ Reader.fresh-good s made refl (sym same ∙ h);
        left = ap (λ (x : FreshAnswer). length x.state.left) e;
        few = omega (arith, ap (λ (x : FreshAnswer). x.state.count) e);
      }

  module _ (b : List ℕ) where
    pub fresh-refused : (r : ℕ) → r ≡ verdict_number q.verdict → (r ≡ 0 → ⊥) → FreshIn b s r b
    fresh-refused r n h =
        let no : C.verdict_number (check asked C.setup C.accepted) ≡ 0 → ⊥ = λ z. h (n ∙ fresh-number ∙ z) in
        let x = fresh_in b s C.setup (fresh-bad line_size b s no) in
        record { number = n ∙ fresh-number ∙ ap (λ t. C.verdict_number (check t C.setup C.accepted)) (bad-setup asked no) ∙ x.number; state = x.state }

    pub fresh_unfit : verdict_number q.verdict ≡ 0 → (length b ≡ line_size → ⊥) → FreshIn b s 2 b
    fresh_unfit h n = fresh_in b s C.state (fresh-short line_size b s (sym fresh-number ∙ h) n)

    pub fresh-stored : (next : List ℕ) → verdict_number q.verdict ≡ 0 → length b ≡ line_size → next ≡ over q.state b → FreshIn b s 0 next
    fresh-stored next h n x =
        let y = fresh_in b s C.accepted (fresh-taken line_size b s (sym fresh-number ∙ h) n) in
        record { number = y.number; state = x ∙ ready-laid q.state (fresh-ready h) b n ∙ ap (λ (z : FreshAnswer). packed z.state) e ∙ y.state }

-- ---- a piece

module _ (b piece : List ℕ) where
  abbrev taken : M.Taken
  taken = take_call base (seen (unpacked b)) piece

  abbrev by_test : Bool → M.Taken
  by_test t = cond t taken (M.not_taken C.state (seen (unpacked b)))

  -- Where the model's answer is known.
  pub take_in : (t : Bool) → formed b ≡ t → (r : ℕ) (next told : List ℕ)
      → r ≡ C.verdict_number (by_test t).verdict → next ≡ stored (by_test t).verdict (packed (held (by_test t).state)) b → told ≡ counts_row (by_test t).counts → TakeIn b piece r next told
  take_in t e r next told n x c =
      let q : by_test t ≡ taken_in b piece = ap by_test (sym e) in
      record {
        number = n ∙ ap (λ (y : M.Taken). C.verdict_number y.verdict) q;
        state = x ∙ ap (λ (y : M.Taken). stored y.verdict (packed (held y.state)) b) q;
        answer = c ∙ ap (λ (y : M.Taken). counts_row y.counts) q;
      }

  module _ (f : formed b ≡ true) (q : TakeAnswer) (e : q ≡ taken_from taken) where
    take-number : verdict_number q.verdict ≡ C.verdict_number taken.verdict
    take-number = ap (λ (x : TakeAnswer). verdict_number x.verdict) e ∙ number-seen taken.verdict

    take-counts : counts_row (counts_of q.counts) ≡ counts_row taken.counts
    take-counts = ap (λ (x : TakeAnswer). counts_row (counts_of x.counts)) e ∙ ap counts_row (counts-seen taken.counts)

    pub take-refusal : (r : ℕ) (told : List ℕ) → r ≡ verdict_number q.verdict → (r ≡ 0 → ⊥) → told ≡ counts_row (counts_of q.counts) → TakeIn b piece r b told
    take-refusal r told n h c =
        take_in true f r b told (n ∙ take-number) (stored-not taken.verdict (packed (held taken.state)) b (λ z. h (n ∙ take-number ∙ z))) (c ∙ take-counts)

    -- An accepted one was of a good state.
    take_found : (t : Bool) → line_good base (seen (unpacked b)) ≡ t → verdict_number q.verdict ≡ 0 → T t
    take_found true g h = tt
    take_found false g h = absurd (omega (arith, sym (ap (λ (x : M.Taken). C.verdict_number x.verdict) (take-refused base (seen (unpacked b)) piece g)) ∙ sym take-number ∙ h))

    -- And leaves one, which can be stored.
    pub take-ready : verdict_number q.verdict ≡ 0 → Ready q.state
    take-ready h =
        ready q.state
        (ap (line_good base) (take-state (unpacked b) piece q e) ∙ is_true _ (take_steady base (seen (unpacked b)) (take_found _ refl h) piece))

    pub take-stored : (next told : List ℕ) → verdict_number q.verdict ≡ 0 → next ≡ over q.state b → told ≡ counts_row (counts_of q.counts) → TakeIn b piece 0 next told
    take-stored next told h x c =
        let laid = x ∙ ready-laid q.state (take-ready h) b (formed-length b f) ∙ ap (λ (y : TakeAnswer). packed y.state) e in
        take_in true f 0 next told (sym h ∙ take-number) (laid ∙ stored_is taken.verdict (packed (held taken.state)) b (sym take-number ∙ h)) (c ∙ take-counts)

-- ---- a load

load-bad-line : (s : M.LineState) (image : List ℤ) (k : ℕ) → line_good base s ≡ false → line_load_call base s image k ≡ record { verdict = C.state; state = s }
unfolding line_load_call
load-bad-line s image k e = rw e

module _ (b : List ℕ) (image : List ℤ) (k : ℕ) where
  abbrev loaded : M.LineLoaded
  loaded = line_load_call base (seen (unpacked b)) image k

  abbrev by_form : Bool → M.LineLoaded
  by_form t = cond t loaded (record { verdict = C.state; state = seen (unpacked b) })

  -- Where the model's answer is known.
  pub load_in : (t : Bool) → formed b ≡ t → (r : ℕ) (next : List ℕ)
      → r ≡ C.verdict_number (by_form t).verdict → next ≡ stored (by_form t).verdict (packed (held (by_form t).state)) b → LoadIn b image k r next
  load_in t e r next n x =
      let q : by_form t ≡ loaded_in b image k = ap by_form (sym e) in
      record {
        number = n ∙ ap (λ (y : M.LineLoaded). C.verdict_number y.verdict) q;
        state = x ∙ ap (λ (y : M.LineLoaded). stored y.verdict (packed (held y.state)) b) q;
      }

  module _ (f : formed b ≡ true) (q : LoadAnswer) (e : q ≡ loaded_from loaded) where
    load-number : verdict_number q.verdict ≡ C.verdict_number loaded.verdict
    load-number = ap (λ (x : LoadAnswer). verdict_number x.verdict) e ∙ number-seen loaded.verdict

    pub load-refused : (r : ℕ) → r ≡ verdict_number q.verdict → (r ≡ 0 → ⊥) → LoadIn b image k r b
    load-refused r n h = load_in true f r b (n ∙ load-number) (stored-not loaded.verdict (packed (held loaded.state)) b (λ z. h (n ∙ load-number ∙ z)))

    load_found : (t : Bool) → line_good base (seen (unpacked b)) ≡ t → verdict_number q.verdict ≡ 0 → T t
    load_found true g h = tt
    load_found false g h = absurd (omega (arith, sym (ap (λ (x : M.LineLoaded). C.verdict_number x.verdict) (load-bad-line (seen (unpacked b)) image k g)) ∙ sym load-number ∙ h))

    pub load-ready : verdict_number q.verdict ≡ 0 → Ready q.state
    load-ready h =
        ready q.state
        (ap (line_good base) (load-state (unpacked b) image k q e) ∙ is_true _ (line-load_steady base (seen (unpacked b)) (load_found _ refl h) image k))

    pub load_stored : (next : List ℕ) → verdict_number q.verdict ≡ 0 → next ≡ over q.state b → LoadIn b image k 0 next
    load_stored next h x =
        let laid = x ∙ ready-laid q.state (load-ready h) b (formed-length b f) ∙ ap (λ (y : LoadAnswer). packed y.state) e in
        load_in true f 0 next (sym h ∙ load-number) (laid ∙ stored_is loaded.verdict (packed (held loaded.state)) b (sym load-number ∙ h))
