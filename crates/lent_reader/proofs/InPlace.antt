-- A run on a state where it lies: the tables that its bytes lend, and that what it leaves are the bytes of the model's next state. Cited by the proofs of `run` and its parts. Assumes nothing.
use mathlib.Core.Path.{◌≡◌, refl, sym, ap, ap₂, subst, ◌∙◌}
use mathlib.Core.Bool.{true, false}
use mathlib.Core.List.{List, ◌++◌}
use Prim.Native.Nat.{ℕ, ◌+◌, ◌-◌, ◌*◌, ◌/◌, ◌%◌, ◌≤◌, ◌<◌, ◌^◌}
use native.Mathlib.Omega.{arith}
use borrow.Rule.Slice.PartMut.{put_mid}
use lib.Dec.{eqb}
use lib.ListN.{length, get_or, take, drop, length-drop, get_or-append}
use lib.Seq.{get_or-take, get_or-drop, get_or-append-add, length-take-le, take_all, drop-drop}
use Rattle.model.specs.Panel.{base, records, setup_good}
use Rattle.model.specs.Records.{low_bytes, lay, events_of, events_from}
use Rattle.model.specs.Reader as R
use Rattle.model.specs.Reader.{Lost, following, nothing}
use Rattle.model.specs.States.{reader_good}
use Rattle.model.specs.Calls as C
use Rattle.model.proofs.Bools.{holds}
use Rattle.model.proofs.Bytes.{events-length}
use Rattle.model.proofs.Answers.{run-bad-state, run_ragged, run-whole}
use Rattle.model.proofs.Calls.{events_steady, reader-state}
use Rattle.records.proofs.Over.{lay-length}
use Rattle.common.specs.declared.Mode.{Mode}
use Rattle.common.specs.declared.Mode.TheVariants.{Following}
use Rattle.common.specs.declared.Counts.{Counts}
use Rattle.std.specs.Prelude.{None}
use Rattle.common.specs.Lost.{last_mode}
use Rattle.common.specs.Runs.{onward}
use Rattle.common.specs.Seen.{mode_of, mode_from, counts_of}
use Rattle.common.proofs.Back.{mode_back, counts-seen}
use Rattle.panel.specs.declared.Setup.{Setup}
use Rattle.panel.specs.Seen.{table_from, setup_of, panel_seen, unused_all, SameFrom}
use Rattle.panel.proofs.Back.{table_back}
use Rattle.follow.specs.declared.Ended.{Ended}
use Rattle.follow.specs.Seen.{reader_of}
use Rattle.follow.specs.Runs.{ended_from, lost_at}
use Rattle.reader.specs.declared.ReaderState.{ReaderState}
use Rattle.reader.specs.States.{seen, held, accepted}
use Rattle.reader.proofs.States.{good-setup, good-small, good-current, good-rest, good-settled, follow-run, lost_run}
use Rattle.lent.specs.Lent.{slots_from, setup_in, Bytes}
use Rattle.lent.proofs.Slots.{word_back, setup-kept-before, setup-kept-after}
use Rattle.lent.proofs.Tables.{slots_same, slots-after}
use Rattle.lent_follow.specs.InPlace.{both_size, shown_in, pending_in}
use Rattle.lent_reader.specs.Layout.{reader_kind, current_at, setup_at, shown_at, pending_at, head_size, body_size, reader_size, formed, unpacked, head_bytes, body_bytes, packed}
use Rattle.lent_reader.specs.Seen.{counts_row, stored, RunIn}
use Rattle.lent_reader.specs.Runs.{EndsIn}
use Rattle.lent_reader.proofs.Back.{body_again}
use Rattle.lent_reader.proofs.Calls.{run_in}

-- ---- a state with another mode

abbrev pub with_mode : Mode → ReaderState → ReaderState
with_mode m s = record { shown = s.shown; pending = s.pending; setup = s.setup; current = s.current; mode = m }

-- A head laid over whole bytes gives the state that they hold its mode.
pub head_stored : (b : List ℕ) → Bytes b → length b ≡ reader_size → (m : Mode) → lay 0 (head_bytes reader_kind m 0) b ≡ packed (with_mode m (unpacked b))
unfolding lay packed body_bytes
head_stored b made size m =
    let all : length (drop head_size b) ≤ body_size = omega (arith, length-drop head_size b, size) in
    ap (λ l. head_bytes reader_kind m 0 ++ l) (sym (body_again b made (omega (arith, size)) ∙ take_all body_size (drop head_size b) all))

-- ---- the tables that are lent

abbrev pub lent_of : List ℕ → List ℕ
lent_of b = take both_size (drop shown_at b)

module _ (b : List ℕ) (size : length b ≡ reader_size) where
  pub lent_length : length (lent_of b) ≡ both_size
  lent_length = length-take-le both_size (drop shown_at b) (omega (arith, length-drop shown_at b, size))

  lent_byte : (i : ℕ) → i < both_size → get_or (lent_of b) i 0 ≡ get_or b (shown_at + i) 0
  lent_byte i h = get_or-take both_size (drop shown_at b) i 0 h ∙ get_or-drop shown_at b i 0

  pub lent_shown : shown_in (lent_of b) ≡ slots_from records b shown_at
  lent_shown = slots_same records (lent_of b) 0 b shown_at (λ i h. let z : 0 + i ≡ i = omega arith in rw z (lent_byte i (omega arith)))

  pub lent_pending : pending_in (lent_of b) ≡ slots_from records b pending_at
  lent_pending =
      slots_same records (lent_of b) 768 b pending_at
      (λ i h. lent_byte (768 + i) (omega arith) ∙ (let z : 32 + (768 + i) ≡ 800 + i = omega arith in ap (λ k. get_or b k 0) z))

-- ---- tables put back

module _ (b t : List ℕ) (size : length b ≡ reader_size) (both : length t ≡ both_size) where
  -- The bytes with these tables.
  abbrev back_in : List ℕ
  back_in = lay shown_at t b

  pub put_back : put_mid shown_at both_size b t ≡ back_in
  unfolding lay
  put_back = ap (λ l. take shown_at b ++ (t ++ l)) (drop-drop both_size shown_at b ∙ ap (λ n. drop (shown_at + n) b) (sym both))

  back_length : length back_in ≡ reader_size
  back_length = lay-length shown_at t b (omega (arith, size, both)) ∙ size

  back_byte : (i : ℕ) → i < both_size → get_or back_in (shown_at + i) 0 ≡ get_or t i 0
  unfolding lay
  back_byte i h =
      let rest = t ++ drop (shown_at + length t) b in
      let n : length (take shown_at b) ≡ shown_at = length-take-le shown_at b (omega (arith, size)) in
      ap (λ k. get_or (take shown_at b ++ rest) (k + i) 0) (sym n) ∙ get_or-append-add (take shown_at b) rest i 0 ∙ get_or-append t (drop (shown_at + length t) b) 0 i (omega (arith, both))

  back_shown : slots_from records back_in shown_at ≡ shown_in t
  back_shown = slots_same records back_in shown_at t 0 (λ i h. let z : 0 + i ≡ i = omega arith in rw z (back_byte i (omega arith)))

  back_pending : slots_from records back_in pending_at ≡ pending_in t
  back_pending =
      slots_same records back_in pending_at t 768
      (λ i h. (let z : 800 + i ≡ 32 + (768 + i) = omega arith in ap (λ k. get_or back_in k 0) z) ∙ back_byte (768 + i) (omega arith))

  -- And then the current slot.
  module _ (c : ℕ) (fits : c < 2 ^ 32) where
    abbrev current : List ℕ
    current = lay current_at (low_bytes 4 c) back_in

    pub current-length : length current ≡ reader_size
    current-length = lay-length current_at (low_bytes 4 c) back_in (omega (arith, back_length)) ∙ back_length

    pub current-holds : (m : Mode) → with_mode m (unpacked current)
        ≡ record { shown = shown_in t; pending = pending_in t; setup = setup_in b setup_at; current = record { 0 = c }; mode = m }
    current-holds m =
        let room : current_at ≤ length back_in = omega (arith, back_length) in
        let shown = slots-after current_at (low_bytes 4 c) back_in room records shown_at (omega arith) ∙ back_shown in
        let pending = slots-after current_at (low_bytes 4 c) back_in room records pending_at (omega arith) ∙ back_pending in
        let setup = setup-kept-after current_at (low_bytes 4 c) back_in room setup_at (omega arith) ∙ setup-kept-before shown_at t b (omega (arith, size)) setup_at (omega arith) in
        let now = word_back current_at c back_in fits (omega (arith, back_length)) in
        λ i. record { shown = shown i; pending = pending i; setup = setup i; current = record { 0 = now i }; mode = m }

-- Tables, current slot and mode stored one after the other, which leaves the last of these bytes.
pub following_stored : (b t : List ℕ) → length b ≡ reader_size → length t ≡ both_size → (c : ℕ) → c < 2 ^ 32 → (m : Mode) (b₁ b₂ : List ℕ) → Bytes b₁
    → b₁ ≡ lay current_at (low_bytes 4 c) (put_mid shown_at both_size b t) → b₂ ≡ lay 0 (head_bytes reader_kind m 0) b₁
    → b₂ ≡ packed (record { shown = shown_in t; pending = pending_in t; setup = setup_in b setup_at; current = record { 0 = c }; mode = m })
following_stored b t size both c fits m b₁ b₂ made e₁ e₂ =
    let is : b₁ ≡ current b t size both c fits = e₁ ∙ ap (lay current_at (low_bytes 4 c)) (put_back b t size both) in
    e₂ ∙ head_stored b₁ made (ap length is ∙ current-length b t size both c fits) m
    ∙ ap packed (ap (λ l. with_mode m (unpacked l)) is ∙ current-holds b t size both c fits m)

-- ---- a run's end

-- All that a run without track counts.
abbrev pub ignored_all : List ℕ → Counts
ignored_all bytes = record { shown = 0; types = 0; codes = 0; bad = 0; ignored = length bytes / 8; first = None }

all_ignored : (bytes : List ℕ) → ignored_all bytes ≡ record { shown = 0; types = 0; codes = 0; bad = 0; ignored = length (events_from (length bytes / 8 - 0) bytes (8 * 0)); first = None }
all_ignored bytes =
    let n = length bytes / 8 in
    let z : n - 0 ≡ n = omega arith in
    ap (λ (k : ℕ). record { shown = 0; types = 0; codes = 0; bad = 0; ignored = k; first = None }) (sym (events-length (n - 0) bytes (8 * 0) ∙ z))

module _ (b bytes : List ℕ) where
  abbrev s : ReaderState
  s = unpacked b

  abbrev pub end : Ended
  end = ended_from (R.run (panel_seen s.setup) (seen s).reader (events_of bytes))

  -- An end and the bytes of its state.
  pub ends_in : (e : Ended) (c : Counts) (next : List ℕ) → e ≡ end → c ≡ e.counts → next ≡ packed (accepted s.setup e).state → EndsIn b bytes c next
  ends_in e c next q k n = record { counts = k ∙ ap (λ (x : Ended). x.counts) q; state = n ∙ ap (λ (x : Ended). packed (accepted s.setup x).state) q }

  -- A run that follows, of the tables, the setup and the current slot that were read.
  pub follows : length b ≡ reader_size → s.mode ≡ Following → (u : Setup) (c : ℕ) (e : Ended) → u ≡ s.setup → c ≡ s.current.0
      → e ≡ ended_from (onward (panel_seen u) (reader_of (shown_in (lent_of b)) (pending_in (lent_of b)) c following) nothing (events_of bytes)) → e ≡ end
  follows size m u c e eu ec q =
      q
      ∙ ap₂ (λ x y. ended_from (onward (panel_seen u) (reader_of x y c following) nothing (events_of bytes))) (lent_shown b size) (lent_pending b size)
      ∙ ap₂ (λ x y. ended_from (onward (panel_seen x) (reader_of s.shown s.pending y following) nothing (events_of bytes))) eu ec
      ∙ ap ended_from (follow-run s bytes m)

  module _ (g : reader_good base (seen s) ≡ true) where
    -- The current slot is small.
    pub end_small : (e : Ended) → e ≡ end → e.current.0 < 2 ^ 32
    end_small e q =
        let below = (reader-state base _ (events_steady base (seen s) (events_of bytes) (holds _ g))).reader.below in
        rw q (omega (arith, below, (good-small s g).n))

    -- A run without track, whose last mode is this.
    pub lost_ends : (m last : Mode) → s.mode ≡ m → Lost (mode_of m) → mode_of last ≡ last_mode (mode_of m) (events_from (length bytes / 8 - 0) bytes (8 * 0))
        → (next : List ℕ) → next ≡ packed (with_mode last s) → EndsIn b bytes (ignored_all bytes) next
    lost_ends m last is l e next n =
        let es = events_from (length bytes / 8 - 0) bytes (8 * 0) in
        let nothing_pends : s.pending ≡ s.shown = sym (table_back s.pending) ∙ ap table_from (good-settled s g (subst (λ x. Lost (mode_of x)) (sym is) l)) ∙ table_back s.shown in
        let mode = sym (mode_back last) ∙ ap mode_from e in
        let same = ap₂ (λ p (q : Mode). packed (record { shown = s.shown; pending = p; setup = s.setup; current = s.current; mode = q })) nothing_pends mode in
        ends_in (lost_at s.shown s.current (mode_of m) nothing es) (ignored_all bytes) next (lost_run s bytes m g is l) (all_ignored bytes) (n ∙ same)

    -- What a run that follows asks for.
    pub follow-ready : length b ≡ reader_size → (u : Setup) (c : ℕ) → u ≡ s.setup → c ≡ s.current.0
        → (setup_good base (setup_of u) ≡ true) × (c < u.n) × (length (lent_of b) ≡ both_size) × SameFrom u.n (pending_in (lent_of b)) unused_all
    follow-ready size u c eu ec =
        let rest : SameFrom s.setup.n (pending_in (lent_of b)) unused_all = subst (λ p. SameFrom s.setup.n p unused_all) (sym (lent_pending b size)) (good-rest s g) in
        let below : c < s.setup.n = omega (arith, ec, good-current s g) in
        subst (λ x. (setup_good base (setup_of x) ≡ true) × (c < x.n) × (length (lent_of b) ≡ both_size) × SameFrom x.n (pending_in (lent_of b)) unused_all) (sym eu)
        (good-setup s g, below, lent_length b size, rest)

-- ---- the call

module _ (b bytes : List ℕ) (f : formed b ≡ true) where
  abbrev ran : C.Ran
  ran = C.run_call base (seen (unpacked b)) bytes

  -- Where the model's answer is known.
  answers : (a : C.Ran) → ran ≡ a → (next told : List ℕ) → next ≡ stored a.verdict (packed (held a.state)) b → told ≡ counts_row a.counts → RunIn b bytes (C.verdict_number a.verdict) next told
  answers a e next told x c =
      run_in b bytes true f (C.verdict_number a.verdict) next told
      (ap (λ (y : C.Ran). C.verdict_number y.verdict) (sym e))
      (x ∙ ap (λ (y : C.Ran). stored y.verdict (packed (held y.state)) b) (sym e))
      (c ∙ ap (λ (y : C.Ran). counts_row y.counts) (sym e))

  pub run_unfit : reader_good base (seen (unpacked b)) ≡ false → RunIn b bytes 2 b (counts_row nothing)
  run_unfit g = answers _ (run-bad-state base (seen (unpacked b)) bytes g) b (counts_row nothing) refl refl

  module _ (g : reader_good base (seen (unpacked b)) ≡ true) where
    pub run_unwhole : eqb (length bytes % 8) 0 ≡ false → RunIn b bytes 6 b (counts_row nothing)
    run_unwhole w = answers _ (run_ragged base (seen (unpacked b)) bytes g w) b (counts_row nothing) refl refl

    pub run_done : eqb (length bytes % 8) 0 ≡ true → (c : Counts) (next told : List ℕ) → EndsIn b bytes c next → told ≡ counts_row (counts_of c) → RunIn b bytes 0 next told
    run_done w c next told e k =
        answers _ (run-whole base (seen (unpacked b)) bytes g w) next told e.state (k ∙ ap (λ x. counts_row (counts_of x)) e.counts ∙ ap counts_row (counts-seen (R.run (panel_seen (unpacked b).setup) (seen (unpacked b)).reader (events_of bytes)).counts))
