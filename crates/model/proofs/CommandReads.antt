-- Commands read at a position: by cases; the place moves on at every answer that does not wait, past the whole command; what stands before the
-- position and what comes later. Cited by the other laws of commands and by the crate commands. Assumes nothing.
use mathlib.Core.Path.{◌≡◌, refl, sym, ap, ap₂, ◌∙◌}
use mathlib.Core.Bool.{Bool, true, false, cond, false≢true}
use mathlib.Core.List.{List, [], ◌∷◌, ◌++◌}
use Prim.Native.Nat.{ℕ, zero, suc, ◌+◌, ◌-◌, ◌≤◌, ◌<◌}
use native.Mathlib.Omega.{arith}
use lib.Dec.{ltb, eqb, lit≤}
use lib.ListN.{length, get_or, drop, length-append, length-drop, get_or-append}
use lib.Seq.{get_or-drop, drop-append-le, drop-append-add}
use borrow.Author.Tests.{ltb-true, ltb-false, lt-ltb, le-ltb, ne_eqb}
use Rattle.model.specs.Pod.{byte_at, clock_in}
use Rattle.model.specs.Commands.{Command, reset, buttons, threshold, scale, set_clock, good_command}
use Rattle.model.specs.Commands.{Kind, reset_kind, buttons_kind, relative_kind, absolute_kind, threshold_kind, scale_kind, interrogate_kind, load_kind}
use Rattle.model.specs.Commands.{set_clock_kind, ask_clock_kind, other_kind, kind_of, length_of}
use Rattle.model.specs.Commands.{Answer, command, lost, refused, unfinished, nothing, waits, Read, judged, read_by, command_in, moved_by, read_at}
use Rattle.model.specs.Commands.{reads_by, reads, ends_waiting}

-- ---- whole commands

-- Every command has a byte, and at most seven.
pub sizes : (k : Kind) → (1 ≤ length_of k) × (length_of k ≤ 7)
sizes reset_kind = (lit≤ tt, lit≤ tt)
sizes buttons_kind = (lit≤ tt, lit≤ tt)
sizes relative_kind = (lit≤ tt, lit≤ tt)
sizes absolute_kind = (lit≤ tt, lit≤ tt)
sizes threshold_kind = (lit≤ tt, lit≤ tt)
sizes scale_kind = (lit≤ tt, lit≤ tt)
sizes interrogate_kind = (lit≤ tt, lit≤ tt)
sizes load_kind = (lit≤ tt, lit≤ tt)
sizes set_clock_kind = (lit≤ tt, lit≤ tt)
sizes ask_clock_kind = (lit≤ tt, lit≤ tt)
sizes other_kind = (lit≤ tt, lit≤ tt)

-- A first byte that is none of the ten's is not for us.
pub other-kind : (b : ℕ)
    → (b ≡ 0x80 → ⊥) → (b ≡ 0x07 → ⊥) → (b ≡ 0x08 → ⊥) → (b ≡ 0x09 → ⊥) → (b ≡ 0x0b → ⊥)
    → (b ≡ 0x0c → ⊥) → (b ≡ 0x0d → ⊥) → (b ≡ 0x0e → ⊥) → (b ≡ 0x1b → ⊥) → (b ≡ 0x1c → ⊥) → kind_of b ≡ other_kind
unfolding kind_of
other-kind b h80 h07 h08 h09 h0b h0c h0d h0e h1b h1c =
    rw (
      ne_eqb b 0x80 h80,
      ne_eqb b 0x07 h07,
      ne_eqb b 0x08 h08,
      ne_eqb b 0x09 h09,
      ne_eqb b 0x0b h0b,
      ne_eqb b 0x0c h0c,
      ne_eqb b 0x0d h0d,
      ne_eqb b 0x0e h0e,
      ne_eqb b 0x1b h1b,
      ne_eqb b 0x1c h1c,
    )

by_taking : (t : Bool) (c : Command) (other : Answer) → waits other ≡ false → waits (cond t (command c) other) ≡ false
by_taking true c other e = refl
by_taking false c other e = e

-- A whole command is answered: nothing waits.
pub judged-told : (k : Kind) (b : List ℕ) → waits (judged k b) ≡ false
judged-told reset_kind b = by_taking (eqb (byte_at b 1) 1) reset lost refl
judged-told buttons_kind b = by_taking (good_command (buttons (byte_at b 1))) _ refused refl
judged-told relative_kind b = refl
judged-told absolute_kind b = refl
judged-told threshold_kind b = by_taking (good_command (threshold (byte_at b 1) (byte_at b 2))) _ refused refl
judged-told scale_kind b = by_taking (good_command (scale (byte_at b 1) (byte_at b 2))) _ refused refl
judged-told interrogate_kind b = refl
judged-told load_kind b = by_taking (eqb (byte_at b 1) 0) _ refused refl
judged-told set_clock_kind b = by_taking (good_command (set_clock (clock_in b))) _ refused refl
judged-told ask_clock_kind b = refl
judged-told other_kind b = refl

-- Its bytes alone decide, and not what follows.
pub judged_longer : (k : Kind) (b more : List ℕ) → length_of k ≤ length b → judged k (b ++ more) ≡ judged k b
judged_longer k b more h = go k h
  where
    same : (i : ℕ) → i < length b → get_or (b ++ more) i 0 ≡ get_or b i 0
    same i l = get_or-append b more 0 i l

    go : (k : Kind) → length_of k ≤ length b → judged k (b ++ more) ≡ judged k b
    go reset_kind l = rw (same 1 (omega arith))
    go buttons_kind l = rw (same 1 (omega arith))
    go relative_kind l = refl
    go absolute_kind l = rw (same 1 (omega arith), same 2 (omega arith), same 3 (omega arith), same 4 (omega arith))
    go threshold_kind l = rw (same 1 (omega arith), same 2 (omega arith))
    go scale_kind l = rw (same 1 (omega arith), same 2 (omega arith))
    go interrogate_kind l = refl
    go load_kind l = rw (same 1 (omega arith), same 2 (omega arith), same 3 (omega arith), same 4 (omega arith), same 5 (omega arith))
    go set_clock_kind l =
        rw (same 1 (omega arith), same 2 (omega arith), same 3 (omega arith), same 4 (omega arith), same 5 (omega arith), same 6 (omega arith))
    go ask_clock_kind l = refl
    go other_kind l = refl

-- ---- at a position, by cases

module _ (input : List ℕ) (at : ℕ) where
  -- The kind of the command that begins there; past the end the byte counts as 0.
  abbrev pub kind_at : Kind
  kind_at = kind_of (get_or input at 0)

  first-is : byte_at (drop at input) 0 ≡ get_or input at 0
  first-is = let z : at + 0 ≡ at = omega arith in get_or-drop at input 0 0 ∙ ap (λ i. get_or input i 0) z

  here : at < length input → read_at input at ≡ moved_by at (read_by kind_at (drop at input))
  unfolding read_at command_in
  here h = rw (lt-ltb at (length input) h, first-is)

  -- From the end on there is nothing,
  pub read_none : length input ≤ at → read_at input at ≡ record { answer = nothing; next = length input }
  unfolding read_at
  read_none h = rw (le-ltb at (length input) h)

  -- a command cut short is unfinished, at its first byte,
  pub read-cut : at < length input → length input - at < length_of kind_at → read_at input at ≡ record { answer = unfinished; next = at }
  read-cut h l =
      let z : at + 0 ≡ at = omega arith in
      let few : length (drop at input) < length_of kind_at = rw (length-drop at input) l in
      here h
      ∙ ap (λ t. moved_by at (cond t (record { answer = unfinished; next = 0 }) (record { answer = judged kind_at (drop at input); next = length_of kind_at })))
      (lt-ltb (length (drop at input)) (length_of kind_at) few)
      ∙ ap (λ n. record { answer = unfinished; next = n }) z

  -- and a whole one is judged, and gone past.
  pub read_whole : at < length input → length_of kind_at ≤ length input - at
      → read_at input at ≡ record { answer = judged kind_at (drop at input); next = at + length_of kind_at }
  read_whole h l =
      let many : length_of kind_at ≤ length (drop at input) = rw (length-drop at input) l in
      here h
      ∙ ap (λ t. moved_by at (cond t (record { answer = unfinished; next = 0 }) (record { answer = judged kind_at (drop at input); next = length_of kind_at })))
      (le-ltb (length (drop at input)) (length_of kind_at) many)

  -- What holds in each of the three cases holds.
  pub by_read : (P : Read → Type 0)
      → (length input ≤ at → P (record { answer = nothing; next = length input }))
      → (at < length input → length input - at < length_of kind_at → P (record { answer = unfinished; next = at }))
      → (at < length input → length_of kind_at ≤ length input - at → P (record { answer = judged kind_at (drop at input); next = at + length_of kind_at }))
      → P (read_at input at)
  by_read P none cut whole = go (ltb at (length input)) (ltb (length input - at) (length_of kind_at)) refl refl
    where
      go : (s t : Bool) → ltb at (length input) ≡ s → ltb (length input - at) (length_of kind_at) ≡ t → P (read_at input at)
      go false t e f = let l = ltb-false at (length input) e in rw (read_none l) (none l)
      go true true e f =
          let h = ltb-true at (length input) e in
          let l = ltb-true (length input - at) (length_of kind_at) f in
          rw (read-cut h l) (cut h l)
      go true false e f =
          let h = ltb-true at (length input) e in
          let l = ltb-false (length input - at) (length_of kind_at) f in
          rw (read_whole h l) (whole h l)

  -- The place moves on at every answer but unfinished and nothing: past the whole command, also where it is refused or lost, and never past the
  -- end.
  pub read-on : waits (read_at input at).answer ≡ false
      → ((read_at input at).next ≡ at + length_of kind_at) × (at < (read_at input at).next) × ((read_at input at).next ≤ length input)
  read-on =
      by_read (λ r. waits r.answer ≡ false → (r.next ≡ at + length_of kind_at) × (at < r.next) × (r.next ≤ length input))
      (λ l e. absurd (false≢true (sym e)))
      (λ h l e. absurd (false≢true (sym e)))
      (λ h l e. (refl, omega (arith, sizes kind_at), omega arith))

  -- It is never past the end, whatever the answer,
  pub read_within : (read_at input at).next ≤ length input
  read_within =
      by_read (λ r. r.next ≤ length input)
      (λ l. omega arith)
      (λ h l. omega arith)
      (λ h l. omega arith)

  -- and stays at the first byte of a command that is unfinished.
  pub read-unfinished : (read_at input at).answer ≡ unfinished → (read_at input at).next ≡ at
  read-unfinished =
      by_read (λ r. r.answer ≡ unfinished → r.next ≡ at)
      (λ l e. let z : ◌≡◌ {A = ℕ} 0 1 = cc in absurd (omega arith))
      (λ h l e. refl)
      (λ h l e. absurd (false≢true (sym (judged-told kind_at (drop at input)) ∙ ap waits e)))

-- ---- what stands before the position, and what comes later

-- Reading behind other bytes is reading, all places counted from there.
pub read_behind : (before input : List ℕ) (at : ℕ) → read_at (before ++ input) (length before + at) ≡ moved_by (length before) (read_at input at)
unfolding read_at
read_behind before input at = rw (drop-append-add before input at) (by_place (ltb at (length input)) refl)
  where
    n : ℕ
    n = length before

    by_place : (t : Bool) → ltb at (length input) ≡ t
        → cond (ltb (length before + at) (length (before ++ input))) (moved_by (length before + at) (command_in (drop at input)))
        (record { answer = nothing; next = length (before ++ input) })
        ≡ moved_by (length before) (cond t (moved_by at (command_in (drop at input))) (record { answer = nothing; next = length input }))
    by_place true e =
        let l = ltb-true at (length input) e in
        let q = command_in (drop at input) in
        let sum : length before + at + q.next ≡ length before + (at + q.next) = omega arith in
        rw (lt-ltb (length before + at) (length (before ++ input)) (omega (arith, length-append before input)))
        (ap (λ k. record { answer = q.answer; next = k }) sum)
    by_place false e =
        let l = ltb-false at (length input) e in
        rw (le-ltb (length before + at) (length (before ++ input)) (omega (arith, length-append before input)))
        (ap (λ k. record { answer = nothing; next = k }) (length-append before input))

-- An answer that was given is not changed by what comes later.
pub read_longer : (input more : List ℕ) (at : ℕ) → waits (read_at input at).answer ≡ false → read_at (input ++ more) at ≡ read_at input at
read_longer input more at =
    by_read input at (λ r. waits r.answer ≡ false → read_at (input ++ more) at ≡ r)
    (λ l e. absurd (false≢true (sym e)))
    (λ h l e. absurd (false≢true (sym e)))
    (λ h l e.
    let k = kind_at input at in
    let same : kind_at (input ++ more) at ≡ k = ap kind_of (get_or-append input more 0 at h) in
    let size = length-append input more in
    let rest = drop-append-le at input more (omega arith) in
    read_whole (input ++ more) at (omega (arith, size)) (rw same (omega (arith, size)))
    ∙ ap₂ {C = Read} (λ a n. record { answer = a; next = at + n })
    (ap (λ q. judged q (drop at (input ++ more))) same ∙ ap (judged k) rest ∙ judged_longer k (drop at input) more (rw (length-drop at input) l))
    (ap length_of same))

-- ---- all commands of an input

-- What holds after an answer that waits, and after one that does not, holds.
by_wait : (r : Read) (P : Bool → Type 0) → (waits r.answer ≡ true → P true) → (waits r.answer ≡ false → P false) → P (waits r.answer)
by_wait r P waiting given = go (waits r.answer) refl
  where
    go : (t : Bool) → waits r.answer ≡ t → P t
    go true e = waiting e
    go false e = given e

-- More turns than bytes from the position on are enough: the last answer waits, and no other does.
pub reads_end : (turns : ℕ) (input : List ℕ) (at : ℕ) → length input - at < turns → ends_waiting (reads_by turns input at) ≡ true
reads_end zero input at h = absurd (omega arith)
reads_end (suc turns) input at h =
    let r = read_at input at in
    by_wait r (λ t. ends_waiting (r ∷ cond t [] (reads_by turns input r.next)) ≡ true) (λ e. e)
    (λ e. let on = read-on input at e in one_more r (reads_by turns input r.next) e (reads_end turns input r.next (omega (arith, on))))
  where
    one_more : (r : Read) (rs : List Read) → waits r.answer ≡ false → ends_waiting rs ≡ true → ends_waiting (r ∷ rs) ≡ true
    one_more r [] e q = absurd (false≢true q)
    one_more r (x ∷ rs) e q = rw e q

-- So all commands of an input are read, from any position on.
pub all_end : (input : List ℕ) (at : ℕ) → ends_waiting (reads input at) ≡ true
all_end input at = reads_end (suc (length input)) input at (omega arith)
