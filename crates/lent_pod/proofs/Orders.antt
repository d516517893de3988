-- Commands as numbers: what numbers that pass their tests are, what they name, and what writing a command answers. Assumes nothing.
use mathlib.Core.Path.{◌≡◌, refl, sym, ap, ap₂, ◌∙◌}
use mathlib.Core.Bool.{Bool, true, false, cond, false≢true}
use mathlib.Core.List.{List, [], ◌∷◌}
use Prim.Native.Nat.{ℕ, ◌≤◌, ◌<◌}
use native.Mathlib.Omega.{arith}
use lib.Dec.{leb, eqb}
use lib.ListN.{length}
use borrow.Author.Tests.{leb-true, lt-leb}
use Rattle.model.specs.Calls as C
use Rattle.model.specs.Pod as P
use Rattle.model.specs.Commands as M
use Rattle.model.proofs.Bools.{and_left, and_right}
use Rattle.model.proofs.Pod.{formed as facts}
use Rattle.model.proofs.CommandCalls.{accepted-good, state-after}
use Rattle.common.specs.Seen.{verdict_number}
use Rattle.common.proofs.Back.{verdict-seen}
use Rattle.pod.specs.declared.PodState.{PodState}
use Rattle.pod.specs.Seen.{seen as pod_seen, held as pod_held}
use Rattle.commands.specs.declared.Command.{Command}
use Rattle.commands.specs.declared.Written as W
use Rattle.commands.specs.Seen.{seen, Wrote}
use Rattle.commands.proofs.Answers.{command-seen}
use Rattle.lent_pod.specs.declared.Named.{Named}
use Rattle.lent_pod.specs.declared.Named.TheVariants as N
use Rattle.lent_pod.specs.Pods.{formed, unpacked, packed}
use Rattle.lent_pod.specs.Orders.{last_command, most_byte, both_up_to, three_bytes, named, command_in, held_named, write_bytes, Asked, CommandWritten}

-- ---- tests

pub both_fit : (top x y : ℕ) → both_up_to top x y ≡ true → (x ≤ top) × (y ≤ top)
both_fit top x y e = (leb-true x top (and_left (leb x top) (leb y top) e), leb-true y top (and_right (leb x top) (leb y top) e))

pub three_fit : (a b c : ℕ) → three_bytes a b c ≡ true → (a ≤ most_byte) × (b ≤ most_byte) × (c ≤ most_byte)
three_fit a b c e =
    let r = both_fit most_byte b c (and_right (leb a most_byte) (both_up_to most_byte b c) e) in
    (leb-true a most_byte (and_left (leb a most_byte) (both_up_to most_byte b c) e), r.0, r.1)

-- A number that is none of a command's is past the last; in two halves, since `omega` splits at each test.
past-four : (k : ℕ) → (k ≡ 0 → ⊥) → (k ≡ 1 → ⊥) → (k ≡ 2 → ⊥) → (k ≡ 3 → ⊥) → (k ≡ 4 → ⊥) → 4 < k
past-four k h₀ h₁ h₂ h₃ h₄ = omega arith

past_nine : (k : ℕ) → 4 < k → (k ≡ 5 → ⊥) → (k ≡ 6 → ⊥) → (k ≡ 7 → ⊥) → (k ≡ 8 → ⊥) → (k ≡ 9 → ⊥) → 9 < k
past_nine k h h₅ h₆ h₇ h₈ h₉ = omega arith

pub past : (k : ℕ) → (k ≡ 0 → ⊥) → (k ≡ 1 → ⊥) → (k ≡ 2 → ⊥) → (k ≡ 3 → ⊥) → (k ≡ 4 → ⊥) → (k ≡ 5 → ⊥) → (k ≡ 6 → ⊥) → (k ≡ 7 → ⊥)
    → (k ≡ 8 → ⊥) → (k ≡ 9 → ⊥) → leb k last_command ≡ false
past k h₀ h₁ h₂ h₃ h₄ h₅ h₆ h₇ h₈ h₉ = lt-leb k last_command (past_nine k (past-four k h₀ h₁ h₂ h₃ h₄) h₅ h₆ h₇ h₈ h₉)

-- ---- what numbers name

abbrev is_command : Named → Bool
is_command (N.Command c) = true
is_command N.Nothing = false

abbrev of : Command → Named → Command
of d (N.Command c) = c
of d N.Nothing = d

-- A command that is named is the one of the numbers,
pub names : (t : Bool) (k : M.Command) (c : Command) → N.Command c ≡ held_named t k → (t ≡ true) × (seen c ≡ k)
names true k c e = (refl, ap (λ n. seen (of c n)) e ∙ command-seen k)
names false k c e = absurd (false≢true (sym (ap is_command e)))

-- and where none is, they name none.
pub names_none : (t : Bool) (k : M.Command) → N.Nothing ≡ held_named t k → t ≡ false
names_none true k e = absurd (false≢true (ap is_command e))
names_none false k e = refl

-- ---- the library's write, with the state in bytes

-- A command leaves at most as many bytes held.
few-after : (c : M.Command) (s : P.State) → s.count ≤ P.places → (M.state_after c s).count ≤ P.places
few-after M.reset s h = omega arith
few-after (M.buttons action) s h = h
few-after M.relative s h = h
few-after (M.absolute x y) s h = h
few-after (M.threshold x y) s h = h
few-after (M.scale x y) s h = h
few-after M.interrogate s h = h
few-after (M.load x y) s h = h
few-after (M.set_clock k) s h = h
few-after M.ask_clock s h = h

module _ (s : PodState) (c : Command) (at : ℕ) (b buf left : List ℕ) (a : W.Written) (r : ℕ) (w : Wrote s c at buf a left) (z : r ≡ verdict_number a.verdict) where
  abbrev call : M.Written
  call = M.write_call (pod_seen s) (seen c) at (length buf)

  judged : r ≡ C.verdict_number call.verdict
  judged = z ∙ ap (λ (x : W.Written). verdict_number x.verdict) w.answer ∙ ap C.verdict_number (verdict-seen call.verdict)

  need-is : ◌≡◌ {A = List ℕ} (a.need ∷ []) (call.need ∷ [])
  need-is = ap (λ (x : W.Written). x.need ∷ []) w.answer

  -- A state that is packed holds at most six bytes.
  pub few-written : r ≡ 0 → a.state.count < 256
  few-written e =
      let ok = sym judged ∙ e in
      let formed = (accepted-good (pod_seen s) (seen c) at (length buf) ok).0 in
      let few = few-after (seen c) (pod_seen s) (facts (pod_seen s) formed).few in
      omega (
        arith,
        few,
        ap (λ (x : W.Written). x.state.count) w.answer,
        ap (λ (x : P.State). x.count) (state-after (pod_seen s) (seen c) at (length buf) ok),
      )

  pub asked-refused : eqb r 0 ≡ false → Asked s c at b buf r b (a.need ∷ []) left
  asked-refused f = record {
    number = judged;
    state = sym (ap (λ t. cond t (packed (pod_held call.state)) b) (ap (λ k. eqb k 0) (sym judged) ∙ f));
    answer = need-is;
    buffer = w.buffer;
  }

  pub asked_done : (after : List ℕ) → eqb r 0 ≡ true → after ≡ packed a.state → Asked s c at b buf r after (a.need ∷ []) left
  asked_done after t p = record {
    number = judged;
    state =
        p ∙ ap (λ (x : W.Written). packed x.state) w.answer
        ∙ sym (ap (λ t. cond t (packed (pod_held call.state)) b) (ap (λ k. eqb k 0) (sym judged) ∙ t));
    answer = need-is;
    buffer = w.buffer;
  }

-- ---- the whole call

module _ (b ns : List ℕ) (at : ℕ) (buf : List ℕ) (r : ℕ) where
  -- Bytes that have not the form.
  pub write_shapeless : formed b ≡ false → r ≡ 2 → CommandWritten b ns at buf r b (0 ∷ []) buf
  write_shapeless e z = record { number = rw e z; state = rw e; answer = rw e; buffer = rw e }

  module _ (e : formed b ≡ true) where
    -- A state that is not well formed.
    pub write_unformed : P.well_formed (pod_seen (unpacked b)) ≡ false → r ≡ 2 → CommandWritten b ns at buf r b (0 ∷ []) buf
    write_unformed f z = record { number = rw (e, f) z; state = rw (e, f); answer = rw (e, f); buffer = rw (e, f) }

    module _ (f : P.well_formed (pod_seen (unpacked b)) ≡ true) where
      -- Numbers that name no command.
      pub write_unnamed : named ns ≡ false → r ≡ 11 → CommandWritten b ns at buf r b (0 ∷ []) buf
      write_unnamed n z = record { number = rw (e, f, n) z; state = rw (e, f, n); answer = rw (e, f, n); buffer = rw (e, f, n) }

      -- The library's answer.
      pub write_asked : (s : PodState) (c : Command) (after told left : List ℕ) → named ns ≡ true → seen c ≡ command_in ns → s ≡ unpacked b
          → Asked s c at b buf r after told left → CommandWritten b ns at buf r after told left
      write_asked s c after told left n h k a =
          let q : M.write_call (pod_seen s) (seen c) at (length buf) ≡ M.write_call (pod_seen (unpacked b)) (command_in ns) at (length buf) =
          ap₂ (λ x y. M.write_call (pod_seen x) y at (length buf)) k h in record {
            number = rw (e, f, n) (a.number ∙ ap (λ (x : M.Written). C.verdict_number x.verdict) q);
            state = rw (e, f, n) (a.state ∙ ap (λ (x : M.Written). write_bytes b x) q);
            answer = rw (e, f, n) (a.answer ∙ ap (λ (x : M.Written). x.need ∷ []) q);
            buffer = rw (e, f, n) (a.buffer ∙ ap₂ (λ x y. M.write_buffer (pod_seen x) y at buf) k h);
          }
