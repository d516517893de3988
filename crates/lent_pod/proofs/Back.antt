-- A pod's state and its bytes come back from each other, a call's bytes hold the library's state, and a command comes back from its numbers. Assumes
-- nothing.
use mathlib.Core.Path.{◌≡◌, refl, sym, ap, ◌∙◌}
use mathlib.Core.Bool.{Bool, true, false, cond, ◌&&◌, false≢true}
use mathlib.Core.List.{List, [], ◌∷◌, ◌++◌}
use Prim.Native.Nat.{ℕ, zero, suc, ◌≤◌}
use native.Mathlib.Omega.{arith}
use lib.Dec.{leb, eqb}
use lib.ListN.{length, get_or}
use borrow.Author.Tests.{eqb-true}
use Rattle.model.specs.Calls as C
use Rattle.model.specs.Calls.{verdict_number, is_accepted}
use Rattle.model.specs.Pod as M
use Rattle.model.specs.Commands as K
use Rattle.model.proofs.Pod.{formed as facts, step-formed, step-refused, refusal_exact}
use Rattle.model.proofs.CommandCalls.{accepted-good, state-after}
use Rattle.pod.specs.declared.PodState.{PodState}
use Rattle.pod.specs.Seen.{seen, held, step_answer}
use Rattle.lent_pod.specs.Pods.{bit, formed, unpacked, packed, step_of, step_bytes}
use Rattle.lent_pod.specs.Orders.{command_told, command_by, command_in, typed, named, unwritten, write_of, write_bytes}
use Rattle.lent_pod.proofs.Forms as F
use Rattle.lent_pod.proofs.Lists.{listed, listed_all}

-- A wait's byte says the wait,
bit-true : (b : Bool) → eqb (bit b) 1 ≡ b
bit-true true = refl
bit-true false = refl

-- it is at most 1,
bit-small : (b : Bool) → leb (bit b) 1 ≡ true
bit-small true = refl
bit-small false = refl

-- and a byte of 0 or 1 is that of its wait.
bit_back : (n : ℕ) → n ≤ 1 → bit (eqb n 1) ≡ n
bit_back zero h = refl
bit_back (suc zero) h = refl
bit_back (suc (suc n)) h = absurd (omega arith)

-- Bytes with the form are those of the state that they hold.
pub packed_back : (b : List ℕ) → formed b ≡ true → packed (unpacked b) ≡ b
unfolding packed
packed_back b e =
    let f = F.facts b e in
    let out : packed (unpacked b) ≡ listed 12 b 0 = rw (f.version, f.kind, bit_back (get_or b 2 0) f.wait, f.tenth, f.last) in
    out ∙ sym (listed_all 12 b f.size)

-- A state with its six places is the one that its bytes hold,
pub unpacked_back : (s : PodState) → length s.bytes ≡ M.places → unpacked (packed s) ≡ s
unfolding packed
unpacked_back s n =
    let e = listed_all 6 s.bytes n in
    ap (λ w. record { waits = w; bytes = listed 6 (packed s) 4; count = s.count }) (bit-true s.waits)
    ∙ ap (λ l. record { waits = s.waits; bytes = l; count = s.count })
    (ap (λ l. listed 6 (1 ∷ 4 ∷ bit s.waits ∷ s.count ∷ (l ++ (0 ∷ 0 ∷ []))) 4) e ∙ sym e)

-- and these have the form.
pub packed-formed : (s : PodState) → length s.bytes ≡ M.places → formed (packed s) ≡ true
unfolding packed formed
packed-formed s n =
    ap (λ l. formed (1 ∷ 4 ∷ bit s.waits ∷ s.count ∷ (l ++ (0 ∷ 0 ∷ [])))) (listed_all 6 s.bytes n) ∙ rw (bit-small s.waits)

-- ---- after a byte

-- The bytes are those of the library's state where the state that they held is well formed, else as they were.
bytes_after : (b : List ℕ) (byte : ℕ) → formed b ≡ true → (let s = seen (unpacked b) in
    step_bytes b (step_of b byte) ≡ cond (M.well_formed s) (packed (held (M.step s byte).state)) b)
bytes_after b byte e =
    let s = seen (unpacked b) in
    let new = packed (held (M.step s byte).state) in
    rw e (ap (λ n. cond (eqb n 0) new b) (refusal_exact s byte) ∙ ap (λ t. cond t new b) (unrefused (M.well_formed s)))
  where
    unrefused : (t : Bool) → eqb (cond t 0 2) 0 ≡ t
    unrefused true = refl
    unrefused false = refl

-- The state that they hold is the library's, also where it is refused.
pub step-state : (b : List ℕ) (byte : ℕ) → formed b ≡ true → unpacked (step_bytes b (step_of b byte)) ≡ (step_answer (unpacked b) byte).state
step-state b byte e =
    let s = seen (unpacked b) in
    let new = held (M.step s byte).state in
    ap unpacked (bytes_after b byte e)
    ∙ elim (M.well_formed s) as (λ t. M.well_formed s ≡ t → unpacked (cond t (packed new) b) ≡ new) [
      | true ↦ λ h. unpacked_back new (facts (M.step s byte).state (step-formed s byte h)).sized
      | false ↦ λ h. sym (ap (λ (a : M.Stepped). held a.state) (step-refused s byte h))
    ] refl

-- And they keep the form.
pub step_keeps : (b : List ℕ) (byte : ℕ) → formed b ≡ true → formed (step_bytes b (step_of b byte)) ≡ true
step_keeps b byte e =
    let s = seen (unpacked b) in
    let new = held (M.step s byte).state in
    ap formed (bytes_after b byte e)
    ∙ elim (M.well_formed s) as (λ t. M.well_formed s ≡ t → formed (cond t (packed new) b) ≡ true) [
      | true ↦ λ h. packed-formed new (facts (M.step s byte).state (step-formed s byte h)).sized
      | false ↦ λ h. e
    ] refl

-- ---- after a command

after-sized : (c : K.Command) (s : M.State) → length s.bytes ≡ M.places → length (K.state_after c s).bytes ≡ M.places
after-sized K.reset s n = refl
after-sized (K.buttons action) s n = n
after-sized K.relative s n = n
after-sized (K.absolute x y) s n = n
after-sized (K.threshold x y) s n = n
after-sized (K.scale x y) s n = n
after-sized K.interrogate s n = n
after-sized (K.load x y) s n = n
after-sized (K.set_clock c) s n = n
after-sized K.ask_clock s n = n

-- An accepted write leaves a state with its places.
call_sized : (s : M.State) (c : K.Command) (at size : ℕ) → is_accepted (K.write_call s c at size).verdict ≡ true → length (K.write_call s c at size).state.bytes ≡ M.places
call_sized s c at size h =
    let ok = eqb-true (verdict_number (K.write_call s c at size).verdict) 0 h in
    ap (λ (x : M.State). length x.bytes) (state-after s c at size ok) ∙ after-sized c s (facts s (accepted-good s c at size ok).0).sized

-- The bytes keep the form.
pub write_keeps : (b ns : List ℕ) (at size : ℕ) → formed b ≡ true → formed (write_bytes b (write_of b ns at size)) ≡ true
write_keeps b ns at size e =
    let w = write_of b ns at size in
    elim (is_accepted w.verdict) as (λ t. is_accepted w.verdict ≡ t → formed (cond t (packed (held w.state)) b) ≡ true) [
      | true ↦ λ h. packed-formed (held w.state) (sized (formed b && M.well_formed (seen (unpacked b))) (named ns) h)
      | false ↦ λ h. e
    ] refl
  where
    sized : (t u : Bool)
        → (let s = seen (unpacked b) in
        let w = cond t (cond u (K.write_call s (command_in ns) at size) (unwritten C.command s)) (unwritten C.state s) in
        is_accepted w.verdict ≡ true → length w.state.bytes ≡ M.places)
    sized true true h = call_sized (seen (unpacked b)) (command_in ns) at size h
    sized true false h = absurd (false≢true h)
    sized false u h = absurd (false≢true h)

-- ---- commands as numbers

-- The command that a command's numbers name is that command,
pub numbers_back : (c : K.Command) → command_in (command_told c) ≡ c
unfolding command_by
numbers_back K.reset = refl
numbers_back (K.buttons action) = refl
numbers_back K.relative = refl
numbers_back (K.absolute x y) = refl
numbers_back (K.threshold x y) = refl
numbers_back (K.scale x y) = refl
numbers_back K.interrogate = refl
numbers_back (K.load x y) = refl
numbers_back (K.set_clock c) = refl
numbers_back K.ask_clock = refl

-- and they name one where its types hold what it carries.
pub numbers-name : (c : K.Command) → typed c ≡ true → named (command_told c) ≡ true
unfolding command_by
numbers-name K.reset e = refl
numbers-name (K.buttons action) e = e
numbers-name K.relative e = refl
numbers-name (K.absolute x y) e = e
numbers-name (K.threshold x y) e = e
numbers-name (K.scale x y) e = e
numbers-name K.interrogate e = refl
numbers-name (K.load x y) e = e
numbers-name (K.set_clock c) e = e
numbers-name K.ask_clock e = refl
