-- What a reader counts of a frame: one table shown, or nothing where nothing is sent. Cited by Link. Assumes nothing.
use mathlib.Core.Path.{◌≡◌, refl, ap, ap₂, ◌∙◌}
use mathlib.Core.Bool.{true, false, cond}
use mathlib.Core.List.{List, [], ◌∷◌, ◌++◌, map, map-append}
use Prim.Native.Nat.{ℕ, suc}
use lib.Dec.{T, eqb, eqb-suc-zero}
use lib.ListN.{length, get_or, set}
use Rattle.model.proofs.Bools.{is_true}
use Rattle.model.proofs.Tables.{Alike}
use Rattle.model.proofs.Counts.{none-plus}
use Rattle.model.proofs.Cut.{counts_append}
use Rattle.model.proofs.Follow.{asks, heeds, heeds_body}
use Rattle.model.specs.Numbers.{eq_z}
use Rattle.model.specs.Table.{Slot, Table, ids_differ}
use Rattle.model.specs.Events.{report}
use Rattle.model.specs.Reader.{follow, on_slot, nothing, one_shown, one_bad, plus, count_all}
use Rattle.model.specs.Sending.{Sent, send_slot, send_number, send_report, unless, changes, opened, all_changes, slot_done, other_changes, body, closed, sending, last_opened}

-- ---- slots and numbers are not counted

-- No report among what is sent.
abbrev Quiet : List Sent → Type 0
Quiet [] = Unit {0}
Quiet (send_slot k ∷ xs) = Quiet xs
Quiet (send_number i v ∷ xs) = Quiet xs
Quiet (send_report ∷ xs) = ⊥

quiet_append : (xs ys : List Sent) → Quiet xs → Quiet ys → Quiet (xs ++ ys)
quiet_append [] ys a b = b
quiet_append (send_slot k ∷ xs) ys a b = quiet_append xs ys a b
quiet_append (send_number i v ∷ xs) ys a b = quiet_append xs ys a b
quiet_append (send_report ∷ xs) ys a b = a

quiet-changes : (i : ℕ) (old new : Slot) → Quiet (changes i old new)
quiet-changes i [] new = tt
quiet-changes i (o ∷ old) [] = tt
quiet-changes i (o ∷ old) (v ∷ new) =
    elim (eq_z o v) as (λ b. Quiet (unless b (send_number i v) (changes (suc i) old new))) [
      | true ↦ quiet-changes (suc i) old new
      | false ↦ quiet-changes (suc i) old new
    ]

quiet-opened : (k : ℕ) (xs : List Sent) → Quiet xs → Quiet (opened k xs)
quiet-opened k [] q = q
quiet-opened k (x ∷ xs) q = q

quiet_all : (k : ℕ) (old new : Table) → Quiet (all_changes k old new)
quiet_all k [] new = tt
quiet_all k (o ∷ old) [] = tt
quiet_all k (o ∷ old) (v ∷ new) = quiet_append (opened k (changes 0 o v)) (all_changes (suc k) old new) (quiet-opened k (changes 0 o v) (quiet-changes 0 o v)) (quiet_all (suc k) old new)

quiet-body : (c : ℕ) (old new : Table) → Quiet (body c old new)
quiet-body c old new =
    let now = changes 0 (get_or old c []) (get_or new c []) in
    quiet_append now (other_changes c old new) (quiet-changes 0 (get_or old c []) (get_or new c [])) (quiet_all 0 (slot_done c old new) new)

quiet-counts : (s p : Table) (c : ℕ) (xs : List Sent) → Quiet xs → count_all (follow s p c) (map asks xs) ≡ nothing
quiet-counts s p c [] q = refl
quiet-counts s p c (send_slot k ∷ xs) q = none-plus _ ∙ quiet-counts s p k xs q
quiet-counts s p c (send_number i v ∷ xs) q = none-plus _ ∙ quiet-counts s (on_slot p c (λ z. set z i v)) c xs q
quiet-counts s p c (send_report ∷ xs) q = absurd q

-- ---- a frame

closed-counts : (old new : Table) (c : ℕ) (xs : List Sent) → T (ids_differ new) → Quiet xs → heeds (follow old old c) xs ≡ follow old new (last_opened c xs)
    → count_all (follow old old c) (map asks (closed xs)) ≡ cond (eqb (length (closed xs)) 0) nothing one_shown
closed-counts old new c [] u q e = refl
closed-counts old new c (x ∷ xs) u q e =
    ap (count_all (follow old old c)) (map-append asks (x ∷ xs) (send_report ∷ []))
    ∙ counts_append (follow old old c) (map asks (x ∷ xs)) (report ∷ [])
    ∙ ap₂ plus (quiet-counts old old c (x ∷ xs) q) (ap (λ r. count_all r (report ∷ [])) e ∙ ap (λ b. plus (cond b one_shown one_bad) nothing) (is_true (ids_differ new) u))
    ∙ rw (eqb-suc-zero (length (xs ++ send_report ∷ [])))

-- A following reader that reads a frame counts one table shown, or nothing if nothing was sent.
pub sending-counts : (old new : Table) (c : ℕ) → Alike old new → T (ids_differ new)
    → count_all (follow old old c) (map asks (sending c old new)) ≡ cond (eqb (length (sending c old new)) 0) nothing one_shown
sending-counts old new c h u = closed-counts old new c (body c old new) u (quiet-body c old new) (heeds_body old new c h)
