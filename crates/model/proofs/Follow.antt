-- What is sent takes a following reader from the old table to the new one. Cited by ReadsBack and Count. Assumes nothing.
-- It speaks of what is sent and not of events: codes and ranges are Codes' business.
use mathlib.Core.Path.{◌≡◌, refl, sym, ap, ap₂, ◌∙◌}
use mathlib.Core.Bool.{true, false, cond}
use mathlib.Core.List.{List, [], ◌∷◌, ◌++◌, map}
use Prim.Native.Nat.{ℕ, zero, suc}
use lib.Dec.{T}
use lib.IntN.{ℤ}
use lib.ListN.{get_or, set}
use Rattle.model.proofs.Bools.{is_true, eq_z→eq}
use Rattle.model.proofs.Tables.{Like, Alike, alike_done, on_slot-on_slot, on_slot-id}
use Rattle.model.specs.Numbers.{eq_z}
use Rattle.model.specs.Table.{Slot, Table, ids_differ}
use Rattle.model.specs.Events.{Act, report, slot, number}
use Rattle.model.specs.Reader.{Reader, follow, on_slot, step, steps}
use Rattle.model.specs.Sending.{Sent, send_slot, send_number, send_report, unless, changes, opened, all_changes, slot_done, other_changes, body, closed, sending, last_opened, current_after}

-- What a sent thing asks of a reader.
abbrev pub asks : Sent → Act
asks (send_slot k) = slot k
asks (send_number i v) = number i v
asks send_report = report

-- A reader after what was sent.
abbrev pub heeds : Reader → List Sent → Reader
heeds r xs = steps r (map asks xs)

-- ---- one slot

-- What a slot becomes by `changes i old new`.
abbrev patch : ℕ → Slot → Slot → Slot → Slot
patch i [] new s = s
patch i (o ∷ old) [] s = s
patch i (o ∷ old) (v ∷ new) s = patch (suc i) old new (cond (eq_z o v) s (set s i v))

heeds_changes : (s : Table) (c i : ℕ) (old new : Slot) (p : Table) → heeds (follow s p c) (changes i old new) ≡ follow s (on_slot p c (patch i old new)) c
heeds_changes s c i [] new p = ap (λ q. follow s q c) (sym (on_slot-id p c))
heeds_changes s c i (o ∷ old) [] p = ap (λ q. follow s q c) (sym (on_slot-id p c))
heeds_changes s c i (o ∷ old) (v ∷ new) p =
    elim (eq_z o v) as (λ b. heeds (follow s p c) (unless b (send_number i v) (changes (suc i) old new)) ≡ follow s (on_slot p c (λ x. patch (suc i) old new (cond b x (set x i v)))) c) [
      | true ↦ heeds_changes s c (suc i) old new p
      | false ↦ heeds_changes s c (suc i) old new (on_slot p c (λ x. set x i v)) ∙ ap (λ q. follow s q c) (on_slot-on_slot p c (λ x. set x i v) (patch (suc i) old new))
    ]

patch_later : (i : ℕ) (old new : Slot) (x : ℤ) (s : Slot) → patch (suc i) old new (x ∷ s) ≡ x ∷ patch i old new s
patch_later i [] new x s = refl
patch_later i (o ∷ old) [] x s = refl
patch_later i (o ∷ old) (v ∷ new) x s =
    elim (eq_z o v) as (λ b. patch (suc (suc i)) old new (cond b (x ∷ s) (x ∷ set s i v)) ≡ x ∷ patch (suc i) old new (cond b s (set s i v))) [
      | true ↦ patch_later (suc i) old new x s
      | false ↦ patch_later (suc i) old new x (set s i v)
    ]

patched : (old new : Slot) → Like old new → patch 0 old new old ≡ new
patched [] [] h = refl
patched [] (v ∷ new) h = absurd h
patched (o ∷ old) [] h = absurd h
patched (o ∷ old) (v ∷ new) h =
    (elim (eq_z o v) as (λ b. (T b → o ≡ v) → patch 1 old new (cond b (o ∷ old) (v ∷ old)) ≡ v ∷ new) [
      | true ↦ λ e. patch_later 0 old new o old ∙ ap₂ {C = Slot} (λ x y. x ∷ y) (e tt) (patched old new h)
      | false ↦ λ e. patch_later 0 old new v old ∙ ap {B = Slot} (λ y. v ∷ y) (patched old new h)
    ]) (eq_z→eq o v)

-- ---- the current slot

pub last_append : (c : ℕ) (xs ys : List Sent) → last_opened c (xs ++ ys) ≡ last_opened (last_opened c xs) ys
last_append c [] ys = refl
last_append c (send_slot k ∷ xs) ys = last_append k xs ys
last_append c (send_number i v ∷ xs) ys = last_append c xs ys
last_append c (send_report ∷ xs) ys = last_append c xs ys

pub last-changes : (c i : ℕ) (old new : Slot) → last_opened c (changes i old new) ≡ c
last-changes c i [] new = refl
last-changes c i (o ∷ old) [] = refl
last-changes c i (o ∷ old) (v ∷ new) =
    elim (eq_z o v) as (λ b. last_opened c (unless b (send_number i v) (changes (suc i) old new)) ≡ c) [
      | true ↦ last-changes c (suc i) old new
      | false ↦ last-changes c (suc i) old new
    ]

-- ---- one part after another

heeds_append : (r : Reader) (xs ys : List Sent) → heeds r (xs ++ ys) ≡ heeds (heeds r xs) ys
heeds_append r [] ys = refl
heeds_append r (x ∷ xs) ys = heeds_append (step r (asks x)) xs ys

then : (s p q w : Table) (c : ℕ) (xs ys : List Sent) → heeds (follow s p c) xs ≡ follow s q (last_opened c xs)
    → heeds (follow s q (last_opened c xs)) ys ≡ follow s w (last_opened (last_opened c xs) ys)
    → heeds (follow s p c) (xs ++ ys) ≡ follow s w (last_opened c (xs ++ ys))
then s p q w c xs ys e f =
    heeds_append (follow s p c) xs ys ∙ ap (λ r. heeds r ys) e ∙ f ∙ ap (λ k. follow s w k) (sym (last_append c xs ys))

heeds_opened : (s p q : Table) (c k : ℕ) (xs : List Sent) → heeds (follow s p k) xs ≡ follow s q k → last_opened k xs ≡ k
    → heeds (follow s p c) (opened k xs) ≡ follow s q (last_opened c (opened k xs))
heeds_opened s p q c k [] e l = ap (λ (r : Reader). follow s r.pending c) e
heeds_opened s p q c k (x ∷ xs) e l = e ∙ ap (λ j. follow s q j) (sym l)

-- ---- all slots from slot k on

abbrev patch_all : ℕ → Table → Table → Table → Table
patch_all k [] new p = p
patch_all k (o ∷ old) [] p = p
patch_all k (o ∷ old) (v ∷ new) p = patch_all (suc k) old new (on_slot p k (patch 0 o v))

heeds_all : (s : Table) (k : ℕ) (old new p : Table) (c : ℕ) → heeds (follow s p c) (all_changes k old new) ≡ follow s (patch_all k old new p) (last_opened c (all_changes k old new))
heeds_all s k [] new p c = refl
heeds_all s k (o ∷ old) [] p c = refl
heeds_all s k (o ∷ old) (v ∷ new) p c =
    then s p (on_slot p k (patch 0 o v)) _ c (opened k (changes 0 o v)) (all_changes (suc k) old new)
    (heeds_opened s p _ c k (changes 0 o v) (heeds_changes s k 0 o v p) (last-changes k 0 o v))
    (heeds_all s (suc k) old new (on_slot p k (patch 0 o v)) _)

patch_all_later : (k : ℕ) (old new : Table) (x : Slot) (p : Table) → patch_all (suc k) old new (x ∷ p) ≡ x ∷ patch_all k old new p
patch_all_later k [] new x p = refl
patch_all_later k (o ∷ old) [] x p = refl
patch_all_later k (o ∷ old) (v ∷ new) x p = patch_all_later (suc k) old new x (on_slot p k (patch 0 o v))

patched_all : (old new : Table) → Alike old new → patch_all 0 old new old ≡ new
patched_all [] [] h = refl
patched_all [] (v ∷ new) h = absurd h
patched_all (o ∷ old) [] h = absurd h
patched_all (o ∷ old) (v ∷ new) h = patch_all_later 0 old new (patch 0 o v o) old ∙ ap₂ {C = Table} (λ x y. x ∷ y) (patched o v h.0) (patched_all old new h.1)

-- ---- the current slot done

-- The current slot's changes make it as in the new table.
patched_slot : (c : ℕ) (old new : Table) → Alike old new → on_slot old c (patch 0 (get_or old c []) (get_or new c [])) ≡ slot_done c old new
patched_slot c [] [] h = refl
patched_slot c [] (v ∷ new) h = absurd h
patched_slot c (o ∷ old) [] h = absurd h
patched_slot zero (o ∷ old) (v ∷ new) h = ap {B = Table} (λ x. x ∷ old) (patched o v h.0)
patched_slot (suc c) (o ∷ old) (v ∷ new) h = ap {B = Table} (λ t. o ∷ t) (patched_slot c old new h.1)

-- ---- the frame

-- Before the report the new table is pending and the old one shown.
pub heeds_body : (old new : Table) (c : ℕ) → Alike old new → heeds (follow old old c) (body c old new) ≡ follow old new (last_opened c (body c old new))
heeds_body old new c h =
    let o = get_or old c [] in
    let v = get_or new c [] in
    let q = slot_done c old new in
    let k = last_opened (last_opened c (changes 0 o v)) (other_changes c old new) in
    then old old q new c (changes 0 o v) (other_changes c old new)
    (heeds_changes old c 0 o v old ∙ ap₂ (λ t j. follow old t j) (patched_slot c old new h) (sym (last-changes c 0 o v)))
    (heeds_all old 0 q new q _ ∙ ap (λ t. follow old t k) (patched_all q new (alike_done c old new h)))

heeds_closed : (old new : Table) (c : ℕ) (xs : List Sent) → T (ids_differ new) → heeds (follow old old c) xs ≡ follow old new (last_opened c xs)
    → heeds (follow old old c) (closed xs) ≡ follow new new (last_opened c (closed xs))
heeds_closed old new c [] u e = ap (λ (r : Reader). follow r.pending r.pending c) e
heeds_closed old new c (x ∷ xs) u e =
    heeds_append (follow old old c) (x ∷ xs) (send_report ∷ []) ∙ ap (λ r. heeds r (send_report ∷ [])) e ∙ rw (is_true (ids_differ new) u) (ap (λ k. follow new new k) (sym (last_append c (x ∷ xs) (send_report ∷ []))))

-- After it the new table is shown, nothing is pending, and the current slot is the writer's.
pub heeds_sending : (old new : Table) (c : ℕ) → Alike old new → T (ids_differ new) → heeds (follow old old c) (sending c old new) ≡ follow new new (current_after c old new)
heeds_sending old new c h u = heeds_closed old new c (body c old new) u (heeds_body old new c h)
