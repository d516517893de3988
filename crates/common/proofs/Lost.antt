-- A reader that lost track hears events of type 0 alone, stays lost, and its mode goes on event by event. Cited by the proof of `last_mode` and by the reader's runs. Assumes nothing.
use mathlib.Core.Path.{◌≡◌, refl, sym, ◌∙◌}
use mathlib.Core.Bool.{Bool, true, false, cond}
use mathlib.Core.List.{List, [], ◌∷◌}
use Prim.Native.Nat.{ℕ, suc, ◌+◌, ◌-◌, ◌*◌, ◌≤◌, ◌<◌}
use native.Mathlib.Omega.{arith}
use lib.Dec.{eqb, ltb}
use lib.IntN.{ℤ, pos, negsuc}
use Rattle.model.specs.Panel.{Field, Panel, slot_code}
use Rattle.model.specs.Table.{fits}
use Rattle.model.specs.Events.{Event, Act, skip, bad, report, loss, slot, number, Unknown, of_type, of_code, later, number_act, slot_act, syn_act, abs_act, classify}
use Rattle.model.specs.Records.{event_at, events_from}
use Rattle.model.specs.Reader.{Mode, following, dropped, stale, Lost}
use Rattle.common.specs.Lost.{heard, on_lost, last_mode}

-- ---- what it does not hear

pub mute_skip : (w : Unknown) (t c : ℕ) (m : Mode) → on_lost m (skip w t c) ≡ m
mute_skip w t c following = refl
mute_skip w t c dropped = refl
mute_skip w t c stale = refl

mute_bad : (m : Mode) → on_lost m bad ≡ m
mute_bad following = refl
mute_bad dropped = refl
mute_bad stale = refl

mute_slot : (k : ℕ) (m : Mode) → on_lost m (slot k) ≡ m
mute_slot k following = refl
mute_slot k dropped = refl
mute_slot k stale = refl

mute_number : (i : ℕ) (v : ℤ) (m : Mode) → on_lost m (number i v) ≡ m
mute_number i v following = refl
mute_number i v dropped = refl
mute_number i v stale = refl

mute_later : (x : Act) → ((m : Mode) → on_lost m x ≡ m) → (m : Mode) → on_lost m (later x) ≡ m
mute_later (skip w t c) f m = f m
mute_later bad f m = f m
mute_later report f m = f m
mute_later loss f m = f m
mute_later (slot k) f m = f m
mute_later (number i v) f m = mute_number (suc i) v m

mute_cond : (b : Bool) (x y : Act) → ((m : Mode) → on_lost m x ≡ m) → ((m : Mode) → on_lost m y ≡ m) → (m : Mode) → on_lost m (cond b x y) ≡ m
mute_cond true x y f g m = f m
mute_cond false x y f g m = g m

mute_fields : (fs : List Field) (c : ℕ) (v : ℤ) (m : Mode) → on_lost m (number_act fs c v) ≡ m
mute_fields [] c v m = mute_skip of_code 3 c m
mute_fields (f ∷ fs) c v m =
    mute_cond (eqb c f.code) (cond (fits f v) (number 0 v) bad) (later (number_act fs c v)) (mute_cond (fits f v) (number 0 v) bad (mute_number 0 v) mute_bad) (mute_later (number_act fs c v) (mute_fields fs c v)) m

mute_at : (n : ℕ) (v : ℤ) (m : Mode) → on_lost m (slot_act n v) ≡ m
mute_at n (pos k) m = mute_cond (ltb k n) (slot k) bad (mute_slot k) mute_bad m
mute_at n (negsuc k) m = mute_bad m

by_type : (b : Bool) (x y z : Act) → ((m : Mode) → on_lost m y ≡ m) → ((m : Mode) → on_lost m z ≡ m) → (m : Mode) → on_lost m (cond b x y) ≡ on_lost m (cond b x z)
by_type true x y z g h m = refl
by_type false x y z g h m = g m ∙ sym (h m)

pub hears : (p : Panel) (e : Event) (m : Mode) → on_lost m (classify p e) ≡ on_lost m (heard e)
hears p e m =
    let other = skip of_type e.type e.code in
    let abs = abs_act p e.code e.value in
    let mute = mute_skip of_type e.type e.code in
    by_type (eqb e.type 0) (syn_act e.code) (cond (eqb e.type 3) abs other) other
    (mute_cond (eqb e.type 3) abs other
    (mute_cond (eqb e.code slot_code) (slot_act p.slots e.value) (number_act p.fields e.code e.value)
    (mute_at p.slots e.value) (mute_fields p.fields e.code e.value))
    mute)
    mute
    m

-- ---- its mode

pub still_lost : (m : Mode) (x : Act) → Lost m → Lost (on_lost m x)
still_lost following x l = l
still_lost dropped (skip w t c) l = l
still_lost dropped bad l = l
still_lost dropped report l = l
still_lost dropped loss l = l
still_lost dropped (slot k) l = l
still_lost dropped (number i v) l = l
still_lost stale (skip w t c) l = l
still_lost stale bad l = l
still_lost stale report l = l
still_lost stale loss l = l
still_lost stale (slot k) l = l
still_lost stale (number i v) l = l

pub last-next : (m : Mode) (s : List ℕ) (n k : ℕ) → k < n
    → last_mode m (events_from (n - k) s (8 * k)) ≡ last_mode (on_lost m (heard (event_at s (8 * k)))) (events_from (n - (k + 1)) s (8 * (k + 1)))
unfolding events_from last_mode
last-next m s n k l =
    let p : n - k ≡ suc (n - (k + 1)) = omega arith in
    let e : 8 * (k + 1) ≡ 8 * k + 8 = omega arith in
    rw (p, e)

pub last_end : (m : Mode) (s : List ℕ) (n k : ℕ) → n ≤ k → last_mode m (events_from (n - k) s (8 * k)) ≡ m
unfolding events_from last_mode
last_end m s n k l =
    let p : n - k ≡ 0 = omega arith in
    rw p
