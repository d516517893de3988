-- Laws of a run: its next event, its end, and a run of a reader that lost track. Cited by Turns and by the readers' proofs. Assumes nothing.
use mathlib.Core.Path.{◌≡◌, refl, sym, ap, ap₂, ◌∙◌}
use mathlib.Core.List.{List, [], ◌∷◌, map}
use Prim.Native.Nat.{ℕ, suc, ◌+◌, ◌-◌, ◌*◌, ◌≤◌, ◌<◌}
use native.Mathlib.Omega.{arith}
use lib.ListN.{length}
use Rattle.model.specs.Panel.{Panel}
use Rattle.model.specs.Table.{Table}
use Rattle.model.specs.Events.{Event, Act, skip, bad, report, loss, slot, number, classify}
use Rattle.model.specs.Records.{event_at, events_from}
use Rattle.model.specs.Reader.{Mode, following, dropped, stale, Lost, Reader, settled_at, step, read, Counts, nothing, ignoring, plus, count_in, count_all, run as run_over}
use Rattle.model.proofs.Counts.{plus_assoc, plus_none, none-plus}
use Rattle.common.specs.Runs.{onward, ending_at}
use Rattle.common.specs.Lost.{heard, on_lost, last_mode}
use Rattle.common.proofs.Lost.{hears, still_lost}

pub onward-start : (p : Panel) (r : Reader) (es : List Event) → onward p r nothing es ≡ run_over p r es
unfolding onward run_over
onward-start p r es = ap (ending_at (read p r es)) (none-plus (count_all r (map (classify p) es)))

onward_cons : (p : Panel) (r : Reader) (a : Counts) (e : Event) (es : List Event)
    → onward p r a (e ∷ es) ≡ onward p (step r (classify p e)) (plus a (count_in r.mode r (classify p e))) es
unfolding onward
onward_cons p r a e es =
    ap (ending_at (read p (step r (classify p e)) es)) (sym (plus_assoc a (count_in r.mode r (classify p e)) (count_all (step r (classify p e)) (map (classify p) es))))

pub onward-next : (p : Panel) (r : Reader) (a : Counts) (s : List ℕ) (n k : ℕ) → k < n
    → onward p r a (events_from (n - k) s (8 * k)) ≡ onward p (step r (classify p (event_at s (8 * k)))) (plus a (count_in r.mode r (classify p (event_at s (8 * k))))) (events_from (n - (k + 1)) s (8 * (k + 1)))
unfolding events_from
onward-next p r a s n k l =
    let m : n - k ≡ suc (n - (k + 1)) = omega arith in
    let e : 8 * (k + 1) ≡ 8 * k + 8 = omega arith in
    rw (m, e) (onward_cons p r a (event_at s (8 * k)) (events_from (n - (k + 1)) s (8 * k + 8)))

pub onward_end : (p : Panel) (r : Reader) (a : Counts) (s : List ℕ) (n k : ℕ) → n ≤ k
    → onward p r a (events_from (n - k) s (8 * k)) ≡ record { reader = r; counts = a }
unfolding events_from onward
onward_end p r a s n k l =
    let m : n - k ≡ 0 = omega arith in
    rw m (ap (ending_at r) (plus_none a))

-- ---- a reader that lost track

lost_act : (t : Table) (c : ℕ) (m : Mode) (x : Act) → Lost m → step (settled_at t c m) x ≡ settled_at t c (on_lost m x)
lost_act t c following x l = absurd l
lost_act t c dropped (skip w u k) l = refl
lost_act t c dropped bad l = refl
lost_act t c dropped report l = refl
lost_act t c dropped loss l = refl
lost_act t c dropped (slot k) l = refl
lost_act t c dropped (number i v) l = refl
lost_act t c stale (skip w u k) l = refl
lost_act t c stale bad l = refl
lost_act t c stale report l = refl
lost_act t c stale loss l = refl
lost_act t c stale (slot k) l = refl
lost_act t c stale (number i v) l = refl

lost_count : (r : Reader) (m : Mode) (x : Act) → Lost m → count_in m r x ≡ (ignoring 1)
lost_count r following x l = absurd l
lost_count r dropped x l = refl
lost_count r stale x l = refl

one_more : (a : Counts) (n : ℕ) → plus (plus a (ignoring 1)) (ignoring n) ≡ plus a (ignoring (suc n))
one_more a n = let p : suc n ≡ 1 + n = omega arith in rw p (plus_assoc a (ignoring 1) (ignoring n))

-- all that is left is ignored, and only the mode changes
pub lost_onward : (p : Panel) (t : Table) (c : ℕ) (m : Mode) (a : Counts) (es : List Event) → Lost m
    → onward p (settled_at t c m) a es ≡ record { reader = settled_at t c (last_mode m es); counts = plus a (ignoring (length es)) }
unfolding last_mode onward
lost_onward p t c m a [] l = refl
lost_onward p t c m a (e ∷ es) l =
    onward_cons p (settled_at t c m) a e es
    ∙ ap₂ (λ r b. onward p r (plus a b) es) (lost_act t c m (classify p e) l ∙ ap (settled_at t c) (hears p e m)) (lost_count (settled_at t c m) m (classify p e) l)
    ∙ lost_onward p t c (on_lost m (heard e)) (plus a (ignoring 1)) es (still_lost m (heard e) l)
    ∙ ap (ending_at (settled_at t c (last_mode (on_lost m (heard e)) es))) (one_more a (length es))
