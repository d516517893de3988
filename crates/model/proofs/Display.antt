-- A display that hears a frame's events shows the new numbers (K6): contact events leave it alone, and each emulated event sets its number. Cited by PointerFrame. Assumes nothing.
use mathlib.Core.Path.{◌≡◌, refl, ap, ◌∙◌}
use mathlib.Core.Bool.{Bool, true, false, not, ◌||◌}
use mathlib.Core.List.{List, [], ◌∷◌, ◌++◌, map}
use Prim.Native.Nat.{ℕ, zero, suc}
use lib.Dec.{T, eqb, eqb→eq}
use lib.IntN.{ℤ}
use Rattle.model.proofs.Bools.{is_false, both_left, both_right, eq_z→eq}
use Rattle.model.proofs.Tables.{good-records}
use Rattle.model.proofs.Codes.{good_at, Good, AllGood, sending-good}
use Rattle.model.proofs.EmulatedNumbers.{TouchedBy}
use Rattle.model.specs.Numbers.{eq_z}
use Rattle.model.specs.Panel.{Field, Panel, unlisted, field_codes}
use Rattle.model.specs.Table.{Table, good_table}
use Rattle.model.specs.Events.{Event}
use Rattle.model.specs.Sending.{Sent, send_slot, send_number, send_report, unless, body, closed, code_of, event_of}
use Rattle.model.specs.Pointer.{pointer_x, pointer_y, touch_code, unpointed, Pointer, tool_of, display, button, axis, events_before, moves, swaps, events_after, addresses, set_at, heard, ended, contact_events, whole_events}

-- ---- events, one after the other

pub heard_append : (l : List ℤ) (xs ys : List Event) → heard l (xs ++ ys) ≡ heard (heard l xs) ys
heard_append l [] ys = refl
heard_append l (e ∷ xs) ys = heard_append (set_at addresses e l) xs ys

unless_append : (b : Bool) (e : Event) (xs ys : List Event) → unless b e (xs ++ ys) ≡ unless b e xs ++ ys
unless_append true e xs ys = refl
unless_append false e xs ys = refl

-- ---- the emulated events

-- A display's numbers, from their four sources.
abbrev shown : ℕ → ℕ → ℤ → ℤ → List ℤ
shown t c x y = display (record { touch = t; tool = c; x = x; y = y })

touch-told : (t u c : ℕ) (x y : ℤ) → heard (shown t c x y) (unless (eqb t u) (button touch_code u) []) ≡ shown u c x y
touch-told t u c x y =
    (elim (eqb t u) as (λ b. (T b → t ≡ u) → heard (shown t c x y) (unless b (button touch_code u) []) ≡ shown u c x y) [
      | true ↦ λ e. ap (λ v. shown v c x y) (e tt)
      | false ↦ λ e. refl
    ]) (eqb→eq t u)

x-told : (t c : ℕ) (x y v : ℤ) → heard (shown t c x y) (unless (eq_z x v) (axis pointer_x v) []) ≡ shown t c v y
x-told t c x y v =
    (elim (eq_z x v) as (λ b. (T b → x ≡ v) → heard (shown t c x y) (unless b (axis pointer_x v) []) ≡ shown t c v y) [
      | true ↦ λ e. ap (λ z. shown t c z y) (e tt)
      | false ↦ λ e. refl
    ]) (eq_z→eq x v)

y-told : (t c : ℕ) (x y v : ℤ) → heard (shown t c x y) (unless (eq_z y v) (axis pointer_y v) []) ≡ shown t c x v
y-told t c x y v =
    (elim (eq_z y v) as (λ b. (T b → y ≡ v) → heard (shown t c x y) (unless b (axis pointer_y v) []) ≡ shown t c x v) [
      | true ↦ λ e. ap (λ z. shown t c x z) (e tt)
      | false ↦ λ e. refl
    ]) (eq_z→eq y v)

-- The old tool's 0 leaves no tool, and from there the new tool's 1 leaves that one.
tool-off : (a t : ℕ) (x y : ℤ) → heard (shown t (tool_of a) x y) (unless (eqb (tool_of a) 0) (button (tool_of a) 0) []) ≡ shown t 0 x y
tool-off zero t x y = refl
tool-off (suc zero) t x y = refl
tool-off (suc (suc zero)) t x y = refl
tool-off (suc (suc (suc zero))) t x y = refl
tool-off (suc (suc (suc (suc zero)))) t x y = refl
tool-off (suc (suc (suc (suc (suc a))))) t x y = refl

tool-on : (b t : ℕ) (x y : ℤ) → heard (shown t 0 x y) (unless (eqb (tool_of b) 0) (button (tool_of b) 1) []) ≡ shown t (tool_of b) x y
tool-on zero t x y = refl
tool-on (suc zero) t x y = refl
tool-on (suc (suc zero)) t x y = refl
tool-on (suc (suc (suc zero))) t x y = refl
tool-on (suc (suc (suc (suc zero)))) t x y = refl
tool-on (suc (suc (suc (suc (suc b))))) t x y = refl

tools_told : (a b t : ℕ) (x y : ℤ) → heard (shown t (tool_of a) x y) (swaps (tool_of a) (tool_of b)) ≡ shown t (tool_of b) x y
tools_told a b t x y =
    let l = shown t (tool_of a) x y in
    (elim (eqb (tool_of a) (tool_of b)) as (λ e. (T e → tool_of a ≡ tool_of b) → heard l (unless (e || eqb (tool_of a) 0) (button (tool_of a) 0) (unless (e || eqb (tool_of b) 0) (button (tool_of b) 1) [])) ≡ shown t (tool_of b) x y) [
      | true ↦ λ e. ap (λ c. shown t c x y) (e tt)
      | false ↦ λ e.
          let on = unless (eqb (tool_of b) 0) (button (tool_of b) 1) [] in
          ap (heard l) (unless_append (eqb (tool_of a) 0) (button (tool_of a) 0) [] on)
          ∙ heard_append l (unless (eqb (tool_of a) 0) (button (tool_of a) 0) []) on
          ∙ ap (λ m. heard m on) (tool-off a t x y)
          ∙ tool-on b t x y
    ]) (eqb→eq (tool_of a) (tool_of b))

moves-told : (t c : ℕ) (q z : Pointer) → heard (shown t c q.x q.y) (moves q z) ≡ shown t c z.x z.y
moves-told t c q z =
    let ys = unless (eq_z q.y z.y) (axis pointer_y z.y) [] in
    let l = shown t c q.x q.y in
    ap (heard l) (unless_append (eq_z q.x z.x) (axis pointer_x z.x) [] ys)
    ∙ heard_append l (unless (eq_z q.x z.x) (axis pointer_x z.x) []) ys
    ∙ ap (λ m. heard m ys) (x-told t c q.x q.y z.x)
    ∙ y-told t c z.x q.y z.y

-- Touch first: then only the new touch.
before-told : (q z : Pointer) → heard (display q) (events_before q z) ≡ shown z.touch q.tool q.x q.y
before-told q z = touch-told q.touch z.touch q.tool q.x q.y

after-told : (a b : ℕ) (q z : Pointer) → TouchedBy a q → TouchedBy b z → heard (shown z.touch q.tool q.x q.y) (events_after q z) ≡ display z
after-told a b q z c d =
    let t = z.touch in
    let l = shown t q.tool q.x q.y in
    let tools : heard l (swaps q.tool z.tool) ≡ shown t z.tool q.x q.y = rw (c.tools, d.tools) (tools_told a b t q.x q.y) in
    heard_append l (swaps q.tool z.tool) (moves q z)
    ∙ ap (λ m. heard m (moves q z)) tools
    ∙ moves-told t z.tool q z

-- ---- the contact events leave a display alone

sent-unlisted : (c : ℕ) (fs : List Field) (i : ℕ) (v : ℤ) → T (unlisted c (field_codes fs)) → T (good_at fs i v) → eqb (code_of (field_codes fs) i) c ≡ false
sent-unlisted c [] i v a g = absurd g
sent-unlisted c (f ∷ fs) zero v a g = is_false (eqb f.code c) (both_left (not (eqb f.code c)) (unlisted c (field_codes fs)) a)
sent-unlisted c (f ∷ fs) (suc i) v a g = sent-unlisted c fs i v (both_right (not (eqb f.code c)) (unlisted c (field_codes fs)) a) g

module _ (p : Panel) (n : T (unpointed (field_codes p.fields))) where
  contact_unheard : (x : Sent) (q : Pointer) → Good p.fields p.slots x → set_at addresses (event_of (field_codes p.fields) x) (display q) ≡ display q
  contact_unheard (send_slot k) q g = refl
  contact_unheard (send_number i v) q g =
      let cs = field_codes p.fields in
      rw (sent-unlisted 0 p.fields i v (both_left (unlisted 0 cs) _ n) g, sent-unlisted 1 p.fields i v (both_right (unlisted 0 cs) _ n) g)
  contact_unheard send_report q g = refl

  contacts_unheard : (xs : List Sent) (q : Pointer) → AllGood p.fields p.slots xs → heard (display q) (map (event_of (field_codes p.fields)) xs) ≡ display q
  contacts_unheard [] q g = refl
  contacts_unheard (x ∷ xs) q g = ap (λ l. heard l (map (event_of (field_codes p.fields)) xs)) (contact_unheard x q g.0) ∙ contacts_unheard xs q g.1

good_front : (fs : List Field) (n : ℕ) (xs ys : List Sent) → AllGood fs n (xs ++ ys) → AllGood fs n xs
good_front fs n [] ys g = tt
good_front fs n (x ∷ xs) ys g = (g.0, good_front fs n xs ys g.1)

good_open : (fs : List Field) (n : ℕ) (xs : List Sent) → AllGood fs n (closed xs) → AllGood fs n xs
good_open fs n [] g = tt
good_open fs n (x ∷ xs) g = good_front fs n (x ∷ xs) (send_report ∷ []) g

heard-ended : (l : List ℤ) (es : List Event) (q : Pointer) → heard l es ≡ display q → heard l (ended es) ≡ display q
heard-ended l [] q e = e
heard-ended l (x ∷ es) q e = heard_append l (x ∷ es) (event_of [] send_report ∷ []) ∙ ap (λ m. heard m (event_of [] send_report ∷ [])) e

-- A display that shows the old numbers and hears a frame's events shows the new ones.
pub whole-heard : (p : Panel) (c : ℕ) (old new : Table) (a b : ℕ) (q z : Pointer) → T (unpointed (field_codes p.fields)) → T (good_table p old)
    → T (good_table p new) → TouchedBy a q → TouchedBy b z
    → heard (display q) (whole_events p c old new q z) ≡ display z
whole-heard p c old new a b q z n g h d e =
    let es = contact_events p c old new in
    let good = good_open p.fields p.slots (body c old new) (sending-good p.fields p.slots c old new (good-records p old g) (good-records p new h)) in
    let mid : Pointer = record { touch = z.touch; tool = q.tool; x = q.x; y = q.y } in
    heard-ended (display q) (events_before q z ++ (es ++ events_after q z)) z
    (heard_append (display q) (events_before q z) (es ++ events_after q z)
    ∙ ap (λ l. heard l (es ++ events_after q z)) (before-told q z)
    ∙ heard_append (display mid) es (events_after q z)
    ∙ ap (λ l. heard l (events_after q z)) (contacts_unheard p n (body c old new) mid good)
    ∙ after-told a b q z d e)
