-- Pointer emulation (K6): what an old display should see of a table and its ranks, and the events that tell it. Assumes nothing.
-- It is for layouts whose first two axes are x and y: numbers 1 and 2 of a slot record.
use Rattle.std.specs.Prelude.{Bool, false, cond, ◌&&◌, ◌||◌, List, [], ◌∷◌, ◌++◌, map, ℕ, zero, suc, ◌+◌, eqb, ℤ, pos, length, get_or}
use Rattle.model.specs.Numbers.{eq_z}
use Rattle.model.specs.Panel.{Layout, Panel, unlisted, field_codes, axis_codes, x_axis, y_axis}
use Rattle.model.specs.Table.{Table, live, ids}
use Rattle.model.specs.Events.{Event}
use Rattle.model.specs.Sending.{unless, body, event_of, send_report, changed_in}
use Rattle.model.specs.Reader.{Mode, following, dropped, stale, Skipped, none, event, earlier, Counts, ignoring}
use Rattle.model.specs.Shift.{followed}
use Rattle.model.specs.Ranks.{live_count}

-- ---- codes

-- ABS_X and ABS_Y, of type 3.
abbrev pub pointer_x : ℕ
pointer_x = 0

abbrev pub pointer_y : ℕ
pointer_y = 1

-- BTN_TOUCH, of type 1.
abbrev pub touch_code : ℕ
touch_code = 0x14a

-- The tools for one contact, two, three, four, and five or more, of type 1.
abbrev pub tool_codes : List ℕ
tool_codes = 0x145 ∷ 0x14d ∷ 0x14e ∷ 0x14f ∷ 0x148 ∷ []

-- None of the codes is that of ABS_X or ABS_Y.
abbrev pub unpointed : List ℕ → Bool
unpointed codes = unlisted pointer_x codes && unlisted pointer_y codes

-- The first two codes are ABS_MT_POSITION_X and _Y.
abbrev pub xy_first : List ℕ → Bool
xy_first [] = false
xy_first (a ∷ []) = false
xy_first (a ∷ b ∷ codes) = eqb a x_axis.code && eqb b y_axis.code

-- A layout that the option is for.
abbrev pub pointable : Layout → Bool
pointable l = xy_first (axis_codes l.axes) && unpointed (axis_codes l.axes)

-- ---- what a display should see

-- BTN_TOUCH, 0 or 1; the code of the tool that is 1, or 0 for none; ABS_X and ABS_Y.
pub record Pointer : Type 0 where
  pub touch : ℕ
  pub tool : ℕ
  pub x : ℤ
  pub y : ℤ

-- All 0.
abbrev pub unmoved : Pointer
unmoved = record { touch = 0; tool = 0; x = pos 0; y = pos 0 }

-- BTN_TOUCH by how many contacts are live.
abbrev pub touch_of : ℕ → ℕ
touch_of zero = 0
touch_of (suc m) = 1

-- The tool by how many contacts are live: 0 for none, and one code for five or more.
abbrev pub tool_of : ℕ → ℕ
tool_of zero = 0
tool_of (suc zero) = 0x145
tool_of (suc (suc zero)) = 0x14d
tool_of (suc (suc (suc zero))) = 0x14e
tool_of (suc (suc (suc (suc zero)))) = 0x14f
tool_of (suc (suc (suc (suc (suc m))))) = 0x148

-- The slot that X and Y follow: the first live one of rank 0, or the table's length if there is none.
abbrev pub oldest_slot : List ℤ → List ℕ → ℕ
oldest_slot [] rs = 0
oldest_slot (v ∷ l) [] = 0
oldest_slot (v ∷ l) (r ∷ rs) = cond (live v && eqb r 0) 0 (suc (oldest_slot l rs))

-- Number i of that slot.
abbrev pub oldest_number : ℕ → Table → List ℕ → ℤ
oldest_number i t rs = get_or (get_or t (oldest_slot (ids t) rs) []) i (pos 0)

-- The old number while no contact is live, else the new one.
abbrev pub still : ℕ → ℤ → ℤ → ℤ
still zero o v = o
still (suc m) o v = v

-- What a table and its ranks give, where q was told last.
abbrev pub pointed : Table → List ℕ → Pointer → Pointer
pointed t rs q =
    let m = live_count (ids t) in
    record { touch = touch_of m; tool = tool_of m; x = still m q.x (oldest_number 1 t rs); y = still m q.y (oldest_number 2 t rs) }

-- Two pointers hold the same numbers.
abbrev pub eq_pointer : Pointer → Pointer → Bool
eq_pointer q z = eqb q.touch z.touch && eqb q.tool z.tool && eq_z q.x z.x && eq_z q.y z.y

-- ---- the eight numbers of a display

-- A tool's number where a is the tool that is 1.
abbrev pub tool_value : ℕ → ℕ → ℤ
tool_value a c = cond (eqb a c) (pos 1) (pos 0)

-- BTN_TOUCH and the five tools.
abbrev pub buttons : Pointer → List ℤ
buttons q = pos q.touch ∷ map (tool_value q.tool) tool_codes

-- X and Y.
abbrev pub place : Pointer → List ℤ
place q = q.x ∷ q.y ∷ []

-- All eight.
abbrev pub display : Pointer → List ℤ
display q = buttons q ++ place q

-- ---- the emulated events of a frame that turns q into z

-- An event of type 1, and one of type 3.
abbrev pub button : ℕ → ℕ → Event
button c v = record { type = 1; code = c; value = pos v }

abbrev pub axis : ℕ → ℤ → Event
axis c v = record { type = 3; code = c; value = v }

-- Before every other event of the frame: BTN_TOUCH.
abbrev pub events_before : Pointer → Pointer → List Event
events_before q z = unless (eqb q.touch z.touch) (button touch_code z.touch) []

-- X, then Y.
abbrev pub moves : Pointer → Pointer → List Event
moves q z = unless (eq_z q.x z.x) (axis pointer_x z.x) (unless (eq_z q.y z.y) (axis pointer_y z.y) [])

-- The old tool 0, then the new tool 1; code 0 is no tool.
abbrev pub swaps : ℕ → ℕ → List Event
swaps a b = unless (eqb a b || eqb a 0) (button a 0) (unless (eqb a b || eqb b 0) (button b 1) [])

-- Just before the report: the tools, X and Y.
abbrev pub events_after : Pointer → Pointer → List Event
events_after q z = swaps q.tool z.tool ++ moves q z

-- All of them.
abbrev pub emulated : Pointer → Pointer → List Event
emulated q z = events_before q z ++ events_after q z

-- ---- the events of a whole frame

-- The report comes last; if there is nothing, nothing is sent.
abbrev pub ended : List Event → List Event
ended [] = []
ended (e ∷ es) = (e ∷ es) ++ event_of [] send_report ∷ []

-- The contact events without their report.
abbrev pub contact_events : Panel → ℕ → Table → Table → List Event
contact_events p c old new = map (event_of (field_codes p.fields)) (body c old new)

-- The events that turn the old table into the new one, and q into z.
abbrev pub whole_events : Panel → ℕ → Table → Table → Pointer → Pointer → List Event
whole_events p c old new q z = ended (events_before q z ++ (contact_events p c old new ++ events_after q z))

-- ---- what a reader tells of them

-- The first of some events, by type and code, or none.
abbrev pub first_told : List Event → Skipped
first_told [] = none
first_told (e ∷ es) = event e.type e.code

-- The counts of a reader that follows a frame, where those of its contact events alone are a: each changed button one more of an unknown type, a changed
-- X or Y one more of an unknown code; first comes BTN_TOUCH, then what was first, then the rest. No other count moves.
abbrev pub with_pointer : Pointer → Pointer → Counts → Counts
with_pointer q z a = record {
  shown = a.shown;
  types = a.types + changed_in (buttons q) (buttons z);
  codes = a.codes + changed_in (place q) (place z);
  bad = a.bad;
  ignored = a.ignored;
  first = earlier (first_told (events_before q z)) (earlier a.first (first_told (events_after q z)));
}

-- What it counts of events that it skips, by the mode that they find; one that does not follow ignores them.
abbrev pub skipped_in : Panel → Mode → List Event → Counts
skipped_in g following es = followed g es
skipped_in g dropped es = ignoring (length es)
skipped_in g stale es = ignoring (length es)

-- ---- a display that hears events

-- The type and code of the events that set a number.
pub record Address : Type 0 where
  pub type : ℕ
  pub code : ℕ

-- Those of the display's numbers, in the order of `display`.
abbrev pub addresses : List Address
addresses =
    map (λ c. record { type = 1; code = c }) (touch_code ∷ tool_codes) ++ (record { type = 3; code = pointer_x } ∷ record { type = 3; code = pointer_y } ∷ [])

-- An event sets every number that has its type and code.
abbrev pub set_at : List Address → Event → List ℤ → List ℤ
set_at [] e l = l
set_at (k ∷ ks) e [] = []
set_at (k ∷ ks) e (v ∷ l) = cond (eqb e.type k.type && eqb e.code k.code) e.value v ∷ set_at ks e l

-- The display's numbers after events.
abbrev pub heard : List ℤ → List Event → List ℤ
heard l [] = l
heard l (e ∷ es) = heard (set_at addresses e l) es
