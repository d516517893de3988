-- What was skipped, told by the numbers of the events and not by what they ask: the theorems on the counts of skipped events speak of it. Assumes nothing.
use Rattle.std.specs.Prelude.{◌≡◌, Bool, true, not, cond, ◌&&◌, ◌||◌, List, [], ◌∷◌, ◌++◌, ℕ, ◌+◌, eqb}
use Rattle.model.specs.Panel.{Panel, slot_code, unlisted, field_codes}
use Rattle.model.specs.Events.{Event, Act, skip, bad, report, loss, slot, number, of_code, classify}
use Rattle.model.specs.Reader.{Mode, following, dropped, stale, Reader, step, read, none, event, Counts}

-- Types 0 and 3 are known.
abbrev pub known_type : Event → Bool
known_type e = eqb e.type 0 || eqb e.type 3

-- A code of its type: SYN_REPORT and SYN_DROPPED of type 0; ABS_MT_SLOT and the fields' codes of any other.
abbrev pub known_code : Panel → Event → Bool
known_code p e = cond (eqb e.type 0) (eqb e.code 0 || eqb e.code 3) (eqb e.code slot_code || not (unlisted e.code (field_codes p.fields)))

-- An unknown type.
abbrev pub type_unknown : Event → Bool
type_unknown e = not (known_type e)

-- An unknown code of a known type.
abbrev pub code_unknown : Panel → Event → Bool
code_unknown p e = known_type e && not (known_code p e)

-- Document 01's skipped event: one that it does not list.
abbrev pub skipped_by : Panel → Event → Bool
skipped_by p e = not (known_type e && known_code p e)

-- One, where the reader follows and a test passes.
abbrev pub one_if : Mode → Bool → ℕ
one_if following b = cond b 1 0
one_if dropped b = 0
one_if stale b = 0

-- How many events find the reader following and pass a test.
abbrev pub met : Panel → (Event → Bool) → Reader → List Event → ℕ
met p f r [] = 0
met p f r (e ∷ es) = one_if r.mode (f e) + met p f (step r (classify p e)) es

-- The first event skipped while following, with what stands before and after it: nothing before it was skipped.
pub record FirstSkipped (p : Panel) (r : Reader) (es : List Event) (t c : ℕ) : Type 0 where
  pub before : List Event
  pub it : Event
  pub after : List Event
  pub cut : es ≡ before ++ it ∷ after
  pub type : it.type ≡ t
  pub code : it.code ≡ c
  pub unknown : skipped_by p it ≡ true
  pub follows : (read p r before).mode ≡ following
  pub none : met p (skipped_by p) r before ≡ 0

-- What a run's counts say of the events es that a reader r read: the two counts by the events' numbers, together document 01's count of skipped
-- events; the first skipped is the first of these, and there is none exactly where both counts are 0.
pub record SkipsTold (p : Panel) (r : Reader) (es : List Event) (a : Counts) : Type 0 where
  pub types : a.types ≡ met p type_unknown r es
  pub codes : a.codes ≡ met p (code_unknown p) r es
  pub together : a.types + a.codes ≡ met p (skipped_by p) r es
  pub first : (t c : ℕ) → a.first ≡ event t c → FirstSkipped p r es t c
  pub zero : a.first ≡ none → a.types + a.codes ≡ 0
  pub nothing : a.types + a.codes ≡ 0 → a.first ≡ none

-- An act without the words on why it is skipped.
abbrev pub plain : Act → Act
plain (skip w t c) = skip of_code 0 0
plain bad = bad
plain report = report
plain loss = loss
plain (slot k) = slot k
plain (number i v) = number i v
