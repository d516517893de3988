-- Ranks by beginning (K6): which contacts began before which, as one number for each record of a table, and what a frame makes of them. Assumes nothing.
use Rattle.std.specs.Prelude.{Bool, true, false, cond, ◌&&◌, ◌||◌, List, [], ◌∷◌, ℕ, zero, suc, ltb, eqb, ℤ}
use Rattle.model.specs.Table.{Table, id_of, live}
use Rattle.model.specs.Frame.{kind_of, Fate, none, goes_on, begins, fate}

-- ---- lists of numbers

-- b is in the list.
abbrev pub among : ℕ → List ℕ → Bool
among b [] = false
among b (r ∷ l) = eqb b r || among b l

-- One more where a test passes.
abbrev pub one_more_if : Bool → ℕ → ℕ
one_more_if true n = suc n
one_more_if false n = n

-- How many numbers below b are in the list, each counted once.
abbrev pub held_below : ℕ → List ℕ → ℕ
held_below zero l = 0
held_below (suc b) l = one_more_if (among b l) (held_below b l)

-- Every number below b is in the list.
abbrev pub full : ℕ → List ℕ → Bool
full zero l = true
full (suc b) l = among b l && full b l

-- Below each of the first list's numbers every number is in the second list.
abbrev pub no_gaps : List ℕ → List ℕ → Bool
no_gaps [] l = true
no_gaps (r ∷ k) l = full r l && no_gaps k l

-- The least number above all of the list; 0 for none.
abbrev pub above : List ℕ → ℕ
above [] = 0
above (r ∷ l) = cond (ltb r (above l)) (above l) (suc r)

-- ---- well-formed ranks

-- How many of a table's ids are live.
abbrev pub live_count : List ℤ → ℕ
live_count [] = 0
live_count (v ∷ l) = one_more_if (live v) (live_count l)

-- The ranks of the live contacts, by a table's ids and ranks.
abbrev pub live_ranks : List ℤ → List ℕ → List ℕ
live_ranks [] rs = []
live_ranks (v ∷ l) [] = []
live_ranks (v ∷ l) (r ∷ rs) = cond (live v) (r ∷ live_ranks l rs) (live_ranks l rs)

-- As many ranks as records, and 0 for every unused one.
abbrev pub zero_unused : List ℤ → List ℕ → Bool
zero_unused [] [] = true
zero_unused [] (r ∷ rs) = false
zero_unused (v ∷ l) [] = false
zero_unused (v ∷ l) (r ∷ rs) = (live v || eqb r 0) && zero_unused l rs

-- Well formed by a table's ids: the live contacts' ranks go from 0 on without gaps, and an unused record's is 0. Ties are equal ranks.
abbrev pub good_ranks : List ℤ → List ℕ → Bool
good_ranks l rs = zero_unused l rs && no_gaps (live_ranks l rs) (live_ranks l rs)

-- ---- after a frame

-- A record without a row: its contact goes on, if it has one.
abbrev pub stays : ℤ → Fate
stays v = cond (live v) goes_on none

-- What becomes of each record of a table.
abbrev pub fates : List (List ℤ) → Table → List Fate
fates [] [] = []
fates [] (s ∷ t) = stays (id_of s) ∷ fates [] t
fates (g ∷ fr) [] = []
fates (g ∷ fr) (s ∷ t) = fate (kind_of g) (id_of s) ∷ fates fr t

-- When the contacts that are live after a frame began, in the order of time: the old rank of one that goes on, and `top` for all that begin.
abbrev pub ages : ℕ → List Fate → List ℕ → List ℕ
ages top [] rs = []
ages top (a ∷ fs) [] = []
ages top (none ∷ fs) (r ∷ rs) = ages top fs rs
ages top (goes_on ∷ fs) (r ∷ rs) = r ∷ ages top fs rs
ages top (begins ∷ fs) (r ∷ rs) = top ∷ ages top fs rs

-- One record's rank: f of its age, or 0 without a contact.
abbrev pub ranked : (ℕ → ℕ) → ℕ → Fate → ℕ → ℕ
ranked f top none r = 0
ranked f top goes_on r = f r
ranked f top begins r = f top

-- Each record's rank.
abbrev pub rerank : (ℕ → ℕ) → ℕ → List Fate → List ℕ → List ℕ
rerank f top [] rs = []
rerank f top (a ∷ fs) [] = []
rerank f top (a ∷ fs) (r ∷ rs) = ranked f top a r ∷ rerank f top fs rs

-- A contact's rank after a frame is how many different ages are below its own. All that begin, of kind 2 too, share the rank after all that go on.
abbrev pub ranks_after : List Fate → List ℕ → List ℕ
ranks_after fs rs = rerank (λ b. held_below b (ages (above rs) fs rs)) (above rs) fs rs
