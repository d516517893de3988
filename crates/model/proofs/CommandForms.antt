-- Each command has one byte form: what is written for a good command is read as it, wherever it stands and whatever follows; what is read as a
-- command is what is written for it; and a list of commands reads back as the list. Cited by CommandCalls and the crate commands. Assumes nothing.
use mathlib.Core.Path.{◌≡◌, refl, sym, ap, ap₂, ◌∙◌}
use mathlib.Core.Bool.{true, cond, ◌&&◌}
use mathlib.Core.List.{List, [], ◌∷◌, ◌++◌, append_assoc}
use Prim.Native.Nat.{ℕ, zero, suc, ◌+◌, ◌-◌, ◌≤◌, ◌<◌}
use native.Mathlib.Omega.{arith}
use lib.Dec.{ltb}
use lib.ListN.{length, get_or, drop, length-append, length-drop}
use lib.Seq.{drop_at, drop-drop, get_or-drop}
use borrow.Author.Tests.{ltb-true}
use Rattle.model.proofs.Bools.{and_left, and_right}
use Rattle.model.specs.Pod.{byte_at, word}
use Rattle.model.specs.Commands.{Command, reset, buttons, relative, absolute, threshold, scale, interrogate, load, set_clock, ask_clock}
use Rattle.model.specs.Commands.{good_command, wide, sized, high, low, command_bytes}
use Rattle.model.specs.Commands.{kind_of, length_of, kind_is, size_of}
use Rattle.model.specs.Commands.{command, nothing, waits, Read, judged}
use Rattle.model.specs.Commands.{read_at, all_bytes, all_good, reads_by, reads, standing}
use Rattle.model.proofs.CommandReads.{sizes, kind_at, read_none, read_whole}

-- ---- the bytes of a command

-- They are as many as its kind says,
pub bytes-length : (c : Command) → length (command_bytes c) ≡ size_of c
bytes-length reset = refl
bytes-length (buttons action) = refl
bytes-length relative = refl
bytes-length (absolute x y) = refl
bytes-length (threshold x y) = refl
bytes-length (scale x y) = refl
bytes-length interrogate = refl
bytes-length (load x y) = refl
bytes-length (set_clock c) = refl
bytes-length ask_clock = refl

-- and the first of them says the kind.
pub bytes-kind : (c : Command) (rest : List ℕ) → kind_of (byte_at (command_bytes c ++ rest) 0) ≡ kind_is c
unfolding kind_of
bytes-kind reset rest = refl
bytes-kind (buttons action) rest = refl
bytes-kind relative rest = refl
bytes-kind (absolute x y) rest = refl
bytes-kind (threshold x y) rest = refl
bytes-kind (scale x y) rest = refl
bytes-kind interrogate rest = refl
bytes-kind (load x y) rest = refl
bytes-kind (set_clock c) rest = refl
bytes-kind ask_clock rest = refl

-- Two bytes of a number, the high one first, are that number,
word_back : (n : ℕ) → n < 65_536 → word (high n) (low n) ≡ n
word_back n h = omega arith

wide_back : (x y : ℕ) → wide x y ≡ true → (word (high x) (low x) ≡ x) × (word (high y) (low y) ≡ y)
wide_back x y e =
    let a = ltb x 65_536 in
    let b = ltb y 65_536 in
    (word_back x (ltb-true x 65_536 (and_left a b e)), word_back y (ltb-true y 65_536 (and_right a b e)))

-- ---- what is written is read

-- The bytes of a good command say that command, whatever follows them.
pub bytes_say : (c : Command) (rest : List ℕ) → good_command c ≡ true → sized c ≡ true → judged (kind_is c) (command_bytes c ++ rest) ≡ command c
bytes_say reset rest g s = refl
bytes_say (buttons action) rest g s = rw g
bytes_say relative rest g s = refl
bytes_say (absolute x y) rest g s = let w = wide_back x y s in ap₂ (λ a b. command (absolute a b)) w.0 w.1
bytes_say (threshold x y) rest g s = rw g
bytes_say (scale x y) rest g s = rw g
bytes_say interrogate rest g s = refl
bytes_say (load x y) rest g s = let w = wide_back x y s in ap₂ (λ a b. command (load a b)) w.0 w.1
bytes_say (set_clock c) rest g s = rw g
bytes_say ask_clock rest g s = refl

-- Wherever a good command's bytes stand in an input, it is read there, and reading goes on after it.
pub written_read : (input rest : List ℕ) (at : ℕ) (c : Command) → drop at input ≡ command_bytes c ++ rest → good_command c ≡ true → sized c ≡ true
    → read_at input at ≡ record { answer = command c; next = at + size_of c }
written_read input rest at c e g s =
    let size : length input - at ≡ size_of c + length rest =
    sym (length-drop at input) ∙ ap length e ∙ length-append (command_bytes c) rest ∙ ap (λ n. n + length rest) (bytes-length c) in
    let z : at + 0 ≡ at = omega arith in
    let first : get_or input at 0 ≡ byte_at (command_bytes c ++ rest) 0 =
    ap (λ i. get_or input i 0) (sym z) ∙ sym (get_or-drop at input 0 0) ∙ ap (λ l. get_or l 0 0) e in
    let kind : kind_at input at ≡ kind_is c = ap kind_of first ∙ bytes-kind c rest in
    let some = sizes (kind_is c) in
    read_whole input at (omega (arith, size, some)) (rw kind (omega (arith, size)))
    ∙ ap (λ k. record { answer = judged k (drop at input); next = at + length_of k }) kind
    ∙ ap (λ l. record { answer = judged (kind_is c) l; next = at + size_of c }) e
    ∙ ap (λ a. record { answer = a; next = at + size_of c }) (bytes_say c rest g s)

-- ---- a list of commands

pub all_length : (c : Command) (cs : List Command) → length (all_bytes (c ∷ cs)) ≡ size_of c + length (all_bytes cs)
all_length c cs = length-append (command_bytes c) (all_bytes cs) ∙ ap (λ n. n + length (all_bytes cs)) (bytes-length c)

-- What is left of an input after a command that stands there.
after_one : (input rest : List ℕ) (at : ℕ) (c : Command) → drop at input ≡ command_bytes c ++ rest → drop (at + size_of c) input ≡ rest
after_one input rest at c e =
    sym (drop-drop (size_of c) at input) ∙ ap (drop (size_of c)) e ∙ drop_at (command_bytes c) rest (size_of c) (bytes-length c)

-- Commands that stand one after the other are read one after the other, wherever they stand and whatever follows,
pub list_read : (cs : List Command) (input rest : List ℕ) (at : ℕ) → drop at input ≡ all_bytes cs ++ rest → all_good cs ≡ true
    → reads_by (length cs) input at ≡ standing at cs
list_read [] input rest at e g = refl
list_read (c ∷ cs) input rest at e g =
    let good = and_left (good_command c && sized c) (all_good cs) g in
    let here : drop at input ≡ command_bytes c ++ (all_bytes cs ++ rest) = e ∙ append_assoc (command_bytes c) (all_bytes cs) rest in
    let r = written_read input (all_bytes cs ++ rest) at c here (and_left (good_command c) (sized c) good) (and_right (good_command c) (sized c) good) in
    let next = after_one input (all_bytes cs ++ rest) at c here in
    let others = list_read cs input rest (at + size_of c) next (and_right (good_command c && sized c) (all_good cs) g) in
    ap (λ (q : Read). q ∷ cond (waits q.answer) [] (reads_by (length cs) input q.next)) r
    ∙ ap (λ rs. record { answer = command c; next = at + size_of c } ∷ rs) others

-- and an input that ends with them gives nothing after them.
pub list_ends : (cs : List Command) (turns : ℕ) (input : List ℕ) (at : ℕ) → length cs < turns → drop at input ≡ all_bytes cs → at ≤ length input
    → all_good cs ≡ true → reads_by turns input at ≡ standing at cs ++ record { answer = nothing; next = length input } ∷ []
list_ends cs zero input at l e h g = absurd (omega arith)
list_ends [] (suc turns) input at l e h g =
    let none : length input ≤ at = omega (arith, sym (length-drop at input) ∙ ap length e) in
    ap (λ (q : Read). q ∷ cond (waits q.answer) [] (reads_by turns input q.next)) (read_none input at none)
list_ends (c ∷ cs) (suc turns) input at l e h g =
    let good = and_left (good_command c && sized c) (all_good cs) g in
    let r = written_read input (all_bytes cs) at c e (and_left (good_command c) (sized c) good) (and_right (good_command c) (sized c) good) in
    let next = after_one input (all_bytes cs) at c e in
    let size : length input - at ≡ size_of c + length (all_bytes cs) = sym (length-drop at input) ∙ ap length e ∙ all_length c cs in
    let some = sizes (kind_is c) in
    let others = list_ends cs turns input (at + size_of c) (omega arith) next (omega (arith, size, some)) (and_right (good_command c && sized c) (all_good cs) g) in
    ap (λ (q : Read). q ∷ cond (waits q.answer) [] (reads_by turns input q.next)) r
    ∙ ap (λ rs. record { answer = command c; next = at + size_of c } ∷ rs) others

-- No more commands than bytes.
few : (cs : List Command) → length cs ≤ length (all_bytes cs)
few [] = omega arith
few (c ∷ cs) = omega (arith, few cs, all_length c cs, sizes (kind_is c))

-- So a list of good commands, written one after the other behind any bytes, reads back as the list.
pub list_back : (cs : List Command) (before : List ℕ) → all_good cs ≡ true
    → reads (before ++ all_bytes cs) (length before)
    ≡ standing (length before) cs ++ record { answer = nothing; next = length (before ++ all_bytes cs) } ∷ []
list_back cs before g =
    let size = length-append before (all_bytes cs) in
    list_ends cs (suc (length (before ++ all_bytes cs))) (before ++ all_bytes cs) (length before) (omega (arith, size, few cs))
    (drop_at before (all_bytes cs) (length before) refl) (omega (arith, size)) g
