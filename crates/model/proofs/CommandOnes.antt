-- What is read as a command is what is written for it, so that the byte form is unique in both directions; and an answer is known by its number
-- and values. Cited by the crate commands. Assumes nothing.
use mathlib.Core.Path.{◌≡◌, refl, sym, ap, ap₂, ◌∙◌, subst}
use mathlib.Core.Bool.{Bool, true, false, cond}
use mathlib.Core.List.{List, [], ◌∷◌, ◌++◌}
use Prim.Native.Nat.{ℕ, zero, suc, ◌+◌, ◌*◌, ◌/◌, ◌≤◌, ◌<◌}
use native.Mathlib.Omega.{arith}
use lib.Dec.{eqb}
use lib.IntN.{ℤ, pos, nat_abs}
use lib.ListN.{length, get_or, take, drop, length-drop}
use lib.Seq.{drop_at, get_or-drop, drop-cons}
use borrow.Author.Tests.{eqb-true, lt-ltb}
use Rattle.model.specs.Force.{Bytes}
use Rattle.model.specs.Pod.{byte_at, clock_in, word}
use Rattle.model.specs.Commands.{Command, reset, buttons, relative, absolute, threshold, scale, interrogate, load, set_clock, ask_clock}
use Rattle.model.specs.Commands.{command_number, command_values, good_command, wide, sized, high, low, command_bytes}
use Rattle.model.specs.Commands.{Kind, reset_kind, buttons_kind, relative_kind, absolute_kind, threshold_kind, scale_kind, interrogate_kind, load_kind}
use Rattle.model.specs.Commands.{set_clock_kind, ask_clock_kind, other_kind, kind_of, length_of, kind_is, size_of}
use Rattle.model.specs.Commands.{Answer, command, lost, not_for_us, refused, unfinished, nothing, answer_number, answer_values, judged}
use Rattle.model.specs.Commands.{read_at, Stands}
use Rattle.model.proofs.CommandReads.{kind_at, by_read}
use Rattle.model.proofs.CommandForms.{bytes-length, bytes-kind, bytes_say}

-- ---- the first byte of a kind

abbrev FirstIs : Kind → ℕ → Type 0
FirstIs reset_kind b = b ≡ 0x80
FirstIs buttons_kind b = b ≡ 0x07
FirstIs relative_kind b = b ≡ 0x08
FirstIs absolute_kind b = b ≡ 0x09
FirstIs threshold_kind b = b ≡ 0x0b
FirstIs scale_kind b = b ≡ 0x0c
FirstIs interrogate_kind b = b ≡ 0x0d
FirstIs load_kind b = b ≡ 0x0e
FirstIs set_clock_kind b = b ≡ 0x1b
FirstIs ask_clock_kind b = b ≡ 0x1c
FirstIs other_kind b = Unit {0}

record First (k : Kind) (b : ℕ) : Type 0 where
  is : FirstIs k b

row : (b n : ℕ) (k below : Kind) → (b ≡ n → First k b) → First below b → First (cond (eqb b n) k below) b
row b n k below here other = go (eqb b n) refl
  where
    go : (t : Bool) → eqb b n ≡ t → First (cond t k below) b
    go true e = here (eqb-true b n e)
    go false e = other

-- A first byte is the one of its kind.
first : (b : ℕ) → First (kind_of b) b
unfolding kind_of
first b =
    row b 0x80 _ _ (λ e. record { is = e })
    (row b 0x07 _ _ (λ e. record { is = e })
    (row b 0x08 _ _ (λ e. record { is = e })
    (row b 0x09 _ _ (λ e. record { is = e })
    (row b 0x0b _ _ (λ e. record { is = e })
    (row b 0x0c _ _ (λ e. record { is = e })
    (row b 0x0d _ _ (λ e. record { is = e })
    (row b 0x0e _ _ (λ e. record { is = e })
    (row b 0x1b _ _ (λ e. record { is = e })
    (row b 0x1c _ _ (λ e. record { is = e })
    (record { is = tt }))))))))))

-- ---- the bytes of what is read

-- A list from a place on, number by number.
abbrev cells : ℕ → ℕ → List ℕ → List ℕ
cells zero i l = []
cells (suc n) i l = get_or l i 0 ∷ cells n (suc i) l

front : (n i : ℕ) (l : List ℕ) → i + n ≤ length l → take n (drop i l) ≡ cells n i l
front zero i l h = refl
front (suc n) i l h = ap (take (suc n)) (drop-cons l i 0 (omega arith)) ∙ ap (λ m. get_or l i 0 ∷ m) (front n (suc i) l (omega arith))

word-high : (a b : ℕ) → a < 256 → b < 256 → high (word a b) ≡ a
word-high a b h k = let upper : (256 * a + b) / 256 ≡ a = omega arith in rw upper (omega arith)

word_low : (a b : ℕ) → b < 256 → low (word a b) ≡ b
word_low a b k = omega arith

-- Bytes that begin with those of a command that can be written.
record Form (c : Command) (b : List ℕ) : Type 0 where
  form : take (size_of c) b ≡ command_bytes c
  good : good_command c ≡ true
  fits : sized c ≡ true

command-is : (a b : Command) → command a ≡ command b → a ≡ b
command-is a b e = cc

module _ (b : List ℕ) (c : Command) where
  -- A command that is taken where a test passes, and is else no command.
  by_test : (t : Bool) (x : Command) (other : Answer) → (other ≡ command c → ⊥) → (t ≡ true → Form x b) → cond t (command x) other ≡ command c → Form c b
  by_test true x other n f e = subst (λ y. Form y b) (command-is x c e) (f refl)
  by_test false x other n f e = absurd (n e)

  no_lost : lost ≡ command c → ⊥
  no_lost e = let z : ◌≡◌ {A = ℕ} 0 1 = cc in omega arith

  no_refused : refused ≡ command c → ⊥
  no_refused e = let z : ◌≡◌ {A = ℕ} 0 1 = cc in omega arith

  is : (x : Command) → Form x b → command x ≡ command c → Form c b
  is x f e = subst (λ y. Form y b) (command-is x c e) f

-- Two numbers of two bytes each are any 16 bits.
wide_words : (p q r s : ℕ) → p < 256 → q < 256 → r < 256 → s < 256 → wide (word p q) (word r s) ≡ true
wide_words p q r s hp hq hr hs = rw (lt-ltb (word p q) 65_536 (omega arith), lt-ltb (word r s) 65_536 (omega arith))

-- Whatever bytes are judged to be a command begin with what is written for it.
judged-form : (k : Kind) (b : List ℕ) (c : Command) → Bytes b → length_of k ≤ length b → FirstIs k (byte_at b 0) → judged k b ≡ command c → Form c b
judged-form reset_kind b c y l f =
    by_test b c (eqb (byte_at b 1) 1) reset lost (no_lost b c)
    (λ t. record { form = front 2 0 b l ∙ rw (f, eqb-true (byte_at b 1) 1 t); good = refl; fits = refl })
judged-form buttons_kind b c y l f =
    by_test b c (good_command (buttons (byte_at b 1))) _ refused (no_refused b c) (λ t. record { form = front 2 0 b l ∙ rw f; good = t; fits = refl })
judged-form relative_kind b c y l f = is b c relative (record { form = front 1 0 b l ∙ rw f; good = refl; fits = refl })
judged-form absolute_kind b c y l f =
    let at : ℕ → ℕ = λ i. get_or b i 0 in
    is b c (absolute (word (at 1) (at 2)) (word (at 3) (at 4))) (record {
      form =
          front 5 0 b l
          ∙ rw (
            f,
            word-high (at 1) (at 2) (y 1) (y 2),
            word_low (at 1) (at 2) (y 2),
            word-high (at 3) (at 4) (y 3) (y 4),
            word_low (at 3) (at 4) (y 4),
          );
      good = refl;
      fits = wide_words (at 1) (at 2) (at 3) (at 4) (y 1) (y 2) (y 3) (y 4);
    })
judged-form threshold_kind b c y l f =
    by_test b c (good_command (threshold (byte_at b 1) (byte_at b 2))) _ refused (no_refused b c)
    (λ t. record { form = front 3 0 b l ∙ rw f; good = t; fits = refl })
judged-form scale_kind b c y l f =
    by_test b c (good_command (scale (byte_at b 1) (byte_at b 2))) _ refused (no_refused b c)
    (λ t. record { form = front 3 0 b l ∙ rw f; good = t; fits = refl })
judged-form interrogate_kind b c y l f = is b c interrogate (record { form = front 1 0 b l ∙ rw f; good = refl; fits = refl })
judged-form load_kind b c y l f =
    let at : ℕ → ℕ = λ i. get_or b i 0 in
    by_test b c (eqb (at 1) 0) (load (word (at 2) (at 3)) (word (at 4) (at 5))) refused (no_refused b c)
    (λ t. record {
      form =
          front 6 0 b l
          ∙ rw (
            f,
            eqb-true (at 1) 0 t,
            word-high (at 2) (at 3) (y 2) (y 3),
            word_low (at 2) (at 3) (y 3),
            word-high (at 4) (at 5) (y 4) (y 5),
            word_low (at 4) (at 5) (y 5),
          );
      good = refl;
      fits = wide_words (at 2) (at 3) (at 4) (at 5) (y 2) (y 3) (y 4) (y 5);
    })
judged-form set_clock_kind b c y l f =
    by_test b c (good_command (set_clock (clock_in b))) _ refused (no_refused b c) (λ t. record { form = front 7 0 b l ∙ rw f; good = t; fits = refl })
judged-form ask_clock_kind b c y l f = is b c ask_clock (record { form = front 1 0 b l ∙ rw f; good = refl; fits = refl })
judged-form other_kind b c y l f = λ e. let z : ◌≡◌ {A = ℕ} 0 1 = cc in absurd (omega arith)

bytes_drop : (n : ℕ) (l : List ℕ) → Bytes l → Bytes (drop n l)
bytes_drop n l b i = rw (get_or-drop n l i 0) (b (n + i))

-- Whatever is read as a command stands there as it is written, and can be written.
pub read-form : (input : List ℕ) (at : ℕ) (c : Command) → Bytes input → (read_at input at).answer ≡ command c
    → Stands c input at × ((read_at input at).next ≡ at + size_of c)
read-form input at c y =
    by_read input at (λ r. r.answer ≡ command c → Stands c input at × (r.next ≡ at + size_of c))
    (λ l e. let z : ◌≡◌ {A = ℕ} 0 1 = cc in absurd (omega arith))
    (λ h l e. let z : ◌≡◌ {A = ℕ} 0 1 = cc in absurd (omega arith))
    (λ h l e.
    let b = drop at input in
    let k = kind_at input at in
    let z : at + 0 ≡ at = omega arith in
    let same : byte_at b 0 ≡ get_or input at 0 = get_or-drop at input 0 0 ∙ ap (λ i. get_or input i 0) z in
    let f : FirstIs k (byte_at b 0) = subst (FirstIs k) (sym same) (first (get_or input at 0)).is in
    let g = judged-form k b c (bytes_drop at input y) (rw (length-drop at input) l) f e in
    let n : length_of k ≡ size_of c = size_is k b c e in
    (record { good = g.good; fits = g.fits; room = omega (arith, n); form = g.form }, ap (λ m. at + m) n))
  where
    by_taking : (t : Bool) (x c : Command) (other : Answer) → (other ≡ command c → ⊥) → cond t (command x) other ≡ command c → size_of x ≡ size_of c
    by_taking true x c other n e = ap size_of (command-is x c e)
    by_taking false x c other n e = absurd (n e)

    size_is : (k : Kind) (b : List ℕ) (c : Command) → judged k b ≡ command c → length_of k ≡ size_of c
    size_is reset_kind b c e = by_taking (eqb (byte_at b 1) 1) reset c lost (no_lost b c) e
    size_is buttons_kind b c e = by_taking (good_command (buttons (byte_at b 1))) (buttons (byte_at b 1)) c refused (no_refused b c) e
    size_is relative_kind b c e = ap size_of (command-is relative c e)
    size_is absolute_kind b c e = ap size_of (command-is (absolute (word (byte_at b 1) (byte_at b 2)) (word (byte_at b 3) (byte_at b 4))) c e)
    size_is threshold_kind b c e =
        by_taking (good_command (threshold (byte_at b 1) (byte_at b 2))) (threshold (byte_at b 1) (byte_at b 2)) c refused (no_refused b c) e
    size_is scale_kind b c e = by_taking (good_command (scale (byte_at b 1) (byte_at b 2))) (scale (byte_at b 1) (byte_at b 2)) c refused (no_refused b c) e
    size_is interrogate_kind b c e = ap size_of (command-is interrogate c e)
    size_is load_kind b c e =
        by_taking (eqb (byte_at b 1) 0) (load (word (byte_at b 2) (byte_at b 3)) (word (byte_at b 4) (byte_at b 5))) c refused (no_refused b c) e
    size_is set_clock_kind b c e = by_taking (good_command (set_clock (clock_in b))) (set_clock (clock_in b)) c refused (no_refused b c) e
    size_is ask_clock_kind b c e = ap size_of (command-is ask_clock c e)
    size_is other_kind b c e = let z : ◌≡◌ {A = ℕ} 0 1 = cc in absurd (omega arith)

-- ---- one command

-- Bytes that begin with two good commands begin with one, and what follows it is the same: no byte form begins another.
pub one_command : (a b : Command) (r s : List ℕ) → command_bytes a ++ r ≡ command_bytes b ++ s
    → good_command a ≡ true → sized a ≡ true → good_command b ≡ true → sized b ≡ true → (a ≡ b) × (r ≡ s)
one_command a b r s e g h k l =
    let kinds : kind_is a ≡ kind_is b = sym (bytes-kind a r) ∙ ap (λ t. kind_of (byte_at t 0)) e ∙ bytes-kind b s in
    let same = command-is a b (sym (bytes_say a r g h) ∙ ap₂ judged kinds e ∙ bytes_say b s k l) in (
      same,
      sym (drop_at (command_bytes a) r (size_of a) (bytes-length a))
          ∙ ap₂ drop (ap size_of same) e
          ∙ drop_at (command_bytes b) s (size_of b) (bytes-length b),
    )

-- ---- an answer by its number and values

abbrev part : List ℤ → ℕ → ℕ
part v i = nat_abs (get_or v i (pos 0))

-- The command of a number and values; the command's own number stands before them.
abbrev ordered : ℕ → List ℤ → Command
ordered zero v = reset
ordered (suc zero) v = buttons (part v 1)
ordered (suc (suc zero)) v = relative
ordered (suc (suc (suc zero))) v = absolute (part v 1) (part v 2)
ordered (suc (suc (suc (suc zero)))) v = threshold (part v 1) (part v 2)
ordered (suc (suc (suc (suc (suc zero))))) v = scale (part v 1) (part v 2)
ordered (suc (suc (suc (suc (suc (suc zero)))))) v = interrogate
ordered (suc (suc (suc (suc (suc (suc (suc zero))))))) v = load (part v 1) (part v 2)
ordered (suc (suc (suc (suc (suc (suc (suc (suc zero)))))))) v =
    set_clock (record { year = part v 1; month = part v 2; day = part v 3; hour = part v 4; minute = part v 5; second = part v 6 })
ordered (suc (suc (suc (suc (suc (suc (suc (suc (suc n))))))))) v = ask_clock

ordered_is : (c : Command) → ordered (command_number c) (pos (command_number c) ∷ command_values c) ≡ c
ordered_is reset = refl
ordered_is (buttons action) = refl
ordered_is relative = refl
ordered_is (absolute x y) = refl
ordered_is (threshold x y) = refl
ordered_is (scale x y) = refl
ordered_is interrogate = refl
ordered_is (load x y) = refl
ordered_is (set_clock c) = refl
ordered_is ask_clock = refl

-- The answer of a number and values.
abbrev known : ℕ → List ℤ → Answer
known zero v = command (ordered (part v 0) v)
known (suc zero) v = lost
known (suc (suc zero)) v = not_for_us
known (suc (suc (suc zero))) v = refused
known (suc (suc (suc (suc zero)))) v = unfinished
known (suc (suc (suc (suc (suc n))))) v = nothing

known_is : (a : Answer) → known (answer_number a) (answer_values a) ≡ a
known_is (command c) = ap command (ordered_is c)
known_is lost = refl
known_is not_for_us = refl
known_is refused = refl
known_is unfinished = refl
known_is nothing = refl

-- They tell every two answers apart.
pub told-apart : (a b : Answer) → answer_number a ≡ answer_number b → answer_values a ≡ answer_values b → a ≡ b
told-apart a b n v = sym (known_is a) ∙ ap₂ known n v ∙ known_is b
