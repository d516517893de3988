-- What was stored of a line's state is read again, and formed bytes are those of the state that they hold; what an accepted call leaves holds the model's next state, so that calls over bytes go on as the model's do. Cited by export. Assumes nothing.
use mathlib.Core.Path.{◌≡◌, refl, sym, ap, ap₂, ◌∙◌, subst}
use mathlib.Core.Bool.{Bool, true, false, cond, ◌&&◌}
use mathlib.Core.List.{List, [], ◌∷◌, ◌++◌, append_assoc}
use Prim.Native.Nat.{ℕ}
use native.Mathlib.Omega.{arith}
use lib.Dec.{eqb}
use lib.IntN.{ℤ}
use lib.ListN.{length, get_or, take, drop, length-append, length-drop, take-append-drop}
use lib.Seq.{length-take-le, drop-drop, get_or-drop, get_or_at, take-append_seam, drop_at}
use borrow.Author.Tests.{eqb-true, eq-eqb}
use Rattle.model.specs.Panel.{base, setup_good}
use Rattle.model.specs.Calls as C
use Rattle.model.specs.Pieces as M
use Rattle.model.specs.Pieces.{places, fresh_line_call, take_call, line_load_call}
use Rattle.model.proofs.Bools.{and_left, and_right}
use Rattle.panel.specs.Seen.{setup_of}
use Rattle.common.specs.Seen.{verdict_number}
use Rattle.common.proofs.Back.{number-seen}
use Rattle.pieces.specs.declared.LineState.{LineState}
use Rattle.pieces.specs.Seen.{seen, held, fresh_from, taken_from, loaded_from}
use Rattle.lent.specs.Lent.{Bytes}
use Rattle.lent_reader.specs.Layout.{head_size, body_size, begun, head_bytes, body_bytes}
use Rattle.lent_reader.specs.Seen.{setup_from, fresh_verdict_in}
use Rattle.lent_reader.proofs.Stored.{stored_is}
use Rattle.lent_reader.proofs.Fits.{good-fits, first-passed}
use Rattle.lent_reader.proofs.Laid.{body-length}
use Rattle.lent_reader.proofs.Back as R
use Rattle.lent_reader.proofs.Back.{read_again, body_again, head_again, mode-last}
use Rattle.lent_line.specs.Layout.{line_kind, held_at, left_at, spare_at, line_size, formed, unpacked, tail_bytes, packed, LineFits}
use Rattle.lent_line.specs.Seen.{taken_in, loaded_in, FreshIn, TakeIn, LoadIn}
use Rattle.lent_line.proofs.Laid.{formed-length, Ready}
use Rattle.lent_line.proofs.Calls.{fresh-number, fresh-ready, take-ready, load-ready}

-- ---- what was stored is read again

module _ (s : LineState) (f : LineFits s) where
  abbrev head : List ℕ
  head = head_bytes line_kind s.reader.mode s.count

  abbrev front : List ℕ
  front = head ++ body_bytes s.reader

  front_length : length front ≡ left_at
  front_length = omega (arith, body-length s.reader f.reader.whole f.reader.whole_pending)

  pub left_again : take places (drop left_at (packed s)) ≡ s.left
  unfolding packed
  left_again =
      ap (λ l. take places (drop left_at l)) (sym (append_assoc head (body_bytes s.reader) (tail_bytes s.left)))
      ∙ ap (take places) (drop_at front (tail_bytes s.left) left_at front_length)
      ∙ ap (λ n. take n (tail_bytes s.left)) (sym f.left)
      ∙ take-append_seam s.left (0 ∷ [])

  pub unpacked_back : unpacked (packed s) ≡ s
  unfolding packed
  unpacked_back =
      let reader = read_again s.reader f.reader line_kind s.count (tail_bytes s.left) in
      λ i. record { left = left_again i; count = s.count; reader = reader i }

  packed-length : length (packed s) ≡ line_size
  unfolding packed
  packed-length =
      omega (arith, body-length s.reader f.reader.whole f.reader.whole_pending, length-append (body_bytes s.reader) (tail_bytes s.left), length-append s.left (0 ∷ []), f.left)

  spare_again : get_or (packed s) spare_at 0 ≡ 0
  unfolding packed
  spare_again =
      let whole : head ++ (body_bytes s.reader ++ tail_bytes s.left) ≡ (front ++ s.left) ++ (0 ∷ []) =
      sym (append_assoc front s.left (0 ∷ []) ∙ append_assoc head (body_bytes s.reader) (tail_bytes s.left)) in
      ap (λ l. get_or l spare_at 0) whole
      ∙ get_or_at (front ++ s.left) 0 [] 0 spare_at (omega (arith, length-append front s.left, front_length, f.left))

  pub packed-formed : formed (packed s) ≡ true
  unfolding packed
  packed-formed =
      let whole = head ++ (body_bytes s.reader ++ tail_bytes s.left) in
      ap₂ (λ x y. x && ((true && (true && y)) && eqb (get_or whole spare_at 0) 0)) (eq-eqb (length whole) line_size packed-length) (mode-last s.reader.mode)
      ∙ eq-eqb (get_or whole spare_at 0) 0 spare_again

-- ---- formed bytes are those of the state that they hold

last_one : (l : List ℕ) → length l ≡ 1 → get_or l 0 0 ∷ [] ≡ l
last_one [] e = absurd (omega (arith, e))
last_one (x ∷ []) e = refl
last_one (x ∷ y ∷ l) e = absurd (omega (arith, e))

tail_again : (b : List ℕ) → length b ≡ line_size → get_or b spare_at 0 ≡ 0 → tail_bytes (take places (drop left_at b)) ≡ drop left_at b
tail_again b n z =
    let rest = drop spare_at b in
    let one : length rest ≡ 1 = omega (arith, length-drop spare_at b, n) in
    let zero : 0 ∷ [] ≡ rest = ap (λ x. x ∷ []) (sym (get_or-drop spare_at b 0 0 ∙ z)) ∙ last_one rest one in
    ap (λ l. take places (drop left_at b) ++ l) (zero ∙ sym (drop-drop places left_at b)) ∙ take-append-drop places (drop left_at b)

pub packed_back : (b : List ℕ) → formed b ≡ true → Bytes b → packed (unpacked b) ≡ b
unfolding packed
packed_back b e bytes =
    let more = and_right (eqb (length b) line_size) _ e in
    let n = formed-length b e in
    let spare = eqb-true (get_or b spare_at 0) 0 (and_right (begun line_kind b) _ more) in
    ap₂ (λ h l. h ++ l) (head_again line_kind b (omega (arith, n)) (and_left (begun line_kind b) _ more))
    (ap₂ (λ x y. x ++ y) (body_again b bytes (omega (arith, n))) (tail_again b n spare ∙ sym (drop-drop body_size head_size b)) ∙ take-append-drop body_size (drop head_size b))
    ∙ take-append-drop head_size b

-- The numbers that as many bytes hold fit.
pub unpacked-fits : (b : List ℕ) → length b ≡ line_size → Bytes b → LineFits (unpacked b)
unpacked-fits b n bytes = record {
  reader = R.unpacked-fits b bytes;
  left = length-take-le places (drop left_at b) (omega (arith, length-drop left_at b, n));
  count = (bytes held_at).fits;
}

-- ---- what an accepted call leaves

-- The bytes are formed and hold this state.
abbrev pub Holds : List ℕ → LineState → Type 0
Holds b s = (formed b ≡ true) × (unpacked b ≡ s)

-- So do those of a state that can be stored.
ready-holds : (b : List ℕ) (s : LineState) → Ready s → b ≡ packed s → Holds b s
ready-holds b s r e =
    let f : LineFits s = record { reader = good-fits s.reader r.good; left = r.left; count = omega (arith, r.few) } in
    subst (λ l. Holds l s) (sym e) (packed-formed s f, unpacked_back s f)

-- An accepted call found its bytes formed.
take-formed : (t : Bool) (a n : M.Taken) → n.verdict ≡ C.state → C.verdict_number (cond t a n).verdict ≡ 0 → t ≡ true
take-formed true a n e h = refl
take-formed false a n e h = absurd (omega (arith, sym (ap C.verdict_number e) ∙ h))

load-formed : (t : Bool) (a n : M.LineLoaded) → n.verdict ≡ C.state → C.verdict_number (cond t a n).verdict ≡ 0 → t ≡ true
load-formed true a n e h = refl
load-formed false a n e h = absurd (omega (arith, sym (ap C.verdict_number e) ∙ h))

module _ (b s : List ℕ) (r : ℕ) (next : List ℕ) (p : FreshIn b s r next) (h : r ≡ 0) where
  -- The fresh state of the setup.
  pub fresh_holds : Holds next (held (fresh_line_call base (setup_of (setup_from s))).state)
  fresh_holds =
      let made = fresh_from (fresh_line_call base (setup_of (setup_from s))) in
      let v = fresh_verdict_in line_size b s in
      let n : C.verdict_number v ≡ 0 = sym p.number ∙ h in
      let ok : verdict_number made.verdict ≡ 0 = fresh-number s made refl ∙ first-passed (setup_good base (setup_of (setup_from s))) (C.check (eqb (length b) line_size) C.state C.accepted) n in
      ready-holds next made.state (fresh-ready s made refl ok) (p.state ∙ sym (stored_is v (packed made.state) b n))

module _ (b piece : List ℕ) (r : ℕ) (next told : List ℕ) (p : TakeIn b piece r next told) (h : r ≡ 0) where
  -- The state after the piece.
  pub take-holds : Holds next (held (taken_in b piece).state)
  take-holds =
      let a = take_call base (seen (unpacked b)) piece in
      let no = M.not_taken C.state (seen (unpacked b)) in
      let v = (taken_in b piece).verdict in
      let n : C.verdict_number v ≡ 0 = sym p.number ∙ h in
      let f : formed b ≡ true = take-formed (formed b) a no refl n in
      let same : taken_in b piece ≡ a = ap (λ t. cond t a no) f in
      let ok : verdict_number (taken_from a).verdict ≡ 0 = number-seen a.verdict ∙ ap (λ (x : M.Taken). C.verdict_number x.verdict) (sym same) ∙ n in
      let g : Ready (held (taken_in b piece).state) = subst (λ (x : M.Taken). Ready (held x.state)) (sym same) (take-ready b piece f (taken_from a) refl ok) in
      ready-holds next (held (taken_in b piece).state) g (p.state ∙ sym (stored_is v (packed (held (taken_in b piece).state)) b n))

module _ (b : List ℕ) (image : List ℤ) (k r : ℕ) (next : List ℕ) (p : LoadIn b image k r next) (h : r ≡ 0) where
  -- The state after the load.
  pub load-holds : Holds next (held (loaded_in b image k).state)
  load-holds =
      let a = line_load_call base (seen (unpacked b)) image k in
      let no : M.LineLoaded = record { verdict = C.state; state = seen (unpacked b) } in
      let v = (loaded_in b image k).verdict in
      let n : C.verdict_number v ≡ 0 = sym p.number ∙ h in
      let f : formed b ≡ true = load-formed (formed b) a no refl n in
      let same : loaded_in b image k ≡ a = ap (λ t. cond t a no) f in
      let ok : verdict_number (loaded_from a).verdict ≡ 0 = number-seen a.verdict ∙ ap (λ (x : M.LineLoaded). C.verdict_number x.verdict) (sym same) ∙ n in
      let g : Ready (held (loaded_in b image k).state) = subst (λ (x : M.LineLoaded). Ready (held x.state)) (sym same) (load-ready b image k f (loaded_from a) refl ok) in
      ready-holds next (held (loaded_in b image k).state) g (p.state ∙ sym (stored_is v (packed (held (loaded_in b image k).state)) b n))
