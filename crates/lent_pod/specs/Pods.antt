-- The pod for a host that lends its state as bytes: the layout of docs/LAYOUT.md, and what the calls answer by the library's. Assumes nothing.
use Rattle.std.specs.Prelude.{◌≡◌, Bool, cond, ◌&&◌, List, [], ◌∷◌, ◌++◌, ℕ, zero, suc, leb, eqb, ℤ, pos, length, get_or}
use Rattle.model.specs.Pod as M
use Rattle.pod.specs.declared.PodState.{PodState}
use Rattle.pod.specs.Seen.{seen, held, fresh_state}

-- ---- the state's bytes

-- A pod's state has twelve bytes: version, kind, whether it waits, how many bytes are held, the six places, and two zeros.
abbrev pub pod_size : ℕ
pod_size = 12

-- The version of every state's layout.
abbrev pub version : ℕ
version = 1

-- The kind of a pod's state.
abbrev pub pod_kind : ℕ
pod_kind = 4

-- A wait as a byte: 1 where the state waits, else 0.
abbrev pub bit : Bool → ℕ
bit b = cond b 1 0

-- Bytes have the form of a pod's state: as many as it has, its version and kind, a wait that is 0 or 1, and zeros in the last two.
unfoldable pub formed : List ℕ → Bool
formed b =
    eqb (length b) pod_size
    && (eqb (get_or b 0 0) version && (eqb (get_or b 1 0) pod_kind && (leb (get_or b 2 0) 1 && (eqb (get_or b 10 0) 0 && eqb (get_or b 11 0) 0))))

-- The state that bytes hold; of bytes without the form it is not looked at.
abbrev pub unpacked : List ℕ → PodState
unpacked b = record {
  waits = eqb (get_or b 2 0) 1;
  bytes = get_or b 4 0 ∷ get_or b 5 0 ∷ get_or b 6 0 ∷ get_or b 7 0 ∷ get_or b 8 0 ∷ get_or b 9 0 ∷ [];
  count = get_or b 3 0;
}

-- The bytes of a state.
unfoldable pub packed : PodState → List ℕ
packed s = version ∷ pod_kind ∷ bit s.waits ∷ s.count ∷ (s.bytes ++ (0 ∷ 0 ∷ []))

-- ---- an answer's numbers

-- The first n of a list's numbers, and zeros where it has fewer.
abbrev pub padded : {A : Type 0} → A → ℕ → List A → List A
padded o zero l = []
padded o (suc n) [] = o ∷ padded o n []
padded o (suc n) (x ∷ l) = x ∷ padded o n l

-- The number of an answer's name; a refusal has none, and 0 stands there.
abbrev pub report_name : M.Report → ℕ
report_name M.more = 0
report_name M.self_test_passed = 1
report_name (M.key_down key) = 2
report_name (M.key_up key) = 3
report_name (M.absolute flags x y) = 4
report_name (M.relative left right dx dy) = 5
report_name (M.both_sticks t0 p0 t1 p1) = 6
report_name (M.one_stick which t p) = 7
report_name (M.time_of_day c) = 8
report_name M.bad_byte = 9
report_name M.bad_report = 10
report_name M.refused = 0

-- An answer as seven numbers: its name's, and then its own in document 01's order.
abbrev pub report_told : M.Report → List ℤ
report_told r = padded (pos 0) 7 (pos (report_name r) ∷ M.report_numbers r)

-- ---- a fresh state

-- Document 01's 2 where the bytes are not as many as a state has.
abbrev pub fresh_number : List ℕ → ℕ
fresh_number b = cond (eqb (length b) pod_size) 0 2

-- The bytes after it: the fresh state's, or as they were.
abbrev pub fresh_bytes : List ℕ → List ℕ
fresh_bytes b = cond (eqb (length b) pod_size) (packed fresh_state) b

-- What `pod_fresh` promises of its number r and of the bytes after it.
pub record PodFresh (before : List ℕ) (r : ℕ) (after : List ℕ) : Type 0 where
  pub number : r ≡ fresh_number before
  pub state : after ≡ fresh_bytes before

-- ---- a byte

-- What the library answers of the state that bytes hold; bytes without the form are refused as a state that is not well formed.
abbrev pub step_of : List ℕ → ℕ → M.Stepped
step_of b byte = cond (formed b) (M.step (seen (unpacked b)) byte) (M.refusing (seen (unpacked b)))

-- The bytes after it: the packed state where the answer is no refusal, else as they were.
abbrev pub step_bytes : List ℕ → M.Stepped → List ℕ
step_bytes b a = cond (eqb (M.report_refusal a.report) 0) (packed (held a.state)) b

-- What `pod_step` promises of its number r, of the state's bytes after it and of its answer.
pub record PodStepped (before : List ℕ) (byte : ℕ) (r : ℕ) (after : List ℕ) (told : List ℤ) : Type 0 where
  pub number : r ≡ M.report_refusal (step_of before byte).report
  pub state : after ≡ step_bytes before (step_of before byte)
  pub answer : told ≡ report_told (step_of before byte).report
