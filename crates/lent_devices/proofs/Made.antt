-- What the recorder's calls answer, refusal by refusal: each law shows a whole promise from what the code found. Assumes nothing.
use mathlib.Core.Path.{◌≡◌, sym, ap, ◌∙◌}
use mathlib.Core.Bool.{true, false, cond}
use mathlib.Core.List.{List, [], ◌∷◌}
use Prim.Native.Nat.{ℕ}
use lib.Dec.{eqb}
use lib.ListN.{length}
use Rattle.model.specs.Calls as C
use Rattle.model.specs.Recorder as M
use Rattle.common.specs.Seen.{verdict_number, verdict_from}
use Rattle.common.proofs.Back.{verdict-seen}
use Rattle.recorder.specs.declared.BlockMade as S
use Rattle.recorder.specs.declared.BlocksLaid as L
use Rattle.recorder.specs.Seen.{made_from, LaysAs}
use Rattle.lent_devices.specs.Blocks.{BlockMade, BlocksLaid}

-- The number of a verdict that the library held.
pub number-seen : (v : C.Verdict) → verdict_number (verdict_from v) ≡ C.verdict_number v
number-seen v = ap C.verdict_number (verdict-seen v)

-- ---- a block that is made

-- The lent block has another length.
pub made-short : (n : ℕ) (events b : List ℕ) (r : ℕ) → eqb (length b) M.block_length ≡ false → r ≡ 2 → BlockMade n events b r b
made-short n events b r e z = record { number = rw e z; block = rw e }

module _ (n : ℕ) (events b : List ℕ) (r : ℕ) (a : S.BlockMade) (e : eqb (length b) M.block_length ≡ true) (h : a ≡ made_from (M.block_call n events))
    (z : r ≡ verdict_number a.verdict) where
  judged : r ≡ C.verdict_number (M.block_call n events).verdict
  judged = z ∙ ap (λ (x : S.BlockMade). verdict_number x.verdict) h ∙ number-seen (M.block_call n events).verdict

  -- The library refuses it.
  pub made-refused : eqb r 0 ≡ false → BlockMade n events b r b
  made-refused f = record {
    number = rw e judged;
    block = rw e (sym (ap (λ t. cond t (M.block_call n events).block b) (ap (λ k. eqb k 0) (sym judged) ∙ f)));
  }

  -- The library makes it.
  pub made_done : (after : List ℕ) → eqb r 0 ≡ true → after ≡ a.block → BlockMade n events b r after
  made_done after t p = record {
    number = rw e judged;
    block =
        rw e (p ∙ ap (λ (x : S.BlockMade). x.block) h
        ∙ sym (ap (λ t. cond t (M.block_call n events).block b) (ap (λ k. eqb k 0) (sym judged) ∙ t)));
  }

-- ---- a recording's next blocks

pub laid-is : (n : ℕ) (events : List ℕ) (at : ℕ) (before after : List ℕ) (a : L.BlocksLaid) (r : ℕ) → LaysAs n events at before after a
    → r ≡ verdict_number a.verdict → BlocksLaid n events at before r (a.blocks ∷ a.next ∷ a.need ∷ []) after
laid-is n events at before after a r l z =
    let q = M.lay_call n events at (length before) in record {
      number = z ∙ ap (λ (x : L.BlocksLaid). verdict_number x.verdict) l.answer ∙ number-seen q.verdict;
      answer = ap (λ (x : L.BlocksLaid). x.blocks ∷ x.next ∷ x.need ∷ []) l.answer;
      buffer = l.buffer;
    }
