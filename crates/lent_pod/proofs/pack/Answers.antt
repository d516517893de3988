-- `lent_pod::pack` leaves the state's bytes and nothing else. Assumes nothing.
use mathlib.Core.Path.{◌≡◌, sym, ap, ◌∙◌}
use mathlib.Core.List.{[], ◌∷◌, ◌++◌}
use lib.ListN.{length}
use borrow.Author.Rules.{rules}
use Rattle.lent_pod.specs.Pods.{bit, packed}
use Rattle.lent_pod.proofs.Lists.{listed, listed_all}
use Rattle.lent_pod.proofs.pack.Goals as goal

pub returns : goal.returns
unfolding packed
returns c =
    let s = c.args.s in
    let n : length s.bytes ≡ 6 = search rules in
    c.copy_from_slice.ensures.after
    ∙ ap (λ v. 1 ∷ 4 ∷ v ∷ s.count ∷ (listed 6 s.bytes 0 ++ (0 ∷ 0 ∷ []))) c.bit_of.ensures
    ∙ ap (λ l. 1 ∷ 4 ∷ bit s.waits ∷ s.count ∷ (l ++ (0 ∷ 0 ∷ []))) (sym (listed_all 6 s.bytes n))
