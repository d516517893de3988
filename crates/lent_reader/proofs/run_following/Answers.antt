-- `lent_reader::run_following`: the run on the lent tables, and then the current slot and the mode stored. Assumes nothing.
use borrow.Author.Rules.{rules}
use mathlib.Core.Path.{◌≡◌, refl, ◌∙◌}
use Prim.Native.Nat.{◌<◌, ◌^◌}
use lib.ListN.{length}
use Rattle.lent_follow.specs.InPlace.{both_size, with_tables}
use Rattle.lent_reader.proofs.InPlace.{end, ends_in, end_small, follows, follow-ready, following_stored}
use Rattle.lent_reader.proofs.run_following.Goals.{After-follow-e}
use Rattle.lent_reader.proofs.run_following.Goals as goal

-- Where the run has ended: it is the model's end.
ended : (f : After-follow-e) → with_tables f.follow-e.result f.follow-e.new.t ≡ end f.args.b.now f.args.bytes.now
ended f = follows f.args.b.now f.args.bytes.now f.requires.0 f.requires.2 _ _ _ f.setup_at-setup.ensures (f.wide.ensures ∙ f.word_at.ensures) f.follow-e.ensures

small : (f : After-follow-e) → f.follow-e.result.current.0 < 2 ^ 32
small f = end_small f.args.b.now f.args.bytes.now f.requires.1 _ (ended f)

pub follow-e-requires : goal.follow-e-requires
follow-e-requires c = follow-ready c.args.b.now c.args.bytes.now c.requires.1 c.requires.0 _ _ c.setup_at-setup.ensures (c.wide.ensures ∙ c.word_at.ensures)

pub overflow_cast-e : goal.overflow_cast-e
overflow_cast-e c = record { fits = small (goal.at.overflow_cast-e c).After-follow-e }

pub returns : goal.returns
returns c =
    let f = (goal.at.returns c).After-follow-e in
    let b = c.args.b.now in
    let r = c.follow-e.result in
    let t = c.follow-e.new.t in
    let both : length t ≡ both_size = search rules in
    let left = following_stored b t c.requires.0 both r.current.0 (small f) r.mode _ _ c.slice_known-3-1.given c.put_word.ensures c.put_head.ensures in
    ends_in b c.args.bytes.now (with_tables r t) r.counts _ (ended f) refl left
