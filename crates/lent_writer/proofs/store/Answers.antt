-- `lent_writer::store` puts a new table, current slot and counter in place of the old ones. Assumes nothing.
use mathlib.Core.Path.{sym, ap, ◌∙◌}
use Rattle.model.specs.Records.{low_bytes, lay}
use Rattle.model.specs.Sending.{changed_mask}
use Rattle.panel.specs.Seen.{table_of}
use Rattle.lent.specs.Lent.{table_in}
use Rattle.lent_writer.specs.Layout.{counter_at}
use Rattle.lent_writer.specs.Seen.{unpacked}
use Rattle.lent_writer.proofs.Back.{packed_back, table_long, table-held, stored_in_place}
use Rattle.lent_writer.proofs.Outcomes.{part-size, table_is}
use Rattle.lent_writer.proofs.store.Goals as goal

pub keep-requires : goal.keep-requires
keep-requires c =
    let b = c.args.b.now in
    let h = c.requires.0 in
    (part-size b h.size, h.whole, h.told ∙ ap (λ t. changed_mask (table_of t) (table_of (table_in c.args.new.now))) (sym (table_is b h.size)))

pub returns : goal.returns
returns c =
    let a = c.args in
    let h = c.requires.0 in
    let b = a.b.now in
    c.put_word-2.ensures
    ∙ ap (λ l. lay counter_at (low_bytes 4 a.counter) l) c.put_word.ensures
    ∙ stored_in_place (unpacked b) b c.keep.new.t (table_in a.new.now) a.last.0 a.counter (sym (packed_back b c.slice_known-1.given h.formed)) (table_long b)
    (c.keep.ensures ∙ sym (table-held a.new.now c.shared_slice_known-1.given h.whole))
