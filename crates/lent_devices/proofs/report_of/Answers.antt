-- `lent_devices::report_of`: each number as its type holds it. Assumes nothing.
use mathlib.Core.Path.{◌≡◌, ap, ◌∙◌}
use mir.Syntax.{w8, w16, w32}
use mir.Val.{SFits}
use mir.ValLaws.{to_z-of_z}
use Rattle.model.specs.Force.{fits_in, word_values, byte_values}
use Rattle.common.specs.Seen.{natural}
use Rattle.lent_devices.specs.Sticks.{number_at, up_to, most_byte, most_word}
use Rattle.lent_devices.proofs.Fits.{facts}
use borrow.Author.Rules.{rules}
use Rattle.lent_devices.proofs.report_of.Goals as goal

pub signed_word-requires : goal.signed_word-requires
signed_word-requires c =
    let f : SFits w32 (number_at c.args.l.now 0) = search rules in
    ap (fits_in word_values) (to_z-of_z w32 (number_at c.args.l.now 0) f) ∙ (facts c.args.l.now c.requires).x

pub signed_word-requires-2 : goal.signed_word-requires-2
signed_word-requires-2 c =
    let f : SFits w32 (number_at c.args.l.now 1) = search rules in
    ap (fits_in word_values) (to_z-of_z w32 (number_at c.args.l.now 1) f) ∙ (facts c.args.l.now c.requires).y

pub plain_byte-requires : goal.plain_byte-requires
plain_byte-requires c =
    let f : SFits w32 (number_at c.args.l.now 2) = search rules in
    ap (up_to most_byte) (to_z-of_z w32 (number_at c.args.l.now 2) f) ∙ (facts c.args.l.now c.requires).throttle

pub plain_word-requires : goal.plain_word-requires
plain_word-requires c =
    let f : SFits w32 (number_at c.args.l.now 3) = search rules in
    ap (up_to most_word) (to_z-of_z w32 (number_at c.args.l.now 3) f) ∙ (facts c.args.l.now c.requires).buttons

pub plain_byte-requires-2 : goal.plain_byte-requires-2
plain_byte-requires-2 c =
    let f : SFits w32 (number_at c.args.l.now 4) = search rules in
    ap (up_to most_byte) (to_z-of_z w32 (number_at c.args.l.now 4) f) ∙ (facts c.args.l.now c.requires).hat

pub signed_byte-requires : goal.signed_byte-requires
signed_byte-requires c =
    let f : SFits w32 (number_at c.args.l.now 5) = search rules in
    ap (fits_in byte_values) (to_z-of_z w32 (number_at c.args.l.now 5) f) ∙ (facts c.args.l.now c.requires).rudder

pub returns : goal.returns
returns c =
    let l = c.args.l.now in
    let f0 : SFits w32 (number_at l 0) = search rules in
    let e0 : c.signed_word.result ≡ (number_at l 0) = c.signed_word.ensures ∙ to_z-of_z w32 (number_at l 0) f0 in
    let g0 : SFits w16 c.signed_word.result = search rules in
    let f1 : SFits w32 (number_at l 1) = search rules in
    let e1 : c.signed_word-2.result ≡ (number_at l 1) = c.signed_word-2.ensures ∙ to_z-of_z w32 (number_at l 1) f1 in
    let g1 : SFits w16 c.signed_word-2.result = search rules in
    let f2 : SFits w32 (number_at l 2) = search rules in
    let e2 : c.plain_byte.result ≡ natural (number_at l 2) = c.plain_byte.ensures ∙ ap natural (to_z-of_z w32 (number_at l 2) f2) in
    let f3 : SFits w32 (number_at l 3) = search rules in
    let e3 : c.plain_word.result ≡ natural (number_at l 3) = c.plain_word.ensures ∙ ap natural (to_z-of_z w32 (number_at l 3) f3) in
    let f4 : SFits w32 (number_at l 4) = search rules in
    let e4 : c.plain_byte-2.result ≡ natural (number_at l 4) = c.plain_byte-2.ensures ∙ ap natural (to_z-of_z w32 (number_at l 4) f4) in
    let f5 : SFits w32 (number_at l 5) = search rules in
    let e5 : c.signed_byte.result ≡ (number_at l 5) = c.signed_byte.ensures ∙ to_z-of_z w32 (number_at l 5) f5 in
    let g5 : SFits w8 c.signed_byte.result = search rules in
    rw (
      to_z-of_z w16 c.signed_word.result g0,
      to_z-of_z w16 c.signed_word-2.result g1,
      to_z-of_z w8 c.signed_byte.result g5,
      e0,
      e1,
      e2,
      e3,
      e4,
      e5,
    )
