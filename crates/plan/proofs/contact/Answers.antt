-- `plan::contact` is a slot with an id and a row's numbers. Assumes nothing.
use mathlib.Core.Path.{◌≡◌, ap, ◌∙◌}
use Prim.Native.Nat.{ℕ}
use lib.IntN.{ℤ}
use mir.Syntax.{w32}
use mir.Val.{SFits, of_z, to_z}
use mir.ValLaws.{to_z-of_z}
use borrow.Author.Rules.{rules}
use Rattle.model.specs.Records.{bits_of}
use Rattle.plan.proofs.contact.Goals.{Start}
use Rattle.plan.proofs.contact.Goals as goal

-- The row's numbers are of 32 bits.
record Fits (s : Start) : Type 0 where
  x : SFits w32 s.args.r.x
  y : SFits w32 s.args.r.y
  pressure : SFits w32 s.args.r.pressure
  major : SFits w32 s.args.r.major
  minor : SFits w32 s.args.r.minor

fitting : (s : Start) → Fits s
fitting s = record { x = search rules; y = search rules; pressure = search rules; major = search rules; minor = search rules }

own : (b : ℕ) (v : ℤ) → SFits w32 v → b ≡ bits_of (to_z w32 (of_z w32 v)) → b ≡ bits_of v
own b v f e = e ∙ ap bits_of (to_z-of_z w32 v f)

pub returns : goal.returns
returns c =
    let four = c in
    let three = four in
    let two = three in
    let one = two in
    let s = one in
    let r = s.args.r in
    let f = fitting (goal.at.returns s).Start in
    let x = own _ r.x f.x one.bits_of.ensures in
    let y = own _ r.y f.y two.bits_of-2.ensures in
    let p = own _ r.pressure f.pressure three.bits_of-3.ensures in
    let a = own _ r.major f.major four.bits_of-4.ensures in
    let i = own _ r.minor f.minor c.bits_of-5.ensures in
    λ t. record { id = s.args.id; x = x t; y = y t; pressure = p t; major = a t; minor = i t }
