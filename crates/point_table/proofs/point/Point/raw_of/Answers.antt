-- A value outside the bounds or below the offset has no raw value. Above it the quotient by the scale is the
-- one that there can be, as the law of the quotient has it.
use Rattle.std.proofs.Common.{◌≡◌, arith, nat_abs, true}
use Rattle.std.proofs.lemmas.Int.{ints, to_z-of_z}
use Rattle.point_table.specs.Point.{is_within}
use Rattle.point_table.proofs.PointLaws.{raw_of-outside, raw_of-below, raw_of-quotient}
use Rattle.point_table.proofs.point.Point.raw_of.Goals as goal

pub returns-then-not-is_within : goal.returns-then-not-is_within
returns-then-not-is_within c = raw_of-outside _ _ (grind (arith, ints, to_z-of_z))

pub returns-then-away-lt0 : goal.returns-then-away-lt0
returns-then-away-lt0 c = raw_of-below _ _ (nat_abs c.args.self.now.scale) (omega (arith, ints)) (omega (arith, ints))

pub returns : goal.returns
returns c =
    let within : is_within c.args.self.now c.args.value ≡ true = grind (arith, ints, to_z-of_z) in
    raw_of-quotient _ _ _ _ _ _ within (omega (arith, ints)) (omega (arith, ints)) (omega (arith, ints))
    c.greatest_raw.ensures c.raw_away.ensures.found c.raw_away.ensures.none
