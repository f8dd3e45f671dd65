-- A point and its value take exactly twelve bytes; with fewer or with more of them no point is spelled.
use Rattle.std.proofs.Common.{arith, refl}
use Rattle.entry_texts.proofs.FieldReads.{not_twelve, point_of_four, point_of_more}
use Rattle.entry_texts.proofs.fields.read_point.Goals as goal

pub returns-in_default : goal.returns-in_default
returns-in_default c = not_twelve _ (λ twelve. omega (arith, c.in_default.ensures.short.0 refl))

pub returns-in_default-i64 : goal.returns-in_default-i64
returns-in_default-i64 c = point_of_four _ _ c.in-Ok.point c.in-Ok.ensures.taken (c.in_default-i64.ensures.short.0 refl)

pub returns-in_default-end : goal.returns-in_default-end
returns-in_default-end c =
    point_of_more _ _ _ c.in-Ok.point c.in-Ok-i64.value c.in-Ok.ensures.taken c.in-Ok-i64.ensures.taken
    (c.in_default-end.ensures.trailing.0 refl)
