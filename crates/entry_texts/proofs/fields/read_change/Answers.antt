-- A change is spelled by exactly five bytes, for area, place and value. A byte missing or too many, or a number
-- of no area, each rules out that any change is spelled.
use Rattle.std.proofs.Common.{arith, refl}
use Rattle.std.proofs.lemmas.Bool.{true≢false}
use Rattle.std.proofs.Common.{sym}
use Rattle.entry_texts.proofs.FieldReads.{not_five, change_of_one, change_of_three, change_of_more, change_of_none}
use Rattle.entry_texts.proofs.FieldReads.{change_is}
use Rattle.entry_texts.proofs.fields.read_change.Goals as goal

pub returns-in_default : goal.returns-in_default
returns-in_default c = not_five _ (λ five. omega (arith, c.in_default.ensures.short.0 refl))

pub returns-in_default-u16 : goal.returns-in_default-u16
returns-in_default-u16 c = change_of_one _ _ c.in-Ok.number c.in-Ok.ensures.taken
    (c.in_default-u16.ensures.short.0 refl)

pub returns-in_default-u16-2 : goal.returns-in_default-u16-2
returns-in_default-u16-2 c =
    change_of_three _ _ _ c.in-Ok.number c.in-Ok-u16.place c.in-Ok.ensures.taken c.in-Ok-u16.ensures.taken
    (c.in_default-u16-2.ensures.short.0 refl)

pub returns-in_default-end : goal.returns-in_default-end
returns-in_default-end c =
    change_of_more _ _ _ _ c.in-Ok.number c.in-Ok-u16.place c.in-Ok-u16-2.value c.in-Ok.ensures.taken
    c.in-Ok-u16.ensures.taken
    c.in-Ok-u16-2.ensures.taken (c.in_default-end.ensures.trailing.0 refl)

pub returns-in_default-read_area : goal.returns-in_default-read_area
returns-in_default-read_area c = change_of_none _ _ c.in-Ok.number c.in-Ok.ensures.taken c.in_default-read_area.ensures

pub returns : goal.returns
returns c = (
  change_is _ _ _ _ c.in-Ok.number c.in-Ok-u16.place c.in-Ok-u16-2.value c.in-Some.area c.in-Ok.ensures.taken
      c.in-Ok-u16.ensures.taken
      c.in-Ok-u16-2.ensures.taken (λ more. true≢false (sym (c.in-Ok-end.ensures.trailing.1 more))) c.in-Some.ensures,
  (omega arith, omega arith),
)
