-- A stamp, a place and a counted text follow one another: where one of them can't be read, no taking is
-- spelled, and else it is these three.
use Rattle.std.proofs.Common.{arith, refl}
use Rattle.entry_texts.proofs.FieldReads.{no_stamp, no_place, no_text, taken_is}
use Rattle.entry_texts.proofs.fields.read_taken.Goals as goal

pub returns-in_default : goal.returns-in_default
returns-in_default c = no_stamp _ (c.in_default.ensures.short.0 refl)

pub returns-in_default-u32 : goal.returns-in_default-u32
returns-in_default-u32 c = no_place _ _ c.in-Ok.stamp (omega arith) c.in-Ok.ensures.taken
    (c.in_default-u32.ensures.short.0 refl)

pub returns-in_default-read_counted : goal.returns-in_default-read_counted
returns-in_default-read_counted c =
    no_text _ _ _ c.in-Ok.stamp c.in-Ok-u32.place (omega arith) (omega arith)
    c.in-Ok.ensures.taken c.in-Ok-u32.ensures.taken
    c.in_default-read_counted.ensures

pub returns : goal.returns
returns c = (
  taken_is _ _ _ c.in-Ok.stamp c.in-Ok-u32.place _ c.in-Ok.ensures.taken c.in-Ok-u32.ensures.taken c.in-Some.ensures.0,
  (omega arith, (omega arith, c.in-Some.ensures.1)),
)
