-- The length tells how many bytes follow: where it is missing, or fewer or more follow than it tells, no text
-- is spelled so, and else it is just those bytes.
use Rattle.std.proofs.Common.{arith, refl}
use Rattle.entry_texts.proofs.FieldReads.{no_count, few_counted, more_counted}
use Rattle.entry_texts.proofs.fields.read_counted.Goals as goal

pub returns-in_default : goal.returns-in_default
returns-in_default c = no_count _ (c.in_default.ensures.short.0 refl)

pub returns-in_default-bytes : goal.returns-in_default-bytes
returns-in_default-bytes c =
    few_counted _ _ c.in-Ok.count (omega arith) c.in-Ok.ensures.taken
    (omega (arith, c.in_default-bytes.ensures.short.0 refl, c.from.ensures))

pub returns-in_default-end : goal.returns-in_default-end
returns-in_default-end c =
    more_counted _ _ _ c.in-Ok.count _ (omega arith) c.in-Ok.ensures.taken c.in-Ok-bytes.ensures.taken
    (omega (arith, c.in-Ok-bytes.ensures.count, c.from.ensures)) (c.in_default-end.ensures.trailing.0 refl)
