use Rattle.std.proofs.Common.{arith, refl}
use Rattle.entry_texts.proofs.FieldReads.{no_alarm, alarm_of_more}
use Rattle.entry_texts.proofs.fields.read_alarm.Goals as goal

pub returns-in_default : goal.returns-in_default
returns-in_default c = no_alarm _ (λ four. omega (arith, c.in_default.ensures.short.0 refl))

pub returns-in_default-end : goal.returns-in_default-end
returns-in_default-end c = alarm_of_more _ _ c.in-Ok.alarm c.in-Ok.ensures.taken
    (c.in_default-end.ensures.trailing.0 refl)
