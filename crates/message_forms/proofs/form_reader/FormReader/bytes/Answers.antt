use Rattle.std.proofs.Common.{refl}
use Rattle.message_forms.proofs.FieldReads.{bytes_read, short_read}
use Rattle.message_forms.proofs.form_reader.FormReader.bytes.Goals as goal

pub returns-clause-gives : goal.returns-clause-gives
returns-clause-gives c =
    rw (← c.self.view_is) (bytes_read _ _ _ _ _ c.in-Ok.ensures.count c.in-Ok.ensures.taken)

pub returns-in_default-clause-gives : goal.returns-in_default-clause-gives
returns-in_default-clause-gives c =
    short_read _ _ _ _ _ _ c.self.view_is c.place-place.ensures.place (c.in_default.ensures.short.0 refl)
