use Rattle.std.proofs.Common.{refl}
use Rattle.message_forms.proofs.FieldReads.{u8_read, short_read}
use Rattle.message_forms.proofs.form_reader.FormReader.u8.Goals as goal

pub returns : goal.returns
returns c =
    rw (← c.self.view_is) (u8_read _ _ _ _ c.in-Ok.ensures.taken)

pub returns-in_default : goal.returns-in_default
returns-in_default c =
    short_read _ _ _ _ _ _ c.self.view_is c.place-place.ensures.place (c.in_default.ensures.short.0 refl)
