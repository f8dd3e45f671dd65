use Rattle.std.proofs.Common.{◌<◌, ◌^◌, arith, refl}
use Rattle.message_forms.proofs.FieldReads.{u64_read, short_read}
use Rattle.message_forms.proofs.form_reader.FormReader.u64.Goals as goal

pub returns : goal.returns
returns c =
    let fits : c.in-Ok.number < 2 ^ 64 = omega arith in
    rw (← c.self.view_is) (u64_read _ _ _ _ fits c.in-Ok.ensures.taken)

pub returns-in_default : goal.returns-in_default
returns-in_default c =
    short_read _ _ _ _ _ _ c.self.view_is c.place-place.ensures.place (c.in_default.ensures.short.0 refl)
