-- What a reader and a checker of frames answer. (This project's own.)
use Rattle.std.specs.Prelude.{Bool, true, false}
use Rattle.message_forms.specs.declared.refusal.FormRefusal.{FormRefusal}
use Rattle.message_forms.specs.declared.refusal.FormRefusal.TheVariants as form
use Rattle.checked_frames.specs.declared.refusal.CheckRefusal.{CheckRefusal}
use Rattle.checked_frames.specs.declared.refusal.CheckRefusal.TheVariants as check

-- a refusal that is want of memory
abbrev pub is_want_of_form : FormRefusal → Bool
is_want_of_form form.Want = true
is_want_of_form _ = false

abbrev pub is_want_of_check : CheckRefusal → Bool
is_want_of_check check.Want = true
is_want_of_check _ = false
