use Rattle.std.proofs.Common.{sym}
use Rattle.message_forms.proofs.FieldReads.{end_is_ok, end_is_left}
use Rattle.message_forms.proofs.form_reader.FormReader.end.Goals as goal

pub returns-then-is_err : goal.returns-then-is_err
returns-then-is_err c =
    end_is_left _ _ _ _ c.self.view_is c.place-place.ensures.place
    (c.end.ensures.trailing.0 (sym c.if-is_err.ensures.value))

pub returns : goal.returns
returns c = end_is_ok _ _ _ c.self.view_is (λ left. let some = c.end.ensures.trailing.1 left in let none =
    c.if-is_err.ensures.value in cc)
