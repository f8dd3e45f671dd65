use Rattle.std.proofs.Common.{◌∙◌}
use Rattle.field_proxy.proofs.BeginningLaws.{all_passed, unless_err}
use Rattle.field_proxy.proofs.PlaceLaws.{undone_all}
use Rattle.field_proxy.proofs.orders.carry_out_vote.Goals as goal

pub returns-in-Err-clause-device_stays : goal.returns-in-Err-clause-device_stays
returns-in-Err-clause-device_stays c =
    c.undo.ensures ∙ undone_all _ _ _ _ c.new-log.ensures.items c.carry_out.ensures.undone

pub returns-in-Err-take-clause-device_stays : goal.returns-in-Err-take-clause-device_stays
returns-in-Err-take-clause-device_stays c = c.undo-in-Err-take.ensures
    ∙ undone_all _ _ _ _ c.new-log.ensures.items c.carry_out.ensures.undone

pub returns-in-Err-take-clause-begun : goal.returns-in-Err-take-clause-begun
returns-in-Err-take-clause-begun c = all_passed c.carry_out.new.line _
    (unless_err c.carry_out.result c.carry_out.ensures.line c.in_default.not-Err)
