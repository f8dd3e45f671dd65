use Rattle.modbus_forms.proofs.Messages.{only_request}
use Rattle.modbus_forms.proofs.read.read_request.Goals as goal

pub returns-clause-only : goal.returns-clause-only
returns-clause-only c =
    only_request _ _ c.request_from.ensures.found c.request_from.ensures.spelled c.request_from.ensures.wide
    c.request_from.ensures.fault
