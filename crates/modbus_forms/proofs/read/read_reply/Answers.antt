use Rattle.modbus_forms.proofs.Messages.{only_reply}
use Rattle.modbus_forms.proofs.read.read_reply.Goals as goal

pub returns-clause-only : goal.returns-clause-only
returns-clause-only c =
    only_reply _ _ c.reply_from.ensures.found c.reply_from.ensures.spelled c.reply_from.ensures.wide
    c.reply_from.ensures.fault
