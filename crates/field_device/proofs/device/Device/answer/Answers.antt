use Rattle.std.proofs.Common.{arith}
use Rattle.field_device.proofs.device.Device.answer.Goals as goal

pub returns-clause-wide : goal.returns-clause-wide
returns-clause-wide c = (omega arith, c.in_ok-pdu.ensures.wide)
