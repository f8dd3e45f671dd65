use Rattle.std.proofs.Common.{ap, ◌∙◌}
use Rattle.field_device.specs.Table.{reply_pdu}
use Rattle.field_proxy.specs.Exchanges.{exception_in}
use Rattle.field_proxy.proofs.ExchangeLaws.{exception_write}
use Rattle.field_proxy.proofs.exchange.write_point.Goals as goal

pub returns-clause-exception : goal.returns-clause-exception
returns-clause-exception c =
    c.exception_in.ensures
    ∙ ap exception_in (c.in_ok-reply.ensures.reply ∙ ap (reply_pdu c.args.device.now) c.write_pdu-pdu.ensures)
    ∙ exception_write c.args.device.now _ _ c.args.raw
