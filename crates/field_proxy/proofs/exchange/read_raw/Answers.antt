-- The device is as it was or as its reply to the read leaves it, and a read changes none of its tables.
use Rattle.std.proofs.Common.{ap, ◌∙◌}
use Rattle.field_device.specs.Table.{after}
use Rattle.field_proxy.proofs.ExchangeLaws.{stays, after_read}
use Rattle.field_proxy.proofs.exchange.read_raw.Goals as goal

pub returns-in_err-reply-clause-same : goal.returns-in_err-reply-clause-same
returns-in_err-reply-clause-same c =
    stays c.ask.result _ _ _ (ap (after c.args.device.now) c.read_pdu-pdu.ensures ∙ after_read c.args.device.now _ _)
    c.ask.ensures.after c.ask.ensures.err

pub returns-clause-same : goal.returns-clause-same
returns-clause-same c =
    stays c.ask.result _ _ _ (ap (after c.args.device.now) c.read_pdu-pdu.ensures ∙ after_read c.args.device.now _ _)
    c.ask.ensures.after c.ask.ensures.err
