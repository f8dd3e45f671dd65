-- A request that meets an exception is answered with its code and changes nothing. Any other is answered and
-- changes the device as one that is carried out.
use Rattle.std.proofs.Common.{ap, sym, ◌∙◌}
use Rattle.field_device.specs.Table.{exception}
use Rattle.field_device.proofs.TableLaws.{exception_reply, exception_after, plain_is, written_is}
use Rattle.field_device.proofs.device.Device.answer_pdu.Goals as goal

pub returns-in-Some-clause-reply : goal.returns-in-Some-clause-reply
returns-in-Some-clause-reply c =
    c.exception.ensures ∙ ap (λ f. exception f c.in-Some.code) c.function_of.ensures
    ∙ sym (exception_reply c.args.self.now c.args.pdu.now c.in-Some.code (sym c.in-Some.ensures))

pub returns-in-Some-clause-after : goal.returns-in-Some-clause-after
returns-in-Some-clause-after c =
    sym (exception_after c.args.self.now c.args.pdu.now c.in-Some.code (sym c.in-Some.ensures))

pub returns-in-None-clause-reply : goal.returns-in-None-clause-reply
returns-in-None-clause-reply c = rw (plain_is c.args.self.now c.args.pdu.now (sym c.in-None.ensures))
    c.carry_out.ensures.reply

pub returns-in-None-clause-after : goal.returns-in-None-clause-after
returns-in-None-clause-after c = rw (written_is c.args.self.now c.args.pdu.now (sym c.in-None.ensures))
    c.carry_out.ensures.after
