-- Five bytes in front tell place, quantity and the count of the bytes that follow. What is read spells the text
-- again, and from that each field is the one at its place.
use Rattle.std.proofs.Common.{arith, ◌≡◌, rules}
use Rattle.std.proofs.lemmas.Grind.{common_steps}
use Rattle.modbus_forms.specs.Requests.{many_text}
use Rattle.modbus_forms.proofs.FieldsIn.{many_place, many_quantity}
use Rattle.modbus_forms.proofs.read.read_many.Goals as goal

spelled : (c : goal.In_ok-first) →
    c.args.rest.now ≡ many_text c.in_ok-first.field-0.first c.in_ok-first.field-0.second c.split_at.result.1.now
spelled c = grind (arith, common_steps)

pub returns-clause-spelled : goal.returns-clause-spelled
returns-clause-spelled c = spelled c

pub returns-clause-place : goal.returns-clause-place
returns-clause-place c = many_place _ _ _ _ (spelled c) c.in_ok-first.ensures.wide.0

pub returns-clause-quantity : goal.returns-clause-quantity
returns-clause-quantity c = many_quantity _ _ _ _ (spelled c) c.in_ok-first.ensures.wide.1
