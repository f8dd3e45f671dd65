-- A raw value scales to an integer that fits 128 bits, so it is given just where it fits 64; where the device
-- gives no raw value, none is given.
use Rattle.std.proofs.Common.{ap, sym, ◌∙◌}
use Rattle.std.specs.Int.{w128}
use Rattle.std.proofs.lemmas.Int.{to_z-of_z}
use Rattle.field_proxy.specs.Readings.{in_64_bits}
use Rattle.field_proxy.proofs.ExchangeLaws.{given_some, given_none}
use Rattle.field_proxy.proofs.exchange.read_point.Goals as goal

pub returns-in-Some-clause-value : goal.returns-in-Some-clause-value
returns-in-Some-clause-value c =
    c.in_64_bits.ensures ∙ ap in_64_bits (to_z-of_z w128 c.scaled.result c.scaled.ensures.fits ∙ c.scaled.ensures.value)
    ∙ sym (given_some c.args.device.now c.args.point.now c.in-Some.raw (sym c.in_ok-raw.ensures.raw ∙ c.in-Some.is))

pub returns-in-None-clause-value : goal.returns-in-None-clause-value
returns-in-None-clause-value c =
    sym (given_none c.args.device.now c.args.point.now (sym c.in_ok-raw.ensures.raw ∙ c.in-None.is))
