use Rattle.std.proofs.Common.{arith, ap, length, take, ◌∙◌, ◌≡◌, ◌*◌}
use Rattle.std.proofs.lemmas.List.{length-take}
use Rattle.field_device.proofs.PackingLaws.{length-register_bytes}
use Rattle.field_device.proofs.registers.spell.Goals as goal

pub returns-clause-few : goal.returns-clause-few
returns-clause-few c =
    let size : length c.loop-register.bytes.items ≡ 2 * length
    (take c.loop-register.register-index c.args.registers.now) =
    ap length c.loop-register.invariant
    ∙ length-register_bytes (take c.loop-register.register-index c.args.registers.now) in
    omega (arith, size, c.requires, length-take c.loop-register.register-index c.args.registers.now)
