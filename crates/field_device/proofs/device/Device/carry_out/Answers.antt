-- That a request meets no exception says that its places are there and its quantity is allowed: hence each
-- reading and writing stays inside the device's four areas.
use Rattle.std.proofs.Common.{arith, ap, sym, ◌∙◌, length}
use Rattle.modbus_forms.specs.declared.request.RequestPdu.TheVariants as request
use Rattle.field_device.specs.Table.{exception_for}
use Rattle.field_device.proofs.TableLaws.{can_read_bits, can_read_registers, can_write_coil, can_write_register}
use Rattle.field_device.proofs.TableLaws.{can_write_coils, can_write_registers}
use Rattle.field_device.proofs.device.Device.carry_out.Goals as goal

pub read_bits-requires-clause-there : goal.read_bits-requires-clause-there
read_bits-requires-clause-there c =
    (can_read_bits _ _ _ _ (ap (exception_for c.args.self.now) (sym c.in-ReadBits.is) ∙ c.requires.none)).0

pub read_bits-requires-clause-few : goal.read_bits-requires-clause-few
read_bits-requires-clause-few c =
    (can_read_bits _ _ _ _ (ap (exception_for c.args.self.now) (sym c.in-ReadBits.is) ∙ c.requires.none)).1

pub read_registers-requires-clause-there : goal.read_registers-requires-clause-there
read_registers-requires-clause-there c =
    (can_read_registers _ _ _ _ (ap (exception_for c.args.self.now) (sym c.in-ReadRegisters.is) ∙ c.requires.none)).0

pub read_registers-requires-clause-few : goal.read_registers-requires-clause-few
read_registers-requires-clause-few c =
    (can_read_registers _ _ _ _ (ap (exception_for c.args.self.now) (sym c.in-ReadRegisters.is) ∙ c.requires.none)).1

pub index_mut-requires : goal.index_mut-requires
index_mut-requires c =
    let h = can_write_coil _ _ _
    (ap (λ d. exception_for d (request.WriteCoil c.in-WriteCoil.place c.in-WriteCoil.value)) c.self.view_is
    ∙ ap (exception_for c.args.self.now) (sym c.in-WriteCoil.is) ∙ c.requires.none) in
    omega (arith, h)

pub index_mut-requires-in-WriteRegister : goal.index_mut-requires-in-WriteRegister
index_mut-requires-in-WriteRegister c =
    let h = can_write_register _ _ _
    (ap (λ d. exception_for d (request.WriteRegister c.in-WriteRegister.place c.in-WriteRegister.value))
    c.self.view_is ∙ ap (exception_for c.args.self.now) (sym c.in-WriteRegister.is) ∙ c.requires.none) in
    omega (arith, h)

pub write_bits-requires-clause-there : goal.write_bits-requires-clause-there
write_bits-requires-clause-there c =
    let h = can_write_coils _ _ _ _
    (ap (λ d. exception_for d
    (request.WriteCoils c.in-WriteCoils.place c.in-WriteCoils.quantity c.in-WriteCoils.bytes)) c.self.view_is
    ∙ ap (exception_for c.args.self.now) (sym c.in-WriteCoils.is) ∙ c.requires.none) in
    omega (arith, h.0)

pub write_bits-requires-clause-enough : goal.write_bits-requires-clause-enough
write_bits-requires-clause-enough c =
    let h = can_write_coils _ _ _ _
    (ap (λ d. exception_for d
    (request.WriteCoils c.in-WriteCoils.place c.in-WriteCoils.quantity c.in-WriteCoils.bytes)) c.self.view_is
    ∙ ap (exception_for c.args.self.now) (sym c.in-WriteCoils.is) ∙ c.requires.none) in
    omega (arith, h.1, ap length c.as_slice.ensures)

pub write_registers-requires-clause-there : goal.write_registers-requires-clause-there
write_registers-requires-clause-there c =
    let h = can_write_registers _ _ _ _
    (ap (λ d. exception_for d
    (request.WriteRegisters c.in-WriteRegisters.place c.in-WriteRegisters.quantity c.in-WriteRegisters.bytes))
    c.self.view_is ∙ ap (exception_for c.args.self.now) (sym c.in-WriteRegisters.is) ∙ c.requires.none) in
    omega (arith, h.0)

pub write_registers-requires-clause-enough : goal.write_registers-requires-clause-enough
write_registers-requires-clause-enough c =
    let h = can_write_registers _ _ _ _
    (ap (λ d. exception_for d
    (request.WriteRegisters c.in-WriteRegisters.place c.in-WriteRegisters.quantity c.in-WriteRegisters.bytes))
    c.self.view_is ∙ ap (exception_for c.args.self.now) (sym c.in-WriteRegisters.is) ∙ c.requires.none) in
    omega (arith, h.1, ap length c.as_slice-in-WriteRegisters.ensures)
