-- When a reader refuses.
use Rattle.std.specs.Prelude.{◌≡◌, Bool, false, Option, Some, Result, Ok, Err}
use Rattle.modbus_forms.specs.declared.refusal.ModbusRefusal.{ModbusRefusal}
use Rattle.modbus_forms.specs.declared.refusal.ModbusRefusal.TheVariants as fault

-- a refusal is the first fault, unless it is want of memory
abbrev pub IsFault : ModbusRefusal → Option ModbusRefusal → Type 0
IsFault fault.Want first = Unit {0}
IsFault fault.Short first = first ≡ Some fault.Short
IsFault fault.Trailing first = first ≡ Some fault.Trailing
IsFault fault.BadProtocol first = first ≡ Some fault.BadProtocol
IsFault fault.BadLength first = first ≡ Some fault.BadLength

-- the message, unless memory runs out
abbrev pub Reads : {X : Type 0} → Result X ModbusRefusal → X → Type 0
Reads (Ok read) message = read ≡ message
Reads (Err fault.Want) message = Unit {0}
Reads (Err e) message = ⊥

-- a PDU is refused for its size alone
abbrev pub IsBadSize : ModbusRefusal → Bool → Type 0
IsBadSize fault.Want is_sized = Unit {0}
IsBadSize fault.BadLength is_sized = is_sized ≡ false
IsBadSize fault.Short is_sized = ⊥
IsBadSize fault.Trailing is_sized = ⊥
IsBadSize fault.BadProtocol is_sized = ⊥
