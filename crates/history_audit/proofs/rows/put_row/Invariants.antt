use Rattle.std.proofs.Common.{◌≡◌, ◌++◌, length, take}
use Rattle.std.specs.List.{flat_map}
use Rattle.wire_parts.specs.Fields.{u16_bytes, u64_bytes}
use Rattle.history_audit.proofs.rows.put_row.Given as goal

abbrev pub invariant-loop-number : goal.invariant-loop-number
invariant-loop-number l =
    l.out.items ≡ l.fn.out.items ++ ((u16_bytes (length l.row) ++ flat_map u64_bytes (take l.number-index l.row)))
