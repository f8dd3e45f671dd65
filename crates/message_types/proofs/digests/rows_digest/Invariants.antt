use Rattle.std.proofs.Common.{◌++◌, length, take}
use Rattle.std.specs.List.{flat_map}
use Rattle.sha2.specs.Hashers.{Holds256}
use Rattle.wire_parts.specs.Fields.{u16_bytes, u64_bytes}
use Rattle.message_types.specs.Texts.{list_text}
use Rattle.message_types.proofs.digests.rows_digest.Given as goal

abbrev pub invariant-loop-row : goal.invariant-loop-row
invariant-loop-row l =
    Holds256 l.hasher (u16_bytes 0x00f0
    ++ (u16_bytes (length l.rows) ++ flat_map (list_text u64_bytes) (take l.row-index l.rows)))
