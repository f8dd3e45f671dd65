use Rattle.std.proofs.Common.{◌++◌, ℕ, List, take}
use Rattle.std.specs.List.{flat_map}
use Rattle.sha2.specs.Hashers.{Holds256}
use Rattle.wire_parts.specs.Fields.{u16_bytes, u64_bytes}
use Rattle.std.proofs.Common.{length}
use Rattle.message_types.proofs.digests.hash_row.Given as goal

abbrev pub invariant-loop-number : goal.invariant-loop-number
invariant-loop-number l =
    (m : List ℕ) → Holds256 l.fn.hasher m
    → Holds256 l.hasher (m ++ (u16_bytes (length l.row) ++ flat_map u64_bytes (take l.number-index l.row)))
