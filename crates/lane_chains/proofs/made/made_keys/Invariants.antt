-- In each lane the whole blocks of the head and of the ends so far are hashed, and the last end holds the bytes
-- that are left.
use Rattle.std.proofs.Common.{◌+◌, ◌*◌, ◌<◌, ◌++◌, ℕ}
use Rattle.sha2.specs.Sha256.{digest_bytes}
use Rattle.wire_parts.specs.Fields.{u16_bytes, u32_bytes}
use Rattle.lane_chains.specs.Lanes.{lane}
use Rattle.lane_chains.specs.Chains.{joined}
use Rattle.lane_chains.specs.Made.{made_end}
use Rattle.lane_chains.proofs.PairsOfValues.{Taken}
use Rattle.lane_chains.proofs.made.made_keys.Given as goal

abbrev pub invariant-pairs : goal.invariant-pairs
invariant-pairs l = (j : ℕ) → j < 8
    → Taken (lane j l.h) (digest_bytes (lane j l.last) 8)
    ((l.id ++ (u32_bytes (l.q + j) ++ u16_bytes l.tag)) ++ joined (made_end l.id (l.q + j) l.top l.fn.seed) (2 * l.i))
