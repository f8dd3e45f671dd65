-- In the lane of each key the whole blocks of its head and of its ends so far are hashed, and the last end holds the
-- bytes that are left.
use Rattle.std.proofs.Common.{◌+◌, ◌*◌, ◌<◌, ◌++◌, ℕ}
use Rattle.sha2.specs.Sha256.{digest_bytes}
use Rattle.wire_parts.specs.Fields.{u16_bytes, u32_bytes}
use Rattle.lane_chains.specs.Lanes.{lane}
use Rattle.lane_chains.specs.Chains.{joined, value_at}
use Rattle.lane_chains.specs.Three.{of_three}
use Rattle.lane_chains.proofs.PairsOfValues.{Taken}
use Rattle.lane_chains.proofs.three.keys_of_ends.Given as goal

abbrev pub invariant-pairs : goal.invariant-pairs
invariant-pairs l = (k : ℕ) → k < 3
    → Taken (lane k l.h) (digest_bytes (lane k l.last) 8)
    (((of_three l.fn.a l.fn.b l.fn.c k).id ++ (u32_bytes (of_three l.fn.a l.fn.b l.fn.c k).q ++ u16_bytes l.fn.tag))
    ++ joined (λ i. value_at l.ends (3 * i + k)) (2 * l.i))
