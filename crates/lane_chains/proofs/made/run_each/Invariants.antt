use Rattle.std.proofs.Common.{◌≡◌, ◌-◌, ◌<◌, ℕ, slice_index}
use Rattle.sha2.specs.Sha256.{digest_bytes}
use Rattle.lane_chains.specs.Lanes.{lane}
use Rattle.lane_chains.specs.Chains.{chain}
use Rattle.lane_chains.proofs.made.run_each.Given as goal

abbrev pub invariant-steps : goal.invariant-steps
invariant-steps l = (j : ℕ) → j < 8
    → digest_bytes (lane j l.v) 8
    ≡ chain (digest_bytes l.id 4) (slice_index l.q j) l.i l.from (l.step - l.from) (digest_bytes (lane j l.fn.start) 8)
