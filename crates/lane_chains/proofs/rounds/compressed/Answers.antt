-- In each lane the room holds the block's words. The rounds that are left lead to the last variables, and added to the
-- first state they are the compression.
use Rattle.std.proofs.Common.{◌≡◌, ◌<◌, ◌∙◌, ℕ, ap₂, slice_index, sym}
use Rattle.sha2.specs.Sha256.{add_state, compress, initial_hash_256, schedule}
use Rattle.sha2.proofs.Schedule256.{slice_index-schedule_first}
use Rattle.lane_chains.specs.Lanes.{column}
use Rattle.lane_chains.proofs.rounds.compressed.Goals as goal

pub returns : goal.returns
unfolding compress
returns c = λ j lt b words begun.
    let first : (k : ℕ) → k < 16 → slice_index (column j c.put_block.new.room) k ≡ slice_index (schedule b 48) k =
    λ k below. c.put_block.ensures j k below ∙ words k below ∙ sym (slice_index-schedule_first b 48 k below) in
    let done = c.run_rounds.ensures j lt b initial_hash_256 first begun in
    c.sums.ensures j lt ∙ ap₂ add_state (c.first_state.ensures j lt) done
