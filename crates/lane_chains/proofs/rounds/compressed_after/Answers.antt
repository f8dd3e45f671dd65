-- As `compressed`, from any hash values, with the first five rounds done here.
use Rattle.std.proofs.Common.{◌≡◌, ◌<◌, ◌∙◌, ℕ, ap, slice_index, sym}
use Rattle.sha2.specs.Sha256.{add_state, compress, schedule}
use Rattle.sha2.proofs.Schedule256.{slice_index-schedule_first}
use Rattle.lane_chains.specs.Lanes.{column, lane}
use Rattle.lane_chains.proofs.rounds.compressed_after.Goals as goal

pub returns : goal.returns
unfolding compress
returns c = λ j lt b words.
    let h = lane j c.args.h in
    let first : (k : ℕ) → k < 16 → slice_index (column j c.put_block.new.room) k ≡ slice_index (schedule b 48) k =
    λ k below. c.put_block.ensures j k below ∙ words k below ∙ sym (slice_index-schedule_first b 48 k below) in
    let done = c.run_rounds.ensures j lt b h first (c.first_five.ensures j lt b words) in
    c.sums.ensures j lt ∙ ap (add_state h) done
