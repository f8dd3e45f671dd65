-- Five rounds one after the other, each with its word of the block, which are the first of its schedule.
use Rattle.std.proofs.Common.{◌≡◌, ◌<◌, ◌∙◌, [], ℕ, arith, refl, slice_index, sym}
use Rattle.std.specs.Prelude.{slice_index_or}
use Rattle.sha2.specs.Sha256.{rounds, schedule}
use Rattle.sha2.proofs.Schedule256.{slice_index-schedule_first}
use Rattle.lane_chains.specs.Lanes.{lane}
use Rattle.lane_chains.proofs.LanesOneByOne.{column_at}
use Rattle.lane_chains.proofs.RoundsOneByOne.{rounds_more}
use Rattle.lane_chains.proofs.rounds.first_five.Goals as goal

pub returns : goal.returns
unfolding rounds
returns c = λ j lt b words.
    let h = lane j c.args.h in
    let w = schedule b 48 in
    let at : (k : ℕ) → k < 16 → slice_index (slice_index_or c.args.block k []) j ≡ slice_index w k =
    λ k below. column_at c.args.block k j ∙ words k below ∙ sym (slice_index-schedule_first b 48 k below) in
    let s1 = rounds_more h w _ 0 _ _ _ refl refl (at 0 (omega arith)) (c.round-v.ensures j lt) in
    let s2 = rounds_more h w _ 1 _ _ _ s1 refl (at 1 (omega arith)) (c.round-v-2.ensures j lt) in
    let s3 = rounds_more h w _ 2 _ _ _ s2 refl (at 2 (omega arith)) (c.round-v-3.ensures j lt) in
    let s4 = rounds_more h w _ 3 _ _ _ s3 refl (at 3 (omega arith)) (c.round-v-4.ensures j lt) in
    rounds_more h w _ 4 _ _ _ s4 refl (at 4 (omega arith)) (c.round.ensures j lt)
