-- The first five words of a step's text are the same in all its steps and lanes, so their rounds are done once.
-- Five rounds one after the other are what the definition's are.
use Rattle.std.proofs.Common.{refl, slice_index}
use Rattle.sha2.specs.Sha256.{initial_hash_256, rounds}
use Rattle.lane_chains.specs.Lanes.{id_lane}
use Rattle.lane_chains.specs.Steps.{key_words}
use Rattle.lane_chains.proofs.RoundsOneByOne.{rounds_more}
use Rattle.lane_chains.proofs.steps.begun_keys.Goals as goal

pub returns : goal.returns
unfolding rounds
returns c j lt =
    let h = initial_hash_256 in
    let w = key_words (id_lane j c.args.ids) (slice_index c.args.q j) in
    let s1 = rounds_more h w _ 0 _ _ _ (c.first_state.ensures j lt) refl (c.each_word.ensures j lt)
    (c.round-v.ensures j lt) in
    let s2 = rounds_more h w _ 1 _ _ _ s1 refl (c.each_word-2.ensures j lt) (c.round-v-2.ensures j lt) in
    let s3 = rounds_more h w _ 2 _ _ _ s2 refl (c.each_word-3.ensures j lt) (c.round-v-3.ensures j lt) in
    let s4 = rounds_more h w _ 3 _ _ _ s3 refl (c.each_word-4.ensures j lt) (c.round-v-4.ensures j lt) in
    rounds_more h w _ 4 _ _ _ s4 refl (c.each_word-5.ensures j lt) (c.round.ensures j lt)
