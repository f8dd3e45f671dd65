-- The text of a step with its padding is one block. Its first five words are the key's, so the rounds begun for
-- these are its own, and in each lane the compression is its digest.
use Rattle.std.proofs.Common.{◌++◌, ◌∙◌, ap, slice_index}
use Rattle.sha2.specs.Sha256.{initial_hash_256, schedule}
use Rattle.lane_chains.specs.Lanes.{lane, id_lane}
use Rattle.lane_chains.specs.Steps.{key_words, step_text}
use Rattle.lane_chains.proofs.StepsInOneBlock.{block_is, key_word_is, step_is, tail}
use Rattle.lane_chains.proofs.RoundsOneByOne.{rounds-cong}
use Rattle.lane_chains.proofs.steps.step_keys.Goals as goal

pub returns : goal.returns
returns c j lt =
    let id = id_lane j c.args.ids in
    let q = slice_index c.args.q j in
    let chain = slice_index c.args.chains j in
    let step = slice_index c.args.steps j in
    let h = lane j c.args.v in
    let block = step_text id q chain step h ++ tail in
    let same = rounds-cong initial_hash_256 (key_words id q) (schedule block 48) 5
    (λ k below. key_word_is id q chain step h k below) in
    step_is id q chain step h (lane j c.compressed.result)
    (c.compressed.ensures j lt block (λ k below. ap (λ x. slice_index x k) (c.block_words.ensures j lt)
    ∙ block_is id q chain step h k below)
    (c.requires.begun j lt ∙ same))
