-- A step of lanes that all have one identifier.
use Rattle.std.proofs.Common.{◌∙◌, List, ℕ, ap, slice_index, sym}
use Rattle.sha2.specs.Sha256.{digest_bytes, initial_hash_256, rounds, sha256}
use Rattle.lane_chains.specs.Lanes.{lane}
use Rattle.lane_chains.specs.Steps.{key_words, step_text}
use Rattle.lane_chains.proofs.steps.step_each.Goals as goal

pub step_keys-requires-clause-begun : goal.step_keys-requires-clause-begun
step_keys-requires-clause-begun c = λ j lt.
    c.requires.begun j lt
    ∙ ap (λ (x : List ℕ). rounds initial_hash_256 (key_words x (slice_index c.args.q j)) 5)
    (sym (c.same_id.ensures.words j lt))

pub returns : goal.returns
unfolding digest_bytes
returns c j lt =
    c.step_keys.ensures j lt
    ∙ ap (λ (x : List ℕ). sha256 (step_text x (slice_index c.args.q j) (slice_index c.args.chains j)
    (slice_index c.args.steps j) (lane j c.args.v))) (c.same_id.ensures.words j lt)
