-- Lanes that all have one identifier.
use Rattle.std.proofs.Common.{◌∙◌, List, ℕ, ap, slice_index}
use Rattle.sha2.specs.Sha256.{initial_hash_256, rounds}
use Rattle.lane_chains.specs.Steps.{key_words}
use Rattle.lane_chains.proofs.steps.begun_each.Goals as goal

pub returns : goal.returns
returns c j lt =
    c.begun_keys.ensures j lt
    ∙ ap (λ (x : List ℕ). rounds initial_hash_256 (key_words x (slice_index c.args.q j)) 5) (c.same_id.ensures.words j lt)
