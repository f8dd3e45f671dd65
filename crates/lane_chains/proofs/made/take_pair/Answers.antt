use Rattle.std.proofs.Common.{◌∙◌, ap, slice_index}
use Rattle.lane_chains.proofs.PairsOfValues.{pair_is}
use Rattle.lane_chains.proofs.made.take_pair.Goals as goal

pub returns : goal.returns
returns c j lt =
    c.compressed_after.ensures j lt _ (λ k below. ap (λ x. slice_index x k) (c.pair_words.ensures j lt)
    ∙ pair_is _ _ _ k below)
