-- Each lane takes value 0 of a list that has no other.
use Rattle.std.proofs.Common.{◌∙◌, ap, arith}
use Rattle.std.proofs.lemmas.List.{take_all}
use Rattle.lane_chains.specs.Chains.{value_at}
use Rattle.lane_chains.proofs.LanesOfChains.{zero_lane}
use Rattle.lane_chains.proofs.made.same_value.Goals as goal

pub gathered_values-requires : goal.gathered_values-requires
gathered_values-requires c = λ j lt. let at = zero_lane j lt in omega (arith, at)

pub returns : goal.returns
returns c = λ j lt.
    c.gathered_values.ensures j lt
    ∙ ap (value_at c.args.value.now) (zero_lane j lt)
    ∙ take_all 32 c.args.value.now (omega arith)
