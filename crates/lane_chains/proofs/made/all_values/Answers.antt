use Rattle.lane_chains.proofs.LanesOneByOne.{below_eight}
use Rattle.lane_chains.proofs.made.all_values.Goals as goal

pub returns : goal.returns
returns c = below_eight _ c.value_in.ensures c.value_in-2.ensures c.value_in-3.ensures c.value_in-4.ensures
    c.value_in-5.ensures c.value_in-6.ensures c.value_in-7.ensures c.value_in-8.ensures
