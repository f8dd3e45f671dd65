use Rattle.ots_keys.proofs.TogetherLaws.{below_three}
use Rattle.ots_keys.proofs.together.ots_candidates.Goals as goal

pub returns : goal.returns
returns c = below_three _ c.key_alone.ensures c.key_alone-2.ensures c.key_alone-3.ensures
