use Rattle.hash_signatures.proofs.Descending.{rest_total}
use Rattle.hash_signatures.proofs.KeyLaws.{total_le_sixty}
use Rattle.hash_signatures.proofs.path.way_at.Goals as goal

pub descend-requires-clause-few : goal.descend-requires-clause-few
descend-requires-clause-few c =
    rest_total c.args.heights.now c.in-Some.height.now c.in-Some.lower.now c.in-Some.ensures.cases.0
    (total_le_sixty c.args.heights.now c.requires.levels c.requires.heights)
