-- A group's lanes end as their chains do, and only these chains are marked: so whatever is marked has its end
-- in place, after each group too.
use Rattle.lane_chains.specs.Three.{end_of_three}
use Rattle.lane_chains.proofs.three.run_together.Goals as goal

pub groups-preserved : goal.groups-preserved
groups-preserved c = λ held.
    c.put_ends.ensures
    (end_of_three c.args.a.now c.args.b.now c.args.c.now c.args.from.now c.args.to.now c.args.starts.now)
    c.ends_at-v.ensures
    (c.groups.invariant held)
