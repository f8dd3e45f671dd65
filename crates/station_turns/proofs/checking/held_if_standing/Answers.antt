-- A frame is held where it was found to stand by the ring of keys, and that is just where it stands in each scenario
-- with these keys. Else nothing is held.
use Rattle.std.proofs.Common.{sym, ◌∙◌}
use Rattle.world_history.proofs.FramesRead.{found_some, found_none}
use Rattle.station_turns.proofs.FramesHeld.{held_well, held_fallen}
use Rattle.station_turns.proofs.checking.held_if_standing.Goals as goal

pub returns-in-Some : goal.returns-in-Some
returns-in-Some c = λ contents same.
    let found = found_some _ c.args.frame c.in-Some.frame (sym c.in_ok-found.ensures ∙ c.in-Some.is) in
    held_well contents c.args.ring.now c.args.stamp c.args.place c.args.frame c.in-Some.frame found.0 found.1 same

pub returns-in-None : goal.returns-in-None
returns-in-None c = λ contents same.
    held_fallen contents c.args.ring.now c.args.stamp c.args.place c.args.frame
    (found_none _ c.args.frame (sym c.in_ok-found.ensures ∙ c.in-None.is)) same
