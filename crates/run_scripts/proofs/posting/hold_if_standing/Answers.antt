-- An intruded master's frame is held where it was found to stand by the ring of keys, and that is just where it
-- stands. Else nothing is held.
use Rattle.std.proofs.Common.{refl, sym, ◌∙◌, arith}
use Rattle.scenario_file.specs.Reading.{contents}
use Rattle.world_rules.specs.Scenarios.{setup_of}
use Rattle.world_history.proofs.FramesRead.{found_some, found_none, stands_by}
use Rattle.run_scripts.proofs.FramesHeld.{held_some, held_fallen}
use Rattle.run_scripts.proofs.posting.hold_if_standing.Goals as goal

pub returns-in-Some : goal.returns-in-Some
returns-in-Some c =
    let found = found_some _ c.args.frame c.in-Some.frame (sym c.in_ok-found.ensures ∙ c.in-Some.is) in
    held_some (setup_of (contents c.args.world.now.scenario.now)) c.args.stamp 0 0 c.args.frame c.in-Some.frame refl
    (omega arith) found.0
    (stands_by (contents c.args.world.now.scenario.now) c.args.world.now.ring c.args.frame c.requires.world.ring
    ∙ found.1)

pub returns : goal.returns
returns c =
    held_fallen (setup_of (contents c.args.world.now.scenario.now)) c.args.stamp 0 c.args.frame
    (stands_by (contents c.args.world.now.scenario.now) c.args.world.now.ring c.args.frame c.requires.world.ring
    ∙ found_none _ c.args.frame (sym c.in_ok-found.ensures ∙ c.in-None.is))
