use Rattle.scenario_file.specs.Reading.{contents}
use Rattle.world_rules.specs.Scenarios.{setup_of}
use Rattle.run_scripts.proofs.FramesHeld.{post_made}
use Rattle.run_scripts.proofs.posting.cried_post.Goals as goal

pub returns : goal.returns
returns c =
    post_made c.args.to.now (setup_of (contents c.args.world.now.scenario.now)) c.args.from c.args.stamp 0
    c.kind_of.result c.in_ok-as_actors.field-0 c.in_ok-hold_if_standing.field-0 c.args.frame
    c.kind_of.ensures c.in_ok-as_actors.ensures c.in_ok-hold_if_standing.ensures
