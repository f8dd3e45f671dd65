-- A frame that stands is held without another check. Sender, kind and addressees are read off its body as the
-- definition does.
use Rattle.std.proofs.Common.{◌≡◌, ap, ◌∙◌}
use Rattle.protocol_rules.specs.Group.{Group}
use Rattle.world_rules.specs.Frames.{addressees}
use Rattle.world_rules.specs.Scenarios.{setup_of, group_in}
use Rattle.scenario_file.specs.Reading.{contents}
use Rattle.world_history.proofs.Addressed.{client_few}
use Rattle.run_scripts.proofs.FramesHeld.{stands_somewhere, post_made}
use Rattle.world_history.proofs.Addressed.{group_same}
use Rattle.run_scripts.proofs.posting.post_of.Goals as goal

pub addressees-requires : goal.addressees-requires
addressees-requires c = client_few (contents c.args.world.now.scenario.now)
    c.args.frame c.requires.world.valid c.requires.stands

pub hold-requires : goal.hold-requires
hold-requires c = stands_somewhere (contents c.args.world.now.scenario.now) c.args.frame c.requires.stands

pub returns : goal.returns
returns c =
    post_made (addressees (setup_of (contents c.args.world.now.scenario.now)).group c.args.from c.args.frame.body)
    (setup_of (contents c.args.world.now.scenario.now)) c.args.from c.args.stamp c.args.place c.kind_of.result
    c.in_ok-addressees.field-0 c.in_ok-hold.field-0 c.args.frame
    c.kind_of.ensures
    (c.in_ok-addressees.ensures (group_in (contents c.args.world.now.scenario.now)).clients
    ∙ ap (λ (g : Group). addressees g c.args.from c.args.frame.body) (group_same c.args.world.now.scenario.now))
    (c.in_ok-hold.ensures (setup_of (contents c.args.world.now.scenario.now)) c.requires.stands)
