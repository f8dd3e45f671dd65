-- The cry of a word goes to those to whom the word was said, and each other frame where its body goes. Both are
-- actors that are there, as the turn is well made.
use Rattle.std.proofs.Common.{◌≡◌, List, ℕ, ap, ◌∙◌}
use Rattle.protocol_rules.specs.Group.{Group}
use Rattle.world_rules.specs.Frames.{addressees}
use Rattle.world_rules.specs.Scenarios.{setup_of, group_in}
use Rattle.scenario_file.specs.Reading.{contents}
use Rattle.world_history.proofs.Addressed.{client_few}
use Rattle.world_history.proofs.Addressed.{group_same}
use Rattle.replica_threads.proofs.Frames.{named_goes, named_there, body_goes, body_there}
use Rattle.replica_threads.proofs.posting.goes_to.Goals as goal

pub addressees-requires : goal.addressees-requires
addressees-requires c = client_few (contents c.args.shared.now.scenario.now) c.args.frame.now c.requires.valid
    (c.requires.can.stand c.if-turned.false)

pub returns-then-turned : goal.returns-then-turned
returns-then-turned c = record {
  to = named_goes c.copy.result (contents c.args.shared.now.scenario.now) c.args.actor c.args.turned.now
      c.args.frame.now c.if-turned.true c.copy.ensures;
  there = named_there c.copy.result (contents c.args.shared.now.scenario.now)
      c.args.turned.now c.requires.can.there c.copy.ensures;
}

pub returns : goal.returns
returns c =
    let others : c.as_slice.result.now ≡ addressees (setup_of (contents c.args.shared.now.scenario.now)).group
    c.args.actor c.args.frame.now.body =
    c.as_slice.ensures ∙ c.in_ok-to.ensures (group_in (contents c.args.shared.now.scenario.now)).clients
    ∙ ap (λ (g : Group). addressees g c.args.actor c.args.frame.now.body) (group_same c.args.shared.now.scenario.now) in
    record {
      to = body_goes c.widened.result (contents c.args.shared.now.scenario.now) c.args.actor c.args.turned.now
          c.args.frame.now c.as_slice.result.now c.if-turned.false others c.widened.ensures;
      there = body_there c.widened.result (contents c.args.shared.now.scenario.now) c.args.actor c.args.frame.now
          c.as_slice.result.now (c.requires.can.stand c.if-turned.false) others c.widened.ensures;
    }
