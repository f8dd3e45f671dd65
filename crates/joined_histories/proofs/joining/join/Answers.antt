-- All actors are at hand, so the benches are those of all.
use Rattle.std.proofs.Common.{sym, ◌∙◌, ap}
use Rattle.scenario_file.specs.Reading.{contents}
use Rattle.world_history.specs.Benches.{benches_of}
use Rattle.printed_history.proofs.AtHand.{whole_benches}
use Rattle.joined_histories.proofs.joining.join.Goals as goal

pub returns-in-Ok-joined-clause-benches : goal.returns-in-Ok-joined-clause-benches
returns-in-Ok-joined-clause-benches c =
    ap (λ b. b.items) c.into_replay.ensures.benches
    ∙ whole_benches (contents c.args.scenario.now) c.in-Ok-joined.so_far c.in-Ok-joined.ensures.at_hand.0
    c.in-Ok-joined.ensures.at_hand.1 c.in-Ok-joined.ensures.at_hand.2
    ∙ ap (benches_of (contents c.args.scenario.now)) (sym c.into_replay.ensures.history)
