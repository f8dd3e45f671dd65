-- What is posted is the actor's own frames, which stand and so have a spelling, and the frame of a cry if there is
-- one; where nothing is cried they are alone.
use Rattle.std.proofs.Common.{sym, ◌∙◌}
use Rattle.world_history.specs.State.{setup_in}
use Rattle.station_turns.proofs.EntryPosted.{all_spelled, own_stand}
use Rattle.station_turns.proofs.adding.add.Goals as goal

pub push_if-requires-clause-all : goal.push_if-requires-clause-all
push_if-requires-clause-all c =
    all_spelled (setup_in c.args.kept.now.bench) c.in_ok-frames.frames.items c.in_ok-frames.ensures.stand

pub returns-clause-stand : goal.returns-clause-stand
returns-clause-stand c none =
    own_stand (setup_in c.args.kept.now.bench) c.in_ok-frame.frame c.in_ok-frames.frames.items _
    c.in_ok-frames.ensures.stand c.in_ok-push_if.ensures.added (sym c.is_some-cries.ensures ∙ none)
