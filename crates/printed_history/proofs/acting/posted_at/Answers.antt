use Rattle.std.proofs.Common.{[]}
use Rattle.world_history.specs.State.{setup_in}
use Rattle.printed_history.proofs.LastFrames.{frames_there, none_seen}
use Rattle.printed_history.proofs.acting.posted_at.Goals as goal

pub unreachable-requires : goal.unreachable-requires
unreachable-requires c =
    frames_there (setup_in c.args.bench.now) c.args.bench.now.actor [] c.args.bench.now.list
    c.args.place c.requires.there
    (none_seen c.frames_at.result _ (c.frames_at.ensures c.requires.works) c.in-None.is)
