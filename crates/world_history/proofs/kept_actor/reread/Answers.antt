-- The keeper holds the texts of the list, and the bench is what that list makes: so the actor made anew from
-- the texts is the one that it was, and its last frames are those said before.
use Rattle.std.proofs.Common.{ap}
use Rattle.outside.specs.Keepers.{lists_of}
use Rattle.scenario_file.specs.Reading.{contents}
use Rattle.world_history.proofs.RestartReplays.{
  IsReread,
  actor_there,
  are_kept,
  as_it_was,
  frames_as_they_were,
  stand_as_they_did,
}
use Rattle.world_history.proofs.kept_actor.reread.Goals.{Start}
use Rattle.world_history.proofs.kept_actor.reread.Goals as goal

asked : (c : Start) → IsReread (contents c.args.scenario.now) c.args.bench.now c.args.keeper.now
asked c = record {
  valid = c.requires.valid;
  there = c.requires.there;
  can = c.requires.can;
  whole = c.requires.whole;
  kept = c.requires.kept;
}

pub replay-requires-clause-there : goal.replay-requires-clause-there
replay-requires-clause-there c =
    actor_there (contents c.args.scenario.now) c.actor-actor.result c.args.bench.now.actor
    c.actor-actor.ensures c.requires.there

pub replay-requires-clause-kept : goal.replay-requires-clause-kept
replay-requires-clause-kept c =
    are_kept (contents c.args.scenario.now) c.actor-actor.result c.args.bench.now c.args.keeper.now c.in-Ok.kept.items
    (lists_of c.deref.result.now) c.actor-actor.ensures
    (asked (goal.at.replay-requires-clause-kept c).Start)
    c.in-Ok.ensures.exact.1 (ap lists_of c.deref.ensures.value)

pub returns-in_ok-revived-in-Ok-clause-same : goal.returns-in_ok-revived-in-Ok-clause-same
returns-in_ok-revived-in-Ok-clause-same c =
    as_it_was (contents c.args.scenario.now) c.actor-actor.result c.args.bench.now c.in_ok-revived-in-Ok.revived
    c.args.keeper.now c.in-Ok.kept.items (lists_of c.deref.result.now) c.actor-actor.ensures
    (asked (goal.at.returns-in_ok-revived-in-Ok-clause-same c).Start)
    c.in-Ok.ensures.exact.1 (ap lists_of c.deref.ensures.value) c.in_ok-revived-in-Ok.ensures.bench

pub returns-in_ok-revived-in-Ok-clause-frames : goal.returns-in_ok-revived-in-Ok-clause-frames
returns-in_ok-revived-in-Ok-clause-frames c =
    frames_as_they_were (contents c.args.scenario.now) c.actor-actor.result c.args.bench.now c.args.keeper.now
    c.in-Ok.kept.items (lists_of c.deref.result.now)
    c.in_ok-revived-in-Ok.frames.items c.actor-actor.ensures
    (asked (goal.at.returns-in_ok-revived-in-Ok-clause-frames c).Start)
    c.in-Ok.ensures.exact.1 (ap lists_of c.deref.ensures.value) c.in_ok-revived-in-Ok.ensures.frames

pub returns-in_ok-revived-in-Ok-clause-stand : goal.returns-in_ok-revived-in-Ok-clause-stand
returns-in_ok-revived-in-Ok-clause-stand c =
    stand_as_they_did (contents c.args.scenario.now) c.args.bench.now c.args.keeper.now
    c.in_ok-revived-in-Ok.frames.items
    (asked (goal.at.returns-in_ok-revived-in-Ok-clause-stand c).Start)
    c.in_ok-revived-in-Ok.ensures.stand
