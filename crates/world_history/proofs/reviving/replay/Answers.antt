-- After each text the bench is what the entries up to it make, and the frames are those of the last of them.
-- Each text is one of a kept list, so that its entry can come next.
use Rattle.std.proofs.Common.{ap}
use Rattle.std.specs.List.{list_all}
use Rattle.outside.specs.Keepers.{lists_of}
use Rattle.scenario_file.specs.Reading.{contents}
use Rattle.history_rules.specs.Setup.{stands}
use Rattle.world_rules.specs.Scenarios.{setup_of}
use Rattle.world_history.proofs.KeptBytesReplay.{item_at, low_in, high_in, next_comes, did_next, frames_next, did_nothing}
use Rattle.world_history.proofs.KeptBytesReplay.{frames_none, stand_next, did_all, frames_all}
use Rattle.world_history.proofs.reviving.replay.Goals as goal

pub loop-bytes-init : goal.loop-bytes-init
loop-bytes-init c = record {
  bench = did_nothing (contents c.args.scenario.now) c.args.actor (lists_of c.args.kept.now)
      c.in_ok-bench.bench c.in_ok-bench.ensures;
  frames = frames_none (contents c.args.scenario.now) c.args.actor (lists_of c.args.kept.now)
      c.new-frames.result.items c.new-frames.ensures.items;
  stand = ap (list_all (stands (setup_of (contents c.args.scenario.now)))) c.new-frames.ensures.items;
}

pub replay_one-requires : goal.replay_one-requires
replay_one-requires c =
    next_comes (contents c.args.scenario.now) c.args.actor c.loop-bytes.bytes-index (lists_of c.args.kept.now)
    c.as_slice.result.now c.loop-bytes.bench c.requires.kept
    (low_in c.args.kept.now c.loop-bytes.bytes-index c.loop-bytes-test.true)
    (item_at c.args.kept.now c.loop-bytes.bytes-index c.bytes-item.result c.as_slice.result.now c.loop-bytes-test.true
    c.bytes-item.is c.as_slice.ensures.value)
    c.loop-bytes.invariant.bench

pub loop-bytes-preserved : goal.loop-bytes-preserved
loop-bytes-preserved c = record {
  bench = did_next (contents c.args.scenario.now) c.args.actor c.loop-bytes.bytes-index (lists_of c.args.kept.now)
      c.as_slice.result.now c.loop-bytes.bench c.replay_one.new.bench
      (low_in c.args.kept.now c.loop-bytes.bytes-index c.loop-bytes-test.true)
      (item_at c.args.kept.now c.loop-bytes.bytes-index c.bytes-item.result c.as_slice.result.now
      c.loop-bytes-test.true c.bytes-item.is c.as_slice.ensures.value)
      c.loop-bytes.invariant.bench c.in_ok-frames.ensures.entry;
  frames = frames_next (contents c.args.scenario.now) c.args.actor c.loop-bytes.bytes-index (lists_of c.args.kept.now)
      c.as_slice.result.now c.loop-bytes.bench c.in_ok-frames.frames.items
      (low_in c.args.kept.now c.loop-bytes.bytes-index c.loop-bytes-test.true)
      (item_at c.args.kept.now c.loop-bytes.bytes-index c.bytes-item.result c.as_slice.result.now
      c.loop-bytes-test.true c.bytes-item.is c.as_slice.ensures.value)
      c.loop-bytes.invariant.bench c.in_ok-frames.ensures.frames;
  stand = stand_next (contents c.args.scenario.now) c.args.actor c.loop-bytes.bytes-index (lists_of c.args.kept.now)
      c.loop-bytes.bench c.in_ok-frames.frames.items c.requires.kept
      c.loop-bytes.invariant.bench c.in_ok-frames.ensures.stand;
}

pub returns-clause-bench : goal.returns-clause-bench
returns-clause-bench c =
    did_all (contents c.args.scenario.now) c.args.actor c.loop-bytes.bytes-index (lists_of c.args.kept.now)
    c.loop-bytes.bench (high_in c.args.kept.now c.loop-bytes.bytes-index c.loop-bytes-test.false)
    c.loop-bytes.invariant.bench

pub returns-clause-frames : goal.returns-clause-frames
returns-clause-frames c =
    frames_all (contents c.args.scenario.now) c.args.actor c.loop-bytes.bytes-index (lists_of c.args.kept.now)
    c.loop-bytes.frames.items (high_in c.args.kept.now c.loop-bytes.bytes-index c.loop-bytes-test.false)
    c.loop-bytes.invariant.frames
