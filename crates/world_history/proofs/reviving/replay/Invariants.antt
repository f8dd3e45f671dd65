-- The bench is what the entries read so far make of a new actor, and the frames are those said at the last of
-- them, which all stand.
use Rattle.std.proofs.Common.{◌≡◌, true}
use Rattle.std.specs.List.{list_all}
use Rattle.outside.specs.Keepers.{lists_of}
use Rattle.scenario_file.specs.Reading.{contents}
use Rattle.history_rules.specs.Setup.{stands}
use Rattle.world_rules.specs.Scenarios.{setup_of}
use Rattle.world_history.proofs.KeptBytesReplay.{DidSoFar, FramesSoFar}
use Rattle.world_history.proofs.reviving.replay.Given as goal

abbrev pub invariant-loop-bytes : goal.invariant-loop-bytes
invariant-loop-bytes l = record {
  bench : DidSoFar (contents l.scenario) l.actor l.bytes-index (lists_of l.kept) l.bench;
  frames : FramesSoFar (contents l.scenario) l.actor l.bytes-index (lists_of l.kept) l.frames.items;
  stand : list_all (stands (setup_of (contents l.scenario))) l.frames.items ≡ true;
}
