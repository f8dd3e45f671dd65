use Rattle.std.proofs.Common.{◌≡◌, take}
use Rattle.scenario_file.specs.Settings.{set_of}
use Rattle.scenario_file.proofs.settings.set_of.Given as goal

abbrev pub invariant-loop-master : goal.invariant-loop-master
invariant-loop-master l = l.set ≡ set_of (take l.master-index l.masters)
