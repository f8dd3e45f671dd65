use Rattle.std.proofs.Common.{◌≡◌, take}
use Rattle.std.specs.List.{filter_map}
use Rattle.history_audit.specs.Prefixes.{longest}
use Rattle.history_audit.proofs.prefixes.longest_of.Given as goal

abbrev pub invariant-loop-holder : goal.invariant-loop-holder
invariant-loop-holder g l = l.longest ≡ longest (filter_map g.E.Executes.executed (take l.holder-index l.holders))
