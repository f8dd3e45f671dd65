use Rattle.std.proofs.Common.{◌≡◌, take}
use Rattle.std.specs.List.{flat_map}
use Rattle.delay_times.specs.Unexecuted.{unexecuted_if}
use Rattle.delay_times.proofs.unexecuted.unexecuted_of.Given as goal

-- those of the updates so far
abbrev pub invariant-loop-saying : goal.invariant-loop-saying
invariant-loop-saying l =
    l.unexecuted.items ≡ flat_map (unexecuted_if l.happenings l.masters) (take l.saying-index l.sayings)
