use Rattle.std.proofs.Common.{◌≡◌, true, take}
use Rattle.std.specs.List.{list_all}
use Rattle.history_audit.specs.Prefixes.{begins_if}
use Rattle.history_audit.proofs.prefixes.all_prefixes.Given as goal

abbrev pub invariant-loop-holder : goal.invariant-loop-holder
invariant-loop-holder g l = list_all (λ x. begins_if l.longest (g.E.Executes.executed x))
    (take l.holder-index l.holders) ≡ true
