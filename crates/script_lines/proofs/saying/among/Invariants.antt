use Rattle.std.proofs.Common.{◌≡◌, filter, nat_eq}
use Rattle.std.specs.List.{list_any}
use Rattle.quorum_sets.specs.Masters.{numbers_below}
use Rattle.script_lines.proofs.saying.among.Given as goal

abbrev pub invariant-loop-actor : goal.invariant-loop-actor
invariant-loop-actor l = l.actors ≡ filter (λ a. list_any (λ m. nat_eq m a) l.named) (numbers_below l.actor)
