use Rattle.std.proofs.Common.{◌≡◌, false, map, take}
use Rattle.std.specs.List.{list_any}
use Rattle.history_rules.specs.Sameness.{is_same_body}
use Rattle.history_audit.proofs.said.is_among.Given as goal

abbrev pub invariant-loop-other : goal.invariant-loop-other
invariant-loop-other l = list_any (is_same_body l.body) (map (λ b. b.now) (take l.other-index l.bodies)) ≡ false
