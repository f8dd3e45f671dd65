use Rattle.std.proofs.Common.{◌≡◌, map, take, max}
use Rattle.protocol_rules.specs.Words.{greatest_of}
use Rattle.intruder_words.proofs.plans.greatest_base.Given as goal

abbrev pub invariant-loop-report : goal.invariant-loop-report
invariant-loop-report l = l.base ≡ max 0 (greatest_of (map (λ r. r.body.base) (take l.report-index l.reports)))
