use Rattle.std.proofs.Common.{◌≡◌, map, take}
use Rattle.protocol_rules.specs.Plans.{certificates_of}
use Rattle.intruder_words.specs.Telling.{bare}
use Rattle.intruder_words.proofs.plans.bare_certificates.Given as goal

abbrev pub invariant-loop-report : goal.invariant-loop-report
invariant-loop-report l = l.all.items ≡ map bare (certificates_of (map (λ r. r.body) (take l.report-index l.reports)))
