use Rattle.std.proofs.Common.{◌≡◌, map, take, max}
use Rattle.protocol_rules.specs.Words.{greatest_of}
use Rattle.view_change.proofs.plans.last_among.Given as goal

abbrev pub invariant-loop-certificate : goal.invariant-loop-certificate
invariant-loop-certificate l =
    l.last ≡ max l.least (greatest_of (map (λ c. c.s) (take l.certificate-index l.certificates)))
