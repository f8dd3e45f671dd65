use Rattle.std.proofs.Common.{◌≡◌, ◌++◌, map, take}
use Rattle.intruder_words.specs.Telling.{bare}
use Rattle.intruder_words.proofs.plans.push_bare.Given as goal

abbrev pub invariant-loop-certificate : goal.invariant-loop-certificate
invariant-loop-certificate l = l.all.items ≡ l.fn.all.items ++ map bare (take l.certificate-index l.certificates)
