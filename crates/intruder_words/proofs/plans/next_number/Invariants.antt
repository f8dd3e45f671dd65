use Rattle.std.proofs.Common.{take}
use Rattle.intruder_words.specs.Numbering.{IsNextNumber}
use Rattle.intruder_words.proofs.plans.next_number.Given as goal

abbrev pub invariant-loop-certificate : goal.invariant-loop-certificate
invariant-loop-certificate l = IsNextNumber (take l.certificate-index l.all) l.at l.next
