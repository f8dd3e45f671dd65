use Rattle.std.proofs.Common.{◌≡◌, filter, take}
use Rattle.view_change.specs.Planning.{is_for}
use Rattle.intruder_words.proofs.plans.all_for.Given as goal

abbrev pub invariant-loop-certificate : goal.invariant-loop-certificate
invariant-loop-certificate l = l.certificates ≡ filter (is_for l.s) (take l.certificate-index l.all)
