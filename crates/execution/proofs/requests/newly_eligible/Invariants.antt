use Rattle.std.proofs.Common.{◌≡◌, map}
use Rattle.execution.specs.Ran.{request_of}
use Rattle.execution.specs.Progress.{requests_from}
use Rattle.execution.proofs.requests.newly_eligible.Given as goal

abbrev pub invariant-loop-master : goal.invariant-loop-master
invariant-loop-master l = map request_of l.fresh.items ≡ requests_from l.master l.reached.numbers l.now.numbers
