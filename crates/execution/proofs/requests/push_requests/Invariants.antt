use Rattle.std.proofs.Common.{◌≡◌, ◌≤◌, ◌++◌, map, max}
use Rattle.protocol_rules.specs.Execution.{requests_between}
use Rattle.execution.specs.Ran.{request_of}
use Rattle.execution.proofs.requests.push_requests.Given as goal

abbrev pub invariant-loop-number : goal.invariant-loop-number
invariant-loop-number l =
    (map request_of l.fresh.items ≡ map request_of l.fn.fresh.items ++ requests_between l.master l.from l.number)
    × (l.number ≤ max l.from l.to)
