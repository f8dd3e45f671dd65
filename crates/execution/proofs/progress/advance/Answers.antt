-- What is executed is always that of the requests before the place reached, with room for as many more as are
-- ahead. The place stops at the first request without a certificate, or at the end.
use Rattle.std.proofs.Common.{◌≡◌, ◌≤◌, ◌<◌, ◌+◌, ◌-◌, ℕ, Some, None, length, vec_len, get_or, sym, ◌∙◌, ap, arith}
use Rattle.std.specs.Prelude.{vec_capacity}
use Rattle.execution.specs.Ran.{request_of, certificate}
use Rattle.execution.proofs.Progressing.{done-step, stopped-here, stopped-end}
use Rattle.execution.proofs.progress.advance.Goals as goal

pub execute-requires-clause-client : goal.execute-requires-clause-client
execute-requires-clause-client c = c.requires.clients (request_of (get_or c.args.requests.now c.loop-at.at (0, 0)))
    c.in-Some.update.now (sym c.in-Some.ensures.value)

pub returns-in_default-clause-stopped : goal.returns-in_default-clause-stopped
returns-in_default-clause-stopped c = stopped-here (certificate c.args.certificates.now.entries) c.args.requests.now
    c.loop-at.at (0, 0) c.loop-at-test.true (sym c.in_default.ensures.value)

pub loop-at-preserved : goal.loop-at-preserved
loop-at-preserved c =
    let room : vec_len c.loop-at.executed + (length c.args.requests.now - c.loop-at.at) ≤ vec_capacity
    c.loop-at.executed = c.loop-at.invariant.1 in (
      omega arith,
      omega arith,
      λ has. done-step (certificate c.args.certificates.now.entries) c.args.requests.now c.loop-at.at (0, 0)
          c.in-Some.update.now c.loop-at.executed.items c.execute.new.executed.items
          c.loop-at.counts c.execute.new.counts
          c.loop-at-test.true (sym c.in-Some.ensures.value) c.execute.ensures.kept c.execute.ensures.counted
          (c.loop-at.invariant.2 has),
    )

pub returns-clause-stopped : goal.returns-clause-stopped
returns-clause-stopped c = stopped-end (certificate c.args.certificates.now.entries) c.args.requests.now
    c.loop-at.at c.loop-at-test.false
