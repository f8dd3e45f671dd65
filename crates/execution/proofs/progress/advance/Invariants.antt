-- If the executed updates and their counts were right for the requests before the start, they are right for
-- those before the place reached, with room for the rest. Ahead there is one less each turn.
use Rattle.std.proofs.Common.{◌≡◌, ◌≤◌, ◌+◌, ◌-◌, length, map, take, vec_len}
use Rattle.std.specs.Prelude.{vec_capacity}
use Rattle.execution.specs.Ran.{request_of, certificate}
use Rattle.execution.specs.Progress.{HasDone}
use Rattle.execution.proofs.progress.advance.Given as goal

abbrev pub invariant-loop-at : goal.invariant-loop-at
invariant-loop-at l =
    (l.at ≤ length l.requests) × (vec_len l.executed + (length l.requests - l.at) ≤ vec_capacity l.executed)
    × (HasDone (certificate l.certificates.entries) (map request_of (take l.fn.start l.requests))
    l.fn.executed.items l.fn.counts
    → HasDone (certificate l.certificates.entries) (map request_of (take l.at l.requests)) l.executed.items l.counts)

abbrev pub decreases-loop-at : goal.decreases-loop-at
decreases-loop-at l = length l.requests - l.at
