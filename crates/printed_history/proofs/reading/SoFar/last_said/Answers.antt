-- The last entry is the last of its actor's own, and the bench has the frames of each.
use Rattle.std.proofs.Common.{◌-◌, ◌<◌, length, ap, arith}
use Rattle.printed_history.specs.Reading.{contents_in}
use Rattle.printed_history.proofs.LastSaid.{last_there, last_own, bench_has, frames_last, frames_known}
use Rattle.printed_history.proofs.reading.SoFar.last_said.Goals as goal

pub bench-bench-requires-clause-there : goal.bench-bench-requires-clause-there
bench-bench-requires-clause-there c =
    last_there (contents_in c.args.self.now) c.args.self.now.history c.last.result.now.actor
    c.requires.at_hand.is_legal c.requires.some (λ before e is. ap (λ x. x.actor) (c.last.ensures before e is))

pub bench-bench-requires-clause-own : goal.bench-bench-requires-clause-own
bench-bench-requires-clause-own c =
    last_own c.args.self.now c.last.result.now.actor c.requires.at_hand c.requires.some
    (λ before e is. ap (λ x. x.actor) (c.last.ensures before e is))

pub overflow_sub-last : goal.overflow_sub-last
overflow_sub-last c =
    let some : 0 < length c.list.result.now =
    bench_has (contents_in c.args.self.now) c.args.self.now.history c.last.result.now.actor
    c.bench-bench.result.now c.list.result.now c.bench-bench.ensures c.list.ensures c.requires.some
    (λ before e is. ap (λ x. x.actor) (c.last.ensures before e is)) in
    omega arith

pub unreachable-requires : goal.unreachable-requires
unreachable-requires c =
    let some : 0 < length c.list.result.now =
    bench_has (contents_in c.args.self.now) c.args.self.now.history c.last.result.now.actor
    c.bench-bench.result.now c.list.result.now c.bench-bench.ensures c.list.ensures c.requires.some
    (λ before e is. ap (λ x. x.actor) (c.last.ensures before e is)) in
    frames_known c.bench-bench.result.now (length c.list.result.now - 1) c.list.result.now c.frames_at.result
    c.list.ensures (omega arith)
    (c.frames_at.ensures (ap (λ b. b.is_spent) c.bench-bench.ensures)) c.in-None.is

pub returns : goal.returns
returns c =
    let some : 0 < length c.list.result.now =
    bench_has (contents_in c.args.self.now) c.args.self.now.history c.last.result.now.actor
    c.bench-bench.result.now c.list.result.now c.bench-bench.ensures c.list.ensures c.requires.some
    (λ before e is. ap (λ x. x.actor) (c.last.ensures before e is)) in
    λ before e is. frames_last (contents_in c.args.self.now) c.args.self.now.history before e
    c.last.result.now.actor (length c.list.result.now - 1) c.bench-bench.result.now c.list.result.now
    c.in-Some.frames.now c.bench-bench.ensures c.list.ensures (omega arith) is
    (ap (λ x. x.actor) (c.last.ensures before e is))
    (rw c.in-Some.is at c.frames_at.ensures (ap (λ b. b.is_spent) c.bench-bench.ensures))
