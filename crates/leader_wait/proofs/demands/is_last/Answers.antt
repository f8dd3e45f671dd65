use Rattle.std.proofs.Common.{◌-◌, ◌<◌, refl, sym, ◌∙◌, arith}
use Rattle.std.specs.VecDeque.{deque_len}
use Rattle.leader_wait.proofs.Stretches.{ends-last}
use Rattle.leader_wait.proofs.demands.is_last.Goals as goal

pub returns-in-Some : goal.returns-in-Some
returns-in-Some c =
    c.eq.ensures
    ∙ sym (ends-last c.args.demands.now.items c.in-Some.last.now (deque_len c.args.demands.now - 1)
    c.args.eligible.now.numbers (let some : 0 < deque_len c.args.demands.now = c.in-Some.ensures.variant.0 refl in omega (arith, c.args.demands.now.ok.0)) c.in-Some.ensures.lookup)
