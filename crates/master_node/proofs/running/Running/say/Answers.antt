-- What is said is all that is due, cut to the leaves that are left. With no leaf nothing is said, and what
-- counts as said agrees with the entries up to the cut.
use Rattle.std.proofs.Common.{◌∙◌}
use Rattle.protocol_rules.specs.Master.{known_at}
use Rattle.master_node.proofs.Plants.{few_clients, holds_orders}
use Rattle.master_node.proofs.Steps.{none_said, silent_so, is_state, ticks_had, still_counts, cut_so, spoken_so}
use Rattle.master_node.proofs.running.Running.say.Goals as goal

pub returns-then-self-eq0-clause-said : goal.returns-then-self-eq0-clause-said
returns-then-self-eq0-clause-said c charge before took asked r = c.new.ensures.items
    ∙ none_said charge c.args.self.now before took c.args.at_tick c.if-self-eq0.true r.leaves

pub returns-then-self-eq0-clause-spoken : goal.returns-then-self-eq0-clause-spoken
returns-then-self-eq0-clause-spoken c charge before took asked r =
    silent_so charge c.args.self.now before took c.args.at_tick r c.if-self-eq0.true

pub answer-requires-clause-replica : goal.answer-requires-clause-replica
answer-requires-clause-replica c =
    let r = c.requires.ready in is_state r.charge c.args.self.now r.before r.took c.args.at_tick r.is

pub answer-requires-clause-ticks : goal.answer-requires-clause-ticks
answer-requires-clause-ticks c =
    let r = c.requires.ready in ticks_had r.charge c.args.self.now r.before r.took c.args.at_tick r.is

pub answer-requires-clause-few : goal.answer-requires-clause-few
answer-requires-clause-few c =
    let r = c.requires.ready in
    few_clients r.charge (known_at r.before r.took) c.args.self.now.points r.is.points

pub returns-clause-said : goal.returns-clause-said
returns-clause-said c charge before took asked r =
    cut_so charge c.args.self.now before took c.args.at_tick c.in_ok-bodies.bodies.items c.cut-used.new.bodies.items r
    (c.in_ok-bodies.ensures.answers charge.group charge.orders charge.me before took asked
    (still_counts charge c.args.self.now before took c.args.at_tick r c.if-self-eq0.false) r.caught
    (holds_orders charge (known_at before took) c.args.self.now.points r.points))
    c.cut-used.ensures.bodies

pub returns-clause-spoken : goal.returns-clause-spoken
returns-clause-spoken c charge before took asked r =
    let counts = still_counts charge c.args.self.now before took c.args.at_tick r c.if-self-eq0.false in
    let orders = holds_orders charge (known_at before took) c.args.self.now.points r.points in
    spoken_so charge c.args.self.now c.answer.new.self c.cut-used.result before took c.args.at_tick
    c.in_ok-bodies.bodies.items c.cut-used.new.bodies.items r
    (c.in_ok-bodies.ensures.answers charge.group charge.orders charge.me before took asked counts r.caught orders)
    c.cut-used.ensures.bodies c.cut-used.ensures.used
    (c.in_ok-bodies.ensures.is_replica charge.group charge.orders charge.me before took asked counts r.caught orders)
    c.in_ok-bodies.ensures.run c.in_ok-bodies.ensures.counts
