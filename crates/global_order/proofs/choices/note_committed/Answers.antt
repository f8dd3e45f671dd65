-- Where the rows are known the number takes the digest unless it has one, else the quorum waits where it has
-- its place. Either way the choice is the one of the definition with one quorum more.
use Rattle.std.proofs.Common.{refl, ◌∙◌}
use Rattle.global_order.proofs.Settling.{agrees-committed, agrees-pending, order-waits}
use Rattle.global_order.proofs.choices.note_committed.Goals as goal

pub returns-then-contains_key-clause-agrees : goal.returns-then-contains_key-clause-agrees
returns-then-contains_key-clause-agrees c = λ known prepares first commits order agrees.
    agrees-committed known c.args.s c.args.digest prepares first commits order c.args.choices.now
    c.put_order.new.orders c.raised_to-choices.result c.if-contains_key.ensures c.put_order.ensures agrees

pub returns-clause-agrees : goal.returns-clause-agrees
returns-clause-agrees c = λ known prepares first commits order agrees.
    agrees-pending known record { v = c.args.v; s = c.args.s; digest = c.args.digest } prepares first
    commits order c.args.choices.now
    record c.args.choices.now { committed = c.put_waiting.new.waiting }
    c.if-contains_key.ensures c.requires.place c.put_waiting.ensures refl refl refl refl agrees

pub returns-then-contains_key-clause-places : goal.returns-then-contains_key-clause-places
returns-then-contains_key-clause-places c has =
    record { prepared = has.prepared; ordered = λ s d waits. c.put_order.ensures.places s ∙ has.ordered s d waits }

pub returns-clause-places : goal.returns-clause-places
returns-clause-places c has = record {
  prepared = has.prepared;
  ordered = order-waits record { v = c.args.v; s = c.args.s; digest = c.args.digest } c.args.choices.now.committed
      c.put_waiting.new.waiting c.args.choices.now.ordered c.requires.place c.put_waiting.ensures has.ordered;
}
