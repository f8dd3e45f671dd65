-- Rows of a known digest change nothing. New ones settle the quorums that waited for their digest, and the
-- choice is then the one of the definition with these rows more.
use Rattle.global_order.proofs.Settling.{agrees-again, agrees-new}
use Rattle.global_order.proofs.choices.learn.Goals as goal

pub returns-then-contains_key-clause-known : goal.returns-then-contains_key-clause-known
returns-then-contains_key-clause-known c = λ known prepares first commits order agrees.
    agrees-again known c.args.rows c.rows_digest-digest.result prepares first commits order c.args.choices.now
    c.rows_digest-digest.ensures c.if-contains_key.ensures agrees

pub returns-clause-known : goal.returns-clause-known
returns-clause-known c = λ known prepares first commits order agrees.
    let put = rw c.unwrap.ensures at c.insert.ensures.updates in
    agrees-new known c.args.rows c.rows_digest-digest.result prepares first commits order c.args.choices.now _
    c.rows_digest-digest.ensures record {
      absent = c.if-contains_key.ensures;
      put = put.0;
      slots = c.settle_slots.ensures.slots;
      orders = c.settle_orders-choices.ensures.orders;
      slots_left = c.settle_slots.ensures.backed;
      orders_left = c.settle_orders-choices.ensures.committed;
    } agrees
