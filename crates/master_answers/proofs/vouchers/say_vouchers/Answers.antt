-- Each client's vouchers begin where its count stood, and its count ends at the length of its orders. Clients
-- don't touch each other's counts, and a copy keeps them as they were should memory run out.
use Rattle.std.proofs.Common.{◌<◌, ◌++◌, length, refl, ◌∙◌, ap, arith}
use Rattle.std.proofs.lemmas.List.{length-set}
use Rattle.master_answers.proofs.Vouched.{due_start, said_start, due_more, said_more, counted_more, others_stay}
use Rattle.master_answers.proofs.Vouched.{within_list, said_all, for_clients}
use Rattle.master_answers.proofs.vouchers.say_vouchers.Goals as goal

pub loop-client-init : goal.loop-client-init
loop-client-init c = record {
  many = omega arith;
  due = λ said orders own are. c.new-bodies.ensures.items ∙ due_start said orders;
  said = λ said orders own are. said_start c.args.vouchers.now.counts said orders are;
  counted = λ d lt. absurd (omega arith);
  others = λ d le. refl;
}

pub loop-client-preserved : goal.loop-client-preserved
loop-client-preserved c =
    let within : c.loop-client.client < length c.loop-client.counted.counts = omega arith in
    record {
      many = ap length c.in_ok-due_for.ensures.counts ∙ length-set c.loop-client.counted.counts c.loop-client.client
          (length c.orders.result.now) ∙ c.loop-client.invariant.many;
      due = λ said orders own are.
          due_more said orders c.args.points.now.lists c.loop-client.client c.orders.result.now
          c.loop-client.bodies.items c.due_for.new.bodies.items c.orders.ensures
          (own c.loop-client.client (omega arith))
          (c.loop-client.invariant.due said orders own are)
          (c.in_ok-due_for.ensures.due (said ++ for_clients said orders c.loop-client.client)
          (c.loop-client.invariant.said said orders own are));
      said = λ said orders own are.
          said_more c.due_for.new.self.counts said orders c.args.points.now.lists c.loop-client.client
          c.orders.result.now c.orders.ensures (own c.loop-client.client (omega arith))
          (c.in_ok-due_for.ensures.said (said ++ for_clients said orders c.loop-client.client)
          (c.loop-client.invariant.said said orders own are));
      counted = counted_more c.loop-client.counted.counts c.due_for.new.self.counts c.args.points.now.lists
          c.loop-client.client c.orders.result.now within c.orders.ensures c.in_ok-due_for.ensures.counts
          c.loop-client.invariant.counted;
      others = others_stay c.loop-client.counted.counts c.due_for.new.self.counts c.args.vouchers.now.counts
          c.loop-client.client (length c.orders.result.now) c.in_ok-due_for.ensures.counts
          c.loop-client.invariant.others;
    }

pub due_for-requires-clause-orders : goal.due_for-requires-clause-orders
due_for-requires-clause-orders c =
    within_list c.loop-client.counted.counts c.args.vouchers.now.counts c.args.points.now.lists c.loop-client.client
    c.orders.result.now c.orders.ensures
    (c.loop-client.invariant.others c.loop-client.client (omega arith))
    (c.requires.counts c.loop-client.client (omega arith))

pub returns-clause-said : goal.returns-clause-said
returns-clause-said c = λ orders own said are.
    said_all c.loop-client.counted.counts said orders c.loop-client.client c.loop-client.bodies.items
    (c.loop-client.invariant.due said orders own are) (c.loop-client.invariant.said said orders own are)
