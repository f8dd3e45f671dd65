use Rattle.std.proofs.Common.{◌≡◌, IfOk, sym, subst}
use Rattle.protocol_rules.specs.Facts.{facts_of}
use Rattle.reconcile.specs.declared.wanted.Wanted.{Wanted}
use Rattle.master_knowledge.specs.Knows.{Where}
use Rattle.master_answers.specs.Asked.{gives_of, orders_of}
use Rattle.master_answers.proofs.gift_words.gifts_of.Goals as goal

pub returns-in-Request-clause-gives : goal.returns-in-Request-clause-gives
returns-in-Request-clause-gives c = subst (λ (w : Wanted). IfOk c.request_given.result (λ gifts.
    Where c.args.knowledge.now (λ g own taken known past said. gifts.gives.items ≡ gives_of g known w)))
    (sym c.in-Request.is) c.request_given.ensures.gives

pub returns-in-Number-clause-orders : goal.returns-in-Number-clause-orders
returns-in-Number-clause-orders c = subst (λ (w : Wanted). IfOk c.number_given.result (λ gifts.
    Where c.args.knowledge.now (λ g own taken known past said. gifts.orders.items ≡ orders_of g (facts_of g known) w)))
    (sym c.in-Number.is) c.number_given.ensures.orders
