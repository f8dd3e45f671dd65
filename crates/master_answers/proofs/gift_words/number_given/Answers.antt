-- The part gives what the rules give of the number, which is no ask.
use Rattle.std.proofs.Common.{[], ◌∙◌, ap, refl}
use Rattle.std.specs.List.{list_any}
use Rattle.protocol_rules.specs.Facts.{facts_of}
use Rattle.reconcile.specs.Asking.{asks}
use Rattle.master_answers.proofs.Ordered.{words_of, asks_no_more}
use Rattle.master_answers.proofs.Gifting.{pushed, number_given}
use Rattle.master_answers.proofs.gift_words.number_given.Goals as goal

pub returns-clause-orders : goal.returns-clause-orders
returns-clause-orders c g own taken known past said k =
    pushed _ _ (words_of c.in_ok-whole.whole) c.in_ok-push_order.ensures c.new-orders.ensures.items
    ∙ number_given g (facts_of g known) c.args.s c.in_ok-whole.whole
    (c.in_ok-whole.ensures g (facts_of g known) said k.order)

pub returns-clause-orders_ask_nothing : goal.returns-clause-orders_ask_nothing
returns-clause-orders_ask_nothing c w =
    ap (list_any (asks w))
    (pushed _ _ (words_of c.in_ok-whole.whole) c.in_ok-push_order.ensures c.new-orders.ensures.items)
    ∙ asks_no_more w [] c.in_ok-whole.whole refl
