-- The part gives what the rules give of the request, which is no ask.
use Rattle.std.proofs.Common.{◌∙◌, ap}
use Rattle.std.specs.List.{list_any}
use Rattle.reconcile.specs.Asking.{asks}
use Rattle.master_answers.proofs.Gifting.{gives_in, pushed, request_given, gives_no_ask}
use Rattle.master_answers.proofs.gift_words.request_given.Goals as goal

pub returns-clause-gives : goal.returns-clause-gives
returns-clause-gives c g own taken known past said k =
    pushed _ _ (gives_in c.in_ok-gift.gift) c.in_ok-push_give.ensures c.new-gives.ensures.items
    ∙ c.in_ok-gift.ensures g known k.gifts k.preorder.certified ∙ request_given g known c.args.j c.args.k

pub returns-clause-gives_ask_nothing : goal.returns-clause-gives_ask_nothing
returns-clause-gives_ask_nothing c w =
    ap (list_any (asks w))
    (pushed _ _ (gives_in c.in_ok-gift.gift) c.in_ok-push_give.ensures c.new-gives.ensures.items)
    ∙ gives_no_ask w c.in_ok-gift.gift
