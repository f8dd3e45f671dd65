-- What the frame taken asks for is given where its signer's share has room; where it asks for nothing, or its signer may
-- have nothing, nothing is given.
use Rattle.std.proofs.Common.{◌≡◌, ℕ, List, Option, ◌∙◌, filter, sym, ap}
use Rattle.message_types.specs.declared.signed.Signed.{Signed}
use Rattle.message_types.specs.declared.body.Body.{Body}
use Rattle.protocol_rules.specs.Group.{Group}
use Rattle.protocol_rules.specs.Facts.{facts_of}
use Rattle.protocol_rules.specs.Lacking.{gift_due}
use Rattle.protocol_rules.specs.Master.{is_give, is_order_given}
use Rattle.reconcile.specs.Shares.{AreSharesOf}
use Rattle.master_knowledge.specs.Past.{Past}
use Rattle.master_knowledge.specs.Knows.{Knows}
use Rattle.master_answers.specs.Asked.{ask_of, gives_of, orders_of}
use Rattle.master_answers.proofs.Gifting.{AreGiven, given_within, given_beyond, given_unasked, nothing_given, room_for}
use Rattle.master_answers.proofs.gift_words.gifts_for.Goals as goal

pub returns-in_default-clause-gives : goal.returns-in_default-clause-gives
returns-in_default-clause-gives c g own taken known past said k took mine asked shares =
    c.no_gifts.ensures.gives ∙ ap (filter is_give)
    (sym (given_unasked g own known (facts_of g known) past.answered took c.args.now (sym c.in_default.is ∙ asked)))

pub returns-in_default-clause-orders : goal.returns-in_default-clause-orders
returns-in_default-clause-orders c g own taken known past said k took mine asked shares =
    c.no_gifts.ensures.orders ∙ ap (filter is_order_given)
    (sym (given_unasked g own known (facts_of g known) past.answered took c.args.now (sym c.in_default.is ∙ asked)))

pub returns-then-not-may_have-clause-gives : goal.returns-then-not-may_have-clause-gives
returns-then-not-may_have-clause-gives c g own taken known past said k took mine asked shares =
    c.no_gifts-then-not-may_have.ensures.gives ∙ ap (filter is_give)
    (sym (given_beyond g own known (facts_of g known) past.answered took c.args.now c.in-Some.ask
    (sym c.in-Some.is ∙ asked)
    (sym (c.may_have.ensures.within g own taken known past said k mine shares) ∙ c.if-not-may_have.true)))

pub returns-then-not-may_have-clause-orders : goal.returns-then-not-may_have-clause-orders
returns-then-not-may_have-clause-orders c g own taken known past said k took mine asked shares =
    c.no_gifts-then-not-may_have.ensures.orders ∙ ap (filter is_order_given)
    (sym (given_beyond g own known (facts_of g known) past.answered took c.args.now c.in-Some.ask
    (sym c.in-Some.is ∙ asked)
    (sym (c.may_have.ensures.within g own taken known past said k mine shares) ∙ c.if-not-may_have.true)))

-- what is given where its share has room
within : (c : goal.In_ok-gifts) (g : Group) (own : ℕ) (taken known : List (Signed Body)) (past : Past)
    (said : List Body) → Knows g own c.args.knowledge.now taken known past said → (took : Option (Signed Body))
    → c.args.me ≡ own → c.args.asked ≡ ask_of took → AreSharesOf c.args.shares.now past.answered
    → AreGiven (gift_due g own known (facts_of g known) past.answered took c.args.now)
    (gives_of g known c.in-Some.ask.wanted) (orders_of g (facts_of g known) c.in-Some.ask.wanted)
within c g own taken known past said k took mine asked shares =
    given_within g own known (facts_of g known) past.answered took c.args.now c.in-Some.ask (sym c.in-Some.is ∙ asked)
    (sym (c.may_have.ensures.within g own taken known past said k mine shares) ∙ c.if-not-may_have.false)

pub returns-clause-gives : goal.returns-clause-gives
returns-clause-gives c g own taken known past said k took mine asked shares =
    c.in_ok-gifts.ensures.gives g own taken known past said k
    ∙ sym (within c g own taken known past said k took mine asked shares).0

pub returns-clause-orders : goal.returns-clause-orders
returns-clause-orders c g own taken known past said k took mine asked shares =
    c.in_ok-gifts.ensures.orders g own taken known past said k
    ∙ sym (within c g own taken known past said k took mine asked shares).1

pub returns-in_default-clause-room : goal.returns-in_default-clause-room
returns-in_default-clause-room c = nothing_given c.no_gifts.result.gives.items c.no_gifts.result.orders.items
    c.no_gifts.ensures.gives c.no_gifts.ensures.orders

pub returns-then-not-may_have-clause-room : goal.returns-then-not-may_have-clause-room
returns-then-not-may_have-clause-room c = nothing_given c.no_gifts-then-not-may_have.result.gives.items
    c.no_gifts-then-not-may_have.result.orders.items c.no_gifts-then-not-may_have.ensures.gives
    c.no_gifts-then-not-may_have.ensures.orders

pub returns-clause-room : goal.returns-clause-room
returns-clause-room c = λ some. room_for c.args.shares.now c.args.asked c.in-Some.ask c.in-Some.is
    (c.may_have.ensures.room c.if-not-may_have.false)
