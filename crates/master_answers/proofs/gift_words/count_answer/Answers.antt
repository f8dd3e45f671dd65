-- Where nothing was asked for, or nothing is given, the counts stay; else the one who asked has one answer more.
use Rattle.std.proofs.Common.{List, ℕ, ◌++◌, append-nil, sym, ◌∙◌, ap, subst}
use Rattle.reconcile.specs.Shares.{AreSharesOf}
use Rattle.master_answers.proofs.Gifting.{answered_more, answered_none, answered_unasked, room_of}
use Rattle.master_answers.proofs.gift_words.count_answer.Goals as goal

pub answer-requires-clause-asker : goal.answer-requires-clause-asker
answer-requires-clause-asker c = (room_of c.args.shares.now c.args.asked c.in-Some.ask c.in-Some.is
    (c.requires (sym c.gives_something.ensures ∙ c.if-gives_something.true))).master

pub answer-requires-clause-room : goal.answer-requires-clause-room
answer-requires-clause-room c = (room_of c.args.shares.now c.args.asked c.in-Some.ask c.in-Some.is
    (c.requires (sym c.gives_something.ensures ∙ c.if-gives_something.true))).few

pub returns-in_default : goal.returns-in_default
returns-in_default c answered shares = subst (λ (l : List ℕ). AreSharesOf c.args.shares.now l)
    (sym (append-nil answered) ∙ ap (λ (l : List ℕ). answered ++ l)
    (answered_unasked c.args.asked c.args.gifts.now.gives.items c.args.gifts.now.orders.items c.in_default.is)) shares

pub returns-then-gives_something : goal.returns-then-gives_something
returns-then-gives_something c answered shares = subst (λ (l : List ℕ). AreSharesOf c.answer.new.self l)
    (ap (λ (l : List ℕ). answered ++ l) (answered_more c.args.asked c.in-Some.ask c.args.gifts.now.gives.items
    c.args.gifts.now.orders.items c.gives_something.result c.in-Some.is c.gives_something.ensures
    c.if-gives_something.true))
    (c.answer.ensures answered shares)

pub returns-else-gives_something : goal.returns-else-gives_something
returns-else-gives_something c answered shares = subst (λ (l : List ℕ). AreSharesOf c.args.shares.now l)
    (sym (append-nil answered) ∙ ap (λ (l : List ℕ). answered ++ l)
    (answered_none c.args.asked c.in-Some.ask c.args.gifts.now.gives.items c.args.gifts.now.orders.items
    c.gives_something.result c.in-Some.is c.gives_something.ensures c.if-gives_something.false)) shares
