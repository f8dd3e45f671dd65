-- The first order is given and then the rest. Where memory runs out further on the first one is taken away
-- again, so the lists are as before.
use Rattle.std.proofs.Common.{◌≡◌, ◌∷◌, ◌++◌, [], ◌∙◌, ap, sym, List}
use Rattle.message_types.specs.declared.vouchers.Order.{Order}
use Rattle.master_points.proofs.ListLaws.{given-first, given-undone, AreAddressed-first}
use Rattle.master_points.proofs.lists.+give.Goals as goal

pub returns-in-Ok-clause-ok : goal.returns-in-Ok-clause-ok
returns-in-Ok-clause-ok t c =
    let whole : c.args.orders.now ≡ c.in-Some.first.now ∷ c.in-Some.rest.now = c.in-Some.ensures.cases.0 in
    let pushed : c.push.new.self ≡ c.index-lists-client.result ++ c.in-Some.first.now.order ∷ [] =
    c.in_ok-push.ensures.ok ∙ ap (λ (x : List Order). x ++ c.in-Some.first.now.order ∷ [])
    (sym c.index-lists-client.is) in
    given-first c.args.orders.now c.in-Some.rest.now c.in-Some.first.now c.args.lists.now c.give.new.lists
    c.index-lists-client.result c.push.new.self whole
    (AreAddressed-first _ _ _ _ whole c.requires) c.index-lists-client.is pushed c.in-Ok.ensures.ok

pub returns-in-Err-clause-err : goal.returns-in-Err-clause-err
returns-in-Err-clause-err t c =
    let whole : c.args.orders.now ≡ c.in-Some.first.now ∷ c.in-Some.rest.now = c.in-Some.ensures.cases.0 in
    let pushed : c.push.new.self ≡ c.index-lists-client.result ++ c.in-Some.first.now.order ∷ [] =
    c.in_ok-push.ensures.ok ∙ ap (λ (x : List Order). x ++ c.in-Some.first.now.order ∷ [])
    (sym c.index-lists-client.is) in
    given-undone c.args.lists.now c.give.new.lists c.in-Some.first.now.client c.in-Some.first.now.order
    c.index-lists-client.result c.push.new.self c.index-lists-client-in-Err.result c.cut_last.new.self
    (AreAddressed-first _ _ _ _ whole c.requires) c.index-lists-client.is pushed c.in-Err.ensures.err
    c.index-lists-client-in-Err.is
    (λ before last e. c.cut_last.ensures before last (sym c.index-lists-client-in-Err.is ∙ e))
