-- The set is gone over in its own order to the end, so the list has just its members, rising: requests by
-- master and number, and then global numbers.
use Rattle.std.proofs.Common.{◌≡◌, ◌++◌, List, [], ap, sym, subst, ◌∙◌}
use Rattle.std.proofs.lemmas.List.{append-nil}
use Rattle.std.proofs.lemmas.Map.Iter.{rest_all}
use Rattle.std.specs.Map.Iter.{deref}
use Rattle.reconcile.specs.declared.wanted.Wanted.{Wanted}
use Rattle.reconcile.specs.Asking.{is_among}
use Rattle.reconcile.specs.AskState.{AskState, AreInOrder}
use Rattle.reconcile.proofs.Order.{in_order_from_sorted}
use Rattle.reconcile.proofs.asks.Asks.wanted.Goals as goal

pub returns : goal.returns
returns c = λ g me known said is.
    let over : c.loop-wanted.wanted-iterator ≡ [] =
    rest_all deref c.loop-wanted.wanted-iterator c.next.new.self c.next.result c.in-None.is c.next.ensures.steps in
    let all : c.loop-wanted.list.items ≡ c.args.self.now.wanted = sym (append-nil c.loop-wanted.list.items)
    ∙ ap (λ rest. c.loop-wanted.list.items ++ rest) (sym over) ∙ c.loop-wanted.invariant in
    record {
      in_order = subst AreInOrder (ap (λ (v : AskState). v.wanted) c.self.view_is ∙ sym all)
          (in_order_from_sorted c.self.inside.wanted.keys c.len.ensures.ordered);
      all = λ w. ap (λ (l : List Wanted). is_among l w) all ∙ is.wanted w;
    }
