-- The bodies so far are the gifts of the wanted requests gone over, in their order, and a gift asks for
-- nothing; so at the end they are the gifts due.
use Rattle.std.proofs.Common.{◌<◌, ◌++◌, List, length, get_or, sym, ◌∙◌, ap, arith}
use Rattle.std.specs.List.{flat_map, list_any}
use Rattle.reconcile.specs.Asking.{asks}
use Rattle.std.proofs.lemmas.List.{take_all}
use Rattle.message_types.specs.declared.body.Body.{Body}
use Rattle.reconcile.specs.declared.wanted.Wanted.TheVariants.{Request}
use Rattle.reconcile.specs.Giving.{given_of}
use Rattle.reconcile.proofs.Joined.{requests_given}
use Rattle.reconcile.proofs.Loops.{given_more, asks_no_more}
use Rattle.reconcile.proofs.giving.gives.Goals as goal

pub loop-one-preserved : goal.loop-one-preserved
loop-one-preserved c =
    let within : c.loop-one.one-index < length c.args.wanted.now = omega arith in
    record {
      given = λ g known gifts certain.
          c.in_ok-push_gift.ensures ∙ ap (λ (xs : List Body). c.loop-one.bodies.items ++ xs)
          (c.in_ok-gift.ensures g known gifts certain)
          ∙ ap (λ (xs : List Body). xs
          ++ given_of g known (get_or c.args.wanted.now c.loop-one.one-index (Request 0 0)))
          (c.loop-one.invariant.given g known gifts certain)
          ∙ sym (given_more g known c.args.wanted.now c.loop-one.one-index (Request 0 0) within);
      no_asks = λ w. ap (λ xs. list_any (asks w) xs) c.in_ok-push_gift.ensures
          ∙ asks_no_more w c.loop-one.bodies.items c.in_ok-gift.gift (c.loop-one.invariant.no_asks w);
    }

pub returns-clause-due : goal.returns-clause-due
returns-clause-due c = λ g me known said gifts certain is.
    c.loop-one.invariant.given g known gifts certain ∙ ap (flat_map (given_of g known))
    (take_all c.loop-one.one-index c.args.wanted.now (omega arith))
    ∙ sym (requests_given g me known said c.args.wanted.now is)
