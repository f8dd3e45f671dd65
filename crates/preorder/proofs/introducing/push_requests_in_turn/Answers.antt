-- The requests due of one client more are those so far and the client's next request after them; each call counts it as
-- said for the next.
use Rattle.std.proofs.Common.{◌++◌, ◌∙◌, ap, sym, subst, append_assoc}
use Rattle.std.proofs.lemmas.List.{append-nil}
use Rattle.protocol_rules.specs.Group.{group_of}
use Rattle.protocol_rules.specs.Words.{numbers_from}
use Rattle.protocol_rules.specs.Turns.{requests_in_turn_due, next_in_turn}
use Rattle.preorder.specs.Counted.{IsIntroduced}
use Rattle.preorder.proofs.RequestsInTurn.{turned-none, turned-more, introduced-nothing}
use Rattle.preorder.proofs.introducing.push_requests_in_turn.Goals as goal

pub loop-client-init : goal.loop-client-init
loop-client-init c =
    let g = group_of c.args.sizes.now c.args.clients in
    record {
      added = λ taken done said has numbers counts is. sym
          (ap (λ xs. c.args.bodies.now.items ++ xs) (turned-none g c.args.me taken done said) ∙ append-nil _);
      counted = λ taken done said has numbers counts is. introduced-nothing said c.args.introduced.now _
          (turned-none g c.args.me taken done said) is;
    }

pub loop-client-preserved : goal.loop-client-preserved
loop-client-preserved c =
    let g = group_of c.args.sizes.now c.args.clients in
    let client = c.loop-client.client in
    let me = c.args.me in
    record {
      added = λ taken done said has numbers counts is.
          let so_far = requests_in_turn_due g me taken done said (numbers_from 0 client) in
          c.in_ok-push_request_in_turn.ensures.added g me taken done (said ++ so_far)
          (c.is_door-door.ensures c.args.clients) has numbers (counts client c.loop-client-test.true)
          (c.loop-client.invariant.counted taken done said has numbers counts is)
          ∙ ap (λ xs. xs ++ next_in_turn g me taken done (said ++ so_far) client)
          (c.loop-client.invariant.added taken done said has numbers counts is)
          ∙ append_assoc c.args.bodies.now.items so_far (next_in_turn g me taken done (said ++ so_far) client)
          ∙ ap (λ xs. c.args.bodies.now.items ++ xs) (sym (turned-more g me taken done said client));
      counted = λ taken done said has numbers counts is.
          let so_far = requests_in_turn_due g me taken done said (numbers_from 0 client) in
          subst (λ xs. IsIntroduced xs c.push_request_in_turn.new.introduced)
          (append_assoc said so_far (next_in_turn g me taken done (said ++ so_far) client)
          ∙ ap (λ xs. said ++ xs) (sym (turned-more g me taken done said client)))
          (c.in_ok-push_request_in_turn.ensures.counted g me taken done (said ++ so_far)
          (c.is_door-door.ensures c.args.clients) has numbers (counts client c.loop-client-test.true)
          (c.loop-client.invariant.counted taken done said has numbers counts is));
    }
