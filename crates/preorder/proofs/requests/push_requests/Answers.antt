-- The requests due of one client more are those so far and the client's next request after them; each call counts it
-- as said for the next.
use Rattle.std.proofs.Common.{◌++◌, ◌∙◌, ap, sym, subst, append_assoc}
use Rattle.std.proofs.lemmas.List.{append-nil}
use Rattle.protocol_rules.specs.Group.{group_of}
use Rattle.protocol_rules.specs.Words.{numbers_from}
use Rattle.protocol_rules.specs.Preorder.{requests_due, next_request}
use Rattle.preorder.specs.Counted.{IsCounted}
use Rattle.preorder.proofs.Introductions.{requests_due-none, requests_due-more, counted-nothing}
use Rattle.preorder.proofs.requests.push_requests.Goals as goal

pub loop-client-init : goal.loop-client-init
loop-client-init c =
    let g = group_of c.args.sizes.now c.args.clients in
    record {
      added = λ taken said has counted. sym
          (ap (λ xs. c.args.bodies.now.items ++ xs) (requests_due-none g c.args.me taken said) ∙ append-nil _);
      counted = λ taken said has counted. counted-nothing said c.args.counts.now _
          (requests_due-none g c.args.me taken said) counted;
    }

pub loop-client-preserved : goal.loop-client-preserved
loop-client-preserved c =
    let g = group_of c.args.sizes.now c.args.clients in
    let client = c.loop-client.client in
    let me = c.args.me in
    record {
      added = λ taken said has counted.
          let so_far = requests_due g me taken said (numbers_from 0 client) in
          c.in_ok-push_request.ensures.added g me taken (said ++ so_far) (c.is_door.ensures c.args.clients) has
          (c.loop-client.invariant.counted taken said has counted)
          ∙ ap (λ xs. xs ++ next_request g me taken (said ++ so_far) client)
          (c.loop-client.invariant.added taken said has counted)
          ∙ append_assoc c.args.bodies.now.items so_far (next_request g me taken (said ++ so_far) client)
          ∙ ap (λ xs. c.args.bodies.now.items ++ xs) (sym (requests_due-more g me taken said client));
      counted = λ taken said has counted.
          let so_far = requests_due g me taken said (numbers_from 0 client) in
          subst (λ xs. IsCounted xs c.push_request.new.counts)
          (append_assoc said so_far (next_request g me taken (said ++ so_far) client)
          ∙ ap (λ xs. said ++ xs) (sym (requests_due-more g me taken said client)))
          (c.in_ok-push_request.ensures.counted g me taken (said ++ so_far) (c.is_door.ensures c.args.clients) has
          (c.loop-client.invariant.counted taken said has counted));
    }
