-- The requests due go onto an empty list, and the acknowledgements due behind them: so all is what the rules say. Once
-- all of it counts as said nothing is pending, and each first request is acknowledged.
use Rattle.std.proofs.Common.{◌≡◌, ◌++◌, List, ◌∙◌, ap, sym, subst, ℕ, false, true≢false}
use Rattle.message_types.specs.declared.body.Body.{Body}
use Rattle.protocol_rules.specs.Group.{Group, group_of, is_live}
use Rattle.protocol_rules.specs.Words.{numbers_from}
use Rattle.protocol_rules.specs.Preorder.{requests_due, acks_due}
use Rattle.preorder.specs.contracts.preorder.Preorder.{the_view}
use Rattle.preorder.specs.Index.{HasFirsts}
use Rattle.preorder.proofs.Viewed.{viewed}
use Rattle.preorder.proofs.Others.{pending-none}
use Rattle.preorder.proofs.Turning.{lanes-say}
use Rattle.preorder.proofs.Settled.{pushed-all, due-is, only-known, idle-after, counted-after}
use Rattle.preorder.proofs.preorder.Preorder.due.Goals as goal

pub returns-clause-due : goal.returns-clause-due
returns-clause-due c g me taken known said is =
    let a = c.self.inside in
    let old = viewed g me (the_view a) c.args.self.now taken known said c.self.view_is is in
    let size : g.n ≡ a.sizes.n = sym (ap (λ (h : Group). h.n) old.group) in
    let first : is_live g ≡ false = ap (λ (h : Group). is_live h) (sym is.group) ∙ c.requires in
    due-is g (group_of a.sizes a.clients) me a.me taken known said c.push_acks.new.bodies.items old.group old.own
    (pushed-all c.new-bodies.result.items c.push_requests.new.bodies.items c.push_acks.new.bodies.items
    _ _ c.new-bodies.ensures.items
    (c.in_ok-push_requests.ensures.added taken said old.updates (old.counted first))
    (c.in_ok-push_acks.ensures g known said size old.firsts old.pending))

pub returns-clause-said : goal.returns-clause-said
returns-clause-said c g me taken known said is =
    let a = c.self.inside in
    let old = viewed g me (the_view a) c.args.self.now taken known said c.self.view_is is in
    let size : g.n ≡ a.sizes.n = sym (ap (λ (h : Group). h.n) old.group) in
    let first : is_live g ≡ false = ap (λ (h : Group). is_live h) (sym is.group) ∙ c.requires in
    let clients : List ℕ = numbers_from 0 a.clients in
    let requests : List Body = requests_due (group_of a.sizes a.clients) a.me taken said clients in
    let bodies : List Body = c.push_acks.new.bodies.items in
    let all : bodies ≡ requests ++ acks_due g known said =
    pushed-all c.new-bodies.result.items c.push_requests.new.bodies.items bodies requests (acks_due g known said)
    c.new-bodies.ensures.items
    (c.in_ok-push_requests.ensures.added taken said old.updates (old.counted first))
    (c.in_ok-push_acks.ensures g known said size old.firsts old.pending) in
    record {
      group = old.group;
      own = old.own;
      updates = old.updates;
      numbers = old.numbers;
      firsts = subst (λ (xs : List Body). HasFirsts g known (said ++ xs) c.note_said.new.firsts.entries)
          c.deref.ensures.value
          (c.note_said.ensures g known said
          (only-known g (group_of a.sizes a.clients) a.me taken known said c.deref.result.now clients
          (c.deref.ensures.value ∙ all)) old.firsts);
      ballots = old.ballots;
      certified = old.certified;
      reach = old.reach;
      pending = pending-none known (said ++ bodies) _ _ c.none_pending-self-inside.ensures.low
          c.none_pending-self-inside.ensures.high
          (idle-after g (group_of a.sizes a.clients) a.me taken known said bodies clients
          a.firsts.entries all old.firsts);
      counted = λ by_first. counted-after g known said requests bodies c.push_requests.new.counts all
          (c.in_ok-push_requests.ensures.counted taken said old.updates (old.counted first));
      lanes = lanes-say g known said bodies a.lanes old.lanes;
      introduced = λ live. absurd (true≢false (sym live ∙ first));
      requested = λ live. absurd (true≢false (sym live ∙ first));
      acknowledged = λ live. absurd (true≢false (sym live ∙ first));
    }
