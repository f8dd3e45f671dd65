-- The requests due in turn go onto an empty list, then the request that is said again, then the acknowledgements due in
-- turn and those that are said again: so all is what the rules say. Once all of it counts as said each request that has its
-- turn is acknowledged.
use Rattle.std.proofs.Common.{◌≡◌, ◌≤◌, ◌+◌, ◌++◌, [], List, ◌∙◌, ap, sym, subst, ℕ, cond, true, true≢false}
use Rattle.std.specs.List.{find}
use Rattle.std.specs.Option.{option_to_list}
use Rattle.message_types.specs.declared.signed.Signed.{Signed}
use Rattle.message_types.specs.declared.updates.Update.{Update}
use Rattle.message_types.specs.declared.body.Body.{Body}
use Rattle.protocol_rules.specs.Group.{Group, group_of, is_live, most_number}
use Rattle.protocol_rules.specs.Words.{numbers_from}
use Rattle.protocol_rules.specs.Preorder.{vector}
use Rattle.protocol_rules.specs.Turns.{requests_in_turn_due, requests_number, acks_in_turn_due}
use Rattle.preorder.specs.contracts.preorder.Preorder.{the_view}
use Rattle.preorder.specs.Again.{AreOwn}
use Rattle.preorder.specs.Counted.{AreCounts}
use Rattle.preorder.specs.Index.{HasFirsts, HasCertified, HasReach}
use Rattle.preorder.specs.Lanes.{AreLanes, HasLanes}
use Rattle.preorder.specs.PreorderState.{PreorderState, IsPreorderOf}
use Rattle.preorder.proofs.Viewed.{viewed}
use Rattle.preorder.proofs.Ranges.{vector-limit}
use Rattle.preorder.proofs.AcksInTurn.{turned-said, pending-say}
use Rattle.preorder.proofs.Holding.{AcksOnly, own-requests, only-known, told-say}
use Rattle.preorder.proofs.Repeats.{keys_in}
use Rattle.preorder.proofs.SaidInTurn.{request_at, acks_at, pushed-four, turned-due, turned-only, turned-introduced}
use Rattle.preorder.proofs.SaidInTurn.{turned-own}
use Rattle.preorder.proofs.preorder.Preorder.due_in_turn.Goals.{After-drop-requested-2}
use Rattle.preorder.proofs.preorder.Preorder.due_in_turn.Goals as goal

-- all bodies, part by part
all_at : (c : After-drop-requested-2) (done : List Update) →
    AreCounts c.args.self.now.group.clients c.args.executed.now done → (g : Group) (me : ℕ)
    (taken known : List (Signed Body)) (said : List Body) → IsPreorderOf g me c.args.self.now taken known said →
    c.push_acks_again.new.bodies.items
    ≡ (requests_in_turn_due (group_of c.self.inside.sizes c.self.inside.clients) c.self.inside.me taken done said
    (numbers_from 0 c.self.inside.clients)
    ++ request_at c.args.is_beat (group_of c.self.inside.sizes c.self.inside.clients) c.self.inside.me known said)
    ++ (acks_in_turn_due (group_of c.self.inside.sizes c.self.inside.clients) known said
    ++ acks_at c.args.is_beat (group_of c.self.inside.sizes c.self.inside.clients) c.self.inside.sizes.n known said)
all_at c done counts g me taken known said is =
    let a = c.self.inside in
    let h = group_of a.sizes a.clients in
    let old = viewed g me (the_view a) c.args.self.now taken known said c.self.view_is is in
    let live : is_live g ≡ true = ap (λ (x : Group). is_live x) (sym is.group) ∙ c.requires in
    let counted = subst (λ n. AreCounts n c.args.executed.now done)
    (sym (ap (λ (p : PreorderState). p.group.clients) c.self.view_is)) counts in
    let firsts = subst (λ (x : Group). HasFirsts x known said a.firsts.entries) (sym old.group) old.firsts in
    let lanes = subst (λ (x : Group). HasLanes x known said a.lanes) (sym old.group) old.lanes in
    let certified = subst (λ (x : Group). HasCertified x known a.certificates.entries) (sym old.group) old.certified in
    let reach = subst (λ (x : Group). HasReach x known a.reach) (sym old.group) old.reach in
    let number : c.reach_of-certified.result ≡ vector h known a.me =
    c.reach_of-certified.ensures h known certified reach in
    let limit : c.reach_of-certified.result ≤ most_number =
    subst (λ n. n ≤ most_number) (sym number) (vector-limit h known a.me) in
    pushed-four c.new-bodies.result.items c.push_requests_in_turn.new.bodies.items
    c.push_request_again.new.bodies.items c.push_acks_in_turn.new.bodies.items c.push_acks_again.new.bodies.items
    _ _ _ _ c.new-bodies.ensures.items
    (c.in_ok-push_requests_in_turn.ensures.added taken done said old.updates old.numbers counted (old.introduced live))
    (c.in_ok-push_request_again.ensures said
    (subst (AreOwn said a.updates.entries) (sym c.deref-2.ensures.value) (old.requested live)) limit
    ∙ ap (λ n. c.push_requests_in_turn.new.bodies.items
    ++ cond c.args.is_beat (option_to_list (find (requests_number (n + 1)) said)) []) number)
    (c.in_ok-push_acks_in_turn.ensures.added known said firsts lanes)
    (c.in_ok-push_acks_again.ensures h known said firsts (old.acknowledged live) reach)

pub returns-clause-due : goal.returns-clause-due
returns-clause-due c = λ done now at_tick counts beat g me taken known said is.
    let a = c.self.inside in
    let old = viewed g me (the_view a) c.args.self.now taken known said c.self.view_is is in
    turned-due g (group_of a.sizes a.clients) me a.me taken known done said c.push_acks_again.new.bodies.items
    c.args.is_beat now at_tick old.group old.own beat (all_at c done counts g me taken known said is)

pub returns-clause-said : goal.returns-clause-said
returns-clause-said c = λ done counts g me taken known said is.
    let a = c.self.inside in
    let h = group_of a.sizes a.clients in
    let old = viewed g me (the_view a) c.args.self.now taken known said c.self.view_is is in
    let live : is_live g ≡ true = ap (λ (x : Group). is_live x) (sym is.group) ∙ c.requires in
    let counted = subst (λ n. AreCounts n c.args.executed.now done)
    (sym (ap (λ (p : PreorderState). p.group.clients) c.self.view_is)) counts in
    let clients : List ℕ = numbers_from 0 a.clients in
    let requests : List Body = requests_in_turn_due h a.me taken done said clients in
    let again : List Body = request_at c.args.is_beat h a.me known said in
    let repeated : List Body = acks_at c.args.is_beat h a.sizes.n known said in
    let bodies : List Body = c.push_acks_again.new.bodies.items in
    let all : bodies ≡ (requests ++ again) ++ (acks_in_turn_due g known said ++ repeated) =
    all_at c done counts g me taken known said is
    ∙ ap (λ (x : Group). (requests ++ again) ++ (acks_in_turn_due x known said ++ repeated)) old.group in
    let only : AcksOnly known bodies = subst (AcksOnly known) (sym all)
    (turned-only g h me a.me taken known done said clients c.args.is_beat (old.acknowledged live)) in
    let keys : c.extend_from_slice.new.self.items ≡ a.own.items ++ keys_in requests =
    c.in_ok-extend_from_slice.ensures.items
    ∙ ap (λ xs. a.own.items ++ xs) (c.deref-3.ensures.value ∙ c.in_ok-requested.ensures
    ∙ ap keys_in (c.deref.ensures.value
    ∙ c.in_ok-push_requests_in_turn.ensures.added taken done said old.updates old.numbers counted
    (old.introduced live)
    ∙ ap (λ xs. xs ++ requests) c.new-bodies.ensures.items)) in
    record {
      group = old.group;
      own = old.own;
      updates = old.updates;
      numbers = old.numbers;
      firsts = subst (λ (xs : List Body). HasFirsts g known (said ++ xs) c.note_said.new.firsts.entries)
          c.deref-4.ensures.value
          (c.note_said.ensures g known said
          (only-known known c.deref-4.result.now (subst (AcksOnly known) (sym c.deref-4.ensures.value) only))
          old.firsts);
      ballots = old.ballots;
      certified = old.certified;
      reach = old.reach;
      pending = pending-say known said bodies a.pending.low a.pending.high old.pending;
      counted = λ first. absurd (true≢false (sym live ∙ first));
      lanes = record {
        each = subst (λ (x : Group). AreLanes x known c.push_acks_in_turn.new.lanes) old.group
            (c.in_ok-push_acks_in_turn.ensures.seen known said
            (subst (λ (x : Group). HasFirsts x known said a.firsts.entries) (sym old.group) old.firsts)
            (subst (λ (x : Group). HasLanes x known said a.lanes) (sym old.group) old.lanes));
        acknowledged = λ j below k one high turn.
            turned-said g known said (requests ++ again) repeated bodies a.firsts.entries j k all old.firsts turn;
      };
      introduced = λ still. turned-introduced g h a.me a.sizes.n known said requests bodies c.args.is_beat
          c.push_requests_in_turn.new.introduced all
          (c.in_ok-push_requests_in_turn.ensures.counted taken done said old.updates old.numbers counted
          (old.introduced live));
      requested = λ still. subst (AreOwn (said ++ bodies) a.updates.entries) (sym keys)
          (turned-own g h a.me a.sizes.n known said requests bodies c.args.is_beat a.updates.entries
          (a.own.items ++ keys_in requests) all
          (own-requests h a.me taken done said clients a.updates.entries a.own.items old.updates
          (old.requested live)));
      acknowledged = λ still. told-say known said bodies (old.acknowledged live) only;
    }
