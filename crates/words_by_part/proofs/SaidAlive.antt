-- The kinds of the words that the rules that stay alive make a master say.
use Rattle.std.proofs.Common.{◌≡◌, ℕ, ◌+◌, Bool, true, false, ◌&&◌, List, [], ◌∷◌, ◌++◌, Option, Some, None, filter}
use Rattle.std.proofs.Common.{max, nat_le, nat_lt, reverse, refl}
use Rattle.std.proofs.lemmas.Bool.{false≢true}
use Rattle.std.specs.List.{find, filter_map, flat_map}
use Rattle.std.specs.Option.{option_to_list}
use Rattle.plain_lists.specs.Lists.{Each}
use Rattle.plain_lists.proofs.Members.{each_none, each_one, each_append, each_if, each_map, each_flat_map, find_some, in_filter_from}
use Rattle.quorum_sets.specs.Masters.{numbers_below}
use Rattle.message_types.specs.declared.signed.Signed.{Signed}
use Rattle.message_types.specs.declared.updates.Update.{Update}
use Rattle.message_types.specs.declared.body.Body.{Body}
use Rattle.message_types.specs.declared.body.Body.TheVariants as body
use Rattle.protocol_rules.specs.declared.facts.OrderFact.{OrderFact}
use Rattle.protocol_rules.specs.Words.{first_of_list, numbers_from}
use Rattle.protocol_rules.specs.Group.{Group, most_number, is_door}
use Rattle.protocol_rules.specs.Facts.{facts_of}
use Rattle.protocol_rules.specs.Preorder.{vector, update_of, acks}
use Rattle.protocol_rules.specs.Order.{gapless, in_window, plan_known}
use Rattle.protocol_rules.specs.Views.{view}
use Rattle.protocol_rules.specs.Execution.{updates_of}
use Rattle.protocol_rules.specs.Patience.{Moment, votes_due}
use Rattle.protocol_rules.specs.Turns.{has_turn, acks_in_turn_due, acks_again_due, last_request, last_introduced}
use Rattle.protocol_rules.specs.Turns.{next_in_turn, requests_in_turn_due, request_again_due, requests_number, is_slow_beat}
use Rattle.protocol_rules.specs.Worth.{is_worth, worthy_prepares_due}
use Rattle.protocol_rules.specs.Lacking.{update_asks_due, order_asks_due}
use Rattle.protocol_rules.specs.Master.{summaries_due, summary_again_due, is_summary, whole_preprepares_due, is_give}
use Rattle.protocol_rules.specs.Master.{is_order_given}
use Rattle.agreement.proofs.SpokenByKind.{each_elim}
use Rattle.words_by_part.proofs.Sorting.{Of}
use Rattle.words_by_part.proofs.Said.{ack_kind, prepare_kind, summaries_kind, preprepares_kind}

-- what is found by a test that passes one kind alone
found_kind : (k : ℕ) (t : Body → Bool) (xs : List Body) → ((b : Body) → t b ≡ true → Of k b) →
    Each (Of k) (option_to_list (find t xs))
found_kind k t xs is = by (find t xs) (λ b e. is b (find_some t xs e).1)
  where
    by : (o : Option Body) → ((b : Body) → o ≡ Some b → Of k b) → Each (Of k) (option_to_list o)
    by None at = each_none (Of k)
    by (Some b) at = each_one (Of k) b (at b refl)

-- what passes such a test
pub some_kind : (k : ℕ) (t : Body → Bool) (xs : List Body) → ((b : Body) → t b ≡ true → Of k b) →
    Each (Of k) (filter t xs)
some_kind k t xs is b h = is b (in_filter_from t xs h).1

request_kind : (k : ℕ) (b : Body) → requests_number k b ≡ true → Of 2 b
request_kind k (body.PoRequest b) e = refl
request_kind k _ e = absurd (false≢true e)

acks_kind : (j k : ℕ) (b : Body) → acks j k b ≡ true → Of 3 b
acks_kind j k (body.PoAck b) e = refl
acks_kind j k _ e = absurd (false≢true e)

summary_kind : (b : Body) → is_summary b ≡ true → Of 4 b
summary_kind (body.PoSummary b) e = refl
summary_kind _ e = absurd (false≢true e)

pub give_kind : (b : Body) → is_give b ≡ true → Of 17 b
give_kind (body.Give b) e = refl
give_kind _ e = absurd (false≢true e)

pub order_given_kind : (b : Body) → is_order_given b ≡ true → Of 19 b
order_given_kind (body.GiveOrdered b) e = refl
order_given_kind _ e = absurd (false≢true e)

in_turn_kind : (g : Group) (me : ℕ) (taken : List (Signed Body)) (done : List Update) (said : List Body)
    (clients : List ℕ) → Each (Of 2) (requests_in_turn_due g me taken done said clients)
in_turn_kind g me taken done said [] = each_none (Of 2)
in_turn_kind g me taken done said (c ∷ clients) = each_append (Of 2) (next_in_turn g me taken done said c) _
    (each_if (Of 2) (is_door g c me && nat_lt (last_request said) most_number) _ [] (λ _.
    each_elim (Of 2)
    (first_of_list (filter_map (update_of c (max (last_introduced said c) (updates_of c done) + 1)) taken))
    (λ u. body.PoRequest record { k = last_request said + 1; update = u } ∷ [])
    (λ u _. each_one (Of 2) _ refl)) (λ _. each_none (Of 2)))
    (in_turn_kind g me taken done (said ++ next_in_turn g me taken done said c) clients)

pub requests_in_turn_kind : (g : Group) (me : ℕ) (taken : List (Signed Body)) (done : List Update)
    (known : List (Signed Body)) (said : List Body) (clients : List ℕ) (now : ℕ) (at_tick : Bool)
    → Each (Of 2) (requests_in_turn_due g me taken done said clients ++ request_again_due g me known said now at_tick)
requests_in_turn_kind g me taken done known said clients now at_tick = each_append (Of 2) _ _
    (in_turn_kind g me taken done said clients)
    (each_if (Of 2) (at_tick && is_slow_beat now)
    (option_to_list (find (requests_number (vector g known me + 1)) said)) []
    (λ _. found_kind 2 (requests_number (vector g known me + 1)) said (request_kind (vector g known me + 1)))
    (λ _. each_none (Of 2)))

pub acks_in_turn_kind : (g : Group) (known : List (Signed Body)) (said : List Body) (now : ℕ) (at_tick : Bool) →
    Each (Of 3) (acks_in_turn_due g known said ++ acks_again_due g known said now at_tick)
acks_in_turn_kind g known said now at_tick = each_append (Of 3) _ _
    (each_flat_map (Of 3) _ (numbers_below g.n) (λ j _. each_flat_map (Of 3) _ (numbers_from 1 most_number) (λ k _.
    each_if (Of 3) (has_turn g known j k) _ [] (λ _. ack_kind known said j k) (λ _. each_none (Of 3)))))
    (each_if (Of 3) (at_tick && is_slow_beat now)
    (flat_map (λ j. option_to_list (find (acks j (vector g known j + 1)) said)) (numbers_below g.n)) []
    (λ _. each_flat_map (Of 3) (λ j. option_to_list (find (acks j (vector g known j + 1)) said)) (numbers_below g.n)
    (λ j _. found_kind 3 (acks j (vector g known j + 1)) said (acks_kind j (vector g known j + 1))))
    (λ _. each_none (Of 3)))

pub summaries_again_kind : (g : Group) (known : List (Signed Body)) (said : List Body) (now : ℕ) (at_tick : Bool) →
    Each (Of 4) (summary_again_due g (facts_of g known) said now at_tick ++ summaries_due g known said at_tick)
summaries_again_kind g known said now at_tick = each_append (Of 4) _ _
    (each_if (Of 4) _ (option_to_list (find is_summary (reverse said))) []
    (λ _. found_kind 4 is_summary (reverse said) summary_kind) (λ _. each_none (Of 4)))
    (summaries_kind g known said at_tick)

pub whole_preprepares_kind : (g : Group) (me : ℕ) (known : List (Signed Body)) (facts : List OrderFact)
    (said : List Body) (at_tick : Bool) → Each (Of 5) (whole_preprepares_due g me known facts said at_tick)
whole_preprepares_kind g me known facts said at_tick = each_elim (Of 5) (plan_known facts (view g known)) _ (λ plan _.
    each_if (Of 5) (nat_le plan.base (gapless g facts)) _ []
    (λ _. preprepares_kind g me known facts said at_tick) (λ _. each_none (Of 5)))

pub worthy_prepares_kind : (g : Group) (facts : List OrderFact) (said : List Body) (v : ℕ) (open_now : Bool) →
    Each (Of 6) (worthy_prepares_due g facts said v open_now)
worthy_prepares_kind g facts said v open_now =
    each_if (Of 6) open_now _ [] (λ _. each_flat_map (Of 6) _ (in_window g facts) (λ s _.
    each_if (Of 6) (is_worth g facts v s) _ [] (λ _. prepare_kind facts said v s) (λ _. each_none (Of 6))))
    (λ _. each_none (Of 6))

pub votes_kind : (g : Group) (known : List (Signed Body)) (said : List Body) (v waiting now : ℕ) (at_tick : Bool) →
    Each (Of 13) (votes_due g known said v waiting now at_tick)
votes_kind g known said v waiting now at_tick = each_map (Of 13) _ _ (λ w _. refl)

pub update_asks_kind : (g : Group) (known : List (Signed Body)) (facts : List OrderFact) (said : List Body)
    (moments : List Moment) (now : ℕ) (at_tick : Bool) →
    Each (Of 16) (update_asks_due g known facts said moments now at_tick)
update_asks_kind g known facts said moments now at_tick =
    each_if (Of 16) at_tick _ [] (λ _. each_map (Of 16) _ _ (λ r _. refl)) (λ _. each_none (Of 16))

pub order_asks_kind : (g : Group) (facts : List OrderFact) (said : List Body) (v : ℕ) (open_now : Bool)
    (waiting now : ℕ) (at_tick : Bool) → Each (Of 18) (order_asks_due g facts said v open_now waiting now at_tick)
order_asks_kind g facts said v open_now waiting now at_tick =
    each_if (Of 18) at_tick _ [] (λ _. each_map (Of 18) _ _ (λ s _. refl)) (λ _. each_none (Of 18))
