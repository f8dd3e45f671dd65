-- What an actor of a group that goes by the rules that stay alive says, entry after entry, by a shorter way than the rules',
-- so that examples can be computed.
use Rattle.std.proofs.Common.{◌≡◌, ℕ, Bool, true, ◌&&◌, List, [], ◌∷◌, ◌++◌, filter, sym, ◌∙◌, ap, nat_lt}
use Rattle.std.proofs.lemmas.Bool.{and_parts}
use Rattle.std.specs.Prelude.{if◌then◌else◌, Option, take}
use Rattle.std.specs.Cmp.Lexicographic.{pointwise}
use lib.Pointwise.{pointwise_decides}
use Rattle.message_types.specs.declared.signed.Signed.{Signed}
use Rattle.message_types.specs.declared.updates.Update.{Update}
use Rattle.message_types.specs.declared.vouchers.Order.{Order}
use Rattle.message_types.specs.declared.body.Body.{Body}
use Rattle.quorum_sets.specs.Masters.{numbers_below}
use Rattle.protocol_rules.specs.Group.{Group, is_live}
use Rattle.protocol_rules.specs.Facts.{facts_of}
use Rattle.protocol_rules.specs.Matrix.{reach}
use Rattle.protocol_rules.specs.Order.{stable, marks_for, certificates_below, commits_due, marks_due, ordered_run}
use Rattle.protocol_rules.specs.Views.{view, is_open, report_due, new_view_due}
use Rattle.protocol_rules.specs.Patience.{wait, votes_due}
use Rattle.protocol_rules.specs.Turns.{requests_in_turn_due, request_again_due, acks_again_due}
use Rattle.protocol_rules.specs.Worth.{worthy_prepares_due}
use Rattle.protocol_rules.specs.Lacking.{update_asks_due, order_asks_due, gift_due}
use Rattle.protocol_rules.specs.Master.{Heard, known_at, taken_at, said_before, moments_of, answered_in, executed}
use Rattle.protocol_rules.specs.Master.{summaries_due, summary_again_due, whole_preprepares_due, is_give, is_order_given}
use Rattle.protocol_rules.specs.Master.{vouchers_due, answers_by, answers}
use Rattle.history_rules.specs.Events.{Event, Entry, frame_taken, is_tick, is_silent}
use Rattle.history_rules.specs.Setup.{Setup, room, own}
use Rattle.history_rules.specs.Legal.{heard, intruded_says, says_in, says}
use Rattle.history_rules.specs.Sameness.{is_same_body}
use Rattle.history_laws.proofs.Same.{body_test}
use Rattle.history_examples.proofs.Minds.{EachSays}
use Rattle.progress_examples.proofs.ShortTurns.{short_turns, turns_same, ticks_heard, ticks_told}

-- all that is due by these rules, with the acknowledgements in turn and the number of ticks as given
abbrev live_with : Group → (List Update → ℕ → List Order) → ℕ → List Heard → Option (Signed Body) → Bool → List Body → ℕ
    → List Body
live_with g orders me before took at_tick acks now =
    let known = known_at before took in
    let facts = facts_of g known in
    let said = said_before before in
    let v = view g known in
    let moments = moments_of g [] (before ++ record { took = took; is_tick = at_tick; said = [] } ∷ []) in
    let waiting = wait g v (reach g (ordered_run g facts)) moments in
    let gifts = gift_due g me known facts (answered_in before) took now in
    (requests_in_turn_due g me (taken_at before took) (executed g known) said (numbers_below g.clients)
    ++ request_again_due g me known said now at_tick)
    ++ (acks ++ acks_again_due g known said now at_tick)
    ++ (summary_again_due g facts said now at_tick ++ summaries_due g known said at_tick)
    ++ whole_preprepares_due g me known facts said at_tick
    ++ worthy_prepares_due g facts said v (is_open g known)
    ++ commits_due g facts said v
    ++ []
    ++ []
    ++ []
    ++ []
    ++ []
    ++ votes_due g known said v waiting now at_tick
    ++ report_due g known said (stable g facts) (marks_for g facts (stable g facts)) (certificates_below g facts v)
    ++ new_view_due g me known said
    ++ update_asks_due g known facts said moments now at_tick
    ++ filter is_give gifts
    ++ order_asks_due g facts said v (is_open g known) waiting now at_tick
    ++ filter is_order_given gifts
    ++ vouchers_due g orders known said
    ++ marks_due g facts said

unfoldable pub live_answers : Group → (List Update → ℕ → List Order) → ℕ → List Heard → Option (Signed Body) → Bool
    → List Body
live_answers g orders me before took at_tick =
    live_with g orders me before took at_tick (short_turns g (known_at before took) (said_before before))
    (ticks_heard (before ++ record { took = took; is_tick = at_tick; said = [] } ∷ []))

by_live : (g : Group) (orders : List Update → ℕ → List Order) (me : ℕ) (before : List Heard)
    (took : Option (Signed Body)) (at_tick : Bool)
    → answers_by true g orders me before took at_tick ≡ live_answers g orders me before took at_tick
unfolding live_answers
by_live g orders me before took at_tick = λ i.
    live_with g orders me before took at_tick (turns_same g (known_at before took) (said_before before) i)
    (ticks_told g [] (before ++ record { took = took; is_tick = at_tick; said = [] } ∷ []) i)

answers_live : (g : Group) (orders : List Update → ℕ → List Order) (me : ℕ) (before : List Heard)
    (took : Option (Signed Body)) (at_tick : Bool) → is_live g ≡ true
    → answers g orders me before took at_tick ≡ live_answers g orders me before took at_tick
unfolding answers
answers_live g orders me before took at_tick live =
    ap (λ (b : Bool). answers_by b g orders me before took at_tick) live ∙ by_live g orders me before took at_tick

-- what an actor says at an event, by the shorter way
unfoldable pub live_says : Setup → List Entry → ℕ → Event → List Body
live_says w seen actor event =
    take (room w (own seen actor)) (
    if nat_lt actor w.group.n
    then (if w.intruded actor then intruded_says else
    (if is_silent event then [] else live_answers w.group w.orders actor (heard w seen actor) (frame_taken event)
    (is_tick event)))
    else w.client_says actor (own seen actor) event)

says_live : (w : Setup) (seen : List Entry) (actor : ℕ) (event : Event) → is_live w.group ≡ true
    → says w seen actor event ≡ live_says w seen actor event
unfolding says_in live_says
says_live w seen actor event live = λ i.
    take (room w (own seen actor)) (
    if nat_lt actor w.group.n
    then (if w.intruded actor then intruded_says else
    (if is_silent event then [] else answers_live w.group w.orders actor (heard w seen actor)
    (frame_taken event) (is_tick event) live i))
    else w.client_says actor (own seen actor) event)

-- whether each of the entries says, after those seen and those before it, what the shorter way gives
abbrev pub each_says_live : Setup → List Entry → List Entry → Bool
each_says_live w seen [] = true
each_says_live w seen (e ∷ rest) =
    pointwise is_same_body e.said (live_says w seen e.actor e.event) && each_says_live w (seen ++ e ∷ []) rest

pub says_by_live : (w : Setup) (seen rest : List Entry) → is_live w.group ≡ true → each_says_live w seen rest ≡ true →
    EachSays w seen rest
says_by_live w seen [] live all = tt
says_by_live w seen (e ∷ rest) live all =
    let said : List Body = live_says w seen e.actor e.event in
    let both = and_parts (pointwise is_same_body e.said said) (each_says_live w (seen ++ e ∷ []) rest) all in (
      (pointwise_decides {E = is_same_body} body_test e.said said).0 both.0 ∙ sym (says_live w seen e.actor e.event live),
      says_by_live w (seen ++ e ∷ []) rest live both.1,
    )
