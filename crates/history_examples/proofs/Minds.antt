-- What an actor says, entry after entry: each master's mind, which is what it knows and was told of so far, is computed
-- once an entry, from what it was before. So long examples can be computed.
use Rattle.std.proofs.Common.{◌≡◌, ℕ, ◌+◌, Bool, true, false, ◌&&◌, cond, List, [], ◌∷◌, ◌++◌, map, refl, sym, ◌∙◌, ap}
use Rattle.std.proofs.Common.{inl, inr, ◌⊎◌, nat_eq, append_assoc}
use Rattle.std.proofs.lemmas.Bool.{and_parts, eq-eqb, ne_eqb, cases_eq}
use Rattle.std.proofs.lemmas.List.{append-nil}
use Rattle.std.proofs.lemmas.Grind.{flat_map-append}
use Rattle.std.specs.Prelude.{if◌then◌else◌, Option, take, nat_lt}
use Rattle.std.specs.List.{flat_map}
use Rattle.std.specs.Cmp.Lexicographic.{pointwise}
use lib.Pointwise.{pointwise_decides}
use Rattle.message_types.specs.declared.signed.Signed.{Signed}
use Rattle.message_types.specs.declared.updates.Update.{Update}
use Rattle.message_types.specs.declared.vouchers.Order.{Order}
use Rattle.message_types.specs.declared.body.Body.{Body}
use Rattle.message_types.specs.Parts.{parts}
use Rattle.quorum_sets.specs.Masters.{numbers_below}
use Rattle.quorum_sets.specs.declared.sizes.Rules.{Rules}
use Rattle.quorum_sets.specs.declared.sizes.Rules.TheVariants.{First, Live}
use Rattle.protocol_rules.specs.Words.{numbers_from}
use Rattle.protocol_rules.specs.Group.{Group, is_live, window}
use Rattle.protocol_rules.specs.Facts.{facts_of}
use Rattle.protocol_rules.specs.Preorder.{requests_due}
use Rattle.protocol_rules.specs.Order.{stable, marks_for, certificates_below, prepare_due, commit_due, marks_due}
use Rattle.protocol_rules.specs.Views.{view, is_open, report_due, new_view_due}
use Rattle.protocol_rules.specs.Measures.{Told, ticks_of, waited, pings_due, pongs_due, round_trips_due}
use Rattle.protocol_rules.specs.Measures.{tat_reports_due, tat_bounds_due, suspects_due}
use Rattle.protocol_rules.specs.Reconcile.{ask_update_due, ask_order_due}
use Rattle.protocol_rules.specs.Master.{Heard, learned, taken_frames, known_at, taken_at, said_before, told_of, waits}
use Rattle.protocol_rules.specs.Master.{waiting_for, summaries_due, preprepares_due, vouchers_due, answers_by, answers}
use Rattle.history_rules.specs.Events.{Event, Entry, frame_taken, is_tick, is_silent}
use Rattle.history_rules.specs.Setup.{Setup, room, own, signed_from, leaves_used}
use Rattle.history_rules.specs.Legal.{heard, intruded_says, says_in, says}
use Rattle.history_rules.specs.Sameness.{is_same_body}
use Rattle.history_laws.proofs.Same.{body_test}
use Rattle.agreement.proofs.KnownAsItGrows.{hears, heard_then, heard_other, heard_silent}
use Rattle.history_examples.proofs.Short.{short_acks, short_gives, short_gives_ordered, acks_same, gives_same}
use Rattle.history_examples.proofs.Short.{gives_ordered_same, short_gap, gap_same}

-- what a master took, knows, said and was told of before an event
pub record Mind : Type 0 where
  pub taken : List (Signed Body)
  pub known : List (Signed Body)
  pub said : List Body
  pub told : List Told

-- so it is after these events
abbrev pub mind_after : Group → List Heard → Mind
mind_after g before = record {
  taken = flat_map (λ e. taken_frames e.took) before;
  known = flat_map learned before;
  said = said_before before;
  told = told_of g [] before;
}

-- an event, where these words are known
abbrev told_now : Group → List (Signed Body) → Bool → Told
told_now g known at_tick = record { is_tick = at_tick; view = view g known; waits = waits g known }

told_more : (g : Group) (first before : List Heard) (e : Heard)
    → told_of g first (before ++ e ∷ []) ≡ told_of g first before
    ++ told_now g (known_at (first ++ before) e.took) e.is_tick ∷ []
told_more g first [] e = ap (λ (hs : List Heard). told_now g (known_at hs e.took) e.is_tick ∷ [])
    (sym (append-nil first))
told_more g first (h ∷ rest) e =
    ap (λ (ts : List Told). told_now g (known_at first h.took) h.is_tick ∷ ts)
    (told_more g (first ++ h ∷ []) rest e
    ∙ ap (λ (hs : List Heard). told_of g (first ++ h ∷ []) rest ++ told_now g (known_at hs e.took) e.is_tick ∷ [])
    (append_assoc first (h ∷ []) rest))

-- the answers with three rows and the order's gap as given, of a master that took, knows, said and was told of these
abbrev answers_with : Group → (List Update → ℕ → List Order) → ℕ → List (Signed Body) → List (Signed Body) → List Body
    → List Told → Bool → List Body → List Body → List Body → Option ℕ → List Body
answers_with g orders me taken known said told at_tick ack_row give_row order_row gap =
    let facts = facts_of g known in
    let v = view g known in
    requests_due g me taken said (numbers_below g.clients)
    ++ ack_row
    ++ summaries_due g known said at_tick
    ++ preprepares_due g me known facts said at_tick
    ++ (if is_open g known then flat_map (prepare_due facts said v) (numbers_from 1 (stable g facts + window)) else [])
    ++ flat_map (commit_due g facts said v) (numbers_from 1 (stable g facts + window))
    ++ pings_due (ticks_of told) at_tick
    ++ pongs_due g me known said
    ++ round_trips_due g me known said (ticks_of told)
    ++ tat_reports_due said v (waited v told) at_tick
    ++ tat_bounds_due g me known said v at_tick
    ++ suspects_due g known said v at_tick
    ++ report_due g known said (stable g facts) (marks_for g facts (stable g facts)) (certificates_below g facts v)
    ++ new_view_due g me known said
    ++ ask_update_due said at_tick (waiting_for g known)
    ++ give_row
    ++ ask_order_due said at_tick gap
    ++ order_row
    ++ vouchers_due g orders known said
    ++ marks_due g facts said

unfoldable pub short_answers : Group → (List Update → ℕ → List Order) → ℕ → Mind → Option (Signed Body) → Bool
    → List Body
short_answers g orders me mind took at_tick =
    let known = mind.known ++ flat_map parts (taken_frames took) in
    answers_with g orders me (mind.taken ++ taken_frames took) known mind.said
    (mind.told ++ told_now g known at_tick ∷ []) at_tick
    (short_acks g known mind.said) (short_gives g me known mind.said)
    (short_gives_ordered g me known (facts_of g known) mind.said) (short_gap g (facts_of g known))

-- by these rules the shorter way gives what is said
abbrev goes_by_first : Rules → Bool
goes_by_first First = true
goes_by_first Live = false

by_first : (r : Rules) → goes_by_first r ≡ true → elim r [ First ↦ false | Live ↦ true ] ≡ false
by_first First first = refl
by_first Live first = sym first

isnt_live : (g : Group) → goes_by_first g.rules ≡ true → is_live g ≡ false
unfolding is_live
isnt_live g first = by_first g.rules first

-- The answers by the rules first specified are what the shorter way gives.
first_answers_short : (g : Group) (orders : List Update → ℕ → List Order) (me : ℕ) (before : List Heard)
    (took : Option (Signed Body)) (at_tick : Bool)
    → answers_by false g orders me before took at_tick ≡ short_answers g orders me (mind_after g before) took at_tick
unfolding short_answers known_at
first_answers_short g orders me before took at_tick =
    let known = known_at before took in
    let facts = facts_of g known in
    let said = said_before before in
    λ i. answers_with g orders me (taken_at before took) known said
    (told_more g [] before record { took = took; is_tick = at_tick; said = [] } i) at_tick
    (acks_same g known said i) (gives_same g me known said i) (gives_ordered_same g me known facts said i)
    (gap_same g facts i)

answers_short : (g : Group) (orders : List Update → ℕ → List Order) (me : ℕ) (before : List Heard)
    (took : Option (Signed Body)) (at_tick : Bool) → goes_by_first g.rules ≡ true
    → answers g orders me before took at_tick ≡ short_answers g orders me (mind_after g before) took at_tick
unfolding answers
answers_short g orders me before took at_tick first =
    ap (λ (live : Bool). answers_by live g orders me before took at_tick) (isnt_live g first)
    ∙ first_answers_short g orders me before took at_tick

-- the mind after an event at which these words are known and these frames are said
abbrev grown : Group → Mind → Option (Signed Body) → Bool → List (Signed Body) → List (Signed Body) → Mind
grown g mind took at_tick known frames = record {
  taken = mind.taken ++ taken_frames took;
  known = known ++ flat_map parts frames;
  said = mind.said ++ map (λ f. f.body) frames;
  told = mind.told ++ told_now g known at_tick ∷ [];
}

-- the mind of an actor after one entry more of its own, before which it used so many leaves
abbrev mind_then : Setup → ℕ → Mind → Entry → Mind
mind_then w used mind e =
    if is_silent e.event then mind
    else grown w.group mind (frame_taken e.event) (is_tick e.event)
    (mind.known ++ flat_map parts (taken_frames (frame_taken e.event))) (signed_from w e.actor used e.said 0 e.said)

mind_heard : (g : Group) (before : List Heard) (h : Heard)
    → mind_after g (before ++ h ∷ []) ≡ grown g (mind_after g before) h.took h.is_tick
    (flat_map learned before ++ flat_map parts (taken_frames h.took)) h.said
unfolding known_at
mind_heard g before h =
    let taken : flat_map (λ (e : Heard). taken_frames e.took) (before ++ h ∷ []) ≡ flat_map
    (λ (e : Heard). taken_frames e.took) before ++ taken_frames h.took =
    flat_map-append (λ (e : Heard). taken_frames e.took) before (h ∷ [])
    ∙ ap (λ (fs : List (Signed Body)). flat_map (λ (e : Heard). taken_frames e.took) before ++ fs)
    (append-nil (taken_frames h.took)) in
    let known : flat_map learned (before ++ h ∷ []) ≡ (flat_map learned before
    ++ flat_map parts (taken_frames h.took)) ++ flat_map parts h.said =
    flat_map-append learned before (h ∷ []) ∙ ap (λ (fs : List (Signed Body)). flat_map learned before ++ fs)
    (append-nil (learned h))
    ∙ sym (append_assoc (flat_map learned before) (flat_map parts (taken_frames h.took)) (flat_map parts h.said)) in
    let said : said_before (before ++ h ∷ []) ≡ said_before before ++ map (λ (f : Signed Body). f.body) h.said =
    flat_map-append (λ (e : Heard). map (λ (f : Signed Body). f.body) e.said) before (h ∷ [])
    ∙ ap (λ (bs : List Body). said_before before ++ bs) (append-nil (map (λ (f : Signed Body). f.body) h.said)) in
    λ i. record { taken = taken i; known = known i; said = said i; told = told_more g [] before h i }

-- the minds of all actors
abbrev minds_after : Setup → List Entry → ℕ → Mind
minds_after w seen a = mind_after w.group (heard w seen a)

-- the minds, of which that of one actor is another now
abbrev with_mind : (ℕ → Mind) → ℕ → Mind → ℕ → Mind
with_mind minds actor mind a = if nat_eq actor a then mind else minds a

abbrev minds_then : Setup → List Entry → (ℕ → Mind) → Entry → ℕ → Mind
minds_then w seen minds e = with_mind minds e.actor (mind_then w (leaves_used w (own seen e.actor)) (minds e.actor) e)

abbrev AreMinds : Setup → List Entry → (ℕ → Mind) → Type 0
AreMinds w seen minds = (a : ℕ) → minds a ≡ minds_after w seen a

are_minds : (w : Setup) (seen : List Entry) (minds : ℕ → Mind) (e : Entry) → AreMinds w seen minds
    → AreMinds w (seen ++ e ∷ []) (minds_then w seen minds e)
are_minds w seen minds e are a = by_actor (cases_eq e.actor a)
  where
    used : ℕ
    used = leaves_used w (own seen e.actor)

    before : List Heard
    before = heard w seen e.actor

    after : Mind
    after = grown w.group (mind_after w.group before) (frame_taken e.event) (is_tick e.event)
        (flat_map learned before ++ flat_map parts (taken_frames (frame_taken e.event)))
        (signed_from w e.actor used e.said 0 e.said)

    by_event : (b : Bool) → is_silent e.event ≡ b
        → mind_then w used (minds_after w seen e.actor) e ≡ minds_after w (seen ++ e ∷ []) e.actor
    by_event true silent =
        ap (λ b. cond b (mind_after w.group before) after) silent
        ∙ ap (mind_after w.group) (sym (heard_silent w seen e e.actor refl silent))
    by_event false loud =
        ap (λ b. cond b (mind_after w.group before) after) loud
        ∙ sym (ap (mind_after w.group) (heard_then w seen e e.actor refl loud)
        ∙ mind_heard w.group before (hears w e.actor used e))

    by_actor : (e.actor ≡ a) ⊎ (e.actor ≡ a → ⊥) → minds_then w seen minds e a ≡ minds_after w (seen ++ e ∷ []) a
    by_actor (inl by) =
        ap (λ b. cond b (mind_then w used (minds e.actor) e) (minds a)) (eq-eqb e.actor a by)
        ∙ ap (λ (m : Mind). mind_then w used m e) (are e.actor)
        ∙ by_event (is_silent e.event) refl
        ∙ ap (minds_after w (seen ++ e ∷ [])) by
    by_actor (inr other) =
        ap (λ b. cond b (mind_then w used (minds e.actor) e) (minds a)) (ne_eqb e.actor a other)
        ∙ are a ∙ ap (mind_after w.group) (sym (heard_other w seen e a other))

-- what an actor of this mind and with these entries of its own says at an event, by the shorter way
unfoldable pub short_says : Setup → Mind → List Entry → ℕ → Event → List Body
short_says w mind own actor event =
    take (room w own) (
    if nat_lt actor w.group.n
    then (if w.intruded actor then intruded_says else
    (if is_silent event then [] else short_answers w.group w.orders actor mind (frame_taken event) (is_tick event)))
    else w.client_says actor own event)

says_short : (w : Setup) (before : List Entry) (actor : ℕ) (event : Event) → goes_by_first w.group.rules ≡ true
    → says w before actor event ≡ short_says w (minds_after w before actor) (own before actor) actor event
unfolding says_in short_says
says_short w before actor event first = λ i.
    take (room w (own before actor)) (
    if nat_lt actor w.group.n
    then (if w.intruded actor then intruded_says else
    (if is_silent event then [] else answers_short w.group w.orders actor (heard w before actor)
    (frame_taken event) (is_tick event) first i))
    else w.client_says actor (own before actor) event)

-- whether each of the entries says, after those seen and those before it, what the shorter way gives
abbrev says_from : Setup → (ℕ → Mind) → List Entry → List Entry → Bool
says_from w minds seen [] = true
says_from w minds seen (e ∷ rest) =
    pointwise is_same_body e.said (short_says w (minds e.actor) (own seen e.actor) e.actor e.event)
    && says_from w (minds_then w seen minds e) (seen ++ e ∷ []) rest

-- the same from the beginning, in a group that goes by the rules first specified
abbrev pub each_says : Setup → List Entry → Bool
each_says w history = goes_by_first w.group.rules && says_from w (minds_after w []) [] history

-- each of them says what the rules make its actor say
abbrev pub EachSays : Setup → List Entry → List Entry → Type 0
EachSays w seen [] = Unit {0}
EachSays w seen (e ∷ rest) = (e.said ≡ says w seen e.actor e.event) × EachSays w (seen ++ e ∷ []) rest

by_minds : (w : Setup) (minds : ℕ → Mind) (seen rest : List Entry) → goes_by_first w.group.rules ≡ true
    → AreMinds w seen minds → says_from w minds seen rest ≡ true → EachSays w seen rest
by_minds w minds seen [] first are short = tt
by_minds w minds seen (e ∷ rest) first are short =
    let said : List Body = short_says w (minds e.actor) (own seen e.actor) e.actor e.event in
    let both = and_parts (pointwise is_same_body e.said said)
    (says_from w (minds_then w seen minds e) (seen ++ e ∷ []) rest) short in (
      (pointwise_decides {E = is_same_body} body_test e.said said).0 both.0
          ∙ ap (λ (m : Mind). short_says w m (own seen e.actor) e.actor e.event) (are e.actor)
          ∙ sym (says_short w seen e.actor e.event first),
      by_minds w (minds_then w seen minds e) (seen ++ e ∷ []) rest first (are_minds w seen minds e are) both.1,
    )

pub says_by_minds : (w : Setup) (history : List Entry) → each_says w history ≡ true → EachSays w [] history
says_by_minds w history short =
    let both = and_parts (goes_by_first w.group.rules) (says_from w (minds_after w []) [] history) short in
    by_minds w (minds_after w []) [] history both.0 (λ a. refl) both.1
