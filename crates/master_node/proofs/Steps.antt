-- How the state of a master goes through an event: it learns, executes, is told of the event, and says what is due.
use Rattle.std.proofs.Common.{◌≡◌, ℕ, ◌+◌, ◌-◌, ◌^◌, ◌<◌, ◌≤◌, Bool, true, false, cond, List, [], ◌∷◌, ◌++◌, Option}
use Rattle.std.proofs.Common.{Some, None, drop, length, take, nat_lt, refl, sym, ◌∙◌, ap, subst, arith, append_assoc}
use Rattle.std.specs.Prelude.{slice_index}
use Rattle.std.specs.List.{list_all, flat_map, slice_index_or}
use Rattle.std.proofs.lemmas.Bool.{and_from}
use Rattle.std.proofs.lemmas.List.{append-nil, length-map}
use Rattle.std.proofs.lemmas.List.Folds.{list_all-append}
use Rattle.plain_lists.specs.Lists.{IsIn, Begins}
use Rattle.plain_lists.proofs.Members.{in_right, in_flat_map, all_at}
use Rattle.message_types.specs.declared.signed.Signed.{Signed}
use Rattle.message_types.specs.declared.updates.Update.{Update}
use Rattle.message_types.specs.declared.body.Body.{Body}
use Rattle.message_types.specs.Parts.{parts}
use Rattle.protocol_rules.specs.Group.{Group}
use Rattle.protocol_rules.specs.Places.{in_place}
use Rattle.protocol_rules.specs.Facts.{facts_of}
use Rattle.protocol_rules.specs.Order.{ordered_run}
use Rattle.protocol_rules.specs.Measures.{ticks_of}
use Rattle.protocol_rules.specs.Execution.{Request, executed_of}
use Rattle.protocol_rules.specs.Master.{Heard, learned, taken_frames, known_at, taken_at, said_before, answered_in}
use Rattle.protocol_rules.specs.Master.{certified_requests, executed, answers}
use Rattle.history_rules.specs.Legal.{known_of}
use Rattle.agreement.proofs.VouchedIsOrdered.{known_of_last, executed_more}
use Rattle.words_in_place.specs.Laws.{ticks_heard, IsSaid}
use Rattle.words_in_place.proofs.Measuring.{ticks_told}
use Rattle.words_in_place.proofs.Limits.{filter_more}
use Rattle.words_in_place.proofs.Speaking.{own_parts_are_in_place}
use Rattle.execution.specs.Ran.{Ran, IsRunOf}
use Rattle.master_points.specs.Orders.{Held, held_after}
use Rattle.master_knowledge.specs.declared.knowledge.Knowledge.{Knowledge}
use Rattle.master_knowledge.specs.Whole.{is_whole}
use Rattle.master_knowledge.specs.Past.{Past, past_with}
use Rattle.master_knowledge.specs.Knows.{Knows, IsCaughtUp}
use Rattle.master_answers.specs.declared.replica_state.ReplicaState.{ReplicaState}
use Rattle.master_answers.specs.Asked.{answered_by}
use Rattle.master_answers.specs.Replica.{IsReplicaOf, IsReplicaState, past_at, past_after, clients_of}
use Rattle.master_answers.proofs.Growing.{knowledge_may_grow, events_may_grow}
use Rattle.master_node.specs.declared.running.Running.{Running}
use Rattle.history_rules.specs.Leaves.{leaves_for, room_of}
use Rattle.master_node.specs.Charge.{Charge, leaves_left, says_at, taken_by}
use Rattle.master_node.specs.Running.{HoldsPlant, group_in, ticks_in, IsRunning, HasLearned, IsReady, HasSpoken}
use Rattle.master_node.specs.Running.{AreItsFrames, past_then}
use Rattle.master_node.proofs.Events.{past_at_end, past_said, answered_more, taken_more, said_more, learned_more}
use Rattle.master_node.proofs.Events.{used_more, told_with}
use Rattle.master_node.proofs.Plants.{clients_are, plant_grows, orders_grow, some_done, rest_passes, executed_there}
use Rattle.history_rules.proofs.Uncut.{uncut}
use Rattle.history_rules.proofs.Entries.{all_from}

minus_more : (a b d : ℕ) → a - b - d ≡ a - (b + d)
minus_more a b d = omega arith

-- all that is learned before is known at an event, and the frame taken with its parts
pub known_now : (before : List Heard) (took : Option (Signed Body)) (own : List (Signed Body)) →
    known_of before ++ flat_map parts own ≡ flat_map learned before
    → (known_of before ++ flat_map parts own) ++ flat_map parts (taken_frames took) ≡ known_at before took
unfolding known_at
known_now before took own e = ap (λ (xs : List (Signed Body)). xs ++ flat_map parts (taken_frames took)) e

pub known_then : (before : List Heard) (took : Option (Signed Body)) (own : List (Signed Body)) →
    known_of before ++ flat_map parts own ≡ flat_map learned before
    → known_of before ++ (flat_map parts own ++ flat_map parts (taken_frames took)) ≡ known_at before took
known_then before took own e =
    sym (append_assoc (known_of before) (flat_map parts own) (flat_map parts (taken_frames took)))
    ∙ known_now before took own e

-- a master's own frames are whole, where all that it learned is in place
pub own_whole : (g : Group) (before : List Heard) (own : List (Signed Body)) →
    known_of before ++ flat_map parts own ≡ flat_map learned before
    → list_all (in_place g) (flat_map learned before) ≡ true → list_all (is_whole g) own ≡ true
own_whole g before own e placed = all_from (is_whole g) own (λ f h. all_from (in_place g) (parts f) (λ p k.
    all_at (in_place g) (subst (λ (xs : List (Signed Body)). IsIn p xs) e
    (in_right (known_of before) (in_flat_map parts h k))) placed))

pub known_placed : (g : Group) (before : List Heard) (took : Option (Signed Body)) →
    list_all (in_place g) (flat_map learned before) ≡ true →
    list_all (in_place g) (flat_map parts (taken_frames took)) ≡ true
    → list_all (in_place g) (known_at before took) ≡ true
unfolding known_at
known_placed g before took one two = list_all-append (in_place g) (flat_map learned before)
    (flat_map parts (taken_frames took)) ∙ and_from _ _ one two

-- the measures were told of as many ticks as there were
pub ticks_are : (g : Group) (me : ℕ) (k : Knowledge) (before : List Heard) (taken known : List (Signed Body))
    (answered : List ℕ) (said : List Body) → Knows g me k taken known (past_then g before answered) said →
    k.measure.ticks ≡ ticks_heard before
ticks_are g me k before taken known answered said knows = knows.ticks_told ∙ ticks_told g [] before

-- A master that learned its own last frames and the frame taken.
learned_so : (c : Charge) (kept : Running) (k : Knowledge) (u : List (Signed Body)) (before : List Heard)
    (took : Option (Signed Body)) (at_tick : Bool) (done : ℕ) → (is : IsRunning c kept before)
    → ((past : Past) (said : List Body) → Knows c.group c.me kept.replica.knowledge (taken_by before) (known_of before)
    past said
    → Knows c.group c.me k (taken_at before took) ((known_of before ++ flat_map parts kept.unheard)
    ++ flat_map parts (taken_frames took)) past said)
    → list_all (in_place c.group) (flat_map parts (taken_frames took)) ≡ true
    → ticks_heard before + cond at_tick 1 0 ≤ 2 ^ 32
    → length (executed c.group (known_of before)) ≡ done
    → u ≡ []
    → HasLearned c (record kept { replica = record kept.replica { knowledge = k }; unheard = u })
    before took at_tick done
learned_so c kept k u before took at_tick done is step placed ticks many none = record {
  is_replica = record {
    sizes = is.sizes;
    master = is.master;
    ticks = ticks;
    placed =
        known_placed c.group before took is.placed placed;
  };
  keeps = record {
    counted = is.keeps.counted;
    answered = is.keeps.answered;
    is_replica = is_replica;
    all = is.keeps.all;
    all_answered = is.keeps.all_answered;
  };
  earlier = known_of before;
  points = is.points;
  grown = subst (λ (xs : List (Signed Body)). Begins (executed c.group (known_of before)) (executed c.group xs))
      (known_then before took kept.unheard is.unheard)
      (executed_more c.group (known_of before) (flat_map parts kept.unheard ++ flat_map parts (taken_frames took)));
  many = many;
  vouchers = is.vouchers;
  unheard = none;
  leaves = is.leaves;
  shared = is.shared;
}
  where
    more : List (Signed Body)
    more = flat_map parts kept.unheard ++ flat_map parts (taken_frames took)

    knows : Knows c.group c.me k (taken_at before took) (known_of before ++ more)
        (past_then c.group before is.keeps.answered) is.keeps.counted
    knows = subst (λ (xs : List (Signed Body)). Knows c.group c.me k (taken_at before took) xs
        (past_then c.group before is.keeps.answered) is.keeps.counted)
        (append_assoc (known_of before) (flat_map parts kept.unheard) (flat_map parts (taken_frames took)))
        (step (past_then c.group before is.keeps.answered) is.keeps.counted is.keeps.is_replica.knows)

    is_replica : IsReplicaOf c.group c.me (record kept.replica { knowledge = k }) (taken_at before took)
        (known_at before took) (past_then c.group before is.keeps.answered) is.keeps.counted
    is_replica = subst (λ (xs : List (Signed Body)). IsReplicaOf c.group c.me (record kept.replica { knowledge = k })
        (taken_at before took) xs (past_then c.group before is.keeps.answered) is.keeps.counted)
        (known_then before took kept.unheard is.unheard)
        (knowledge_may_grow c.group c.me kept.replica k (taken_by before) (taken_at before took) (known_of before)
        more (past_then c.group before is.keeps.answered) (past_then c.group before is.keeps.answered) is.keeps.counted
        knows refl is.keeps.is_replica)

-- the list of what is executed, where the execution has caught up
pub executed_listed : (g : Group) (k : Knowledge) (known : List (Signed Body)) (list : List Update) →
    IsCaughtUp g k known
    → ((h : Group) (certified : Request → Option Update) (runs : List (List (List ℕ))) →
    IsRunOf h k.run certified runs → list ≡ executed_of h certified runs) → list ≡ executed g known
unfolding executed
executed_listed g k known list caught e = e g (certified_requests g known) (ordered_run g (facts_of g known)) caught

-- A master that learned its own last frames and a frame that it takes.
pub heard_so : (c : Charge) (kept : Running) (own_known then_known : Knowledge) (u : List (Signed Body))
    (frame : Signed Body) (before : List Heard) (list : List Update) → (is : IsRunning c kept before)
    → ((g : Group) (me : ℕ) (taken known : List (Signed Body)) (past : Past) (said : List Body) →
    Knows g me kept.replica.knowledge taken known past said →
    Knows g me own_known taken (known ++ flat_map parts kept.unheard) past said)
    → ((g : Group) (me : ℕ) (taken known : List (Signed Body)) (past : Past) (said : List Body) →
    Knows g me own_known taken known past said →
    Knows g me then_known (taken ++ frame ∷ []) (known ++ parts frame) past said)
    → is_whole (group_in kept) frame ≡ true
    → u ≡ []
    → ((h : Group) (certified : Request → Option Update) (runs : List (List (List ℕ))) →
    IsRunOf h kept.replica.knowledge.run certified runs → list ≡ executed_of h certified runs)
    → HasLearned c (record kept { replica = record kept.replica { knowledge = then_known }; unheard = u }) before
    (Some frame) false (length list)
heard_so c kept own_known then_known u frame before list is recalled heard whole none listed =
    learned_so c kept then_known u before (Some frame) false (length list) is
    (λ past said knows. subst (λ (xs : List (Signed Body)). Knows c.group c.me then_known (taken_at before (Some frame))
    ((known_of before ++ flat_map parts kept.unheard) ++ xs) past said)
    (sym (append-nil (parts frame)))
    (heard c.group c.me (taken_by before) (known_of before ++ flat_map parts kept.unheard)
    past said
    (recalled c.group c.me (taken_by before) (known_of before) past said knows)))
    (ap (list_all (in_place c.group)) (append-nil (parts frame)) ∙ ap (λ (h : Group). is_whole h frame)
    (sym is.keeps.is_replica.knows.preorder.group) ∙ whole)
    (let few : ticks_heard before ≤ 2 ^ 32 = is.ticks in omega arith)
    (ap length (sym (executed_listed c.group kept.replica.knowledge (known_of before) list is.caught listed)))
    none

-- A master that learned its own last frames, at a tick.
pub ticked_so : (c : Charge) (kept : Running) (own_known : Knowledge) (u : List (Signed Body)) (before : List Heard)
    (list : List Update) → (is : IsRunning c kept before)
    → ((g : Group) (me : ℕ) (taken known : List (Signed Body)) (past : Past) (said : List Body) →
    Knows g me kept.replica.knowledge taken known past said →
    Knows g me own_known taken (known ++ flat_map parts kept.unheard) past said)
    → ticks_in kept < 2 ^ 32
    → u ≡ []
    → ((h : Group) (certified : Request → Option Update) (runs : List (List (List ℕ))) →
    IsRunOf h kept.replica.knowledge.run certified runs → list ≡ executed_of h certified runs)
    → HasLearned c (record kept { replica = record kept.replica { knowledge = own_known }; unheard = u })
    before None true (length list)
ticked_so c kept own_known u before list is recalled ticks none listed =
    learned_so c kept own_known u before None true (length list) is
    (λ past said knows. subst (λ (xs : List (Signed Body)). Knows c.group c.me own_known xs
    ((known_of before ++ flat_map parts kept.unheard) ++ []) past said)
    (sym (append-nil (taken_by before)))
    (subst (λ (xs : List (Signed Body)). Knows c.group c.me own_known (taken_by before) xs past said)
    (sym (append-nil (known_of before ++ flat_map parts kept.unheard)))
    (recalled c.group c.me (taken_by before) (known_of before) past said knows)))
    refl
    (let same : ticks_in kept ≡ ticks_heard before = ticks_are c.group c.me kept.replica.knowledge before
    (taken_by before) (known_of before) is.keeps.answered is.keeps.counted is.keeps.is_replica.knows in omega arith)
    (ap length (sym (executed_listed c.group kept.replica.knowledge (known_of before) list is.caught listed)))
    none

-- A master that executed what it now can, and was told of the event.
pub ready_so : (c : Charge) (kept : Running) (k : Knowledge) (points : Held) (before : List Heard)
    (took : Option (Signed Body)) (at_tick : Bool) (done : ℕ) → (h : HasLearned c kept before took at_tick done)
    → Knows c.group c.me k (taken_at before took) (known_at before took)
    (past_with c.group (known_at before took) at_tick (past_then c.group before h.keeps.answered)) h.keeps.counted
    → IsCaughtUp c.group k (known_at before took)
    → points ≡ held_after kept.points (drop done (executed c.group (known_at before took)))
    → IsReady c (record kept { replica = record kept.replica { knowledge = k }; points = points }) before took at_tick
ready_so c kept k points before took at_tick done h knows caught applied = record {
  is_replica = h.is_replica;
  keeps = record {
    counted = h.keeps.counted;
    answered = h.keeps.answered;
    is_replica = subst (λ (past : Past). IsReplicaOf c.group c.me (record kept.replica { knowledge = k })
        (taken_at before took) (known_at before took) past h.keeps.counted)
        (sym (past_at_end c.group before took at_tick h.keeps.answered))
        (events_may_grow c.group c.me kept.replica k (taken_at before took) (known_at before took)
        (past_then c.group before h.keeps.answered)
        (past_with c.group (known_at before took) at_tick (past_then c.group before h.keeps.answered)) h.keeps.counted
        knows refl h.keeps.is_replica);
    all = h.keeps.all;
    all_answered = h.keeps.all_answered;
  };
  caught = caught;
  points = grown;
  vouchers = λ n less.
      let few : slice_index kept.replica.vouchers.counts n ≤ length (slice_index_or kept.points.lists n []) =
      h.vouchers n (subst (λ m. n < m) (same_clients) less) in
      let more : length (slice_index_or kept.points.lists n []) ≤ length (slice_index_or points.lists n []) =
      orders_grow c h.earlier (known_at before took) kept.points points n h.points grown h.grown less in
      omega arith;
  unheard = h.unheard;
  leaves = h.leaves;
  shared = h.shared;
}
  where
    grown : HoldsPlant c (known_at before took) points
    grown = plant_grows c h.earlier (known_at before took) kept.points points done h.points h.grown h.many applied

    same_clients : clients_of points ≡ clients_of kept.points
    same_clients = clients_are c (known_at before took) points grown
        ∙ sym (clients_are c h.earlier kept.points h.points)

-- what is executed, once the execution has caught up
pub caught_list : (c : Charge) (kept : Running) (k : Knowledge) (before : List Heard) (took : Option (Signed Body))
    (at_tick : Bool) (done : ℕ) (list : List Update) → HasLearned c kept before took at_tick done
    → ((g : Group) (me : ℕ) (taken known : List (Signed Body)) (past : Past) (said : List Body) →
    Knows g me kept.replica.knowledge taken known past said → IsCaughtUp g k known)
    → ((h : Group) (certified : Request → Option Update) (runs : List (List (List ℕ))) →
    IsRunOf h k.run certified runs → list ≡ executed_of h certified runs)
    → list ≡ executed c.group (known_at before took)
caught_list c kept k before took at_tick done list h caught listed =
    executed_listed c.group k (known_at before took) list
    (caught c.group c.me (taken_at before took) (known_at before took) (past_then c.group before h.keeps.answered)
    h.keeps.counted h.keeps.is_replica.knows) listed

pub done_within : (c : Charge) (kept : Running) (before : List Heard) (took : Option (Signed Body)) (at_tick : Bool)
    (done : ℕ) (list : List Update) → HasLearned c kept before took at_tick done
    → list ≡ executed c.group (known_at before took) → done ≤ length list
done_within c kept before took at_tick done list h e = subst (λ (us : List Update). done ≤ length us) (sym e)
    (some_done (executed c.group h.earlier) (executed c.group (known_at before took)) done h.grown h.many)

-- the updates that are executed now are of clients that the plant has
pub clients_there : (c : Charge) (kept : Running) (before : List Heard) (took : Option (Signed Body)) (at_tick : Bool)
    (done : ℕ) (list : List Update) → HasLearned c kept before took at_tick done
    → list ≡ executed c.group (known_at before took) →
    list_all (λ u. nat_lt u.client (kept.points.site.devices + kept.points.site.screens)) (drop done list) ≡ true
clients_there c kept before took at_tick done list h e =
    ap (λ (us : List Update). list_all (λ u. nat_lt u.client (kept.points.site.devices + kept.points.site.screens))
    (drop done us)) e
    ∙ rest_passes (λ u. nat_lt u.client (kept.points.site.devices + kept.points.site.screens))
    (executed c.group h.earlier) (executed c.group (known_at before took)) done h.grown h.many
    (executed_there c.group (known_at before took) (kept.points.site.devices + kept.points.site.screens)
    h.keeps.is_replica.knows.whole (clients_are c h.earlier kept.points h.points))

pub few_ticks : (c : Charge) (kept : Running) (k : Knowledge) (before : List Heard) (took : Option (Signed Body))
    (at_tick : Bool) (done : ℕ) → (h : HasLearned c kept before took at_tick done)
    → ((g : Group) (me : ℕ) (taken known : List (Signed Body)) (past : Past) (said : List Body) →
    Knows g me kept.replica.knowledge taken known past said → Knows g me k taken known past said)
    → at_tick ≡ true → k.measure.ticks < 2 ^ 32
few_ticks c kept k before took at_tick done h knows e =
    let same : k.measure.ticks ≡ ticks_heard before = ticks_are c.group c.me k before (taken_at before took)
    (known_at before took) h.keeps.answered h.keeps.counted
    (knows c.group c.me (taken_at before took) (known_at before took) (past_then c.group before h.keeps.answered)
    h.keeps.counted h.keeps.is_replica.knows) in
    let few : ticks_heard before + 1 ≤ 2 ^ 32 =
    subst (λ b. ticks_heard before + cond b 1 0 ≤ 2 ^ 32) e h.is_replica.ticks in
    omega arith

-- So a master gets ready to speak.
pub gone_on : (c : Charge) (kept : Running) (k then_k : Knowledge) (points : Held) (before : List Heard)
    (took : Option (Signed Body)) (at_tick : Bool) (done : ℕ) (list : List Update) →
    (h : HasLearned c kept before took at_tick done)
    → ((g : Group) (me : ℕ) (taken known : List (Signed Body)) (past : Past) (said : List Body) →
    Knows g me kept.replica.knowledge taken known past said → Knows g me k taken known past said)
    → ((g : Group) (me : ℕ) (taken known : List (Signed Body)) (past : Past) (said : List Body) →
    Knows g me kept.replica.knowledge taken known past said → IsCaughtUp g k known)
    → list ≡ executed c.group (known_at before took)
    → points ≡ held_after kept.points (drop done list)
    → ((g : Group) (me : ℕ) (taken known : List (Signed Body)) (past : Past) (said : List Body) →
    Knows g me k taken known past said → IsCaughtUp g k known →
    Knows g me then_k taken known (past_with g known at_tick past) said)
    → then_k.run ≡ k.run
    → IsReady c (record kept { replica = record kept.replica { knowledge = then_k }; points = points })
    before took at_tick
gone_on c kept k then_k points before took at_tick done list h knows caught listed applied tells same =
    ready_so c kept then_k points before took at_tick done h
    (tells c.group c.me (taken_at before took) (known_at before took) (past_then c.group before h.keeps.answered) h.keeps.counted
    (knows c.group c.me (taken_at before took) (known_at before took) (past_then c.group before h.keeps.answered)
    h.keeps.counted h.keeps.is_replica.knows) up)
    (subst (λ (r : Ran). IsRunOf c.group r (certified_requests c.group (known_at before took))
    (ordered_run c.group (facts_of c.group (known_at before took)))) (sym same) up)
    (applied ∙ ap (λ (us : List Update). held_after kept.points (drop done us)) listed)
  where
    up : IsCaughtUp c.group k (known_at before took)
    up = caught c.group c.me (taken_at before took) (known_at before took) (past_then c.group before h.keeps.answered)
        h.keeps.counted h.keeps.is_replica.knows

-- Where no leaf is left a master says nothing.
pub none_said : (c : Charge) (kept : Running) (before : List Heard) (took : Option (Signed Body)) (at_tick : Bool) →
    kept.leaves ≡ 0 → kept.leaves ≡ leaves_left c before → [] ≡ says_at c before took at_tick
unfolding says_at
none_said c kept before took at_tick none left =
    ap (λ n. take n (answers c.group c.orders c.me before took at_tick)) (by c.shared_leaves (sym none ∙ left))
  where
    by : (shared : Bool) → 0 ≡ leaves_left c before → 0 ≡ room_of shared (leaves_left c before)
    by true e = omega arith
    by false e = e

pub silent_so : (c : Charge) (kept : Running) (before : List Heard) (took : Option (Signed Body)) (at_tick : Bool) →
    (r : IsReady c kept before took at_tick) → kept.leaves ≡ 0 → HasSpoken c kept before took at_tick
silent_so c kept before took at_tick r none = record {
  is_replica = r.is_replica;
  keeps = record {
    counted = r.keeps.counted;
    answered = r.keeps.answered;
    is_replica = r.keeps.is_replica;
    all = λ some. absurd (omega arith);
    all_answered = λ some. absurd (omega arith);
  };
  caught = r.caught;
  points = r.points;
  vouchers = r.vouchers;
  unheard = r.unheard;
  leaves =
      let left : kept.leaves ≡ leaves_left c before = r.leaves in
      none ∙ (omega arith);
  shared = r.shared;
}

-- a master that may speak has had no more ticks than it may have
pub ticks_had : (c : Charge) (kept : Running) (before : List Heard) (took : Option (Signed Body)) (at_tick : Bool) →
    IsReady c kept before took at_tick → ticks_in kept ≤ 2 ^ 32
ticks_had c kept before took at_tick r =
    subst (λ n. n ≤ 2 ^ 32) (sym (r.keeps.is_replica.knows.ticks_told
    ∙ ap ticks_of (told_with c.group before took at_tick []) ∙ ticks_told c.group [] (before ++ event ∷ [])
    ∙ filter_more (λ (e : Heard). e.is_tick) before event)) r.is_replica.ticks
  where
    event : Heard
    event = record { took = took; is_tick = at_tick; said = [] }

-- a state that is ready to speak is that of some master
pub is_state : (c : Charge) (kept : Running) (before : List Heard) (took : Option (Signed Body)) (at_tick : Bool) →
    IsReady c kept before took at_tick → IsReplicaState kept.replica
is_state c kept before took at_tick r = record {
  group = c.group;
  own = c.me;
  taken = taken_at before took;
  known = known_at before took;
  past = record (past_at c.group before took at_tick) { answered = r.keeps.answered };
  said = r.keeps.counted;
  is_replica = r.keeps.is_replica;
  caught = r.caught;
}

-- what its parts count as said is what it said, as long as a leaf is left
pub still_counts : (c : Charge) (kept : Running) (before : List Heard) (took : Option (Signed Body))
    (at_tick : Bool) → IsReady c kept before took at_tick → (kept.leaves ≡ 0 → ⊥)
    → IsReplicaOf c.group c.me kept.replica (taken_at before took) (known_at before took)
    (past_at c.group before took at_tick) (said_before before)
still_counts c kept before took at_tick r some =
    subst (λ (answered : List ℕ). IsReplicaOf c.group c.me kept.replica (taken_at before took) (known_at before took)
    (record (past_at c.group before took at_tick) { answered = answered }) (said_before before))
    (r.keeps.all_answered (omega arith))
    (subst (λ (said : List Body). IsReplicaOf c.group c.me kept.replica (taken_at before took) (known_at before took)
    (record (past_at c.group before took at_tick) { answered = r.keeps.answered }) said)
    (r.keeps.all (omega arith)) r.keeps.is_replica)

pub cut_so : (c : Charge) (kept : Running) (before : List Heard) (took : Option (Signed Body)) (at_tick : Bool)
    (bodies cut : List Body) → IsReady c kept before took at_tick
    → bodies ≡ answers c.group c.orders c.me before took at_tick → cut ≡ take (room_of kept.shared_leaves kept.leaves)
    bodies → cut ≡ says_at c before took at_tick
unfolding says_at
cut_so c kept before took at_tick bodies cut r due e =
    e ∙ ap (λ (bs : List Body). take (room_of kept.shared_leaves kept.leaves) bs) due
    ∙ ap (λ b. take (room_of b kept.leaves) (answers c.group c.orders c.me before took at_tick)) r.shared
    ∙ ap (λ n. take (room_of c.shared_leaves n) (answers c.group c.orders c.me before took at_tick)) r.leaves

-- A master that said what is due: all of it, or as much as its leaves sign.
pub spoken_so : (c : Charge) (kept : Running) (replica : ReplicaState) (used : ℕ) (before : List Heard)
    (took : Option (Signed Body)) (at_tick : Bool) (bodies cut : List Body) → (r : IsReady c kept before took at_tick)
    → bodies ≡ answers c.group c.orders c.me before took at_tick
    → cut ≡ take (room_of kept.shared_leaves kept.leaves) bodies
    → used ≡ leaves_for kept.shared_leaves (length cut)
    → IsReplicaOf c.group c.me replica (taken_at before took) (known_at before took)
    (past_after c.group before took at_tick bodies) (said_before before ++ bodies)
    → replica.knowledge.run ≡ kept.replica.knowledge.run
    → ((n : ℕ) → n < clients_of kept.points →
    slice_index replica.vouchers.counts n ≡ length (slice_index_or kept.points.lists n []))
    → HasSpoken c (record kept { replica = replica; leaves = kept.leaves - used }) before took at_tick
spoken_so c kept replica used before took at_tick bodies cut r due e many is_replica same counts = record {
  is_replica = r.is_replica;
  keeps = record {
    counted = said_before before ++ bodies;
    answered = answered_in before ++ answered_by took bodies;
    is_replica = is_replica;
    all = λ some. ap (λ (bs : List Body). said_before before ++ bs)
        (whole (subst (λ n. 0 < kept.leaves - n) many some) ∙ sym e ∙ says);
    all_answered = λ some. ap (λ (bs : List Body). answered_in before ++ answered_by took bs)
        (whole (subst (λ n. 0 < kept.leaves - n) many some) ∙ sym e ∙ says);
  };
  caught = subst (λ (run : Ran). IsRunOf c.group run (certified_requests c.group (known_at before took))
      (ordered_run c.group (facts_of c.group (known_at before took)))) (sym same) r.caught;
  points = r.points;
  vouchers = λ n less. let just : slice_index replica.vouchers.counts n ≡ length
      (slice_index_or kept.points.lists n []) = counts n less in omega arith;
  unheard = r.unheard;
  leaves = ap (λ n. kept.leaves - n) (many ∙ ap (λ (bs : List Body). leaves_for kept.shared_leaves (length bs)) says
      ∙ ap (λ b. leaves_for b (length (says_at c before took at_tick))) r.shared)
      ∙ ap (λ n. n - leaves_for c.shared_leaves (length (says_at c before took at_tick))) r.leaves;
  shared = r.shared;
}
  where
    says : cut ≡ says_at c before took at_tick
    says = cut_so c kept before took at_tick bodies cut r due e

    whole : 0 < kept.leaves - leaves_for kept.shared_leaves (length cut) →
        bodies ≡ take (room_of kept.shared_leaves kept.leaves) bodies
    whole some = uncut kept.shared_leaves kept.leaves bodies
        (subst (λ (bs : List Body). 0 < kept.leaves - leaves_for kept.shared_leaves (length bs)) e some)

is_said : (c : Charge) (before : List Heard) (took : Option (Signed Body)) (at_tick : Bool)
    (frames : List (Signed Body)) → AreItsFrames c before took at_tick frames
    → IsSaid c.group c.orders c.me before took at_tick (room_of c.shared_leaves (leaves_left c before)) frames
unfolding says_at
is_said c before took at_tick frames own = record { own = own.own; words = own.words }

-- The frames that a master is handed are those of what it just said.
pub handed_so : (c : Charge) (kept : Running) (before : List Heard) (took : Option (Signed Body)) (at_tick : Bool)
    (frames : List (Signed Body)) → HasSpoken c kept before took at_tick → AreItsFrames c before took at_tick frames
    → IsRunning c (record kept { unheard = frames })
    (before ++ record { took = took; is_tick = at_tick; said = frames } ∷ [])
handed_so c kept before took at_tick frames h own = record {
  sizes = h.is_replica.sizes;
  master = h.is_replica.master;
  ticks = subst (λ n. n ≤ 2 ^ 32) (sym (filter_more (λ (e : Heard). e.is_tick) before event)) h.is_replica.ticks;
  keeps = record {
    counted = h.keeps.counted;
    answered = h.keeps.answered;
    is_replica = subst (λ (past : Past). IsReplicaOf c.group c.me kept.replica (taken_by (before ++ event ∷ []))
        (known_of (before ++ event ∷ [])) past h.keeps.counted)
        (past_said c.group before took at_tick frames h.keeps.answered)
        (subst (λ (known : List (Signed Body)). IsReplicaOf c.group c.me kept.replica
        (taken_by (before ++ event ∷ [])) known
        (record (past_at c.group before took at_tick) { answered = h.keeps.answered }) h.keeps.counted)
        (sym known_is)
        (subst (λ (taken : List (Signed Body)). IsReplicaOf c.group c.me kept.replica taken (known_at before took)
        (record (past_at c.group before took at_tick) { answered = h.keeps.answered }) h.keeps.counted)
        (sym (taken_more before event)) h.keeps.is_replica));
    all = λ some. h.keeps.all some ∙ ap (λ (bs : List Body). said_before before ++ bs) (sym own.words)
        ∙ sym (said_more before event);
    all_answered = λ some. h.keeps.all_answered some
        ∙ ap (λ (bs : List Body). answered_in before ++ answered_by took bs) (sym own.words)
        ∙ sym (answered_more before event);
  };
  caught = subst (λ (known : List (Signed Body)). IsCaughtUp c.group kept.replica.knowledge known)
      (sym known_is) h.caught;
  points = subst (λ (known : List (Signed Body)). HoldsPlant c known kept.points) (sym known_is) h.points;
  vouchers = h.vouchers;
  unheard = ap (λ (xs : List (Signed Body)). xs ++ flat_map parts frames) known_is ∙ sym (learned_more before event);
  placed = ap (list_all (in_place c.group)) (learned_more before event) ∙ list_all-append (in_place c.group)
      (known_at before took) (flat_map parts frames)
      ∙ and_from _ _ h.is_replica.placed (frames_placed);
  leaves = h.leaves ∙ left;
  shared = h.shared;
}
  where
    event : Heard
    event = record { took = took; is_tick = at_tick; said = frames }

    known_is : known_of (before ++ event ∷ []) ≡ known_at before took
    known_is = known_of_last before event

    frames_placed : list_all (in_place c.group) (flat_map parts frames) ≡ true
    frames_placed = own_parts_are_in_place c.group c.orders c.me before took at_tick h.is_replica
        (room_of c.shared_leaves (leaves_left c before)) frames (is_said c before took at_tick frames own)

    many : length frames ≡ length (says_at c before took at_tick)
    many = sym (length-map frames (λ (f : Signed Body). f.body)) ∙ ap length own.words

    left : leaves_left c before - leaves_for c.shared_leaves (length (says_at c before took at_tick)) ≡ leaves_left c
        (before ++ event ∷ [])
    left =
        let used = used_more c.shared_leaves before event in
        ap (λ n. leaves_left c before - leaves_for c.shared_leaves n) (sym many) ∙ minus_more c.leaves _ _
        ∙ ap (λ n. c.leaves - n) (sym used)
