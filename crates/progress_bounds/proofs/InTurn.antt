-- Each request that a correct master acknowledged has its turn with it, now and from then on.
use Rattle.std.proofs.Common.{◌||◌, ◌≡◌, ℕ, ◌+◌, ◌-◌, ◌<◌, Bool, true, false, cond, ◌&&◌, List, [], ◌∷◌, ◌++◌, Option, Some, None, map, take}
use Rattle.std.proofs.Common.{nat_eq, nat_lt, refl, sym, ◌∙◌, ap, subst, inl, inr, arith, eqb-true, filter}
use Rattle.std.proofs.lemmas.Bool.{false≢true, and_parts, ltb-true, or_cases}
use Rattle.std.proofs.lemmas.List.Elements.{filter_map-append}
use Rattle.std.proofs.lemmas.List.Folds.{list_any-append}
use Rattle.std.specs.Prelude.{is_some}
use Rattle.std.specs.List.{list_all, list_any, find, filter_map, flat_map, cons_option}
use Rattle.std.specs.Option.{option_to_list}
use Rattle.plain_lists.specs.Lists.{IsIn, Begins}
use Rattle.plain_lists.proofs.Members.{none_in, in_cons_cases, in_cases, in_take, in_filter, in_flat_map_from, any_from, any_in, find_some}
use Rattle.plain_lists.proofs.Members.{none_some}
use Rattle.plain_lists.proofs.Lists.{all_weaker}
use Rattle.message_types.specs.declared.signed.Signed.{Signed}
use Rattle.message_types.specs.declared.updates.Update.{Update}
use Rattle.message_types.specs.declared.body.Body.{Body}
use Rattle.message_types.specs.declared.body.Body.TheVariants as body
use Rattle.message_types.specs.Digests.{digest_of_update}
use Rattle.message_types.specs.Kinds.{kind_number}
use Rattle.quorum_sets.specs.Masters.{numbers_below}
use Rattle.protocol_rules.specs.Words.{first_of_list, greatest_of, numbers_from}
use Rattle.protocol_rules.specs.Group.{Group, is_live, is_door, most_number}
use Rattle.protocol_rules.specs.Preorder.{update_requested, updates_requested, vector, acks, ack_due}
use Rattle.protocol_rules.specs.Turns.{first_requested, number_for, has_turn, acks_in_turn_due, acks_again_due, is_slow_beat}
use Rattle.protocol_rules.specs.Turns.{requests_in_turn_due, request_again_due}
use Rattle.protocol_rules.specs.Master.{Heard, known_at, taken_at, said_before, executed}
use Rattle.history_rules.specs.Events.{Entry}
use Rattle.history_rules.specs.Setup.{Setup, is_correct_master}
use Rattle.history_rules.specs.Legal.{IsLegal, heard, known_of}
use Rattle.agreement.proofs.VouchedIsOrdered.{known_of_last, known_of_grows}
use Rattle.words_by_part.specs.Kinds.{is_of, preordering}
use Rattle.words_by_part.proofs.SaidAlive.{requests_in_turn_kind}
use Rattle.progress_bounds.specs.Bounds.{ticks_in}
use Rattle.progress_bounds.proofs.Events.{by_events}
use Rattle.progress_bounds.proofs.Counting.{one}
use Rattle.progress_bounds.proofs.Rates.{due, by_part, said_more}
use Rattle.progress_bounds.proofs.Again.{ack_is}

-- Request (j, k) has its turn: what it is for, and how its update's number rises above those of the requests before.
pub record Turned (g : Group) (known : List (Signed Body)) (j k : ℕ) : Type 0 where
  pub update : Update
  pub first : first_requested known j k ≡ Some update
  pub client : update.client < g.clients
  pub serves : is_door g update.client j ≡ true
  pub before : list_all (λ i. is_some (first_requested known j i)) (numbers_from 1 (k - 1)) ≡ true
  pub rises : greatest_of (filter_map (number_for known update.client j) (numbers_from 1 (k - 1))) < update.t

turned_from : (g : Group) (known : List (Signed Body)) (j k : ℕ) → has_turn g known j k ≡ true → Turned g known j k
turned_from g known j k e = by (first_requested known j k) refl e
  where
    by : (o : Option Update) → first_requested known j k ≡ o → (elim o [
      | None ↦ false
      | Some u ↦ nat_lt u.client g.clients && is_door g u.client j
          && list_all (λ i. is_some (first_requested known j i)) (numbers_from 1 (k - 1))
          && nat_lt (greatest_of (filter_map (number_for known u.client j) (numbers_from 1 (k - 1)))) u.t
    ]) ≡ true → Turned g known j k
    by None is h = absurd (false≢true h)
    by (Some u) is h =
        let rises = and_parts (nat_lt u.client g.clients && is_door g u.client j
        && list_all (λ i. is_some (first_requested known j i)) (numbers_from 1 (k - 1)))
        (nat_lt (greatest_of (filter_map (number_for known u.client j) (numbers_from 1 (k - 1)))) u.t) h in
        let before = and_parts (nat_lt u.client g.clients && is_door g u.client j)
        (list_all (λ i. is_some (first_requested known j i)) (numbers_from 1 (k - 1))) rises.0 in
        let serves = and_parts (nat_lt u.client g.clients) (is_door g u.client j) before.0 in
        record {
          update = u;
          first = is;
          client = ltb-true u.client g.clients serves.0;
          serves = serves.1;
          before = before.1;
          rises = ltb-true (greatest_of (filter_map (number_for known u.client j) (numbers_from 1 (k - 1)))) u.t rises.1;
        }

-- what was requested first stays so, where more is known
first_stays : (known more : List (Signed Body)) (j k : ℕ) (u : Update) → first_requested known j k ≡ Some u →
    first_requested (known ++ more) j k ≡ Some u
first_stays known more j k u e = ap first_of_list (filter_map-append (update_requested j k) known more)
    ∙ by (updates_requested known j k) e
  where
    by : (us : List Update) → first_of_list us ≡ Some u → first_of_list (us ++ updates_requested more j k) ≡ Some u
    by [] e = absurd (none_some e)
    by (x ∷ us) e = e

some_at : (o : Option Update) → is_some o ≡ true → (u : Update) × (o ≡ Some u)
some_at None e = absurd (false≢true e)
some_at (Some u) e = (u, refl)

-- so the numbers stay that they are for
numbers_stay : (known more : List (Signed Body)) (c j : ℕ) (ks : List ℕ) →
    list_all (λ i. is_some (first_requested known j i)) ks ≡ true
    → filter_map (number_for (known ++ more) c j) ks ≡ filter_map (number_for known c j) ks
numbers_stay known more c j [] all = refl
numbers_stay known more c j (k ∷ ks) all =
    let both = and_parts (is_some (first_requested known j k))
    (list_all (λ i. is_some (first_requested known j i)) ks) all in
    let u = some_at (first_requested known j k) both.0 in
    let same : number_for (known ++ more) c j k ≡ number_for known c j k =
    ap number_of (first_stays known more j k u.0 u.1 ∙ sym u.1) in
    let rest = numbers_stay known more c j ks both.1 in
    λ i. cons_option (same i) (rest i)
  where
    number_of : Option Update → Option ℕ
    number_of o = elim o [ None ↦ None | Some u ↦ cond (nat_eq u.client c) (Some u.t) None ]

turned_more : (g : Group) (known more : List (Signed Body)) (j k : ℕ) → Turned g known j k → Turned g (known ++ more) j k
turned_more g known more j k t = record {
  update = t.update;
  first = first_stays known more j k t.update t.first;
  client = t.client;
  serves = t.serves;
  before = all_weaker (λ i. is_some (first_requested known j i)) (λ i. is_some (first_requested (known ++ more) j i))
      (numbers_from 1 (k - 1)) (λ i is.
      let u = some_at (first_requested known j i) is in ap is_some (first_stays known more j i u.0 u.1)) t.before;
  rises = subst (λ (ns : List ℕ). greatest_of ns < t.update.t)
      (sym (numbers_stay known more t.update.client j (numbers_from 1 (k - 1)) t.before)) t.rises;
}

turned_later : (g : Group) (known more : List (Signed Body)) (j k : ℕ) → Begins known more → Turned g known j k →
    Turned g more j k
turned_later g known more j k b t = subst (λ (ps : List (Signed Body)). Turned g ps j k) (sym b.same)
    (turned_more g known b.rest j k t)

-- an acknowledgement that is due in turn is of the request that has its turn
ack_names : (known : List (Signed Body)) (said : List Body) (i l j k : ℕ) (b : Body) → IsIn b (ack_due known said i l) →
    acks j k b ≡ true → (i ≡ j) × (l ≡ k)
ack_names known said i l j k b h is = unsaid (list_any (acks i l) said) h
  where
    named : (us : List Update) →
        IsIn b (elim us [ [] ↦ [] | u ∷ _ ↦ body.PoAck record { j = i; k = l; digest = digest_of_update u } ∷ [] ])
        → (i ≡ j) × (l ≡ k)
    named [] h = absurd (none_in h)
    named (u ∷ us) h = elim (in_cons_cases h) [
      | inl same ↦
          let both = and_parts (nat_eq i j) (nat_eq l k) (ap (acks j k) (sym same) ∙ is) in
          (eqb-true i j both.0, eqb-true l k both.1)
      | inr none ↦ absurd (none_in none)
    ]

    unsaid : (t : Bool) → IsIn b (cond t []
        (elim (updates_requested known i l)
        [ [] ↦ [] | u ∷ _ ↦ body.PoAck record { j = i; k = l; digest = digest_of_update u } ∷ [] ])) → (i ≡ j) × (l ≡ k)
    unsaid true h = absurd (none_in h)
    unsaid false h = named (updates_requested known i l) h

in_turn_turned : (g : Group) (known : List (Signed Body)) (said : List Body) (j k : ℕ) (b : Body) →
    IsIn b (acks_in_turn_due g known said) → acks j k b ≡ true → Turned g known j k
in_turn_turned g known said j k b h is =
    let outer = in_flat_map_from (λ i. flat_map (λ l. cond (has_turn g known i l) (ack_due known said i l) [])
    (numbers_from 1 most_number)) (numbers_below g.n) h in
    let inner = in_flat_map_from (λ l. cond (has_turn g known outer.0 l) (ack_due known said outer.0 l) [])
    (numbers_from 1 most_number) outer.2 in
    by outer.0 inner.0 (has_turn g known outer.0 inner.0) refl inner.2
  where
    by : (i l : ℕ) (t : Bool) → has_turn g known i l ≡ t → IsIn b (cond t (ack_due known said i l) []) → Turned g known j k
    by i l true e h =
        let names = ack_names known said i l j k b h is in
        subst (λ (x : ℕ). Turned g known x k) names.0
        (subst (λ (y : ℕ). Turned g known i y) names.1 (turned_from g known i l e))
    by i l false e h = absurd (none_in h)

-- what is said again was said
again_said : (g : Group) (known : List (Signed Body)) (said : List Body) (now : ℕ) (at_tick : Bool) (b : Body) →
    IsIn b (acks_again_due g known said now at_tick) → IsIn b said
again_said g known said now at_tick b h = by (at_tick && is_slow_beat now) h
  where
    found : (o : Option Body) → ((x : Body) → o ≡ Some x → IsIn x said) → IsIn b (option_to_list o) → IsIn b said
    found None is h = absurd (none_in h)
    found (Some x) is h = elim (in_cons_cases h) [
      | inl same ↦ subst (λ (y : Body). IsIn y said) (sym same) (is x refl)
      | inr none ↦ absurd (none_in none)
    ]

    by : (t : Bool) → IsIn b (cond t
        (flat_map (λ j. option_to_list (find (acks j (vector g known j + 1)) said)) (numbers_below g.n)) []) → IsIn b said
    by true h =
        let at = in_flat_map_from (λ j. option_to_list (find (acks j (vector g known j + 1)) said)) (numbers_below g.n) h in
        found (find (acks at.0 (vector g known at.0 + 1)) said)
        (λ x e. (find_some (acks at.0 (vector g known at.0 + 1)) said e).0) at.2
    by false h = absurd (none_in h)

module _ (w : Setup) (m : ℕ) (live : is_live w.group ≡ true) (correct : is_correct_master w m ≡ true) where
  -- all that was acknowledged has its turn
  abbrev pub AllTurned : List Heard → Type 0
  AllTurned hs = (j k : ℕ) → list_any (acks j k) (said_before hs) ≡ true → Turned w.group (known_of hs) j k

  step : (before : List Heard) (h : Heard) (r : ℕ) → AllTurned before
      → map (λ f. f.body) h.said ≡ take r (due w m live correct before h.took h.is_tick) → AllTurned (before ++ h ∷ [])
  step before h r was said j k acked = elim (or_cases (list_any (acks j k) (said_before before))
      (list_any (acks j k) (map (λ f. f.body) h.said)) split) [
        | inl earlier ↦ grown (was j k earlier)
        | inr now ↦
            let found = any_from (acks j k) (map (λ (f : Signed Body). f.body) h.said) now in
            let told : IsIn found.0 (due w m live correct before h.took h.is_tick) =
            in_take r (due w m live correct before h.took h.is_tick)
            (subst (λ (bs : List Body). IsIn found.0 bs) said found.1) in
            at_event found.0 found.2 told
      ]
    where
      split : (list_any (acks j k) (said_before before) || list_any (acks j k) (map (λ (f : Signed Body). f.body) h.said)) ≡ true
      split = sym (ap (list_any (acks j k)) (said_more before h)
          ∙ list_any-append (acks j k) (said_before before) (map (λ (f : Signed Body). f.body) h.said)) ∙ acked

      grown : Turned w.group (known_of before) j k → Turned w.group (known_of (before ++ h ∷ [])) j k
      grown t = turned_later w.group (known_of before) (known_of (before ++ h ∷ [])) j k (known_of_grows before (h ∷ [])) t

      at_event : (b : Body) → acks j k b ≡ true → IsIn b (due w m live correct before h.took h.is_tick) →
          Turned w.group (known_of (before ++ h ∷ [])) j k
      at_event b is h_in =
          let known : List (Signed Body) = known_at before h.took in
          let now : ℕ = ticks_in before + one h.is_tick in
          let so_far : List Body = said_before before in
          let kept : IsIn b (filter (is_of preordering) (due w m live correct before h.took h.is_tick)) =
          in_filter (is_of preordering) h_in (ap (λ x. list_any (nat_eq x) preordering) (ack_is j k b is)) in
          let parted = subst (λ (bs : List Body). IsIn b bs) (by_part w m live correct before h.took h.is_tick).requests kept in
          elim (in_cases (requests_in_turn_due w.group m (taken_at before h.took) (executed w.group known) so_far
          (numbers_below w.group.clients) ++ request_again_due w.group m known so_far now h.is_tick) parted) [
            | inl request ↦
                let two : kind_number b ≡ 2 = requests_in_turn_kind w.group m (taken_at before h.took) (executed w.group known) known so_far
                (numbers_below w.group.clients) now h.is_tick b request in
                let three : kind_number b ≡ 3 = ack_is j k b is in
                absurd (omega arith)
            | inr ack ↦ elim (in_cases (acks_in_turn_due w.group known so_far) ack) [
              | inl turn ↦ subst (λ (ps : List (Signed Body)). Turned w.group ps j k) (sym (known_of_last before h))
                  (in_turn_turned w.group known so_far j k b turn is)
              | inr again ↦ grown (was j k (any_in (acks j k)
                  (again_said w.group known so_far now h.is_tick b again) is))
            ]
          ]

  pub acked_turned : (history : List Entry) → IsLegal w history → AllTurned (heard w history m)
  acked_turned history legal = by_events w m AllTurned correct (λ j k acked. absurd (false≢true acked)) step history legal
