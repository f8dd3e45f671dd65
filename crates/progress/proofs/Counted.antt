-- What a connected door introduced for a client comes in turn wherever it is executed. Its number is one more than the greatest
-- of two: the last update that the door introduced, whose request is lower and so stands before it; and as many as were
-- executed there. These stand before it too, since what was executed at the door stops at what isn't certified there, and
-- a request that it says for the first time isn't.
use Rattle.std.proofs.Common.{◌≡◌, ℕ, ◌+◌, ◌<◌, ◌≤◌, zero, suc, true, false, List, [], ◌∷◌, ◌++◌, Option, Some, None}
use Rattle.std.proofs.Common.{max, refl, sym, ◌∙◌, ap, subst, inl, inr, ◌⊎◌, arith, append_assoc}
use Rattle.std.proofs.lemmas.Bool.{cases_lt}
use Rattle.std.proofs.lemmas.List.Elements.{filter_map-append}
use Rattle.std.specs.List.{filter_map, cons_option}
use Rattle.plain_lists.specs.Lists.{IsIn, Begins}
use Rattle.plain_lists.proofs.Members.{none_in, in_cases, in_left, in_right, in_first, in_filter_map_from}
use Rattle.quorum_sets.specs.Masters.{numbers_below}
use Rattle.message_types.specs.declared.signed.Signed.{Signed}
use Rattle.message_types.specs.declared.updates.Update.{Update}
use Rattle.message_types.specs.declared.preordering.PoRequest.{PoRequest}
use Rattle.message_types.specs.declared.body.Body.{Body}
use Rattle.message_types.specs.declared.body.Body.TheVariants as body
use Rattle.protocol_rules.specs.Group.{Group, is_live}
use Rattle.protocol_rules.specs.Facts.{facts_of}
use Rattle.protocol_rules.specs.Preorder.{update_requested}
use Rattle.protocol_rules.specs.Order.{ordered_run}
use Rattle.protocol_rules.specs.Execution.{Request, eligible_requests, first_missing, certified_run, updates_of, kept_after, executed_of}
use Rattle.protocol_rules.specs.Turns.{last_request, last_introduced, requests_in_turn_due, next_in_turn}
use Rattle.protocol_rules.specs.Master.{taken_at, said_before, certified_requests, executed}
use Rattle.history_rules.specs.Events.{Entry, frame_taken, is_silent}
use Rattle.history_rules.specs.Setup.{Setup, is_correct, is_correct_master, room, own}
use Rattle.history_rules.specs.Legal.{Stands, IsLegal, heard}
use Rattle.history_rules.specs.Audit.{HasSaid, NothingForged}
use Rattle.agreement.specs.Laws.{IsSound, known_by}
use Rattle.agreement.proofs.Places.{stands_on, said_whole, legal_before, unforged_before}
use Rattle.agreement.proofs.KnownAsItGrows.{known_then, known_then_from, known_learned, known_of_within, correct_said, said_earlier}
use Rattle.agreement.proofs.LearnedWasSaid.{FirstSaid, first_said_before, learned_said}
use Rattle.agreement.proofs.RequestsAgree.{certified_from, certified_same}
use Rattle.agreement.proofs.ExecutedInTurn.{eligible-append}
use Rattle.progress.proofs.Saying.{all_is_said, said_by_part}
use Rattle.progress.proofs.Requesting.{FirstRequest, first_request, in_turn_above, in_turn_at, request_same, said_below}
use Rattle.progress.proofs.Certifying.{correct_too, one_update, below_group, requested_from}
use Rattle.progress.proofs.Turning.{Follows, next_follows, client_of, number_of}
use Rattle.progress.proofs.Turned.{turn_said}
use Rattle.progress.proofs.Reaching.{request_number}
use Rattle.progress.proofs.Introducing.{introduced_in}
use Rattle.progress.proofs.Proposed.{said_begun}
use Rattle.progress.proofs.Settled.{sound_before}
use Rattle.progress.proofs.Ordered.{begins_through}
use Rattle.progress.proofs.InOrder.{append_place, placed, request, eligible_lower}
use Rattle.progress.proofs.InOrder.{run_whole, run_begins, run_stops, missing_left, certified_at, kept_count_more, kept_then}

-- what was said by the turn of a request that has its turn
record TurnAt (g : Group) (me : ℕ) (taken : List (Signed Body)) (done : List Update) (said : List Body) (clients : List ℕ)
    (r : PoRequest) : Type 0 where
  so_far : List Body
  follows : Follows g me taken done so_far (client_of r) r
  from : (q : PoRequest) → IsIn (body.PoRequest q) so_far → IsIn (body.PoRequest q) said
      ⊎ IsIn (body.PoRequest q) (requests_in_turn_due g me taken done said clients)

turn_at : (g : Group) (me : ℕ) (taken : List (Signed Body)) (done : List Update) (said : List Body) (clients : List ℕ)
    (r : PoRequest) → IsIn (body.PoRequest r) (requests_in_turn_due g me taken done said clients) →
    TurnAt g me taken done said clients r
turn_at g me taken done said [] r h = absurd (none_in h)
turn_at g me taken done said (c ∷ clients) r h = elim (in_cases (next_in_turn g me taken done said c) h) [
  | inl first ↦
      let follows : Follows g me taken done said c r = next_follows g me taken done said c r first in
      record {
        so_far = said;
        follows = subst (λ (x : ℕ). Follows g me taken done said x r) (sym follows.by) follows;
        from = λ q i. inl i;
      }
  | inr later ↦
      let rest : TurnAt g me taken done (said ++ next_in_turn g me taken done said c) clients r =
      turn_at g me taken done (said ++ next_in_turn g me taken done said c) clients r later in
      record {
        so_far = rest.so_far;
        follows = rest.follows;
        from = λ q i. elim (rest.from q i) [
          | inl before ↦ elim (in_cases said before) [ inl earlier ↦ inl earlier | inr now ↦ inr (in_left _ now) ]
          | inr due ↦ inr (in_right (next_in_turn g me taken done said c) due)
        ];
      }
]

pub map_begins : (d : Request → Option Update) {xs ys : List Request} → Begins xs ys → Begins (filter_map d xs) (filter_map d ys)
map_begins d {xs} b = record {
  rest = filter_map d b.rest;
  same = ap (filter_map d) b.same ∙ filter_map-append d xs b.rest;
}

-- what is executed where all is certified
pub executed_as : (g : Group) (d : Request → Option Update) (runs : List (List (List ℕ))) →
    first_missing d (eligible_requests g [] runs) ≡ None →
    executed_of g d runs ≡ kept_after [] (filter_map d (eligible_requests g [] runs))
unfolding executed_of
executed_as g d runs none = ap (kept_after []) (run_whole d (eligible_requests g [] runs) none)

pub executed_is : (g : Group) (known : List (Signed Body)) → executed g known ≡ executed_of g (certified_requests g known)
    (ordered_run g (facts_of g known))
unfolding executed
executed_is g known = refl

executed_run : (g : Group) (known : List (Signed Body)) → executed g known ≡ kept_after [] (certified_run
    (certified_requests g known) (eligible_requests g [] (ordered_run g (facts_of g known))))
unfolding executed executed_of
executed_run g known = refl

module _ (w : Setup) (base whole : List Entry) (live : is_live w.group ≡ true) (sound : IsSound w whole)
    (begun : Begins base whole) (door : ℕ) (right : is_correct_master w door ≡ true) (left : 1 ≤ room w (own base door))
    (m : ℕ) (correct : is_correct_master w m ≡ true)
    (runs_then : (before : List Entry) (e : Entry) → Stands base before e → e.actor ≡ door → is_silent e.event ≡ false →
    Begins (ordered_run w.group (facts_of w.group (known_then w before door e)))
    (ordered_run w.group (facts_of w.group (known_by w whole m))))
    (none : first_missing (certified_requests w.group (known_by w whole m)) (eligible_requests w.group []
    (ordered_run w.group (facts_of w.group (known_by w whole m)))) ≡ None) where
  abbrev d : Request → Option Update
  d = certified_requests w.group (known_by w whole m)

  abbrev runs : List (List (List ℕ))
  runs = ordered_run w.group (facts_of w.group (known_by w whole m))

  abbrev requests : List Request
  requests = eligible_requests w.group [] (ordered_run w.group (facts_of w.group (known_by w whole m)))

  sound_base : IsSound w base
  sound_base = sound_before w base begun.rest (subst (λ (xs : List Entry). IsSound w xs) begun.same sound)

  -- the update certified for a request that the door said is that request's
  only_one : (r : PoRequest) → HasSaid base door (body.PoRequest r) → (y : Update) → d (request door r.k) ≡ Some y →
      y ≡ r.update.body
  only_one r said y e =
      let from = certified_from w.group (known_by w whole m) door r.k y e in
      one_update w whole m door r live sound.legal sound.unforged correct right (said_begun begun said) from.0
      (λ p h. known_of_within (heard w whole m) p (from.1 p h)) y from.2

  module _ (r : PoRequest) (said : HasSaid base door (body.PoRequest r)) where
    first : FirstRequest w base door r
    first = first_request w door r live right base sound_base.legal said

    -- where the door says it first it has said no request of its number
    not_before : (f : FirstRequest w base door r) (q : PoRequest) → q.k ≡ r.k → HasSaid f.before door (body.PoRequest q) → ⊥
    not_before f q equal was =
        let legal_then : IsLegal w f.before = legal_before w f.before (f.entry ∷ f.place.after)
        (subst (λ (xs : List Entry). IsLegal w xs) f.place.whole sound_base.legal) in
        let among : IsIn (body.PoRequest q) (said_before (heard w f.before door)) = said_earlier w door
        (body.PoRequest q) was.place was.by (correct_said w door (body.PoRequest q) legal_then was.place was.by right was.among).0
        was.among in
        let low : q.k ≤ last_request (said_before (heard w f.before door)) = said_below q
        (said_before (heard w f.before door)) among in
        let above = in_turn_above w.group door (taken_at (heard w f.before door) (frame_taken f.entry.event))
        (executed w.group (known_then w f.before door f.entry)) (said_before (heard w f.before door))
        (numbers_below w.group.clients) (body.PoRequest r) f.turn in
        let high : last_request (said_before (heard w f.before door)) < above.0.k = above.2 in
        let same : above.0.k ≡ r.k = ap (λ (x : PoRequest). x.k) (sym (request_same above.1)) in
        omega (arith, low, high, same, equal)

    -- so it isn't certified there
    uncertified : (f : FirstRequest w base door r) (o : Option Update) →
        certified_requests w.group (known_then w f.before door f.entry) (request door r.k) ≡ o → o ≡ None
    uncertified f None e = refl
    uncertified f (Some y) e =
        let from = certified_from w.group (known_then w f.before door f.entry) door r.k y e in
        let found = in_filter_map_from (update_requested door r.k) from.0 from.2 in
        let is = requested_from door r.k found.0.signer found.0.body found.0.sig y found.2 in
        let signed : is_correct w found.0.signer ≡ true = subst (λ (i : ℕ). is_correct w i ≡ true) (sym is.2)
        (correct_too w door right) in
        let was : HasSaid f.before found.0.signer found.0.body = elim (known_then_from w f.before door f.entry found.0
        (from.1 found.0 found.1)) [
          | inl earlier ↦ learned_said w door f.before (legal_before w f.before (f.entry ∷ f.place.after)
              (subst (λ (xs : List Entry). IsLegal w xs) f.place.whole sound_base.legal))
              (unforged_before w f.before (f.entry ∷ f.place.after) (subst (λ (xs : List Entry). NothingForged w xs) f.place.whole
              sound_base.unforged)) right found.0 earlier signed
          | inr taken ↦ sound_base.unforged.said f.before f.entry f.place found.0 taken signed
        ] in
        absurd (not_before f is.0 is.3 (subst (λ (b : Body). HasSaid f.before door b) is.1
        (subst (λ (i : ℕ). HasSaid f.before i found.0.body) is.2 was)))

    -- all that the door had executed then stands before it
    executed_before : (f : FirstRequest w base door r) (c : ℕ) (before rest : List Request) →
        requests ≡ before ++ request door r.k ∷ rest
        → updates_of c (executed w.group (known_then w f.before door f.entry)) ≤ updates_of c (kept_after [] (filter_map d before))
    executed_before f c before rest e =
        let known : List (Signed Body) = known_then w f.before door f.entry in
        let own_certified : Request → Option Update = certified_requests w.group (known_then w f.before door f.entry) in
        let runs_f : List (List (List ℕ)) = ordered_run w.group (facts_of w.group (known_then w f.before door f.entry)) in
        let grown : Begins (ordered_run w.group (facts_of w.group (known_then w f.before door f.entry))) runs =
        runs_then f.before f.entry f.place f.by f.loud in
        let split : requests ≡ eligible_requests w.group [] runs_f ++ eligible_requests w.group runs_f grown.rest =
        ap (eligible_requests w.group []) grown.same ∙ eligible-append w.group [] runs_f grown.rest in
        let in_whole : Stands whole f.before f.entry = subst (λ (xs : List Entry). Stands xs f.before f.entry) (sym begun.same)
        (stands_on begun.rest f.place) in
        let alike : (x : Request) (a b : Update) → own_certified x ≡ Some a → d x ≡ Some b → a ≡ b = λ x a b one other.
        certified_same w whole sound door m right correct known (known_by w whole m) (known_learned w door in_whole f.by f.loud)
        (known_of_within (heard w whole m)) x.j x.k a b one other in
        let ahead : Begins (certified_run own_certified (eligible_requests w.group [] runs_f)) (filter_map d before) =
        elim (append_place (eligible_requests w.group [] runs_f) (eligible_requests w.group runs_f grown.rest) before rest
        (request door r.k) (sym split ∙ e)) [
          | inl found ↦ subst (λ (us : List Update). Begins us (filter_map d before))
              (sym (ap (certified_run own_certified) found.1
              ∙ run_stops own_certified before found.0 (request door r.k) (uncertified f (own_certified (request door r.k)) refl)))
              (run_begins own_certified d alike before (missing_left d before (request door r.k ∷ rest)
              (subst (λ (rs : List Request). first_missing d rs ≡ None) e none)))
          | inr behind ↦
              let first_ones : Begins (certified_run own_certified (eligible_requests w.group [] runs_f))
              (filter_map d (eligible_requests w.group [] runs_f)) = run_begins own_certified d alike
              (eligible_requests w.group [] runs_f) (missing_left d (eligible_requests w.group [] runs_f)
              (eligible_requests w.group runs_f grown.rest)
              (subst (λ (rs : List Request). first_missing d rs ≡ None) split none)) in
              begins_through first_ones (map_begins d record { rest = behind.0; same = behind.1 })
        ] in
        let more : updates_of c (kept_after [] (certified_run own_certified (eligible_requests w.group [] runs_f))) ≤
        updates_of c (kept_after [] (filter_map d before)) = kept_count_more c
        (certified_run own_certified (eligible_requests w.group [] runs_f)) (filter_map d before) ahead in
        let is : updates_of c (executed w.group known) ≡ updates_of c (kept_after [] (certified_run own_certified
        (eligible_requests w.group [] runs_f))) = ap (updates_of c) (executed_run w.group known) in
        omega (arith, more, is)

  -- a request among those by the turn of another was said by then
  so_far_said : (r : PoRequest) (f : FirstRequest w base door r) (q : PoRequest)
      → IsIn (body.PoRequest q) (said_before (heard w f.before door)) ⊎ IsIn (body.PoRequest q) (in_turn_at w f.before door f.entry)
      → HasSaid base door (body.PoRequest q)
  so_far_said r f q (inl before) =
      let legal_then : IsLegal w f.before = legal_before w f.before (f.entry ∷ f.place.after)
      (subst (λ (xs : List Entry). IsLegal w xs) f.place.whole sound_base.legal) in
      let was : FirstSaid w f.before door (body.PoRequest q) = first_said_before w door (body.PoRequest q) right f.before legal_then
      before in
      said_whole f.place was.said
  so_far_said r f q (inr now) = record {
    before = f.before;
    entry = f.entry;
    place = f.place;
    by = f.by;
    among = turn_said w f.before door f.entry (body.PoRequest q) (said_by_part w f.before door f.entry live
        (all_is_said w base f.before f.entry door sound_base.legal right left f.place f.by f.loud)) now;
  }

  -- As many of a client's updates are kept by a request of the door as its update's number says.
  pub counted : (bound : ℕ) (r : PoRequest) → HasSaid base door (body.PoRequest r) → r.k < bound →
      (before rest : List Request) → requests ≡ before ++ request door r.k ∷ rest
      → number_of r ≤ updates_of (client_of r) (kept_after [] (filter_map d (before ++ request door r.k ∷ [])))
  counted zero r said low before rest e = absurd (omega arith)
  counted (suc bound) r said low before rest e =
      let f : FirstRequest w base door r = first r said in
      let c : ℕ = client_of r in
      let turn : TurnAt w.group door (taken_at (heard w f.before door) (frame_taken f.entry.event))
      (executed w.group (known_then w f.before door f.entry)) (said_before (heard w f.before door))
      (numbers_below w.group.clients) r = turn_at w.group door (taken_at (heard w f.before door) (frame_taken f.entry.event))
      (executed w.group (known_then w f.before door f.entry)) (said_before (heard w f.before door))
      (numbers_below w.group.clients) r f.turn in
      let next : r.k ≡ last_request turn.so_far + 1 = turn.follows.next in
      let update : number_of r ≡ max (last_introduced turn.so_far (client_of r)) (updates_of (client_of r)
      (executed w.group (known_then w f.before door f.entry))) + 1 = turn.follows.update in
      let executed_low : updates_of (client_of r) (executed w.group (known_then w f.before door f.entry)) ≤
      updates_of (client_of r) (kept_after [] (filter_map d before)) = executed_before r said f (client_of r) before rest e in
      let introduced_low : last_introduced turn.so_far (client_of r) ≤ updates_of (client_of r)
      (kept_after [] (filter_map d before)) = elim (cases_lt 0 (last_introduced turn.so_far (client_of r))) [
        | inr nothing ↦ omega arith
        | inl some ↦ introduced_before r bound before rest e turn.so_far (λ q i. so_far_said r f q (turn.from q i))
            (omega (arith, next, low)) (omega (arith, next)) some (counted bound)
      ] in
      let y = certified_at d requests (request door r.k) none (subst (λ (rs : List Request). IsIn (request door r.k) rs) (sym e)
      (in_first before rest)) in
      let is : d (request door r.k) ≡ Some r.update.body = y.1 ∙ ap (λ (u : Update). Some u) (only_one r said y.0 y.1) in
      let split : filter_map d (before ++ request door r.k ∷ []) ≡ filter_map d before ++ r.update.body ∷ [] =
      filter_map-append d before (request door r.k ∷ []) ∙ ap (λ (o : Option Update). filter_map d before ++ cons_option o []) is in
      subst (λ (us : List Update). number_of r ≤ updates_of (client_of r) (kept_after [] us)) (sym split)
      (kept_then (filter_map d before) r.update.body (omega (arith, update, executed_low, introduced_low)))
    where
      introduced_before : (r : PoRequest) (bound : ℕ) (before rest : List Request) → requests ≡ before ++ request door r.k ∷ rest
          → (so_far : List Body) → ((q : PoRequest) → IsIn (body.PoRequest q) so_far → HasSaid base door (body.PoRequest q))
          → last_request so_far < bound → last_request so_far < r.k → 0 < last_introduced so_far (client_of r)
          → ((q : PoRequest) → HasSaid base door (body.PoRequest q) → q.k < bound → (first more : List Request) →
          requests ≡ first ++ request door q.k ∷ more
          → number_of q ≤ updates_of (client_of q) (kept_after [] (filter_map d (first ++ request door q.k ∷ []))))
          → last_introduced so_far (client_of r) ≤ updates_of (client_of r) (kept_after [] (filter_map d before))
      introduced_before r bound before rest e so_far was low less some deeper =
          let q = introduced_in so_far (client_of r) some in
          let below : q.0.k ≤ last_request so_far = said_below q.0 so_far q.1 in
          let said_q : HasSaid base door (body.PoRequest q.0) = was q.0 q.1 in
          let one : 1 ≤ q.0.k = (request_number w base door q.0 live sound_base.legal right said_q).0 in
          let stands = placed (eligible_lower w.group [] runs before rest door r.k q.0.k (below_group w door right) e one
          (omega (arith, below, less))) in
          let place : requests ≡ stands.0 ++ request door q.0.k ∷ (stands.1 ++ request door r.k ∷ rest) = e
          ∙ ap (λ (rs : List Request). rs ++ request door r.k ∷ rest) stands.2
          ∙ append_assoc stands.0 (request door q.0.k ∷ stands.1) (request door r.k ∷ rest) in
          let reached : number_of q.0 ≤ updates_of (client_of q.0) (kept_after [] (filter_map d
          (stands.0 ++ request door q.0.k ∷ []))) = deeper q.0 said_q (omega (arith, below, low)) stands.0
          (stands.1 ++ request door r.k ∷ rest) place in
          let more : updates_of (client_of q.0) (kept_after [] (filter_map d (stands.0 ++ request door q.0.k ∷ []))) ≤
          updates_of (client_of q.0) (kept_after [] (filter_map d before)) = kept_count_more (client_of q.0)
          (filter_map d (stands.0 ++ request door q.0.k ∷ [])) (filter_map d before) (map_begins d record {
            rest = stands.1;
            same = stands.2 ∙ sym (append_assoc stands.0 (request door q.0.k ∷ []) stands.1);
          }) in
          let number : number_of q.0 ≡ last_introduced so_far (client_of r) = q.3 in
          let for_c : updates_of (client_of q.0) (kept_after [] (filter_map d before)) ≡
          updates_of (client_of r) (kept_after [] (filter_map d before)) = ap (λ (x : ℕ). updates_of x
          (kept_after [] (filter_map d before))) q.2 in
          omega (arith, reached, more, number, for_c)
