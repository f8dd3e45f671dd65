-- Over a history: what a correct master said of requests is whole and rises, as long as it had a leaf left. So each of its
-- requests that another knows together with all before it has its turn there; after a round each connected master does.
use Rattle.std.proofs.Common.{◌≡◌, ℕ, ◌+◌, ◌-◌, ◌<◌, ◌≤◌, Bool, true, false, ◌&&◌, List, [], ◌∷◌, ◌++◌}
use Rattle.std.proofs.Common.{Option, Some, None, is_some, nat_lt, refl, sym, ◌∙◌, ap, subst, inl, inr, arith, cond, nat_eq, append_assoc, eqb-true, if◌then◌else◌}
use Rattle.std.proofs.lemmas.Bool.{and_from, lt-ltb, cases_eq, cases_Bool}
use Rattle.std.specs.List.{list_all, filter_map}
use Rattle.plain_lists.specs.Lists.{IsIn}
use Rattle.plain_lists.proofs.Members.{none_in, in_cases, in_left, in_right, in_filter_map, in_filter_from}
use Rattle.protocol_rules.proofs.FirstMet.{first_in, first_there}
use Rattle.quorum_sets.specs.Masters.{numbers_below}
use Rattle.message_types.specs.declared.signed.Signed.{Signed}
use Rattle.message_types.specs.declared.updates.Update.{Update}
use Rattle.message_types.specs.declared.preordering.PoRequest.{PoRequest}
use Rattle.message_types.specs.declared.body.Body.{Body}
use Rattle.message_types.specs.declared.body.Body.TheVariants as body
use Rattle.protocol_rules.specs.Words.{greatest_of, numbers_from}
use Rattle.protocol_rules.specs.Group.{Group, is_live, is_door}
use Rattle.protocol_rules.specs.Preorder.{update_requested, updates_requested}
use Rattle.protocol_rules.specs.Turns.{first_requested, number_for, has_turn}
use Rattle.protocol_rules.specs.Master.{taken_at, said_before, executed}
use Rattle.protocol_rules.proofs.Greatest.{or_zero}
use Rattle.protocol_rules.proofs.Numbers.{from_above, from_below}
use Rattle.history_rules.specs.Events.{Entry, frame_taken, is_silent}
use Rattle.history_rules.specs.Setup.{Setup, is_correct_master, room, own}
use Rattle.history_rules.specs.Legal.{Stands, IsLegal, heard}
use Rattle.history_rules.specs.Audit.{HasSaid, NothingForged}
use Rattle.history_rules.proofs.Entries.{all_from}
use Rattle.agreement.specs.Laws.{known_by}
use Rattle.agreement.proofs.Places.{by_growth, said_on, stands_on, stands_last, legal_before}
use Rattle.agreement.proofs.KnownAsItGrows.{heard_other, heard_silent}
use Rattle.agreement.proofs.KnownAsItGrows.{known_then, said_last, said_earlier, correct_said, known_of_within}
use Rattle.agreement.proofs.QuorumsMeet.{below_from}
use Rattle.agreement.proofs.LearnedWasSaid.{heard_none, FirstSaid, first_said_before}
use Rattle.agreement.proofs.QuorumsStay.{each_below}
use Rattle.words_by_part.specs.Kinds.{is_of, preordering}
use Rattle.progress.specs.Rounds.{AreConnected, IsRound}
use Rattle.progress.specs.Laws.{KnowsWord, TurnsInARound}
use Rattle.progress.proofs.Arriving.{words_arrive}
use Rattle.progress.proofs.Saying.{SaidByPart, all_is_said, said_by_part}
use Rattle.progress.proofs.Requesting.{in_turn_at, due_request, FirstRequest, first_request}
use Rattle.progress.proofs.Turning.{client_of, number_of, Whole, Rises, whole_due, rises_due, IsTurn, turn_is}
use Rattle.progress.proofs.Certifying.{one_update, is_requested, request_sent}

-- each request that has its turn at an entry is among what was said there
pub turn_said : (w : Setup) (before : List Entry) (m : ℕ) (e : Entry) (b : Body) → SaidByPart w before m e →
    IsIn b (in_turn_at w before m e) → IsIn b e.said
turn_said w before m e b parts h = (in_filter_from (is_of preordering) e.said
    (subst (λ (bs : List Body). IsIn b bs) (sym parts.requests) (in_left _ (in_left _ h)))).0

-- a property of the requests said, which goes over to others that have the same requests
abbrev pub SameRequests : List Body → List Body → Type 0
SameRequests xs ys = ((r : PoRequest) → IsIn (body.PoRequest r) xs → IsIn (body.PoRequest r) ys)
    × ((r : PoRequest) → IsIn (body.PoRequest r) ys → IsIn (body.PoRequest r) xs)

whole_same : (xs ys : List Body) → SameRequests xs ys → Whole xs → Whole ys
whole_same xs ys same whole r h i one less = let q = whole r (same.1 r h) i one less in (q.0, same.0 q.0 q.1, q.2)

rises_same : (xs ys : List Body) → SameRequests xs ys → Rises xs → Rises ys
rises_same xs ys same rises q r h i = rises q r (same.1 q h) (same.1 r i)

module _ (w : Setup) (history : List Entry) (m : ℕ) (live : is_live w.group ≡ true) (legal : IsLegal w history)
    (correct : is_correct_master w m ≡ true) (left : 1 ≤ room w (own history m)) where
  abbrev said_by : List Entry → List Body
  said_by before = said_before (heard w before m)

  -- what is said after an entry are the requests said before and those that had their turn at it
  pub requests_then : (before : List Entry) (e : Entry) → Stands history before e → e.actor ≡ m → is_silent e.event ≡ false →
      SameRequests (said_by before ++ in_turn_at w before m e) (said_by (before ++ e ∷ []))
  requests_then before e s by loud = (
    λ r h. elim (in_cases (said_by before) h) [
      | inl earlier ↦ kept r earlier
      | inr turn ↦ said_earlier w m (body.PoRequest r) (stands_last before e) by loud
          (turn_said w before m e (body.PoRequest r) parts turn)
    ],
    λ r h. elim (said_last w before e m (body.PoRequest r) h) [
      | inl earlier ↦ in_left (in_turn_at w before m e) earlier
      | inr now ↦ elim (due_request w before m e r live
          (correct_said w m (body.PoRequest r) legal s by correct now.1).1) [
            | inl turn ↦ in_right (said_by before) turn
            | inr again ↦ in_left (in_turn_at w before m e) again
          ]
    ],
  )
    where
      parts : SaidByPart w before m e
      parts = said_by_part w before m e live (all_is_said w history before e m legal correct left s by loud)

      legal_then : IsLegal w before
      legal_then = legal_before w before (e ∷ s.after) (subst (λ (xs : List Entry). IsLegal w xs) s.whole legal)

      kept : (r : PoRequest) → IsIn (body.PoRequest r) (said_by before) → IsIn (body.PoRequest r) (said_by (before ++ e ∷ []))
      kept r h =
          let first : FirstSaid w before m (body.PoRequest r) =
          first_said_before w m (body.PoRequest r) correct before legal_then h in
          said_earlier w m (body.PoRequest r) (stands_on (e ∷ []) first.said.place) first.said.by first.loud first.said.among

  abbrev IsGood : List Body → Type 0
  IsGood said = Whole said × Rises said

  good_none : (after : List Entry) → history ≡ [] ++ after → IsGood (said_by [])
  good_none after same = subst (λ hs. IsGood (said_before hs)) (sym (heard_none w m))
      (λ r h. absurd (none_in h), λ q r h. absurd (none_in h))

  good_next : (before : List Entry) (e : Entry) → ((after : List Entry) → history ≡ before ++ after → IsGood (said_by before))
      → (after : List Entry) → history ≡ (before ++ e ∷ []) ++ after → IsGood (said_by (before ++ e ∷ []))
  good_next before e so_far after same =
      let whole : history ≡ before ++ e ∷ after = same ∙ append_assoc before (e ∷ []) after in
      let s : Stands history before e = record { after = after; whole = whole } in
      let good : IsGood (said_by before) = so_far (e ∷ after) whole in
      elim (cases_eq e.actor m) [
        | inr other ↦ subst (λ hs. IsGood (said_before hs)) (sym (heard_other w before e m other)) good
        | inl by ↦ elim (cases_Bool (is_silent e.event)) [
          | inl silent ↦ subst (λ hs. IsGood (said_before hs)) (sym (heard_silent w before e m by silent)) good
          | inr loud ↦
              let requests = requests_then before e s by loud in (
                whole_same (said_by before ++ in_turn_at w before m e) (said_by (before ++ e ∷ [])) requests
                    (whole_due w.group m (taken_at (heard w before m) (frame_taken e.event))
                    (executed w.group (known_then w before m e)) (said_by before) (numbers_below w.group.clients) good.0),
                rises_same (said_by before ++ in_turn_at w before m e) (said_by (before ++ e ∷ [])) requests
                    (rises_due w.group m (taken_at (heard w before m) (frame_taken e.event))
                    (executed w.group (known_then w before m e)) (said_by before) (numbers_below w.group.clients) good.1),
              )
        ]
      ]

  -- what was said of requests in a beginning is whole and rises
  pub requests_good : (beginning after : List Entry) → history ≡ beginning ++ after → IsGood (said_by beginning)
  requests_good beginning = by_growth (λ (before : List Entry). (after : List Entry) → history ≡ before ++ after →
      IsGood (said_by before)) good_none good_next beginning

-- what a turn takes
turn_from : (g : Group) (known : List (Signed Body)) (j k : ℕ) (u : Update) → first_requested known j k ≡ Some u
    → nat_lt u.client g.clients ≡ true → is_door g u.client j ≡ true
    → list_all (λ i. is_some (first_requested known j i)) (numbers_from 1 (k - 1)) ≡ true
    → nat_lt (greatest_of (filter_map (number_for known u.client j) (numbers_from 1 (k - 1)))) u.t ≡ true
    → has_turn g known j k ≡ true
turn_from g known j k u first client serves all above = subst (λ (o : Option Update). (elim o [
  | None ↦ false
  | Some u ↦ nat_lt u.client g.clients && is_door g u.client j
      && list_all (λ i. is_some (first_requested known j i)) (numbers_from 1 (k - 1))
      && nat_lt (greatest_of (filter_map (number_for known u.client j) (numbers_from 1 (k - 1)))) u.t
]) ≡ true) (sym first)
    (and_from _ _ (and_from _ _ (and_from _ _ client serves) all) above)

-- a number known for a client is below another, where it is so of that client's
number_below : (known : List (Signed Body)) (c j i t : ℕ) (x : Update) → first_requested known j i ≡ Some x →
    (x.client ≡ c → x.t < t) → or_zero (number_for known c j i) ≤ t - 1
number_below known c j i t x first less = subst (λ (o : Option Update). or_zero (elim o [
  | None ↦ None
  | Some u ↦ if nat_eq u.client c then Some u.t else None
]) ≤ t - 1) (sym first) (by (nat_eq x.client c) refl)
  where
    by : (b : Bool) → nat_eq x.client c ≡ b → or_zero (cond b (Some x.t) None) ≤ t - 1
    by true e = let lower : x.t < t = less (eqb-true x.client c e) in omega arith
    by false e = omega arith

module _ (w : Setup) (connected : ℕ → Bool) (beginning round : List Entry) (live : is_live w.group ≡ true)
    (legal : IsLegal w (beginning ++ round)) (unforged : NothingForged w (beginning ++ round))
    (are : AreConnected w connected) (fair : IsRound w connected beginning round)
    (left : (m : ℕ) → connected m ≡ true → 1 ≤ room w (own (beginning ++ round) m))
    (j : ℕ) (is_j : connected j ≡ true) (m : ℕ) (is_m : connected m ≡ true) where
  abbrev known : List (Signed Body)
  known = known_by w (beginning ++ round) m

  legal_first : IsLegal w beginning
  legal_first = legal_before w beginning round legal

  -- each request that the door said is known as the first of its number
  first_is : (q : PoRequest) → IsIn (body.PoRequest q) (said_before (heard w beginning j)) →
      first_requested known j q.k ≡ Some q.update.body
  first_is q h =
      let first : FirstSaid w beginning j (body.PoRequest q) =
      first_said_before w j (body.PoRequest q) (are.correct j is_j) beginning legal_first h in
      let knows : KnowsWord known j (body.PoRequest q) = words_arrive w connected beginning round legal are fair j m is_j
      is_m (body.PoRequest q) first.said (request_sent w.group m j q) in
      let there = first_there (in_filter_map (update_requested j q.k) knows.among
      (is_requested j q knows.part.signer knows.part.body knows.part.sig knows.by knows.word)) in
      there.1 ∙ ap (λ (x : Update). Some x) (one_update w (beginning ++ round) m j q live legal unforged
      (are.correct m is_m) (are.correct j is_j) (said_on round first.said) known
      (known_of_within (heard w (beginning ++ round) m)) there.0
      (first_in (updates_requested known j q.k) there.1))

  has_its_turn : (r : PoRequest) → HasSaid beginning j (body.PoRequest r) → has_turn w.group known j r.k ≡ true
  has_its_turn r said =
      let loud = (correct_said w j (body.PoRequest r) legal_first said.place said.by (are.correct j is_j) said.among).0 in
      let among : IsIn (body.PoRequest r) (said_before (heard w beginning j)) =
      said_earlier w j (body.PoRequest r) said.place said.by loud said.among in
      let good = requests_good w (beginning ++ round) j live legal (are.correct j is_j) (left j is_j) beginning round refl in
      let first : FirstRequest w beginning j r = first_request w j r live (are.correct j is_j) beginning legal_first said in
      let turn : IsTurn w.group j (taken_at (heard w first.before j) (frame_taken first.entry.event))
      (executed w.group (known_then w first.before j first.entry)) (numbers_below w.group.clients) r = turn_is w.group j
      (taken_at (heard w first.before j) (frame_taken first.entry.event))
      (executed w.group (known_then w first.before j first.entry)) (said_before (heard w first.before j))
      (numbers_below w.group.clients) r first.turn in
      let positive : 1 ≤ number_of r = turn.positive in
      let lower : (i : ℕ) → IsIn i (numbers_from 1 (r.k - 1)) → (q : PoRequest)
      × IsIn (body.PoRequest q) (said_before (heard w beginning j)) × (q.k ≡ i) = λ i h.
      let above : 1 ≤ i = from_above 1 (r.k - 1) i h in
      let below : i < 1 + (r.k - 1) = from_below 1 (r.k - 1) i h in
      good.0 r among i above (omega arith) in
      let greatest : greatest_of (filter_map (number_for known (client_of r) j) (numbers_from 1 (r.k - 1))) ≤ number_of r - 1
      = each_below (number_for known (client_of r) j) (number_of r - 1) (numbers_from 1 (r.k - 1)) (λ i h.
      let q = lower i h in
      let below : i < 1 + (r.k - 1) = from_below 1 (r.k - 1) i h in
      let is : q.0.k ≡ i = q.2 in
      number_below known (client_of r) j i (number_of r) q.0.update.body
      (subst (λ (k : ℕ). first_requested known j k ≡ Some q.0.update.body) is (first_is q.0 q.1))
      (good.1 q.0 r q.1 among (omega arith))) in
      turn_from w.group known j r.k r.update.body (first_is r among)
      (lt-ltb (client_of r) w.group.clients (below_from w.group.clients (client_of r) turn.among)) turn.serves
      (all_from (λ i. is_some (first_requested known j i)) (numbers_from 1 (r.k - 1)) (λ i h.
      let q = lower i h in
      ap is_some (subst (λ (k : ℕ). first_requested known j k ≡ Some q.0.update.body) q.2 (first_is q.0 q.1))))
      (lt-ltb (greatest_of (filter_map (number_for known (client_of r) j) (numbers_from 1 (r.k - 1)))) (number_of r)
      (omega arith))

pub turns_in_a_round : TurnsInARound
turns_in_a_round w connected beginning round live legal unforged are fair left j r is_j said m is_m =
    has_its_turn w connected beginning round live legal unforged are fair left j is_j m is_m r said
