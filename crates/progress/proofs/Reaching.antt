-- What a connected master requested is certified at all of them two rounds later, with all its requests before it: so each
-- one's vector reaches as far.
use Rattle.std.proofs.Common.{◌≡◌, ℕ, ◌+◌, ◌-◌, ◌<◌, ◌≤◌, zero, suc, Bool, true, false, List, [], ◌∷◌, ◌++◌, Option, Some, None}
use Rattle.std.proofs.Common.{length, refl, ◌∙◌, ap, subst, inl, inr, arith}
use Rattle.std.proofs.lemmas.Bool.{cases_lt}
use Rattle.plain_lists.specs.Lists.{IsIn}
use Rattle.message_types.specs.declared.signed.Signed.{Signed}
use Rattle.message_types.specs.declared.updates.Update.{Update}
use Rattle.message_types.specs.declared.preordering.PoRequest.{PoRequest}
use Rattle.message_types.specs.declared.body.Body.{Body}
use Rattle.message_types.specs.declared.body.Body.TheVariants as body
use Rattle.protocol_rules.specs.Words.{run_from}
use Rattle.protocol_rules.specs.Group.{Group, is_live, most_number}
use Rattle.protocol_rules.specs.Preorder.{certified, vector}
use Rattle.protocol_rules.specs.Master.{taken_at, said_before, executed}
use Rattle.quorum_sets.specs.Masters.{numbers_below}
use Rattle.history_rules.specs.Events.{Entry, frame_taken}
use Rattle.history_rules.specs.Setup.{Setup, is_correct_master, room, own, leaves_used}
use Rattle.history_rules.specs.Leaves.{room_of}
use Rattle.history_rules.specs.Legal.{IsLegal, heard}
use Rattle.history_rules.specs.Audit.{HasSaid}
use Rattle.history_rules.proofs.Uncut.{used_then}
use Rattle.agreement.specs.Laws.{known_by}
use Rattle.agreement.proofs.Places.{said_on, legal_before, unforged_before}
use Rattle.agreement.proofs.KnownAsItGrows.{own-append, known_then, correct_said, said_earlier}
use Rattle.agreement.proofs.LearnedWasSaid.{FirstSaid, first_said_before}
use Rattle.progress.specs.Laws.{ReachedInTwoRounds}
use Rattle.progress.proofs.Requesting.{FirstRequest, first_request}
use Rattle.progress.proofs.Turning.{IsTurn, turn_is}
use Rattle.progress.proofs.Certifying.{certified_in_a_round}
use Rattle.progress.proofs.Turned.{requests_good, turns_in_a_round}

-- whoever has a leaf left in the end had one before
room_before : (shared : Bool) (leaves all before after : ℕ) → all ≡ before + after → 1 ≤ room_of shared (leaves - all) →
    1 ≤ room_of shared (leaves - before)
room_before true leaves all before after e h = omega arith
room_before false leaves all before after e h = omega arith

pub left_before : (w : Setup) (xs ys : List Entry) (m : ℕ) → 1 ≤ room w (own (xs ++ ys) m) → 1 ≤ room w (own xs m)
left_before w xs ys m h = room_before w.shared_leaves w.leaves (leaves_used w (own (xs ++ ys) m)) (leaves_used w (own xs m))
    (leaves_used w (own ys m)) (ap (leaves_used w) (own-append xs ys m) ∙ used_then w (own xs m) (own ys m)) h

-- a run is at least as long as there is something
pub run_reaches : {X : Type 0} (f : ℕ → Option X) (start most reach : ℕ) → reach ≤ most →
    ((k : ℕ) → start ≤ k → k < start + reach → (x : X) × (f k ≡ Some x)) → reach ≤ length (run_from f start most)
unfolding run_from
run_reaches f start most zero fits some = omega arith
run_reaches f start zero (suc reach) fits some = absurd (omega arith)
run_reaches {X} f start (suc most) (suc reach) fits some =
    by (f start) (some start (omega arith) (omega arith))
    (run_reaches f (suc start) most reach (omega arith) (λ k low high. some k (omega arith) (omega arith)))
  where
    by : (o : Option X) → (x : X) × (o ≡ Some x) → reach ≤ length (run_from f (suc start) most) →
        suc reach ≤ length {A = X} (elim o [ None ↦ [] | Some x ↦ x ∷ run_from f (suc start) most ])
    by None there rest = cc
    by (Some x) there rest = omega arith

pub vector_reaches : (g : Group) (known : List (Signed Body)) (j k : ℕ) → k ≤ most_number →
    ((i : ℕ) → 1 ≤ i → i ≤ k → (u : Update) × (certified g known j i ≡ Some u)) → k ≤ vector g known j
unfolding vector
vector_reaches g known j k low some = run_reaches (λ i. certified g known j i) 1 most_number k low
    (λ i above below. some i above (omega arith))

-- the number of a request that a correct master said
pub request_number : (w : Setup) (history : List Entry) (j : ℕ) (r : PoRequest) → is_live w.group ≡ true →
    IsLegal w history → is_correct_master w j ≡ true → HasSaid history j (body.PoRequest r) → (1 ≤ r.k) × (r.k ≤ most_number)
request_number w history j r live legal correct said =
    let first : FirstRequest w history j r = first_request w j r live correct history legal said in
    let turn : IsTurn w.group j (taken_at (heard w first.before j) (frame_taken first.entry.event))
    (executed w.group (known_then w first.before j first.entry)) (numbers_below w.group.clients) r = turn_is w.group j
    (taken_at (heard w first.before j) (frame_taken first.entry.event))
    (executed w.group (known_then w first.before j first.entry)) (said_before (heard w first.before j))
    (numbers_below w.group.clients) r first.turn in
    (turn.counted, turn.low)

pub reached_in_two_rounds : ReachedInTwoRounds
reached_in_two_rounds w connected beginning first second live legal unforged are fair next left j r is_j said m is_m =
    let middle : List Entry = beginning ++ first in
    let legal_middle : IsLegal w middle = legal_before w middle second legal in
    let legal_first : IsLegal w beginning = legal_before w beginning first legal_middle in
    let left_middle = λ (i : ℕ) (is_i : connected i ≡ true). left_before w middle second i (left i is_i) in
    let each : (q : PoRequest) → HasSaid beginning j (body.PoRequest q) →
    certified w.group (known_by w (middle ++ second) m) j q.k ≡ Some q.update.body = λ q was.
    let number = request_number w beginning j q live legal_first (are.correct j is_j) was in
    certified_in_a_round w connected middle second live legal unforged are next left j q is_j number.0 number.1
    (said_on first was) (λ i is_i. turns_in_a_round w connected beginning first live legal_middle
    (unforged_before w middle second unforged) are fair left_middle j q is_j was i is_i) m is_m in
    let loud = (correct_said w j (body.PoRequest r) legal_first said.place said.by (are.correct j is_j) said.among).0 in
    let among : IsIn (body.PoRequest r) (said_before (heard w beginning j)) =
    said_earlier w j (body.PoRequest r) said.place said.by loud said.among in
    let good = requests_good w middle j live legal_middle (are.correct j is_j) (left_middle j is_j) beginning first refl in
    let number = request_number w beginning j r live legal_first (are.correct j is_j) said in
    vector_reaches w.group (known_by w (middle ++ second) m) j r.k number.1 (λ i above below. elim (cases_lt i r.k) [
      | inl less ↦
          let q = good.0 r among i above less in
          let was : FirstSaid w beginning j (body.PoRequest q.0) = first_said_before w j (body.PoRequest q.0)
          (are.correct j is_j) beginning legal_first q.1 in (
            q.0.update.body,
            subst (λ (k : ℕ). certified w.group (known_by w (middle ++ second) m) j k ≡ Some
                q.0.update.body) q.2 (each q.0 was.said),
          )
      | inr same ↦
          let is : r.k ≡ i = omega arith in (
            r.update.body,
            subst (λ (k : ℕ). certified w.group (known_by w (middle ++ second) m) j k ≡ Some
                r.update.body) is (each r said),
          )
    ])
