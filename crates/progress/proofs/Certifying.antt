-- A request of a connected master that has its turn with all of them is acknowledged by each; a round later each knows the
-- acknowledgements of all, and has it certified. No other update can be: its master says one request for each number.
use Rattle.std.proofs.Common.{◌≡◌, ℕ, ◌<◌, ◌≤◌, Bool, true, false, cond, ◌&&◌, not, List, [], ◌∷◌, ◌++◌, ◌-◌}
use Rattle.std.proofs.Common.{Option, Some, None, is_some, nat_eq, nat_lt, length, refl, sym, ◌∙◌, ap, subst, inl, inr, ◌⊎◌, arith}
use Rattle.std.proofs.Common.{eqb-true, if◌then◌else◌}
use Rattle.std.proofs.lemmas.Bool.{false≢true, and_parts, and_from, ne_eqb, eq-eqb, ltb-true, le-leb, cases_eq}
use Rattle.std.proofs.lemmas.Bool.{cases_Bool, not_from_false}
use Rattle.std.proofs.lemmas.Slice.Eq.{bytes_eq-Decides}
use Rattle.std.specs.List.{list_all, list_any, find, filter_map, flat_map}
use Rattle.std.specs.Str.{bytes_eq}
use Rattle.plain_lists.specs.Lists.{IsIn, here, there, Begins, Within}
use Rattle.plain_lists.proofs.Members.{in_flat_map, in_filter_map, in_filter_map_from, any_from, any_in, some_same, none_some}
use Rattle.protocol_rules.proofs.FirstMet.{first_in}
use Rattle.quorum_sets.specs.Masters.{voters}
use Rattle.quorum_sets.specs.Quorum.{has_quorum}
use Rattle.message_types.specs.declared.signed.Signed.{Signed}
use Rattle.message_types.specs.declared.updates.Update.{Update}
use Rattle.message_types.specs.declared.preordering.PoRequest.{PoRequest}
use Rattle.message_types.specs.declared.preordering.PoAck.{PoAck}
use Rattle.message_types.specs.declared.body.Body.{Body}
use Rattle.message_types.specs.declared.body.Body.TheVariants as body
use Rattle.message_types.specs.Digests.{digest_of_update}
use Rattle.protocol_rules.specs.Words.{first_of_list, greatest_of, numbers_from}
use Rattle.protocol_rules.specs.Group.{Group, is_live, most_number, is_door}
use Rattle.protocol_rules.specs.Preorder.{certified, update_requested, updates_requested, is_ack, is_acked, acks, ack_due}
use Rattle.protocol_rules.specs.Turns.{first_requested, number_for, has_turn, acks_in_turn_due}
use Rattle.protocol_rules.specs.Master.{Heard, said_before}
use Rattle.protocol_rules.proofs.FirstMet.{first_met-none}
use Rattle.protocol_rules.proofs.Numbers.{from_in}
use Rattle.history_rules.specs.Events.{Entry}
use Rattle.history_rules.specs.Setup.{Setup, is_correct, is_correct_master, room, own}
use Rattle.history_rules.specs.Legal.{Stands, IsLegal, heard, known_of}
use Rattle.history_rules.specs.Audit.{HasSaid, NothingForged}
use Rattle.agreement.specs.Laws.{known_by}
use Rattle.agreement.proofs.Places.{stands_on, said_on, said_whole, legal_before}
use Rattle.agreement.proofs.KnownAsItGrows.{learned_by, known_then, known_learned, known_of_within}
use Rattle.agreement.proofs.SpokenByKind.{if_some}
use Rattle.agreement.proofs.LearnedWasSaid.{FirstSaid, first_said, first_said_before, due_first, learned_said}
use Rattle.agreement.proofs.RequestsAgree.{certified_from}
use Rattle.agreement.proofs.QuorumsStay.{quorum_more}
use Rattle.agreement.proofs.CommittedStays.{in_below}
use Rattle.progress.specs.Rounds.{goes_to}
use Rattle.progress.specs.Laws.{KnowsWord, CertifiedInARound}
use Rattle.progress.proofs.Arriving.{words_arrive}
use Rattle.progress.proofs.Saying.{LastEvent, last_event, known_last, all_is_said, said_by_part, ack_said}
use Rattle.progress.proofs.Requesting.{requests_once}

-- whoever is a correct master is a correct actor
pub correct_too : (w : Setup) (m : ℕ) → is_correct_master w m ≡ true → is_correct w m ≡ true
correct_too w m h = by (nat_lt m w.group.n) (w.intruded m) h
  where
    by : (a b : Bool) → (a && not b) ≡ true → not (a && b) ≡ true
    by true true h = absurd (false≢true h)
    by true false h = refl
    by false b h = absurd (false≢true h)

pub below_group : (w : Setup) (m : ℕ) → is_correct_master w m ≡ true → m < w.group.n
below_group w m h = ltb-true m w.group.n (and_parts (nat_lt m w.group.n) (not (w.intruded m)) h).0

-- what a request has that has its turn
turn_first : (g : Group) (known : List (Signed Body)) (j k : ℕ) → has_turn g known j k ≡ true →
    (u : Update) × (first_requested known j k ≡ Some u)
turn_first g known j k h = by (first_requested known j k) refl h
  where
    by : (o : Option Update) → first_requested known j k ≡ o →
        (elim o [
          | None ↦ false
          | Some u ↦ nat_lt u.client g.clients && is_door g u.client j
              && list_all (λ i. is_some (first_requested known j i)) (numbers_from 1 (k - 1))
              && nat_lt (greatest_of (filter_map (number_for known u.client j) (numbers_from 1 (k - 1)))) u.t
        ]) ≡ true → (u : Update) × (first_requested known j k ≡ Some u)
    by None e h = absurd (false≢true h)
    by (Some u) e h = (u, e)

-- the word is an acknowledgement of (j, k)
acks_from : (j k : ℕ) (b : Body) → acks j k b ≡ true → (digest : List ℕ)
    × (b ≡ body.PoAck record { j = j; k = k; digest = digest })
acks_from j k (body.PoAck b) h =
    let both = and_parts (nat_eq b.j j) (nat_eq b.k k) h in
    let is_j : b.j ≡ j = eqb-true b.j j both.0 in
    let is_k : b.k ≡ k = eqb-true b.k k both.1 in
    (b.digest, λ i. body.PoAck record { j = is_j i; k = is_k i; digest = b.digest })
acks_from j k _ h = absurd (false≢true h)

-- one that none was said for is due, where there is a request
ack_is_due : (known : List (Signed Body)) (said : List Body) (j k : ℕ) (u : Update) → list_any (acks j k) said ≡ false →
    first_requested known j k ≡ Some u → IsIn (body.PoAck record { j = j; k = k; digest = digest_of_update u })
    (ack_due known said j k)
ack_is_due known said j k u none first = subst (λ (b : Bool). IsIn (body.PoAck record {
  j = j;
  k = k;
  digest =
      digest_of_update u;
}) (cond b [] (elim (updates_requested known j k)
    [ [] ↦ [] | u ∷ _ ↦ body.PoAck record { j = j; k = k; digest = digest_of_update u } ∷ [] ])))
    (sym none) (by (updates_requested known j k) first)
  where
    by : (us : List Update) → first_of_list us ≡ Some u → IsIn (body.PoAck record {
      j = j;
      k = k;
      digest =
          digest_of_update u;
    }) (elim us
        [ [] ↦ [] | u ∷ _ ↦ body.PoAck record { j = j; k = k; digest = digest_of_update u } ∷ [] ])
    by [] e = absurd (none_some e)
    by (x ∷ us) e = subst (λ (z : Update). IsIn (body.PoAck record { j = j; k = k; digest = digest_of_update u })
        (body.PoAck record { j = j; k = k; digest = digest_of_update z } ∷ [])) (sym (some_same e)) (here [])

ack_in_turn : (g : Group) (known : List (Signed Body)) (said : List Body) (j k : ℕ) (b : Body) → j < g.n → 1 ≤ k →
    k ≤ most_number → has_turn g known j k ≡ true → IsIn b (ack_due known said j k) → IsIn b (acks_in_turn_due g known said)
ack_in_turn g known said j k b low one most turn h =
    in_flat_map (λ j. flat_map (λ k. if has_turn g known j k then ack_due known said j k else []) (numbers_from 1 most_number))
    (in_below g.n j low)
    (in_flat_map (λ k. if has_turn g known j k then ack_due known said j k else [])
    (from_in 1 most_number k one (omega arith))
    (subst (λ (c : Bool). IsIn b (cond c (ack_due known said j k) [])) (sym turn) h))

no_turn : (g : Group) (j k : ℕ) → has_turn g (known_of []) j k ≡ true → ⊥
unfolding known_of
no_turn g j k h = false≢true h

-- What has its turn with a master at the end of a beginning it has acknowledged.
pub acknowledged : (w : Setup) (history beginning : List Entry) (m j k : ℕ) → is_live w.group ≡ true → IsLegal w history
    → Begins beginning history → is_correct_master w m ≡ true → 1 ≤ room w (own history m)
    → j < w.group.n → 1 ≤ k → k ≤ most_number → has_turn w.group (known_by w beginning m) j k ≡ true
    → (digest : List ℕ) × HasSaid beginning m (body.PoAck record { j = j; k = k; digest = digest })
acknowledged w history beginning m j k live legal begins correct left low one most turn =
    elim (last_event w m beginning) [
      | inl none ↦ absurd (no_turn w.group j k
          (subst (λ (hs : List Heard). has_turn w.group (known_of hs) j k ≡ true) none turn))
      | inr last ↦ at_last last (subst (λ (ps : List (Signed Body)). has_turn w.group ps j k ≡ true)
          (known_last w beginning m last) turn)
    ]
  where
    before_legal : IsLegal w beginning
    before_legal = legal_before w beginning begins.rest (subst (λ (xs : List Entry). IsLegal w xs) begins.same legal)

    at_last : (last : LastEvent w beginning m) → has_turn w.group (known_then w last.before m last.entry) j k ≡ true →
        (digest : List ℕ) × HasSaid beginning m (body.PoAck record { j = j; k = k; digest = digest })
    at_last last turn =
        let said : List Body = said_before (heard w last.before m) in
        let first = turn_first w.group (known_then w last.before m last.entry) j k turn in
        elim (cases_Bool (list_any (acks j k) said)) [
          | inl was ↦
              let found = any_from (acks j k) said was in
              let is = acks_from j k found.0 found.2 in
              let earlier : FirstSaid w last.before m found.0 = first_said_before w m found.0 correct last.before
              (legal_before w last.before (last.entry ∷ last.place.after)
              (subst (λ (xs : List Entry). IsLegal w xs) last.place.whole before_legal)) found.1 in
              (is.0, subst (λ (b : Body). HasSaid beginning m b) is.1 (said_whole last.place earlier.said))
          | inr wasn't ↦
              let there : Stands history last.before last.entry =
              subst (λ (xs : List Entry). Stands xs last.before last.entry) (sym begins.same)
              (stands_on begins.rest last.place) in
              let parts = said_by_part w last.before m last.entry live
              (all_is_said w history last.before last.entry m legal correct left there last.by last.loud) in (
                digest_of_update first.0,
                record {
                  before = last.before;
                  entry = last.entry;
                  place = last.place;
                  by = last.by;
                  among =
                      ack_said w last.before m last.entry _ parts
                      (ack_in_turn w.group (known_then w last.before m last.entry) said j k _ low one most turn
                      (ack_is_due (known_then w last.before m last.entry) said j k first.0 wasn't first.1));
                },
              )
        ]

-- the frame is a request of this number
pub requested_from : (j k signer : ℕ) (word : Body) (sig : List ℕ) (x : Update) →
    update_requested j k record { signer = signer; body = word; sig = sig } ≡ Some x
    → (r : PoRequest) × (word ≡ body.PoRequest r) × (signer ≡ j) × (r.k ≡ k) × (r.update.body ≡ x)
requested_from j k signer (body.PoRequest r) sig x e =
    let is = if_some (nat_eq signer j && nat_eq r.k k) e in
    let both = and_parts (nat_eq signer j) (nat_eq r.k k) is.0 in
    (r, refl, eqb-true signer j both.0, eqb-true r.k k both.1, is.1)
requested_from j k signer _ sig x e = absurd (none_some e)

-- All that a correct master knows to be requested by another as one number is one update.
pub one_update : (w : Setup) (history : List Entry) (m j : ℕ) (r : PoRequest) → is_live w.group ≡ true → IsLegal w history →
    NothingForged w history → is_correct_master w m ≡ true → is_correct_master w j ≡ true →
    HasSaid history j (body.PoRequest r) → (words : List (Signed Body)) → Within words (learned_by w history m)
    → (x : Update) → IsIn x (updates_requested words j r.k) → x ≡ r.update.body
one_update w history m j r live legal unforged correct right said words within x h =
    let found = in_filter_map_from (update_requested j r.k) words h in
    let is = requested_from j r.k found.0.signer found.0.body found.0.sig x found.2 in
    let was : HasSaid history found.0.signer found.0.body = learned_said w m history legal unforged correct found.0
    (within found.0 found.1) (subst (λ (i : ℕ). is_correct w i ≡ true) (sym is.2) (correct_too w j right)) in
    let other : HasSaid history j (body.PoRequest is.0) = subst (λ (b : Body). HasSaid history j b) is.1
    (subst (λ (i : ℕ). HasSaid history i found.0.body) is.2 was) in
    sym is.4 ∙ ap (λ (q : PoRequest). q.update.body)
    (requests_once w history j is.0 r live legal right other said is.3)

self_bytes : (xs : List ℕ) → bytes_eq xs xs ≡ true
self_bytes xs = (bytes_eq-Decides xs xs).1 refl

is_ack_by : (j k : ℕ) (digest : List ℕ) (i signer : ℕ) (word : Body) (sig : List ℕ) → signer ≡ i →
    word ≡ body.PoAck record { j = j; k = k; digest = digest }
    → is_ack j k digest i record { signer = signer; body = word; sig = sig } ≡ true
is_ack_by j k digest i signer word sig by is =
    subst (λ (b : Body). is_ack j k digest i record { signer = signer; body = b; sig = sig } ≡ true) (sym is)
    (and_from (nat_eq signer i && nat_eq j j && nat_eq k k) (bytes_eq digest digest)
    (and_from (nat_eq signer i && nat_eq j j) (nat_eq k k)
    (and_from (nat_eq signer i) (nat_eq j j) (eq-eqb signer i by) (eq-eqb j j refl)) (eq-eqb k k refl))
    (self_bytes digest))

pub is_requested : (j : ℕ) (r : PoRequest) (signer : ℕ) (word : Body) (sig : List ℕ) → signer ≡ j → word ≡ body.PoRequest r →
    update_requested j r.k record { signer = signer; body = word; sig = sig } ≡ Some r.update.body
is_requested j r signer word sig by is =
    subst (λ (b : Body). update_requested j r.k record { signer = signer; body = b; sig = sig } ≡ Some r.update.body)
    (sym is) (ap (λ (c : Bool). cond c (Some r.update.body) None)
    (and_from (nat_eq signer j) (nat_eq r.k r.k) (eq-eqb signer j by) (eq-eqb r.k r.k refl)))

pub find_there : {X : Type 0} (f : X → Bool) {x : X} {xs : List X} → IsIn x xs → f x ≡ true → (y : X) × (find f xs ≡ Some y)
find_there {X} f {x} (here rest) e = (x, ap (λ (b : Bool). cond b (Some x) (find f rest)) e)
find_there {X} f {x} (there z rest h) e = by (f z) (find_there f h e)
  where
    by : (b : Bool) → (y : X) × (find f rest ≡ Some y) → (y : X) × (cond b (Some z) (find f rest) ≡ Some y)
    by true later = (z, refl)
    by false later = later

-- where a quorum's acknowledgements of a request are known that can be no other, it is certified
certified_there : (g : Group) (known : List (Signed Body)) (j k : ℕ) (u : Update) → IsIn u (updates_requested known j k) →
    is_acked g known j k (digest_of_update u) ≡ true →
    ((words : List (Signed Body)) → Within words known → (x : Update) → IsIn x (updates_requested words j k) → x ≡ u)
    → certified g known j k ≡ Some u
unfolding certified
certified_there g known j k u among acked alone = by (certified g known j k) refl
  where
    by : (o : Option Update) → certified g known j k ≡ o → certified g known j k ≡ Some u
    by (Some y) e =
        let from = certified_from g known j k y e in
        e ∙ ap (λ (x : Update). Some x) (alone from.0 from.1 y from.2)
    by None e =
        let none = first_met-none (λ beginning. find (λ u. is_acked g beginning j k (digest_of_update u))
        (updates_requested beginning j k)) [] known e in
        let some = find_there (λ u. is_acked g known j k (digest_of_update u)) among acked in
        absurd (none_some (sym none ∙ some.1))

-- to every other master go requests and acknowledgements
pub request_sent : (g : Group) (m i : ℕ) (r : PoRequest) → (m ≡ i) ⊎ (goes_to g i (body.PoRequest r) m ≡ true)
request_sent g m i r = elim (cases_eq m i) [
  | inl same ↦ inl same
  | inr apart ↦ inr (not_from_false (nat_eq m i) (ne_eqb m i apart))
]

ack_sent : (g : Group) (m i : ℕ) (a : PoAck) → (m ≡ i) ⊎ (goes_to g i (body.PoAck a) m ≡ true)
ack_sent g m i a = elim (cases_eq m i) [
  | inl same ↦ inl same
  | inr apart ↦ inr (not_from_false (nat_eq m i) (ne_eqb m i apart))
]

-- The acknowledgement that a correct master said of another's request is of its update.
ack_digest : (w : Setup) (history : List Entry) (m j : ℕ) (r : PoRequest) (digest : List ℕ) → is_live w.group ≡ true →
    IsLegal w history → NothingForged w history → is_correct_master w m ≡ true → is_correct_master w j ≡ true →
    HasSaid history j (body.PoRequest r) → HasSaid history m (body.PoAck record { j = j; k = r.k; digest = digest })
    → digest ≡ digest_of_update r.update.body
ack_digest w history m j r digest live legal unforged correct right said acked =
    let first : FirstSaid w history m (body.PoAck record { j = j; k = r.k; digest = digest }) =
    first_said w m (body.PoAck record { j = j; k = r.k; digest = digest }) correct history legal acked in
    let due = due_first w history m (body.PoAck record { j = j; k = r.k; digest = digest }) first in
    let known : List (Signed Body) = known_then w first.said.before m first.said.entry in
    due.1.2 ∙ ap digest_of_update (one_update w history m j r live legal unforged correct right said known
    (known_learned w m first.said.place first.said.by first.loud)
    due.1.0 (first_in (updates_requested known j r.k) due.1.1))

-- where so many pass there is a quorum
pub enough : (n q : ℕ) (test : ℕ → Bool) → q ≤ length (voters test n) → has_quorum n q test ≡ true
unfolding has_quorum
enough n q test h = le-leb q (length (voters test n)) h

pub certified_in_a_round : CertifiedInARound
certified_in_a_round w connected beginning round live legal unforged are fair left j r is_j one most said turn m is_m =
    let whole : List Entry = beginning ++ round in
    let known : List (Signed Body) = known_by w whole m in
    let digest : List ℕ = digest_of_update r.update.body in
    let right : is_correct_master w j ≡ true = are.correct j is_j in
    let correct : is_correct_master w m ≡ true = are.correct m is_m in
    let within : Within known (learned_by w whole m) = known_of_within (heard w whole m) in
    let request : KnowsWord known j (body.PoRequest r) = words_arrive w connected beginning round legal are fair j m is_j
    is_m (body.PoRequest r) said (request_sent w.group m j r) in
    let ack : (i : ℕ) → connected i ≡ true → list_any (is_ack j r.k digest i) known ≡ true = λ i is_i.
    let at = acknowledged w whole beginning i j r.k live legal record { rest = round; same = refl }
    (are.correct i is_i) (left i is_i) (below_group w j right) one most (turn i is_i) in
    let word : PoAck = record { j = j; k = r.k; digest = at.0 } in
    let knows : KnowsWord known i (body.PoAck word) = words_arrive w connected beginning round legal are fair i m is_i
    is_m (body.PoAck word) at.1 (ack_sent w.group m i word) in
    let is_digest : at.0 ≡ digest = ack_digest w whole i j r at.0 live legal unforged (are.correct i is_i) right
    (said_on round said) (said_on round at.1) in
    any_in (is_ack j r.k digest i) knows.among
    (is_ack_by j r.k digest i knows.part.signer knows.part.body knows.part.sig knows.by
    (knows.word ∙ ap (λ (d : List ℕ). body.PoAck record { j = j; k = r.k; digest = d }) is_digest)) in
    certified_there w.group known j r.k r.update.body
    (in_filter_map (update_requested j r.k) request.among
    (is_requested j r request.part.signer request.part.body request.part.sig request.by request.word))
    (quorum_more w.group.n w.group.q connected (λ i. list_any (is_ack j r.k digest i) known) ack
    (enough w.group.n w.group.q connected are.enough))
    (λ words in_known. one_update w whole m j r live legal unforged correct right (said_on round said) words
    (λ p h. within p (in_known p h)))
