-- An update that was handed to a connected door is introduced within a round: at the door's last event by then it is the
-- next one, or it was introduced before, or as many are executed.
use Rattle.std.proofs.Common.{◌≡◌, ℕ, ◌+◌, ◌<◌, ◌≤◌, Bool, true, cond, ◌&&◌, List, [], ◌∷◌, ◌++◌, Some, None}
use Rattle.std.proofs.Common.{length, map, max, nat_eq, nat_lt, append_assoc, append-nil, refl, sym, ◌∙◌, ap, subst, inl, inr, ◌⊎◌, arith}
use Rattle.std.proofs.lemmas.Bool.{and_from, and_parts, cases_lt, eq-eqb, ltb-true}
use Rattle.std.proofs.lemmas.Grind.{flat_map-append}
use Rattle.std.specs.List.{list_all}
use Rattle.plain_lists.specs.Lists.{IsIn, here, Begins}
use Rattle.plain_lists.proofs.Members.{all_at, in_left, in_filter_map, in_filter_map_from, none_some}
use Rattle.quorum_sets.specs.Masters.{numbers_below}
use Rattle.message_types.specs.declared.signed.Signed.{Signed}
use Rattle.message_types.specs.declared.updates.Update.{Update}
use Rattle.message_types.specs.declared.preordering.PoRequest.{PoRequest}
use Rattle.message_types.specs.declared.body.Body.{Body}
use Rattle.message_types.specs.declared.body.Body.TheVariants as body
use Rattle.message_types.specs.Parts.{as_frame, parts, inside}
use Rattle.message_types.specs.Spelling.{has_spelling}
use Rattle.message_types.specs.Texts.{body_text}
use Rattle.protocol_rules.specs.Group.{Group, is_live, most_number}
use Rattle.protocol_rules.specs.Places.{in_place}
use Rattle.protocol_rules.specs.Preorder.{update_of}
use Rattle.protocol_rules.specs.Execution.{updates_of}
use Rattle.protocol_rules.specs.Turns.{last_request, last_introduced}
use Rattle.protocol_rules.specs.Master.{Heard, taken_at, said_before, executed}
use Rattle.history_rules.specs.Events.{Event, Entry, frame_taken}
use Rattle.history_rules.specs.Setup.{Setup, is_correct_master, room, own, stands}
use Rattle.history_rules.specs.Legal.{IsLegal, TakesWell, heard, executions}
use Rattle.history_rules.specs.Audit.{HasSaid, NothingForged}
use Rattle.agreement.specs.Laws.{HasSizes}
use Rattle.agreement.proofs.CommittedStays.{in_below}
use Rattle.agreement.proofs.Places.{said_whole, legal_before, stands_on}
use Rattle.agreement.proofs.KnownAsItGrows.{known_then, known_learned, learned_by, hears, heard_more, heard_at, said_earlier}
use Rattle.agreement.proofs.SpokenByKind.{if_some}
use Rattle.agreement.proofs.LearnedWasSaid.{FirstSaid, first_said_before, learned_said, learned_closed, taken_known}
use Rattle.agreement.proofs.LearnedInPlace.{SignedWell, learned_good}
use Rattle.agreement.proofs.VouchedIsOrdered.{executions_grow}
use Rattle.agreement.proofs.UpdatesAreTaken.{client_correct}
use Rattle.progress.specs.Rounds.{AreConnected, IsRound, HasTaken, HasTick}
use Rattle.progress.specs.Laws.{IsHanded, introduced_to, IntroducedInARound}
use Rattle.progress.proofs.Arriving.{said_learned, stands_in_round, tick_loud, numbered}
use Rattle.progress.proofs.Saying.{LastEvent, last_event, known_last, all_is_said, said_by_part}
use Rattle.progress.proofs.Requesting.{in_turn_at}
use Rattle.progress.proofs.Turning.{client_of, number_of, update_from}
use Rattle.progress.proofs.Turned.{turn_said}
use Rattle.progress.proofs.Introducing.{introduced_more, requests_more, Reached, reached, covered_same}
use Rattle.progress.proofs.Introducing.{updates_grow, begins_init, client_heard, covered_by, count_then}
use Rattle.progress.proofs.Introducing.{taken_by_last, next_request_there}

-- a frame that is taken as an update is that update's
update_frame : (c t signer : ℕ) (word : Body) (sig : List ℕ) (u : Signed Update) →
    update_of c t record { signer = signer; body = word; sig = sig } ≡ Some u → word ≡ body.Update u.body
update_frame c t signer (body.Update b) sig u e =
    ap (λ (x : Signed Update). body.Update x.body) (if_some (nat_eq b.client c && nat_eq b.t t) e).1
update_frame c t signer _ sig u e = absurd (none_some e)

update_is : (c t signer : ℕ) (word : Body) (sig : List ℕ) (u : Update) → word ≡ body.Update u → u.client ≡ c → u.t ≡ t →
    (f : Signed Update) × (update_of c t record { signer = signer; body = word; sig = sig } ≡ Some f)
update_is c t signer word sig u is client number = (
  the_frame,
  subst (λ (b : Body). update_of c t record { signer = signer; body = b; sig = sig } ≡ Some the_frame) (sym is)
      (ap (λ (b : Bool). cond b (Some the_frame) None)
      (and_from (nat_eq u.client c) (nat_eq u.t t) (eq-eqb u.client c client) (eq-eqb u.t t number))),
)
  where
    the_frame : Signed Update
    the_frame = record { signer = signer; body = u; sig = sig }

none_behind : (xs : List Heard) (x : Heard) (ys : List Heard) → xs ++ x ∷ ys ≡ [] → ⊥
none_behind [] x ys e = cc
none_behind (z ∷ zs) x ys e = cc

-- the numbers by which it is the next one
is_next : (t begun so_far whole before after done : ℕ) → t ≤ max begun before + 1 → max whole after < t → so_far ≤ whole →
    begun ≤ so_far → before ≤ after → after ≡ done → t ≡ max so_far done + 1
is_next t begun so_far whole before after done earlier below low more grown same = omega arith

-- an update that was taken is of a client that is there
client_below : (w : Setup) (u : Update) (f : Signed Body) → stands w f ≡ true → f.body ≡ body.Update u →
    u.client < w.group.clients
unfolding stands
client_below w u f standing is =
    let each = (and_parts (has_spelling f) (list_all (λ p. nat_lt p.signer (w.group.n + w.group.clients)
    && w.signs p.signer (body_text p.body) p.sig && in_place w.group p) (parts f)) standing).1 in
    let placed : in_place w.group f ≡ true = (and_parts (nat_lt f.signer (w.group.n + w.group.clients)
    && w.signs f.signer (body_text f.body) f.sig) (in_place w.group f)
    (all_at (λ p. nat_lt p.signer (w.group.n + w.group.clients) && w.signs p.signer (body_text p.body) p.sig
    && in_place w.group p) (here (inside f.body)) each)).1 in
    update_placed w.group f.signer f.body f.sig u is placed
  where
    update_placed : (g : Group) (signer : ℕ) (word : Body) (sig : List ℕ) (u : Update) → word ≡ body.Update u →
        in_place g record { signer = signer; body = word; sig = sig } ≡ true → u.client < g.clients
    update_placed g signer word sig u is placed =
        let here = subst (λ (b : Body). in_place g record { signer = signer; body = b; sig = sig } ≡ true) is placed in
        let bits = and_parts _ _ here in
        let t = and_parts _ _ bits.0 in
        let client = and_parts _ _ t.0 in
        ltb-true u.client g.clients (and_parts _ _ client.0).0

module _ (w : Setup) (connected : ℕ → Bool) (beginning round : List Entry) (live : is_live w.group ≡ true)
    (legal : IsLegal w (beginning ++ round)) (sizes : HasSizes w.group) (unforged : NothingForged w (beginning ++ round))
    (are : AreConnected w connected) (fair : IsRound w connected beginning round) (door : ℕ) (u : Update)
    (left : 1 ≤ room w (own (beginning ++ round) door))
    (numbers : last_request (said_before (heard w (beginning ++ round) door)) < most_number)
    (h : IsHanded w connected door u beginning (beginning ++ round)) where
  abbrev whole : List Entry
  whole = beginning ++ round

  abbrev c : ℕ
  c = u.client

  right : is_correct_master w door ≡ true
  right = are.correct door h.is_connected

  -- whatever is known as the client's update of this number is this one
  alone : (p : Signed Body) (b : Update) → IsIn p (learned_by w whole door) → p.body ≡ body.Update b → b.client ≡ c →
      b.t ≡ u.t → b ≡ u
  alone p b among word client number =
      let good : SignedWell w.group p.signer p.body = (learned_good w door whole legal sizes right p among).0 in
      let signer : p.signer ≡ w.group.n + b.client = subst (λ (x : Body). SignedWell w.group p.signer x) word good in
      let said : HasSaid whole p.signer p.body = learned_said w door whole legal unforged right p among
      (client_correct w p.signer b.client signer) in
      h.alone b (subst (λ (x : ℕ). HasSaid whole x (body.Update b)) (signer ∙ ap (λ (x : ℕ). w.group.n + x) client)
      (subst (λ (x : Body). HasSaid whole p.signer x) word said)) number

  abbrev said_by : List Entry → List Body
  said_by before = said_before (heard w before door)

  abbrev Result : Type 0
  Result = ((r : PoRequest) × HasSaid whole door (body.PoRequest r) × (r.update.body ≡ u))
      ⊎ (u.t ≤ updates_of c (executions w whole door))

  -- the door took the update
  door_took : (said : Entry) × (nth : ℕ) × HasTaken whole door said nth (body.Update u)
  door_took =
      let at = numbered h.said.among in (
        h.said.entry,
        at.0,
        fair.delivered.taken h.said.before h.said.entry h.said.place (client_heard w connected h.said.entry.actor c h.said.by)
            at.0 (body.Update u) at.1 door h.is_connected h.serves,
      )

  client_low : (said : Entry) (nth : ℕ) → HasTaken whole door said nth (body.Update u) → c < w.group.clients
  client_low said nth t = client_below w u t.frame (subst (λ (event : Event). TakesWell w (length t.before) event) t.event
      (legal.entries t.before t.entry t.place).taken).0 t.word

  module _ (last : LastEvent w whole door) (later : Begins (heard w beginning door) (heard w last.before door)) where
    abbrev done : List Update
    done = executed w.group (known_then w last.before door last.entry)

    abbrev taken : List (Signed Body)
    taken = taken_at (heard w last.before door) (frame_taken last.entry.event)

    legal_then : IsLegal w last.before
    legal_then = legal_before w last.before (last.entry ∷ last.place.after)
        (subst (λ (xs : List Entry). IsLegal w xs) last.place.whole legal)

    -- what was said before the last event, and at it
    kept : (b : Body) → IsIn b (said_by last.before) → HasSaid whole door b × IsIn b (said_by whole)
    kept b i =
        let first : FirstSaid w last.before door b = first_said_before w door b right last.before legal_then i in
        let said : HasSaid whole door b = said_whole last.place first.said in (
          said,
          subst (λ (xs : List Entry). IsIn b (said_before (heard w xs door))) (sym last.place.whole)
              (said_earlier w door b (stands_on (last.entry ∷ last.place.after) first.said.place) first.said.by first.loud
              first.said.among),
        )

    now : (b : Body) → IsIn b last.entry.said → HasSaid whole door b × IsIn b (said_by whole)
    now b i = (
      record { before = last.before; entry = last.entry; place = last.place; by = last.by; among = i },
      said_earlier w door b last.place last.by last.loud i,
    )

    turn : (b : Body) → IsIn b (in_turn_at w last.before door last.entry) → IsIn b last.entry.said
    turn b i = turn_said w last.before door last.entry b (said_by_part w last.before door last.entry live
        (all_is_said w whole last.before last.entry door legal right left last.place last.by last.loud)) i

    count_is : updates_of c (executions w whole door) ≡ updates_of c done
    count_is = ap (λ (ps : List (Signed Body)). updates_of c (executed w.group ps)) (known_last w whole door last)

    said_begun : (b : Body) → IsIn b (said_by beginning) → IsIn b (said_by last.before)
    said_begun b i = subst (λ (hs : List Heard). IsIn b (said_before hs)) (sym later.same)
        (subst (λ (bs : List Body). IsIn b bs) (sym (flat_map-append (λ (x : Heard). map (λ f. f.body) x.said)
        (heard w beginning door) later.rest)) (in_left (said_before later.rest) i))

    reached_last : Reached w.group door taken done c (said_by last.before) (numbers_below w.group.clients)
    reached_last = reached w.group door taken done c (said_by last.before) (numbers_below w.group.clients)
        (in_below w.group.clients c (client_low door_took.0 door_took.1 door_took.2))
        (covered_same (said_by last.before) (said_by last.before) (updates_of c (executions w last.before door))
        (updates_of c done) c (λ r i. i, λ r i. i)
        (count_then w whole door live legal right left c last.before last.entry last.by last.loud)
        (covered_by w whole door live legal right left c last.before (last.entry ∷ last.place.after) last.place.whole))

    -- what was said by the client's turn was said in the whole
    so_far_said : (q : PoRequest) → IsIn (body.PoRequest q) reached_last.so_far → IsIn (body.PoRequest q) (said_by whole)
    so_far_said q i = elim (reached_last.from q i) [
      | inl before ↦ (kept (body.PoRequest q) before).1
      | inr due ↦ (now (body.PoRequest q) (turn (body.PoRequest q) due)).1
    ]

    -- where it isn't done with yet, it is next
    next_one : introduced_to w whole door c < u.t → Result
    next_one ahead =
        let so_far : List Body = reached_last.so_far in
        let count : updates_of c (executions w whole door) ≡ updates_of c done = count_is in
        let low : last_introduced so_far c ≤ last_introduced (said_by whole) c =
        introduced_more so_far (said_by whole) c so_far_said in
        let few : last_request so_far ≤ last_request (said_by whole) =
        requests_more so_far (said_by whole) so_far_said in
        let room : last_request (said_by whole) < most_number = numbers in
        let begun : last_introduced (said_by beginning) c ≤ last_introduced so_far c =
        introduced_more (said_by beginning) so_far c (λ q i. reached_last.all q (said_begun (body.PoRequest q) i)) in
        let grown : updates_of c (executions w beginning door) ≤ updates_of c (executions w whole door) =
        updates_grow c (executions w beginning door) (executions w whole door)
        (executions_grow w whole beginning door record { rest = round; same = refl }) in
        let earlier : u.t ≤ max (last_introduced (said_by beginning) c) (updates_of c (executions w beginning door)) + 1 =
        h.earlier in
        let below : max (last_introduced (said_by whole) c) (updates_of c (executions w whole door)) < u.t = ahead in
        let is : u.t ≡ max (last_introduced so_far c) (updates_of c done) + 1 =
        is_next u.t (last_introduced (said_by beginning) c) (last_introduced so_far c) (last_introduced (said_by whole) c)
        (updates_of c (executions w beginning door)) (updates_of c (executions w whole door)) (updates_of c done)
        earlier below low begun grown count in
        let t = door_took.2 in
        let frame = update_is c u.t t.frame.signer t.frame.body t.frame.sig u t.word refl refl in
        let next = next_request_there w.group door taken done so_far c u.t h.serves (omega arith) is frame.0
        (in_filter_map (update_of c u.t) (taken_by_last w whole door last door_took.0 door_took.1 (body.Update u) t) frame.1) in
        let source = in_filter_map_from (update_of c u.t) taken next.1 in
        let word = update_frame c u.t source.0.signer source.0.body source.0.sig next.0 source.2 in
        let numbered = update_from c u.t source.0.signer source.0.body source.0.sig next.0 source.2 in
        let known : IsIn source.0 (learned_by w whole door) = known_learned w door last.place last.by last.loud source.0
        (taken_known (heard w last.before door) (frame_taken last.entry.event) source.0 source.1) in
        let request : PoRequest = record { k = last_request so_far + 1; update = next.0 } in
        inl (
          request,
          (now (body.PoRequest request) (turn (body.PoRequest request) (reached_last.next (body.PoRequest request) next.2))).0,
          alone source.0 next.0.body known word numbered.0 numbered.1,
        )

  -- one that it introduced is this one
  introduced_one : (q : PoRequest) → IsIn (body.PoRequest q) (said_by whole) → client_of q ≡ c → number_of q ≡ u.t → Result
  introduced_one q i client number =
      let first : FirstSaid w whole door (body.PoRequest q) = first_said_before w door (body.PoRequest q) right whole legal i in
      let own = said_learned w door (body.PoRequest q) first.said.place first.said.by first.loud first.said.among in
      let inside : IsIn (as_frame body.Update q.update) (learned_by w whole door) = learned_closed w whole door own.part
      (as_frame body.Update q.update) own.among
      (subst (λ (b : Body). IsIn (as_frame body.Update q.update) (inside b)) (sym own.word) (here [])) in
      inl (q, first.said, alone (as_frame body.Update q.update) q.update.body inside refl client number)

  -- the last event is behind the beginning, since the door has had a tick there
  last_later : (last : LastEvent w whole door) → Begins (heard w beginning door) (heard w last.before door)
  last_later last =
      let t : HasTick round door = fair.ticks door h.is_connected in
      let place = stands_in_round beginning t.place in
      let at = heard_at w (beginning ++ t.before) place.after t.entry door t.by (tick_loud t.entry.event t.tick) in
      let more = heard_more w beginning t.before door in
      let all : heard w whole door ≡ heard w beginning door ++ (more.0 ++ hears w door at.0 t.entry ∷ at.1) =
      ap (λ (xs : List Entry). heard w xs door) place.whole ∙ at.2
      ∙ ap (λ (hs : List Heard). hs ++ hears w door at.0 t.entry ∷ at.1) more.1
      ∙ append_assoc (heard w beginning door) more.0 (hears w door at.0 t.entry ∷ at.1) in
      begins_init (heard w beginning door) (more.0 ++ hears w door at.0 t.entry ∷ at.1) (heard w last.before door)
      (hears w door last.used last.entry) (sym all ∙ last.heard_all) (none_behind more.0 (hears w door at.0 t.entry) at.1)

  result : Result
  result = elim (last_event w door whole) [
    | inl none ↦ absurd (heard_some none)
    | inr last ↦ elim (cases_lt (introduced_to w whole door c) u.t) [
      | inl ahead ↦ next_one last (last_later last) ahead
      | inr closed ↦ elim (cases_lt (last_introduced (said_by whole) c) u.t) [
        | inr introduced ↦ elim (covered_by w whole door live legal right left c whole [] (sym (append-nil whole)) u.t
            h.counted introduced) [ inl q ↦ introduced_one q.0 q.1 q.2 q.3 | inr executed ↦ inr executed ]
        | inl passed ↦
            let reaches : u.t ≤ max (last_introduced (said_by whole) c) (updates_of c (executions w whole door)) = closed in
            inr (omega arith)
      ]
    ]
  ]
    where
      heard_some : heard w whole door ≡ [] → ⊥
      heard_some none =
          let t : HasTick round door = fair.ticks door h.is_connected in
          let place = stands_in_round beginning t.place in
          let at = heard_at w (beginning ++ t.before) place.after t.entry door t.by (tick_loud t.entry.event t.tick) in
          none_behind (heard w (beginning ++ t.before) door) (hears w door at.0 t.entry) at.1
          (sym at.2 ∙ ap (λ (xs : List Entry). heard w xs door) (sym place.whole) ∙ none)

pub introduced_in_a_round : IntroducedInARound
introduced_in_a_round w connected beginning round live legal sizes unforged are fair door u left numbers h =
    result w connected beginning round live legal sizes unforged are fair door u left numbers h
