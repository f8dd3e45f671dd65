-- A door introduces each update of a client after those before it, or passes over it once as many are executed. So an update
-- that was handed to it, its earlier ones being done with, it has introduced at its next events, if it wasn't executed
-- meanwhile.
use Rattle.std.proofs.Common.{◌≡◌, ℕ, ◌+◌, ◌<◌, ◌≤◌, Bool, true, false, cond, List, [], ◌∷◌, ◌++◌}
use Rattle.std.proofs.Common.{Option, Some, None, filter, map, max, nat_eq, nat_lt, nat_le, length, refl, sym, ◌∙◌, ap, subst}
use Rattle.std.proofs.Common.{inl, inr, ◌⊎◌, arith, append_assoc, append-nil, eqb-true}
use Rattle.std.proofs.lemmas.Bool.{and_from, cases_lt, cases_eq, cases_Bool, lt-ltb}
use Rattle.std.proofs.lemmas.Bool.{le-leb, or_right}
use Rattle.std.proofs.lemmas.List.{length-append}
use Rattle.std.proofs.lemmas.List.Elements.{filter-append}
use Rattle.std.proofs.lemmas.Grind.{flat_map-append}
use Rattle.std.specs.List.{filter_map, flat_map}
use Rattle.plain_lists.specs.Lists.{IsIn, here, Begins}
use Rattle.plain_lists.proofs.Members.{none_in, in_cons_cases, in_cases, in_left, in_right, in_first, in_map_from, in_filter_from, in_filter_map_from, in_flat_map}
use Rattle.protocol_rules.proofs.FirstMet.{first_in, first_there}
use Rattle.quorum_sets.specs.Masters.{numbers_below}
use Rattle.message_types.specs.declared.signed.Signed.{Signed}
use Rattle.message_types.specs.declared.updates.Update.{Update}
use Rattle.message_types.specs.declared.preordering.PoRequest.{PoRequest}
use Rattle.message_types.specs.declared.body.Body.{Body}
use Rattle.message_types.specs.declared.body.Body.TheVariants as body
use Rattle.protocol_rules.specs.Words.{first_of_list}
use Rattle.protocol_rules.specs.Group.{Group, is_live, most_number, is_door}
use Rattle.protocol_rules.specs.Preorder.{request_in, requests_said, update_of}
use Rattle.protocol_rules.specs.Execution.{updates_of}
use Rattle.protocol_rules.specs.Turns.{last_request, last_introduced, next_in_turn, requests_in_turn_due}
use Rattle.protocol_rules.specs.Master.{Heard, taken_frames, taken_at, said_before, executed}
use Rattle.history_rules.specs.Events.{Entry, frame_taken, is_silent}
use Rattle.history_rules.specs.Setup.{Setup, is_correct_master, room, own}
use Rattle.history_rules.specs.Legal.{Stands, IsLegal, heard, executions, known_of}
use Rattle.agreement.proofs.Places.{by_growth, heads_same, tails_same}
use Rattle.agreement.proofs.KnownAsItGrows.{known_then, hears, heard_at, heard_other, heard_silent}
use Rattle.agreement.proofs.LearnedWasSaid.{heard_none}
use Rattle.agreement.proofs.VouchedIsOrdered.{executions_grow}
use Rattle.progress.specs.Rounds.{HasTaken, is_heard}
use Rattle.progress.proofs.Arriving.{known_upto, took_loud}
use Rattle.progress.proofs.Saying.{LastEvent}
use Rattle.progress.proofs.Requesting.{said_below, in_turn_at}
use Rattle.progress.proofs.Turning.{client_of, number_of, last_said, greatest_in, request_in_from, introduced_below}
use Rattle.progress.proofs.Turning.{Follows, next_follows}
use Rattle.progress.proofs.Turned.{SameRequests, requests_then}

-- the last update that was introduced for a client was
pub introduced_in : (said : List Body) (c : ℕ) → 1 ≤ last_introduced said c → (q : PoRequest) × IsIn (body.PoRequest q) said
    × (client_of q ≡ c) × (number_of q ≡ last_introduced said c)
introduced_in said c h =
    let requests : List PoRequest = filter (λ (b : PoRequest). nat_eq b.update.body.client c) (requests_said said) in
    let found = in_map_from (λ (b : PoRequest). b.update.body.t) requests
    (greatest_in (map (λ (b : PoRequest). b.update.body.t) requests) h) in
    let passes = in_filter_from (λ (b : PoRequest). nat_eq b.update.body.client c) (requests_said said) found.1 in
    let word = in_filter_map_from request_in said passes.0 in (
      found.0,
      subst (λ (b : Body). IsIn b said) (request_in_from word.0 found.0 word.2) word.1,
      eqb-true (client_of found.0) c passes.1,
      sym found.2,
    )

-- it goes by the requests alone
pub introduced_more : (xs ys : List Body) (c : ℕ) → ((q : PoRequest) → IsIn (body.PoRequest q) xs → IsIn (body.PoRequest q) ys)
    → last_introduced xs c ≤ last_introduced ys c
introduced_more xs ys c within = elim (cases_lt 0 (last_introduced xs c)) [
  | inr none ↦ omega arith
  | inl some ↦
      let q = introduced_in xs c some in
      let below : number_of q.0 ≤ last_introduced ys c = introduced_below q.0 ys c (within q.0 q.1) q.2 in
      let is : number_of q.0 ≡ last_introduced xs c = q.3 in
      omega arith
]

pub requests_more : (xs ys : List Body) → ((q : PoRequest) → IsIn (body.PoRequest q) xs → IsIn (body.PoRequest q) ys)
    → last_request xs ≤ last_request ys
requests_more xs ys within = elim (cases_lt 0 (last_request xs)) [
  | inr none ↦ omega arith
  | inl some ↦
      let q = last_said xs some in
      let below : q.0.k ≤ last_request ys = said_below q.0 ys (within q.0 q.1) in
      let is : q.0.k ≡ last_request xs = q.2 in
      omega arith
]

-- update t of the client was introduced, or as many are executed
abbrev pub IsDone : List Body → ℕ → ℕ → ℕ → Type 0
IsDone said count c t = ((q : PoRequest) × IsIn (body.PoRequest q) said × (client_of q ≡ c) × (number_of q ≡ t)) ⊎ (t ≤ count)

-- each up to the last that was introduced
abbrev pub Covered : List Body → ℕ → ℕ → Type 0
Covered said count c = (t : ℕ) → 1 ≤ t → t ≤ last_introduced said c → IsDone said count c t

done_more : (xs ys : List Body) (count more c t : ℕ) → ((q : PoRequest) → IsIn (body.PoRequest q) xs →
    IsIn (body.PoRequest q) ys) → count ≤ more → IsDone xs count c t → IsDone ys more c t
done_more xs ys count more c t within le (inl q) = inl (q.0, within q.0 q.1, q.2, q.3)
done_more xs ys count more c t within le (inr low) = inr (omega arith)

pub covered_same : (xs ys : List Body) (count more c : ℕ) → SameRequests xs ys → count ≤ more → Covered xs count c →
    Covered ys more c
covered_same xs ys count more c same le covered t one low =
    let back : last_introduced ys c ≤ last_introduced xs c = introduced_more ys xs c same.1 in
    done_more xs ys count more c t same.0 le (covered t one (omega arith))

module _ (g : Group) (me : ℕ) (taken : List (Signed Body)) (done : List Update) (c : ℕ) where
  covered_next : (said : List Body) (d : ℕ) → Covered said (updates_of c done) c →
      Covered (said ++ next_in_turn g me taken done said d) (updates_of c done) c
  covered_next said d covered t one low = elim (cases_lt (last_introduced said c) t) [
    | inr earlier ↦ done_more said (said ++ next_in_turn g me taken done said d) (updates_of c done) (updates_of c done) c t
        (λ q h. in_left _ h) (omega arith) (covered t one earlier)
    | inl beyond ↦
        let q = introduced_in (said ++ next_in_turn g me taken done said d) c (omega arith) in
        let is : number_of q.0 ≡ last_introduced (said ++ next_in_turn g me taken done said d) c = q.3 in
        elim (in_cases said q.1) [
          | inl before ↦
              let below : number_of q.0 ≤ last_introduced said c = introduced_below q.0 said c before q.2 in
              absurd (omega arith)
          | inr now ↦
              let follows : Follows g me taken done said d q.0 = next_follows g me taken done said d q.0 now in
              let for_c : d ≡ c = sym follows.by ∙ q.2 in
              let update : number_of q.0 ≡ max (last_introduced said c) (updates_of c done) + 1 =
              subst (λ (x : ℕ). number_of q.0 ≡ max (last_introduced said x) (updates_of x done) + 1) for_c follows.update in
              elim (cases_lt (updates_of c done) t) [
                | inr executed ↦ inr executed
                | inl above ↦ inl (q.0, in_right said now, q.2, omega arith)
              ]
        ]
  ]

  -- what was said, with what has its turn, when the client's own turn comes
  pub record Reached (said : List Body) (clients : List ℕ) : Type 0 where
    pub so_far : List Body
    pub covered : Covered so_far (updates_of c done) c
    pub from : (q : PoRequest) → IsIn (body.PoRequest q) so_far → IsIn (body.PoRequest q) said
        ⊎ IsIn (body.PoRequest q) (requests_in_turn_due g me taken done said clients)
    pub all : (q : PoRequest) → IsIn (body.PoRequest q) said → IsIn (body.PoRequest q) so_far
    pub next : (b : Body) → IsIn b (next_in_turn g me taken done so_far c) →
        IsIn b (requests_in_turn_due g me taken done said clients)

  pub reached : (said : List Body) (clients : List ℕ) → IsIn c clients → Covered said (updates_of c done) c → Reached said clients
  reached said (d ∷ clients) h covered = by_place (in_cons_cases h) (λ later. reached
      (said ++ next_in_turn g me taken done said d) clients later (covered_next said d covered))
    where
      by_place : (c ≡ d) ⊎ IsIn c clients
          → (IsIn c clients → Reached (said ++ next_in_turn g me taken done said d) clients) → Reached said (d ∷ clients)
      by_place (inl is) deeper = record {
        so_far = said;
        covered = covered;
        from = λ q h. inl h;
        all = λ q h. h;
        next = λ b h. in_left _ (subst (λ (x : ℕ). IsIn b (next_in_turn g me taken done said x)) is h);
      }
      by_place (inr later) deeper =
          let rest : Reached (said ++ next_in_turn g me taken done said d) clients = deeper later in
          record {
            so_far = rest.so_far;
            covered = rest.covered;
            from = λ q h. elim (rest.from q h) [
              | inl before ↦ elim (in_cases said before)
                  [ inl earlier ↦ inl earlier | inr now ↦ inr (in_left _ now) ]
              | inr due ↦ inr (in_right (next_in_turn g me taken done said d) due)
            ];
            all = λ q h. rest.all q (in_left _ h);
            next = λ b h. in_right (next_in_turn g me taken done said d) (rest.next b h);
          }
  reached said [] h covered = absurd (none_in h)

  covered_due : (said : List Body) (clients : List ℕ) → Covered said (updates_of c done) c →
      Covered (said ++ requests_in_turn_due g me taken done said clients) (updates_of c done) c
  covered_due said [] covered = subst (λ (bs : List Body). Covered bs (updates_of c done) c) (sym (append-nil said)) covered
  covered_due said (d ∷ clients) covered = subst (λ (bs : List Body). Covered bs (updates_of c done) c)
      (append_assoc said (next_in_turn g me taken done said d)
      (requests_in_turn_due g me taken done (said ++ next_in_turn g me taken done said d) clients))
      (covered_due (said ++ next_in_turn g me taken done said d) clients (covered_next said d covered))

pub updates_grow : (c : ℕ) (xs ys : List Update) → Begins xs ys → updates_of c xs ≤ updates_of c ys
updates_grow c xs ys b =
    let all : updates_of c ys ≡ length (filter (λ (u : Update). nat_eq u.client c) xs
    ++ filter (λ (u : Update). nat_eq u.client c) b.rest) = ap (updates_of c) b.same
    ∙ ap length (filter-append (λ (u : Update). nat_eq u.client c) xs b.rest) in
    let sum : length (filter (λ (u : Update). nat_eq u.client c) xs ++ filter (λ (u : Update). nat_eq u.client c) b.rest)
    ≡ updates_of c xs + updates_of c b.rest = length-append (filter (λ (u : Update). nat_eq u.client c) xs)
    (filter (λ (u : Update). nat_eq u.client c) b.rest) in
    omega arith

-- a list whose end is one element begins with whatever begins it and isn't all of it
pub begins_init : {X : Type 0} (xs more ys : List X) (z : X) → xs ++ more ≡ ys ++ z ∷ [] → (more ≡ [] → ⊥) → Begins xs ys
begins_init [] more ys z e some = record { rest = ys; same = refl }
begins_init (x ∷ xs) more [] z e some = absurd (some (ends xs (tails_same e)))
  where
    ends : {X : Type 0} (xs : List X) {more : List X} → xs ++ more ≡ [] → more ≡ []
    ends [] e = e
    ends (x ∷ xs) e = cc
begins_init {X} (x ∷ xs) more (y ∷ ys) z e some =
    let b = begins_init xs more ys z (tails_same e) some in
    record { rest = b.rest; same = ap (λ (v : X). v ∷ ys) (sym (heads_same e)) ∙ ap (λ (vs : List X). x ∷ vs) b.same }

pub client_heard : (w : Setup) (connected : ℕ → Bool) (actor c : ℕ) → actor ≡ w.group.n + c → is_heard w connected actor ≡ true
client_heard w connected actor c e = or_right (connected actor) (nat_le w.group.n actor)
    (le-leb w.group.n actor (omega arith))

module _ (w : Setup) (history : List Entry) (m : ℕ) (live : is_live w.group ≡ true) (legal : IsLegal w history)
    (correct : is_correct_master w m ≡ true) (left : 1 ≤ room w (own history m)) (c : ℕ) where
  abbrev said_by : List Entry → List Body
  said_by before = said_before (heard w before m)

  abbrev count : List Entry → ℕ
  count before = updates_of c (executions w before m)

  abbrev IsCovered : List Entry → Type 0
  IsCovered before = Covered (said_by before) (count before) c

  -- what is executed when an entry's words are said
  executed_then : (before : List Entry) (e : Entry) → e.actor ≡ m → is_silent e.event ≡ false →
      executions w (before ++ e ∷ []) m ≡ executed w.group (known_then w before m e)
  executed_then before e by loud = ap (executed w.group) (known_upto w before e m by loud)

  pub count_then : (before : List Entry) (e : Entry) → e.actor ≡ m → is_silent e.event ≡ false →
      count before ≤ updates_of c (executed w.group (known_then w before m e))
  count_then before e by loud = subst (λ (us : List Update). count before ≤ updates_of c us) (executed_then before e by loud)
      (updates_grow c (executions w before m) (executions w (before ++ e ∷ []) m)
      (executions_grow w (before ++ e ∷ []) before m record { rest = e ∷ []; same = refl }))

  covered_none : (after : List Entry) → history ≡ [] ++ after → IsCovered []
  covered_none after same t one low =
      let none : said_by [] ≡ [] = ap said_before (heard_none w m) in
      let zero_last : last_introduced (said_by []) c ≡ 0 = ap (λ (bs : List Body). last_introduced bs c) none in
      absurd (omega arith)

  covered_more : (before : List Entry) (e : Entry) → ((after : List Entry) → history ≡ before ++ after → IsCovered before)
      → (after : List Entry) → history ≡ (before ++ e ∷ []) ++ after → IsCovered (before ++ e ∷ [])
  covered_more before e so_far after same =
      let whole : history ≡ before ++ e ∷ after = same ∙ append_assoc before (e ∷ []) after in
      let s : Stands history before e = record { after = after; whole = whole } in
      let covered : IsCovered before = so_far (e ∷ after) whole in
      elim (cases_eq e.actor m) [
        | inr other ↦ subst (λ (hs : List Heard). Covered (said_before hs) (updates_of c (executed w.group (known_of hs))) c)
            (sym (heard_other w before e m other)) covered
        | inl by ↦ elim (cases_Bool (is_silent e.event)) [
          | inl silent ↦ subst (λ (hs : List Heard). Covered (said_before hs)
              (updates_of c (executed w.group (known_of hs))) c) (sym (heard_silent w before e m by silent)) covered
          | inr loud ↦
              let done : List Update = executed w.group (known_then w before m e) in
              let here : Covered (said_by before) (updates_of c done) c = covered_same (said_by before) (said_by before)
              (count before) (updates_of c done) c (λ r h. h, λ r h. h) (count_then before e by loud) covered in
              subst (λ (us : List Update). Covered (said_by (before ++ e ∷ [])) (updates_of c us) c)
              (sym (executed_then before e by loud))
              (covered_same (said_by before ++ in_turn_at w before m e) (said_by (before ++ e ∷ []))
              (updates_of c done) (updates_of c done) c
              (requests_then w history m live legal correct left before e s by loud) (omega arith)
              (covered_due w.group m (taken_at (heard w before m) (frame_taken e.event)) done c (said_by before)
              (numbers_below w.group.clients) here))
        ]
      ]

  pub covered_by : (beginning after : List Entry) → history ≡ beginning ++ after → IsCovered beginning
  covered_by beginning = by_growth (λ (before : List Entry). (after : List Entry) → history ≡ before ++ after →
      IsCovered before) covered_none covered_more beginning

in_taken_left : (before : List Heard) (took : Option (Signed Body)) (f : Signed Body) →
    IsIn f (flat_map (λ (e : Heard). taken_frames e.took) before) → IsIn f (taken_at before took)
in_taken_left before took f h = in_left (taken_frames took) h

in_taken_right : (before : List Heard) (took : Option (Signed Body)) (f : Signed Body) → IsIn f (taken_frames took) →
    IsIn f (taken_at before took)
in_taken_right before took f h = in_right (flat_map (λ (e : Heard). taken_frames e.took) before) h

-- a frame taken in the whole is among those taken up to the last event
pub taken_by_last : (w : Setup) (history : List Entry) (m : ℕ) (last : LastEvent w history m) (said : Entry) (nth : ℕ) (b : Body)
    (t : HasTaken history m said nth b) → IsIn t.frame (taken_at (heard w last.before m) (frame_taken last.entry.event))
taken_by_last w history m last said nth b t =
    let at = heard_at w t.before t.place.after t.entry m t.by (took_loud t.entry.event said.stamp nth t.frame t.event) in
    let all : heard w history m ≡ heard w t.before m ++ hears w m at.0 t.entry ∷ at.1 =
    ap (λ (xs : List Entry). heard w xs m) t.place.whole ∙ at.2 in
    let took : IsIn t.frame (taken_frames (frame_taken t.entry.event)) =
    subst (λ (o : Option (Signed Body)). IsIn t.frame (taken_frames o)) (sym (ap frame_taken t.event)) (here []) in
    let in_all : IsIn t.frame (flat_map (λ (e : Heard). taken_frames e.took) (heard w history m)) =
    subst (λ (hs : List Heard). IsIn t.frame (flat_map (λ (e : Heard). taken_frames e.took) hs)) (sym all)
    (in_flat_map (λ (e : Heard). taken_frames e.took) (in_first (heard w t.before m) at.1) took) in
    let split = subst (λ (fs : List (Signed Body)). IsIn t.frame fs)
    (flat_map-append (λ (e : Heard). taken_frames e.took) (heard w last.before m)
    (hears w m last.used last.entry ∷ []))
    (subst (λ (hs : List Heard). IsIn t.frame (flat_map (λ (e : Heard). taken_frames e.took) hs)) last.heard_all in_all) in
    elim (in_cases (flat_map (λ (e : Heard). taken_frames e.took) (heard w last.before m)) split) [
      | inl earlier ↦ in_taken_left (heard w last.before m) (frame_taken last.entry.event) t.frame earlier
      | inr now ↦ in_taken_right (heard w last.before m) (frame_taken last.entry.event) t.frame
          (subst (λ (fs : List (Signed Body)). IsIn t.frame fs)
          (append-nil (taken_frames (frame_taken last.entry.event))) now)
    ]

-- the request of the next update, where that was taken
pub next_request_there : (g : Group) (me : ℕ) (taken : List (Signed Body)) (done : List Update) (said : List Body) (c t : ℕ)
    → is_door g c me ≡ true → last_request said < most_number → t ≡ max (last_introduced said c) (updates_of c done) + 1
    → (u : Signed Update) → IsIn u (filter_map (update_of c t) taken)
    → (v : Signed Update) × IsIn v (filter_map (update_of c t) taken)
    × IsIn (body.PoRequest record { k = last_request said + 1; update = v }) (next_in_turn g me taken done said c)
next_request_there g me taken done said c t serves low is u h =
    let first = first_there h in (
      first.0,
      first_in (filter_map (update_of c t) taken) first.1,
      subst (λ (b : Bool). IsIn (body.PoRequest record { k = last_request said + 1; update = first.0 })
          (cond b (elim (first_of_list (filter_map (update_of c (max (last_introduced said c) (updates_of c done) + 1)) taken)) [
            | Some u ↦ body.PoRequest record { k = last_request said + 1; update = u } ∷ []
            | None ↦ []
          ]) [])) (sym (and_from (is_door g c me) (nat_lt (last_request said) most_number) serves
          (lt-ltb (last_request said) most_number low)))
          (subst (λ (x : ℕ). IsIn (body.PoRequest record { k = last_request said + 1; update = first.0 })
          (elim (first_of_list (filter_map (update_of c x) taken)) [
            | Some u ↦ body.PoRequest record { k = last_request said + 1; update = u } ∷ []
            | None ↦ []
          ])) is
          (subst (λ (o : Option (Signed Update)). IsIn (body.PoRequest record { k = last_request said + 1; update = first.0 })
          (elim o [
            | Some u ↦ body.PoRequest record { k = last_request said + 1; update = u } ∷ []
            | None ↦ []
          ])) (sym first.1) (here []))),
    )
