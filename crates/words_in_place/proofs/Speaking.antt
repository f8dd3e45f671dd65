-- All that a master says, and each frame inside it, is in its place.
use Rattle.std.proofs.Common.{◌≡◌, ℕ, ◌+◌, ◌^◌, ◌<◌, ◌≤◌, Bool, true, List, [], ◌∷◌, ◌++◌, Option, Some, None, length, filter, map}
use Rattle.std.proofs.Common.{nat_eq, nat_lt, refl, sym, ◌∙◌, subst, inl, inr, ◌⊎◌, arith}
use Rattle.std.specs.List.{list_all, list_any, flat_map}
use Rattle.std.proofs.lemmas.Bool.{false≢true, and_from, and_parts, le-leb, lt-ltb, eqb-true}
use Rattle.plain_lists.specs.Lists.{IsIn, here, Each}
use Rattle.plain_lists.proofs.Members.{none_in, each_none, each_one, each_append, each_if, each_flat_map, in_cons_cases, in_cases, in_left, in_right, in_map, in_flat_map, in_flat_map_from, in_map_from, in_filter_from, in_take}
use Rattle.quorum_sets.specs.Masters.{numbers_below}
use Rattle.message_types.specs.declared.signed.Signed.{Signed}
use Rattle.message_types.specs.declared.updates.Update.{Update}
use Rattle.message_types.specs.declared.vouchers.Order.{Order}
use Rattle.message_types.specs.declared.body.Body.{Body}
use Rattle.message_types.specs.declared.body.Body.TheVariants as body
use Rattle.message_types.specs.Parts.{parts, inside}
use Rattle.protocol_rules.specs.declared.facts.OrderFact.{OrderFact}
use Rattle.protocol_rules.specs.Group.{Group, is_live}
use Rattle.protocol_rules.specs.Places.{in_place, word_in_place, is_view, is_number}
use Rattle.protocol_rules.specs.Facts.{facts_of}
use Rattle.protocol_rules.specs.Views.{view, is_open}
use Rattle.protocol_rules.specs.Measures.{Told, ticks_of, waited}
use Rattle.protocol_rules.specs.Matrix.{reach}
use Rattle.protocol_rules.specs.Order.{ordered_run}
use Rattle.protocol_rules.specs.Patience.{Moment, wait}
use Rattle.protocol_rules.specs.Lacking.{gift_for, gift_due}
use Rattle.protocol_rules.specs.Master.{Heard, learned, taken_frames, known_at, taken_at, said_before, answers}
use Rattle.protocol_rules.specs.Master.{moments_of, answered_in, is_give, is_order_given}
use Rattle.protocol_rules.specs.Master.{told_of, vouchers_from, vouchers_said, vouchers_due, executed}
use Rattle.agreement.proofs.QuorumsMeet.{below_from}
use Rattle.agreement.proofs.SpokenByKind.{Due, Again, is_repeated, request_is_again, acks_are_again, summary_is_again}
use Rattle.agreement.proofs.SpokenByKind.{each_by_rules, answers_are_due}
use Rattle.agreement.proofs.FramesInside.{closed_parts, due_inside}
use Rattle.agreement.proofs.LearnedWasSaid.{known_closed, taken_known}
use Rattle.words_in_place.specs.Laws.{KnownIsClosed, PartsAreClosed, KnowsPlaced, RowsAreInPlace, OrderedAreInPlace}
use Rattle.words_in_place.specs.Laws.{OfferedAreInPlace, PlansAreInPlace, MaySpeak, AnswersAreInPlace, IsSaid}
use Rattle.words_in_place.specs.Laws.{OwnPartsAreInPlace, KnownStaysInPlace}
use Rattle.words_in_place.proofs.Limits.{all_from, all_each, filter_more, view_within, some_in_quorum}
use Rattle.words_in_place.proofs.Facts.{FactPlaced, facts_placed, rows_placed, ordered_placed, offered_placed}
use Rattle.words_in_place.proofs.Facts.{plan_known_placed}
use Rattle.words_in_place.proofs.Ordering.{WordPlaced, prepares_placed, commits_placed, marks_placed}
use Rattle.words_in_place.proofs.Ordering.{worthy_prepares_placed, whole_preprepares_placed, order_gift_placed}
use Rattle.words_in_place.proofs.Ordering.{order_asks_placed}
use Rattle.words_in_place.proofs.Ordering.{preprepares_placed, ask_order_placed, gives_ordered_placed}
use Rattle.words_in_place.proofs.Requesting.{requests_placed, acks_placed, summaries_placed, waiting_placed}
use Rattle.words_in_place.proofs.Requesting.{ask_update_placed, gives_placed, requests_in_turn_placed}
use Rattle.words_in_place.proofs.Requesting.{acks_in_turn_placed, request_gift_placed, update_asks_placed}
use Rattle.words_in_place.proofs.Reporting.{report_placed, new_view_placed}
use Rattle.words_in_place.proofs.Measuring.{ticks_told, waited_within, tat_bounds_placed, pings_placed, pongs_placed}
use Rattle.words_in_place.proofs.Measuring.{round_trips_placed, tat_reports_placed, suspects_placed, votes_placed}

pub known_is_closed : KnownIsClosed
known_is_closed before took = known_closed before took

pub parts_are_closed : PartsAreClosed
parts_are_closed frames = closed_parts frames

facts_known : (g : Group) (known : List (Signed Body)) → KnowsPlaced g known → Each (FactPlaced g) (facts_of g known)
facts_known g known well = facts_placed g known well.0 (all_each (in_place g) known well.1)

pub rows_are_in_place : RowsAreInPlace
rows_are_in_place g known well = all_from _ _ (rows_placed g (facts_of g known) (facts_known g known well))

pub ordered_are_in_place : OrderedAreInPlace
ordered_are_in_place g known well s rows e = ordered_placed g (facts_of g known) (facts_known g known well) s rows e

pub offered_are_in_place : OfferedAreInPlace
offered_are_in_place g known well v s rows e = offered_placed g (facts_of g known) (facts_known g known well) v s rows e

pub plans_are_in_place : PlansAreInPlace
plans_are_in_place g known well v plan e =
    let placed = plan_known_placed g (facts_of g known) (facts_known g known well) v plan e in
    (all_from _ plan.rows placed.0, placed.1)

module _ (g : Group) (me : ℕ) (said : List Body) where
  vouchers_from_placed : (c : ℕ) → c < g.clients → (x : ℕ) → 1 ≤ x → (rest : List Order) →
      Each (WordPlaced g me) (vouchers_from said c x rest)
  vouchers_from_placed c below x low [] = each_none (WordPlaced g me)
  vouchers_from_placed c below x low (order ∷ rest) = each_append (WordPlaced g me) _ _
      (each_if (WordPlaced g me) (list_any (vouchers_said c x) said) []
      (body.Voucher record { client = c; number = x; order = order } ∷ []) (λ _. each_none (WordPlaced g me))
      (λ _. each_one (WordPlaced g me) (body.Voucher record { client = c; number = x; order = order })
      (and_from _ _ (lt-ltb c g.clients below) (le-leb 1 x low))))
      (vouchers_from_placed c below (x + 1) (omega arith) rest)

  vouchers_placed : (orders : List Update → ℕ → List Order) (known : List (Signed Body)) →
      Each (WordPlaced g me) (vouchers_due g orders known said)
  vouchers_placed orders known = each_flat_map (WordPlaced g me) _ (numbers_below g.clients) (λ c h.
      vouchers_from_placed c (below_from g.clients c h) 1 (omega arith) (orders (executed g known) c))

-- what is known at the next event: known at the last, a part of what was said there, or of the frame taken now
known_next : (before : List Heard) (e : Heard) (next : Option (Signed Body)) (p : Signed Body) →
    IsIn p (known_at (before ++ e ∷ []) next)
    → IsIn p (known_at before e.took) ⊎ (IsIn p (flat_map parts e.said) ⊎ IsIn p (flat_map parts (taken_frames next)))
unfolding known_at
known_next before e next p h = elim (in_cases (flat_map learned (before ++ e ∷ [])) h) [
  | inr now ↦ inr (inr now)
  | inl earlier ↦
      let found = in_flat_map_from learned (before ++ e ∷ []) earlier in
      elim (in_cases before found.1) [
        | inl older ↦ inl (in_left (flat_map parts (taken_frames e.took)) (in_flat_map learned older found.2))
        | inr last ↦ elim (in_cons_cases last) [
          | inl same ↦ elim (in_cases (flat_map parts (taken_frames e.took))
              (subst (λ (d : Heard). IsIn p (learned d)) same found.2)) [
                | inl taken ↦ inl (in_right (flat_map learned before) taken)
                | inr said ↦ inr (inl said)
              ]
          | inr none ↦ absurd (none_in none)
        ]
      ]
]

-- a master's word in its place, as a frame of its own
framed : (g : Group) (signer : ℕ) (b : Body) (sig : List ℕ) → signer < g.n → WordPlaced g signer b →
    in_place g record { signer = signer; body = b; sig = sig } ≡ true
framed g signer (body.Update b) sig below placed = absurd (false≢true placed)
framed g signer b sig below placed = and_from (nat_lt signer g.n) (word_in_place g signer b)
    (lt-ltb signer g.n below) placed

-- a frame said is one's own, of one of the answers
pub said_word : (g : Group) (orders : List Update → ℕ → List Order) (me : ℕ) (before : List Heard)
    (took : Option (Signed Body)) (at_tick : Bool) (count : ℕ) (frames : List (Signed Body))
    → IsSaid g orders me before took at_tick count frames → (f : Signed Body) → IsIn f frames →
    (f.signer ≡ me) × IsIn f.body (answers g orders me before took at_tick)
said_word g orders me before took at_tick count frames is f h = (
  eqb-true f.signer me (all_each (λ f. nat_eq f.signer me) frames is.own f h),
  in_take count _ (subst (λ (bs : List Body). IsIn f.body bs) is.words (in_map (λ (f : Signed Body). f.body) h)),
)

-- a frame that was said is known
said_known : (before : List Heard) (took : Option (Signed Body)) (e : Heard) → IsIn e before →
    (f : Signed Body) → IsIn f e.said → IsIn f (known_at before took)
unfolding known_at
said_known before took e among f h = in_left (flat_map parts (taken_frames took)) (in_flat_map learned among
    (in_right (flat_map parts (taken_frames e.took)) (in_flat_map parts h (here (inside f.body)))))

-- the frame just taken is known
took_known : (before : List Heard) (f : Signed Body) → IsIn f (known_at before (Some f))
unfolding known_at
took_known before f = in_right (flat_map learned before) (in_flat_map parts (here []) (here (inside f.body)))

-- a body that was said is that of a frame that is known
pub said_frame : (before : List Heard) (took : Option (Signed Body)) (b : Body) → IsIn b (said_before before) →
    (f : Signed Body) × IsIn f (known_at before took) × (b ≡ f.body)
said_frame before took b h =
    let at = in_flat_map_from (λ (e : Heard). map (λ (f : Signed Body). f.body) e.said) before h in
    let found = in_map_from (λ (f : Signed Body). f.body) at.0.said at.2 in
    (found.0, said_known before took at.0 at.1 found.0 found.1, found.2)

-- the frames inside an answer are known
pub answer_inside : (g : Group) (orders : List Update → ℕ → List Order) (before : List Heard)
    (took : Option (Signed Body)) (b : Body)
    → (Due g orders (known_at before took) (taken_at before took) (said_before before) b ⊎ Again (said_before before) b)
    → (p : Signed Body) → IsIn p (inside b) → IsIn p (known_at before took)
answer_inside g orders before took b (inl due) p within = due_inside g orders (known_at before took)
    (taken_at before took) (said_before before) (taken_known before took) (known_closed before took) b due p within
answer_inside g orders before took b (inr again) p within =
    let frame = said_frame before took b again.0 in
    known_closed before took frame.0 p frame.1 (subst (λ (w : Body). IsIn p (inside w)) frame.2 within)

module _ (g : Group) (orders : List Update → ℕ → List Order) (me : ℕ) (before : List Heard)
    (took : Option (Signed Body)) (at_tick : Bool) (speaks : MaySpeak g me before took at_tick) where
  -- what was heard, with what is answered now
  abbrev heard_now : List Heard
  heard_now = before ++ record { took = took; is_tick = at_tick; said = [] } ∷ []

  known_placed : Each (λ p. in_place g p ≡ true) (known_at before took)
  known_placed = all_each (in_place g) (known_at before took) speaks.placed

  few_ticks : ticks_of (told_of g [] heard_now) ≤ 2 ^ 32
  few_ticks =
      let all : ticks_of (told_of g [] heard_now) ≡ length
      (filter (λ e. e.is_tick) heard_now) =
      ticks_told g [] heard_now in
      subst (λ (k : ℕ). k ≤ 2 ^ 32)
      (sym (all ∙ filter_more (λ (e : Heard). e.is_tick) before record {
        took = took;
        is_tick =
            at_tick;
        said = [];
      })) speaks.ticks

  -- what may be said again is in its place whoever says it
  placed_again : (signer : ℕ) (b : Body) (sig : List ℕ) → is_repeated b ≡ true →
      in_place g record { signer = signer; body = b; sig = sig } ≡ true → WordPlaced g me b
  placed_again signer (body.PoRequest b) sig repeated placed = (and_parts _ _ placed).1
  placed_again signer (body.PoAck b) sig repeated placed = (and_parts _ _ placed).1
  placed_again signer (body.PoSummary b) sig repeated placed = (and_parts _ _ placed).1
  placed_again signer _ sig repeated placed = absurd (false≢true repeated)

  again_placed : (b : Body) → Again (said_before before) b → WordPlaced g me b
  again_placed b again =
      let frame = said_frame before took b again.0 in
      placed_again frame.0.signer b frame.0.sig again.1
      (subst (λ (w : Body). in_place g record { signer = frame.0.signer; body = w; sig = frame.0.sig } ≡ true)
      (sym frame.2) (known_placed frame.0 frame.1))

  each_again_placed : (bs : List Body) → Each (Again (said_before before)) bs → Each (WordPlaced g me) bs
  each_again_placed bs each b h = again_placed b (each b h)

  -- what is given to the frame just taken
  asked_number : (f : Signed Body) → in_place g f ≡ true → (s : ℕ) → f.body ≡ body.AskOrder record { s = s } →
      is_number s ≡ true
  asked_number f placed s e = (and_parts _ _ (subst (λ (b : Body). in_place g record {
    signer = f.signer;
    body = b;
    sig = f.sig;
  } ≡ true) e placed)).1

  gift_for_placed : (asked : Body) → ((s : ℕ) → asked ≡ body.AskOrder record { s = s } → is_number s ≡ true) →
      Each (WordPlaced g me) (gift_for g (known_at before took) (facts_of g (known_at before took)) asked)
  gift_for_placed (body.AskUpdate b) number =
      request_gift_placed g me (known_at before took) (taken_at before took) (said_before before) b.j b.k
  gift_for_placed (body.AskOrder b) number =
      order_gift_placed g (some_in_quorum g speaks.sizes) (facts_of g (known_at before took))
      (facts_placed g (known_at before took) (known_closed before took) known_placed) me (said_before before) b.s
      (number b.s refl)
  gift_for_placed _ number = each_none (WordPlaced g me)

  gift_placed : (answered : List ℕ) (now : ℕ) → Each (WordPlaced g me)
      (gift_due g me (known_at before took) (facts_of g (known_at before took)) answered took now)
  gift_placed answered now = by_frame took (λ f e. taken_placed f e)
    where
      taken_placed : (f : Signed Body) → took ≡ Some f → in_place g f ≡ true
      taken_placed f e = known_placed f (subst (λ (o : Option (Signed Body)). IsIn f (known_at before o)) (sym e)
          (took_known before f))

      by_frame : (o : Option (Signed Body)) → ((f : Signed Body) → o ≡ Some f → in_place g f ≡ true) →
          Each (WordPlaced g me)
          (gift_due g me (known_at before took) (facts_of g (known_at before took)) answered o now)
      by_frame None placed = each_none (WordPlaced g me)
      by_frame (Some f) placed = each_if (WordPlaced g me) _ _ []
          (λ _. gift_for_placed f.body (asked_number f (placed f refl))) (λ _. each_none (WordPlaced g me))

  some_gifts_placed : (kind : Body → Bool) → Each (WordPlaced g me) (filter kind (gift_due g me (known_at before took)
      (facts_of g (known_at before took)) (answered_in before) took (ticks_of (told_of g [] heard_now))))
  some_gifts_placed kind b h = gift_placed (answered_in before) (ticks_of (told_of g [] heard_now)) b
      (in_filter_from kind (gift_due g me (known_at before took) (facts_of g (known_at before took))
      (answered_in before) took (ticks_of (told_of g [] heard_now))) h).0

  words_placed : Each (WordPlaced g me) (answers g orders me before took at_tick)
  unfolding answers
  words_placed =
      let known : List (Signed Body) = known_at before took in
      let taken : List (Signed Body) = taken_at before took in
      let said : List Body = said_before before in
      let facts : List OrderFact = facts_of g known in
      let told : List Told = told_of g [] heard_now in
      let v : ℕ = view g known in
      let P = λ (b : Body). WordPlaced g me b in
      let some : 1 ≤ g.q = some_in_quorum g speaks.sizes in
      let placed = facts_placed g known (known_closed before took) known_placed in
      let within : is_view v ≡ true = view_within g known known_placed in
      let few : ticks_of told ≤ 2 ^ 32 = few_ticks in
      let waited_few : waited v told ≤ ticks_of told = waited_within v told in
      let now : ℕ = ticks_of told in
      let moments : List Moment = moments_of g [] heard_now in
      let waiting : ℕ = wait g v (reach g (ordered_run g facts)) moments in
      each_append P _ _ (each_append P _ _ (each_append P _ _ (each_append P _ _ (each_append P _ _
      (each_append P _ _ (each_append P _ _ (each_append P _ _ (each_append P _ _ (each_append P _ _
      (each_append P _ _ (each_append P _ _ (each_append P _ _ (each_append P _ _ (each_append P _ _
      (each_append P _ _ (each_append P _ _ (each_append P _ _ (each_append P _ _
      (each_by_rules P (is_live g) _ _ (requests_placed g me known taken said said (numbers_below g.clients))
      (each_append P _ _ (requests_in_turn_placed g me known taken said (executed g known) said
      (numbers_below g.clients))
      (each_again_placed _ (request_is_again g orders me known taken said (ticks_of told) at_tick))))
      (each_by_rules P (is_live g) _ _ (acks_placed g me known taken said)
      (each_append P _ _ (acks_in_turn_placed g me known taken said)
      (each_again_placed _ (acks_are_again g orders me known taken said (ticks_of told) at_tick)))))
      (each_by_rules P (is_live g) _ _ (summaries_placed g me known taken said at_tick)
      (each_append P _ _
      (each_again_placed _ (summary_is_again g orders me known taken said (ticks_of told) at_tick))
      (summaries_placed g me known taken said at_tick))))
      (each_by_rules P (is_live g) _ _ (preprepares_placed g some facts placed me said known within at_tick)
      (whole_preprepares_placed g some facts placed me said known within at_tick)))
      (each_by_rules P (is_live g) _ _ (prepares_placed g some facts placed me said v within (is_open g known))
      (worthy_prepares_placed g some facts placed me said v within (is_open g known))))
      (commits_placed g some facts placed me said v within))
      (each_by_rules P (is_live g) _ _ (pings_placed g me known said (ticks_of told) at_tick) (each_none P)))
      (each_by_rules P (is_live g) _ _ (pongs_placed g me known said) (each_none P)))
      (each_by_rules P (is_live g) _ _ (round_trips_placed g me known said (ticks_of told) few) (each_none P)))
      (each_by_rules P (is_live g) _ _ (tat_reports_placed g me known said v (waited v told) at_tick within (omega arith))
      (each_none P)))
      (each_by_rules P (is_live g) _ _ (tat_bounds_placed g me known known_placed said v at_tick within) (each_none P)))
      (each_by_rules P (is_live g) _ _ (suspects_placed g me known said v at_tick)
      (votes_placed g me known said v waiting (ticks_of told) at_tick)))
      (report_placed g some facts placed me known said within))
      (new_view_placed g me known said within))
      (each_by_rules P (is_live g) _ _ (ask_update_placed g me known taken said
      (waiting_placed g known (λ s rows e. ordered_placed g facts placed s rows e)) at_tick)
      (update_asks_placed g me known taken said facts moments now at_tick)))
      (each_by_rules P (is_live g) _ _ (gives_placed g me known taken said) (some_gifts_placed is_give)))
      (each_by_rules P (is_live g) _ _ (ask_order_placed g some facts placed me said at_tick)
      (order_asks_placed g some facts placed me said v (is_open g known) waiting now at_tick)))
      (each_by_rules P (is_live g) _ _ (gives_ordered_placed g some facts placed me said known)
      (some_gifts_placed is_order_given)))
      (vouchers_placed g me said orders known))
      (marks_placed g some facts placed me said)

  pub answers_placed : list_all (λ b. in_place g record { signer = me; body = b; sig = [] })
      (answers g orders me before took at_tick) ≡ true
  answers_placed = all_from _ (answers g orders me before took at_tick)
      (λ b h. framed g me b [] speaks.master (words_placed b h))

  -- a frame of one's own, and the frames inside it, which were known
  pub own_frame : (f : Signed Body) → f.signer ≡ me → IsIn f.body (answers g orders me before took at_tick) →
      Each (λ p. in_place g p ≡ true) (parts f)
  own_frame f by h p k = elim (in_cons_cases k) [
    | inl e ↦ subst (λ (z : Signed Body). in_place g z ≡ true) (sym e)
        (framed g f.signer f.body f.sig (subst (λ (x : ℕ). x < g.n) (sym by) speaks.master)
        (subst (λ (x : ℕ). WordPlaced g x f.body) (sym by) (words_placed f.body h)))
    | inr deeper ↦ known_placed p (answer_inside g orders before took f.body (answers_are_due g orders me before took at_tick f.body h)
        p deeper)
  ]

  own_placed : (count : ℕ) (frames : List (Signed Body)) → IsSaid g orders me before took at_tick count frames →
      Each (λ p. in_place g p ≡ true) (flat_map parts frames)
  own_placed count frames is = each_flat_map (λ p. in_place g p ≡ true) parts frames (λ f h. let word =
      said_word g orders me before took at_tick count frames is f h in own_frame f word.0 word.1)

pub answers_are_in_place : AnswersAreInPlace
answers_are_in_place g orders me before took at_tick speaks = answers_placed g orders me before took at_tick speaks

pub own_parts_are_in_place : OwnPartsAreInPlace
own_parts_are_in_place g orders me before took at_tick speaks count frames is =
    all_from (in_place g) (flat_map parts frames) (own_placed g orders me before took at_tick speaks count frames is)

pub known_stays_in_place : KnownStaysInPlace
known_stays_in_place g orders me before took at_tick speaks count frames is next taken =
    let event : Heard = record { took = took; is_tick = at_tick; said = frames } in
    all_from (in_place g) (known_at (before ++ event ∷ []) next) (λ p h. elim (known_next before event next p h) [
      | inl known ↦ all_each (in_place g) (known_at before took) speaks.placed p known
      | inr new ↦ elim new [
        | inl own ↦ own_placed g orders me before took at_tick speaks count frames is p own
        | inr now ↦ all_each (in_place g) (flat_map parts (taken_frames next)) taken p now
      ]
    ])
