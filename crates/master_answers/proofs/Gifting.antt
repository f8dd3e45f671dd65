-- What is given for the ask just taken: what it names, where the master that asks may have one answer more.
use Rattle.std.proofs.Common.{◌≡◌, ℕ, zero, suc, ◌+◌, ◌*◌, ◌<◌, ◌≤◌, Bool, true, false, true≢false, cond, ◌&&◌, not, List}
use Rattle.std.proofs.Common.{[], ◌∷◌, ◌++◌, Option, Some, None, filter, length, map, nat_eq, nat_lt, refl, sym, ◌∙◌, ap}
use Rattle.std.proofs.Common.{subst, take, get_or, is_some, arith, add-one}
use Rattle.std.specs.List.{sum, filter_map, list_any}
use Rattle.std.specs.Option.{option_map, option_to_list, option_and_then}
use Rattle.std.proofs.lemmas.Bool.{and_parts, ltb-true}
use Rattle.std.proofs.lemmas.List.Sums.{sum_by_push}
use Rattle.message_types.specs.declared.signed.Signed.{Signed}
use Rattle.message_types.specs.declared.preordering.PoRequest.{PoRequest}
use Rattle.message_types.specs.declared.updates.Update.{Update}
use Rattle.message_types.specs.declared.reconciling.Give.{Give}
use Rattle.message_types.specs.declared.reconciling.GiveOrdered.{GiveOrdered}
use Rattle.message_types.specs.declared.body.Body.{Body}
use Rattle.message_types.specs.declared.body.Body.TheVariants as body
use Rattle.message_types.specs.Digests.{digest_of_update}
use Rattle.quorum_sets.specs.Masters.{numbers_below}
use Rattle.quorum_sets.proofs.Numbered.{map_start, map_more}
use Rattle.protocol_rules.specs.declared.facts.OrderFact.{OrderFact}
use Rattle.protocol_rules.specs.Words.{first_of_list}
use Rattle.protocol_rules.specs.Group.{Group}
use Rattle.protocol_rules.specs.Preorder.{certified, vector}
use Rattle.protocol_rules.specs.Order.{ordered, gapless}
use Rattle.protocol_rules.specs.Reconcile.{request_of, quorum_of_acks, request_gift, whole_order, given_order, order_gift}
use Rattle.protocol_rules.specs.Lacking.{share, gift_for, gift_due}
use Rattle.protocol_rules.specs.Master.{is_give, is_order_given}
use Rattle.protocol_rules.proofs.LimitValues.{most_number-is}
use Rattle.preorder.proofs.Ranges.{vector-limit}
use Rattle.leader_proposals.proofs.Summing.{leading-is}
use Rattle.reconcile.specs.declared.wanted.Wanted.{Wanted}
use Rattle.reconcile.specs.declared.wanted.Wanted.TheVariants.{Request, Number}
use Rattle.reconcile.specs.Asking.{asks, wanted_in}
use Rattle.reconcile.specs.Giving.{gift_of, give_of}
use Rattle.master_knowledge.proofs.NextRows.{gapless_small}
use Rattle.master_answers.specs.declared.ask.Ask.{Ask}
use Rattle.master_answers.specs.Asked.{ask_of, gives_of, orders_of, has_gift, HasRoom, HasRoomFor, answered_by_gift}
use Rattle.master_answers.proofs.Ordered.{words_of}

-- a gift of a request as the words that give it
abbrev pub gives_in : Option Give → List Body
gives_in gift = option_to_list (option_map (λ given. body.Give given) gift)

-- what a part gives is what the rules give
pub request_given : (g : Group) (known : List (Signed Body)) (j k : ℕ) → give_of g known j k ≡ request_gift g known j k
request_given g known j k = by (certified g known j k)
  where
    from_first : (u : Update) (first : Option (Signed PoRequest)) →
        gives_in (option_map (λ request. record {
          request = request;
          acks =
              quorum_of_acks g known j k (digest_of_update u);
        }) first) ≡ (elim first as (λ (o : Option (Signed PoRequest)). List Body) [
          | Some request ↦ body.Give record {
            request = request;
            acks =
                quorum_of_acks g known j k (digest_of_update u);
          } ∷ []
          | None ↦ []
        ])
    from_first u None = refl
    from_first u (Some request) = refl

    by : (update : Option Update) → gives_in (option_and_then (gift_of g known j k) update)
        ≡ (elim update as (λ (o : Option Update). List Body) [
          | Some u ↦ (elim (first_of_list (filter_map (request_of j k u) known)) as
              (λ (o : Option (Signed PoRequest)). List Body) [
                | Some request ↦ body.Give record {
                  request = request;
                  acks =
                      quorum_of_acks g known j k (digest_of_update u);
                } ∷ []
                | None ↦ []
              ])
          | None ↦ []
        ])
    by None = refl
    by (Some u) = from_first u (first_of_list (filter_map (request_of j k u) known))

pub number_given : (g : Group) (facts : List OrderFact) (s : ℕ) (whole : Option GiveOrdered) →
    whole ≡ given_order g facts s → words_of whole ≡ order_gift g facts s
number_given g facts s whole is = ap words_of is ∙ by (ordered g facts s)
  where
    by : (found : Option (List (List ℕ))) → words_of (option_map (whole_order g facts s) found)
        ≡ (elim found as (λ (o : Option (List (List ℕ))). List Body) [
          | Some rows ↦ body.GiveOrdered (whole_order g facts s rows) ∷ []
          | None ↦ []
        ])
    by None = refl
    by (Some rows) = refl

-- no gift is an ask
pub gives_no_ask : (w : Wanted) (gift : Option Give) → list_any (asks w) (gives_in gift) ≡ false
gives_no_ask (Request j k) None = refl
gives_no_ask (Request j k) (Some given) = refl
gives_no_ask (Number s) None = refl
gives_no_ask (Number s) (Some given) = refl

-- gifts of requests are of their kind, and whole orders of theirs
gives_kept : (gift : Option Give) → filter is_give (gives_in gift) ≡ gives_in gift
gives_kept None = refl
gives_kept (Some given) = refl

gives_passed : (gift : Option Give) → filter is_order_given (gives_in gift) ≡ []
gives_passed None = refl
gives_passed (Some given) = refl

orders_kept : (whole : Option GiveOrdered) → filter is_order_given (words_of whole) ≡ words_of whole
orders_kept None = refl
orders_kept (Some given) = refl

orders_passed : (whole : Option GiveOrdered) → filter is_give (words_of whole) ≡ []
orders_passed None = refl
orders_passed (Some given) = refl

-- these words, of which those that give a request and those that give a number are apart
abbrev pub AreGiven : List Body → List Body → List Body → Type 0
AreGiven words gives orders = (filter is_give words ≡ gives) × (filter is_order_given words ≡ orders)

-- the gift of what a word asks for is given of what is wanted
named : (g : Group) (known : List (Signed Body)) (facts : List OrderFact) (word : Body) (w : Wanted) →
    wanted_in word ≡ Some w → AreGiven (gift_for g known facts word) (gives_of g known w) (orders_of g facts w)
named g known facts (body.AskUpdate b) w e =
    let same : Request b.j b.k ≡ w = cc in
    let given = request_given g known b.j b.k in
    let gift = option_and_then (gift_of g known b.j b.k) (certified g known b.j b.k) in
    subst (λ (x : Wanted). AreGiven (request_gift g known b.j b.k) (gives_of g known x) (orders_of g facts x)) same (
      ap (filter is_give) (sym given) ∙ gives_kept gift ∙ given,
      ap (filter is_order_given) (sym given) ∙ gives_passed gift,
    )
named g known facts (body.AskOrder b) w e =
    let same : Number b.s ≡ w = cc in
    let given = number_given g facts b.s (given_order g facts b.s) refl in
    subst (λ (x : Wanted). AreGiven (order_gift g facts b.s) (gives_of g known x) (orders_of g facts x)) same (
      ap (filter is_give) (sym given) ∙ orders_passed (given_order g facts b.s),
      ap (filter is_order_given) (sym given) ∙ orders_kept (given_order g facts b.s) ∙ given,
    )
named g known facts _ w e = absurd (true≢false (sym (ap is_some e)))

unnamed : (g : Group) (known : List (Signed Body)) (facts : List OrderFact) (word : Body) →
    wanted_in word ≡ None → gift_for g known facts word ≡ []
unnamed g known facts (body.AskUpdate b) e = absurd (true≢false (ap is_some e))
unnamed g known facts (body.AskOrder b) e = absurd (true≢false (ap is_some e))
unnamed g known facts _ e = refl

-- it is another master of the group whose share has room
abbrev pub has_share : Group → ℕ → List (Signed Body) → List OrderFact → List ℕ → ℕ → ℕ → Bool
has_share g me known facts answered now asker =
    nat_lt asker g.n && not (nat_eq asker me)
    && nat_lt (length (filter (nat_eq asker) answered)) (share g known facts now)

pub given_within : (g : Group) (me : ℕ) (known : List (Signed Body)) (facts : List OrderFact) (answered : List ℕ)
    (took : Option (Signed Body)) (now : ℕ) (ask : Ask) → Some ask ≡ ask_of took →
    has_share g me known facts answered now ask.signer ≡ true →
    AreGiven (gift_due g me known facts answered took now) (gives_of g known ask.wanted) (orders_of g facts ask.wanted)
given_within g me known facts answered None now ask is may = absurd (true≢false (ap is_some is))
given_within g me known facts answered (Some f) now ask is may = by (wanted_in f.body) refl is
  where
    by : (w : Option Wanted) → wanted_in f.body ≡ w →
        Some ask ≡ (elim w as (λ (o : Option Wanted). Option Ask)
        [ None ↦ None | Some x ↦ Some record { signer = f.signer; wanted = x } ]) →
        AreGiven (gift_due g me known facts answered (Some f) now) (gives_of g known ask.wanted)
        (orders_of g facts ask.wanted)
    by None e same = absurd (true≢false (ap is_some same))
    by (Some x) e same =
        let ask_is : record { signer = f.signer; wanted = x } ≡ ask = cc in
        let whose : f.signer ≡ ask.signer = ap (λ (a : Ask). a.signer) ask_is in
        let which : x ≡ ask.wanted = ap (λ (a : Ask). a.wanted) ask_is in
        let due : gift_due g me known facts answered (Some f) now ≡ gift_for g known facts f.body =
        ap (λ b. cond b (gift_for g known facts f.body) [])
        (ap (has_share g me known facts answered now) whose ∙ may) in
        let given = named g known facts f.body x e in (
          ap (filter is_give) due ∙ given.0 ∙ ap (gives_of g known) which,
          ap (filter is_order_given) due ∙ given.1 ∙ ap (orders_of g facts) which,
        )

pub given_beyond : (g : Group) (me : ℕ) (known : List (Signed Body)) (facts : List OrderFact) (answered : List ℕ)
    (took : Option (Signed Body)) (now : ℕ) (ask : Ask) → Some ask ≡ ask_of took →
    has_share g me known facts answered now ask.signer ≡ false → gift_due g me known facts answered took now ≡ []
given_beyond g me known facts answered None now ask is beyond = refl
given_beyond g me known facts answered (Some f) now ask is beyond = by (wanted_in f.body) is
  where
    by : (w : Option Wanted) → Some ask ≡ (elim w as (λ (o : Option Wanted). Option Ask)
        [ None ↦ None | Some x ↦ Some record { signer = f.signer; wanted = x } ]) →
        gift_due g me known facts answered (Some f) now ≡ []
    by None same = absurd (true≢false (ap is_some same))
    by (Some x) same =
        let ask_is : record { signer = f.signer; wanted = x } ≡ ask = cc in
        ap (λ b. cond b (gift_for g known facts f.body) [])
        (ap (λ (a : Ask). has_share g me known facts answered now a.signer) ask_is ∙ beyond)

either : {X : Type 0} (b : Bool) (words : List X) → words ≡ [] → cond b words [] ≡ []
either true words none = none
either false words none = refl

pub given_unasked : (g : Group) (me : ℕ) (known : List (Signed Body)) (facts : List OrderFact) (answered : List ℕ)
    (took : Option (Signed Body)) (now : ℕ) → None ≡ ask_of took → gift_due g me known facts answered took now ≡ []
given_unasked g me known facts answered None now is = refl
given_unasked g me known facts answered (Some f) now is = by (wanted_in f.body) refl is
  where
    by : (w : Option Wanted) → wanted_in f.body ≡ w → None ≡ (elim w as (λ (o : Option Wanted). Option Ask)
        [ None ↦ None | Some x ↦ Some record { signer = f.signer; wanted = x } ]) →
        gift_due g me known facts answered (Some f) now ≡ []
    by None e same = either (has_share g me known facts answered now f.signer) (gift_for g known facts f.body)
        (unnamed g known facts f.body e)
    by (Some x) e same = absurd (true≢false (sym (ap is_some same)))

-- the sum of what no more than 14 masters have, of each at most 4,096
sum_limit : (f : ℕ → ℕ) (n : ℕ) → ((j : ℕ) → j < n → f j ≤ 4096) → sum (map f (numbers_below n)) ≤ n * 4096
sum_limit f zero few = let none : sum (map f (numbers_below zero)) ≡ 0 = ap sum (map_start f) in omega arith
sum_limit f (suc n) few =
    let before : sum (map f (numbers_below n)) ≤ n * 4096 = sum_limit f n (λ j less. few j (omega arith)) in
    let last : f n ≤ 4096 = few n (omega arith) in
    let more : sum (map f (numbers_below (suc n))) ≡ sum (map f (numbers_below n)) + f n =
    ap (λ k. sum (map f (numbers_below k))) (sym (add-one n)) ∙ ap sum (map_more f n)
    ∙ sum_by_push (λ x. x) (map f (numbers_below n)) (f n) in
    omega arith

pub sum_few : (f : ℕ → ℕ) (n : ℕ) → n ≤ 14 → ((j : ℕ) → j < n → f j ≤ 4096) → sum (map f (numbers_below n)) ≤ 57344
sum_few f n masters few = let limit : sum (map f (numbers_below n)) ≤ n * 4096 = sum_limit f n few in omega arith

-- so of the first numbers, which tell how far each master's requests are certified
pub leading_sum : (g : Group) (known : List (Signed Body)) (numbers first : List ℕ) (masters : ℕ) →
    first ≡ take masters numbers → masters ≤ length numbers → masters ≡ g.n →
    ((j : ℕ) → j < masters → get_or numbers j 0 ≡ vector g known j) →
    sum first ≡ sum (map (vector g known) (numbers_below g.n))
leading_sum g known numbers first masters is within same told =
    ap sum (is ∙ leading-is numbers (vector g known) masters within told)
    ∙ ap (λ n. sum (map (vector g known) (numbers_below n))) same

pub leading_few : (g : Group) (known : List (Signed Body)) (first : List ℕ) (masters : ℕ) → masters ≡ g.n →
    masters ≤ 14 → sum first ≡ sum (map (vector g known) (numbers_below g.n)) → sum first ≤ 57344
leading_few g known first masters same few is =
    subst (λ total. total ≤ 57344) (sym is)
    (sum_few (vector g known) g.n (subst (λ n. n ≤ 14) same few)
    (λ j less. subst (λ most. vector g known j ≤ most) most_number-is (vector-limit g known j)))

pub numbers_few : (g : Group) (facts : List OrderFact) → gapless g facts ≤ 4096
numbers_few g facts = subst (λ most. gapless g facts ≤ most) most_number-is (gapless_small g facts)

-- another master of the group, told by sizes and a number that are the group's and the master's own
pub others : (g : Group) (me masters mine asker : ℕ) (other : Bool) →
    other ≡ (nat_lt asker masters && not (nat_eq asker mine)) → masters ≡ g.n → mine ≡ me →
    other ≡ (nat_lt asker g.n && not (nat_eq asker me))
others g me masters mine asker other is same own =
    is ∙ ap (λ n. nat_lt asker n && not (nat_eq asker mine)) same
    ∙ ap (λ m. nat_lt asker g.n && not (nat_eq asker m)) own

pub other_few : (masters mine asker : ℕ) (other : Bool) → other ≡ (nat_lt asker masters && not (nat_eq asker mine)) →
    other ≡ true → masters ≤ 14 → asker < 14
other_few masters mine asker other is so few =
    let below : asker < masters = ltb-true asker masters
    (and_parts (nat_lt asker masters) (not (nat_eq asker mine)) (sym is ∙ so)).0 in
    omega arith

pub share_of_other : (g : Group) (me : ℕ) (known : List (Signed Body)) (facts : List OrderFact) (answered : List ℕ)
    (now asker : ℕ) (other room : Bool) → other ≡ (nat_lt asker g.n && not (nat_eq asker me)) → other ≡ true →
    room ≡ nat_lt (length (filter (nat_eq asker) answered)) (share g known facts now) →
    room ≡ has_share g me known facts answered now asker
share_of_other g me known facts answered now asker other room is so within = within
    ∙ ap (λ b. b && nat_lt (length (filter (nat_eq asker) answered)) (share g known facts now)) (sym so ∙ is)

pub share_of_none : (g : Group) (me : ℕ) (known : List (Signed Body)) (facts : List OrderFact) (answered : List ℕ)
    (now asker : ℕ) (other : Bool) → other ≡ (nat_lt asker g.n && not (nat_eq asker me)) → other ≡ false →
    other ≡ has_share g me known facts answered now asker
share_of_none g me known facts answered now asker other is not_so = not_so
    ∙ ap (λ b. b && nat_lt (length (filter (nat_eq asker) answered)) (share g known facts now)) (sym not_so ∙ is)

-- what a frame asks for, by what is found in it
pub ask_found : (f : Signed Body) (found : Option Wanted) → found ≡ wanted_in f.body →
    (elim found as (λ (o : Option Wanted). Option Ask)
    [ None ↦ None | Some w ↦ Some record { signer = f.signer; wanted = w } ]) ≡ ask_of (Some f)
ask_found f found is = ap (λ (o : Option Wanted). elim o as (λ (w : Option Wanted). Option Ask)
    [ None ↦ None | Some w ↦ Some record { signer = f.signer; wanted = w } ]) is

-- whose ask gifts answer, by what was asked and whether something is given
pub answered_more : (asked : Option Ask) (ask : Ask) (gives orders : List Body) (some : Bool) → asked ≡ Some ask →
    some ≡ has_gift gives orders → some ≡ true → ask.signer ∷ [] ≡ answered_by_gift asked gives orders
answered_more asked ask gives orders some is given so =
    ap (λ b. cond b (ask.signer ∷ []) []) (sym so ∙ given) ∙ ap (λ a. answered_by_gift a gives orders) (sym is)

pub answered_none : (asked : Option Ask) (ask : Ask) (gives orders : List Body) (some : Bool) → asked ≡ Some ask →
    some ≡ has_gift gives orders → some ≡ false → [] ≡ answered_by_gift asked gives orders
answered_none asked ask gives orders some is given not_so =
    ap (λ b. cond b (ask.signer ∷ []) []) (sym not_so ∙ given) ∙ ap (λ a. answered_by_gift a gives orders) (sym is)

pub answered_unasked : (asked : Option Ask) (gives orders : List Body) → asked ≡ None →
    [] ≡ answered_by_gift asked gives orders
answered_unasked asked gives orders is = ap (λ a. answered_by_gift a gives orders) (sym is)

pub room_of : (counts : List ℕ) (asked : Option Ask) (ask : Ask) → asked ≡ Some ask → HasRoom counts asked →
    HasRoomFor counts ask.signer
room_of counts asked ask is room = subst (HasRoom counts) is room

pub room_for : (counts : List ℕ) (asked : Option Ask) (ask : Ask) → asked ≡ Some ask → HasRoomFor counts ask.signer →
    HasRoom counts asked
room_for counts asked ask is room = subst (HasRoom counts) (sym is) room

-- where nothing is given no room is needed
pub nothing_given : {P : Type 0} (gives orders : List Body) → gives ≡ [] → orders ≡ [] →
    has_gift gives orders ≡ true → P
nothing_given gives orders no_gives no_orders some =
    absurd (true≢false (sym some ∙ ap (λ (ws : List Body). has_gift ws orders) no_gives
    ∙ ap (λ (ws : List Body). has_gift [] ws) no_orders))

-- words pushed to none
pub pushed : (new old words : List Body) → new ≡ old ++ words → old ≡ [] → new ≡ words
pushed new old words is none = is ∙ ap (λ (ws : List Body). ws ++ words) none
