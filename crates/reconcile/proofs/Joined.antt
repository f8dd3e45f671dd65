-- The gifts due are those of what is wanted.
use Rattle.std.proofs.Common.{◌≡◌, ℕ, ◌<◌, ◌≤◌, true, false, ◌&&◌, not, List, [], ◌∷◌, ◌++◌, Option, Some, None}
use Rattle.std.proofs.Common.{nat_le, nat_lt, refl, sym, ◌∙◌, ap, arith}
use Rattle.std.specs.List.{list_any, flat_map, filter_map}
use Rattle.std.specs.Option.{option_map, option_to_list, option_and_then}
use Rattle.std.proofs.lemmas.Bool.{and_parts, and_from, ltb-true, lt-ltb, leb-true, le-leb, true≢false}
use Rattle.message_types.specs.declared.signed.Signed.{Signed}
use Rattle.message_types.specs.declared.preordering.PoRequest.{PoRequest}
use Rattle.message_types.specs.declared.updates.Update.{Update}
use Rattle.message_types.specs.declared.body.Body.{Body}
use Rattle.message_types.specs.declared.body.Body.TheVariants as body
use Rattle.message_types.specs.Digests.{digest_of_update}
use Rattle.protocol_rules.specs.declared.facts.OrderFact.{OrderFact}
use Rattle.protocol_rules.specs.Words.{first_of_list}
use Rattle.protocol_rules.specs.Group.{Group, most_number}
use Rattle.protocol_rules.specs.Preorder.{certified}
use Rattle.protocol_rules.specs.Order.{ordered}
use Rattle.protocol_rules.specs.Reconcile.{request_of, quorum_of_acks, give_due, gives_due, give_ordered_due}
use Rattle.protocol_rules.specs.Reconcile.{gives_ordered_due, whole_order}
use Rattle.reconcile.specs.declared.wanted.Wanted.{Wanted}
use Rattle.reconcile.specs.declared.wanted.Wanted.TheVariants.{Request, Number}
use Rattle.reconcile.specs.Asking.{gives, other_asks, is_place, is_wanted, is_among}
use Rattle.reconcile.specs.AskState.{IsListOfWanted}
use Rattle.reconcile.specs.Giving.{gift_of, give_of, order_given, given_of, requests_in, numbers_in}
use Rattle.reconcile.proofs.Sorted.{among_all, among_first, among_later}
use Rattle.reconcile.proofs.Merge.{merged}
use Rattle.reconcile.proofs.Grid.{grid, line, grid_all, row_all, grid_in_order, line_in_order, in_grid, in_line}
use Rattle.reconcile.proofs.Grid.{grid_gives, line_gives}

-- what the definition gives of one thing
abbrev request_due : Group → ℕ → List (Signed Body) → List Body → Wanted → List Body
request_due g me known said (Request j k) = give_due g me known said j k
request_due g me known said (Number s) = []

abbrev number_due : Group → ℕ → List (Signed Body) → List OrderFact → List Body → Wanted → List Body
number_due g me known facts said (Request j k) = []
number_due g me known facts said (Number s) = give_ordered_due g me known facts said s

pub wanted_parts : (g : Group) (me : ℕ) (known : List (Signed Body)) (said : List Body) (w : Wanted) →
    is_wanted g me known said w ≡ true →
    (is_place g w ≡ true) × ((list_any (other_asks me w) known && not (list_any (gives w) said)) ≡ true)
wanted_parts g me known said w e =
    and_parts (is_place g w) (list_any (other_asks me w) known && not (list_any (gives w) said)) e

-- what has a place and isn't wanted wasn't asked for, or was given
unasked : (g : Group) (me : ℕ) (known : List (Signed Body)) (said : List Body) (w : Wanted) → is_place g w ≡ true →
    is_wanted g me known said w ≡ false →
    (list_any (other_asks me w) known && not (list_any (gives w) said)) ≡ false
unasked g me known said w place none =
    ap (λ b. b && (list_any (other_asks me w) known && not (list_any (gives w) said))) (sym place) ∙ none

request_unasked : (g : Group) (me : ℕ) (known : List (Signed Body)) (said : List Body) (w : Wanted) →
    is_place g w ≡ true → is_wanted g me known said w ≡ false → request_due g me known said w ≡ []
request_unasked g me known said (Request j k) place none = rw (unasked g me known said (Request j k) place none) refl
request_unasked g me known said (Number s) place none = refl

number_unasked : (g : Group) (me : ℕ) (known : List (Signed Body)) (facts : List OrderFact) (said : List Body)
    (w : Wanted) → is_place g w ≡ true → is_wanted g me known said w ≡ false → number_due g me known facts said w ≡ []
number_unasked g me known facts said (Request j k) place none = refl
number_unasked g me known facts said (Number s) place none = rw (unasked g me known said (Number s) place none) refl

place_of_request : (g : Group) (j k : ℕ) → is_place g (Request j k) ≡ true → (j < g.n) × (1 ≤ k) × (k ≤ most_number)
place_of_request g j k e =
    let outer = and_parts (nat_lt j g.n) (nat_le 1 k && nat_le k most_number) e in
    let inner = and_parts (nat_le 1 k) (nat_le k most_number) outer.1 in
    (ltb-true j g.n outer.0, leb-true 1 k inner.0, leb-true k most_number inner.1)

request_place : (g : Group) (j k : ℕ) → j < g.n → 1 ≤ k → k ≤ most_number → is_place g (Request j k) ≡ true
request_place g j k lt low high = and_from (nat_lt j g.n) (nat_le 1 k && nat_le k most_number) (lt-ltb j g.n lt)
    (and_from (nat_le 1 k) (nat_le k most_number) (le-leb 1 k low) (le-leb k most_number high))

number_place : (g : Group) (s : ℕ) → 1 ≤ s → s ≤ most_number → is_place g (Number s) ≡ true
number_place g s low high = and_from (nat_le 1 s) (nat_le s most_number) (le-leb 1 s low) (le-leb s most_number high)

request_outside : (g : Group) (me : ℕ) (known : List (Signed Body)) (said : List Body) (w : Wanted) →
    is_place g w ≡ true → is_among (grid g.n most_number) w ≡ false → request_due g me known said w ≡ []
request_outside g me known said (Request j k) place none =
    let at = place_of_request g j k place in
    absurd (true≢false (sym (in_grid g.n most_number j k at.0 at.1 at.2) ∙ none))
request_outside g me known said (Number s) place none = refl

number_outside : (g : Group) (me : ℕ) (known : List (Signed Body)) (facts : List OrderFact) (said : List Body)
    (w : Wanted) → is_place g w ≡ true → is_among (line most_number) w ≡ false → number_due g me known facts said w ≡ []
number_outside g me known facts said (Request j k) place none = refl
number_outside g me known facts said (Number s) place none =
    let parts = and_parts (nat_le 1 s) (nat_le s most_number) place in
    absurd (true≢false (sym (in_line most_number s (leb-true 1 s parts.0) (leb-true s most_number parts.1)) ∙ none))

requests_listed : (g : Group) (me : ℕ) (known : List (Signed Body)) (said : List Body) (list : List Wanted) →
    IsListOfWanted g me known said list →
    gives_due g me known said ≡ flat_map (request_due g me known said) list
requests_listed g me known said list is =
    sym (grid_gives (request_due g me known said) g.n most_number)
    ∙ merged (request_due g me known said) (grid g.n most_number) (grid_in_order g.n most_number) list is.in_order
    (λ w here none. request_unasked g me known said w
    (among_all (is_place g) (grid g.n most_number) (grid_all (is_place g) g.n most_number (request_place g))
    w here) (sym (is.all w) ∙ none))
    (λ w here none. request_outside g me known said w (wanted_parts g me known said w (sym (is.all w) ∙ here)).0 none)

numbers_listed : (g : Group) (me : ℕ) (known : List (Signed Body)) (facts : List OrderFact) (said : List Body)
    (list : List Wanted) → IsListOfWanted g me known said list →
    gives_ordered_due g me known facts said ≡ flat_map (number_due g me known facts said) list
numbers_listed g me known facts said list is =
    sym (line_gives (number_due g me known facts said) most_number)
    ∙ merged (number_due g me known facts said) (line most_number) (line_in_order most_number) list is.in_order
    (λ w here none. number_unasked g me known facts said w
    (among_all (is_place g) (line most_number)
    (row_all Number (is_place g) 1 most_number (λ s low high. number_place g s low (omega arith))) w here)
    (sym (is.all w) ∙ none))
    (λ w here none. number_outside g me known facts said w
    (wanted_parts g me known said w (sym (is.all w) ∙ here)).0 none)

-- what is asked for is given as it is to anyone
give_is : (g : Group) (known : List (Signed Body)) (j k : ℕ) (update : Option Update) →
    (elim update as (λ (o : Option Update). List Body) [
      | Some u ↦ (elim (first_of_list (filter_map (request_of j k u) known)) as
          (λ (o : Option (Signed PoRequest)). List Body) [
            | Some request ↦ body.Give record {
              request = request;
              acks =
                  quorum_of_acks g known j k (digest_of_update u);
            } ∷ []
            | None ↦ []
          ])
      | None ↦ []
    ]) ≡ option_to_list (option_map (λ gift. body.Give gift) (option_and_then (gift_of g known j k) update))
give_is g known j k None = refl
give_is g known j k (Some u) = by (first_of_list (filter_map (request_of j k u) known))
  where
    by : (first : Option (Signed PoRequest)) →
        (elim first as (λ (o : Option (Signed PoRequest)). List Body) [
          | Some request ↦ body.Give record {
            request = request;
            acks =
                quorum_of_acks g known j k (digest_of_update u);
          } ∷ []
          | None ↦ []
        ]) ≡ option_to_list (option_map (λ gift. body.Give gift)
        (option_map (λ request. record {
          request = request;
          acks =
              quorum_of_acks g known j k (digest_of_update u);
        }) first))
    by None = refl
    by (Some request) = refl

order_is : (g : Group) (facts : List OrderFact) (s : ℕ) (found : Option (List (List ℕ))) →
    (elim found as (λ (o : Option (List (List ℕ))). List Body)
    [ Some rows ↦ body.GiveOrdered (whole_order g facts s rows) ∷ [] | None ↦ [] ])
    ≡ option_to_list (option_map (λ rows. body.GiveOrdered (whole_order g facts s rows)) found)
order_is g facts s None = refl
order_is g facts s (Some rows) = refl

request_given : (g : Group) (me : ℕ) (known : List (Signed Body)) (said : List Body) (w : Wanted) →
    is_wanted g me known said w ≡ true → request_due g me known said w ≡ given_of g known w
request_given g me known said (Request j k) e = rw ((wanted_parts g me known said (Request j k) e).1)
    (give_is g known j k (certified g known j k))
request_given g me known said (Number s) e = refl

-- what is given of one thing that is wanted, where it is a number
abbrev number_given_of : Group → List OrderFact → Wanted → List Body
number_given_of g facts (Request j k) = []
number_given_of g facts (Number s) = order_given g facts s

number_given : (g : Group) (me : ℕ) (known : List (Signed Body)) (facts : List OrderFact) (said : List Body)
    (w : Wanted) → is_wanted g me known said w ≡ true → number_due g me known facts said w ≡ number_given_of g facts w
number_given g me known facts said (Request j k) e = refl
number_given g me known facts said (Number s) e = rw ((wanted_parts g me known said (Number s) e).1)
    (order_is g facts s (ordered g facts s))

-- the same of each that is listed
same_listed : {X : Type 0} (F G : Wanted → List X) (list : List Wanted) →
    ((w : Wanted) → is_among list w ≡ true → F w ≡ G w) → flat_map F list ≡ flat_map G list
same_listed F G [] same = refl
same_listed F G (x ∷ rest) same =
    ap (λ xs. xs ++ flat_map F rest) (same x (among_first x rest))
    ∙ ap (λ xs. G x ++ xs) (same_listed F G rest (λ w here. same w (among_later x rest w here)))

pub requests_given : (g : Group) (me : ℕ) (known : List (Signed Body)) (said : List Body) (list : List Wanted) →
    IsListOfWanted g me known said list →
    gives_due g me known said ≡ flat_map (given_of g known) list
requests_given g me known said list is =
    requests_listed g me known said list is
    ∙ same_listed (request_due g me known said) (given_of g known) list
    (λ w here. request_given g me known said w (sym (is.all w) ∙ here))

requests_alone : (g : Group) (known : List (Signed Body)) (list : List Wanted) →
    flat_map (given_of g known) list ≡ flat_map (λ r. give_of g known r.j r.k) (requests_in list)
requests_alone g known [] = refl
requests_alone g known (Request j k ∷ rest) = ap (λ xs. give_of g known j k ++ xs) (requests_alone g known rest)
requests_alone g known (Number s ∷ rest) = requests_alone g known rest

numbers_alone : (g : Group) (facts : List OrderFact) (list : List Wanted) →
    flat_map (number_given_of g facts) list ≡ flat_map (order_given g facts) (numbers_in list)
numbers_alone g facts [] = refl
numbers_alone g facts (Request j k ∷ rest) = numbers_alone g facts rest
numbers_alone g facts (Number s ∷ rest) = ap (λ xs. order_given g facts s ++ xs) (numbers_alone g facts rest)

pub requests_join : (g : Group) (me : ℕ) (known : List (Signed Body)) (said : List Body) (list : List Wanted) →
    IsListOfWanted g me known said list →
    gives_due g me known said ≡ flat_map (λ r. give_of g known r.j r.k) (requests_in list)
requests_join g me known said list is = requests_given g me known said list is ∙ requests_alone g known list

pub numbers_join : (g : Group) (me : ℕ) (known : List (Signed Body)) (facts : List OrderFact) (said : List Body)
    (list : List Wanted) → IsListOfWanted g me known said list →
    gives_ordered_due g me known facts said ≡ flat_map (order_given g facts) (numbers_in list)
numbers_join g me known facts said list is =
    numbers_listed g me known facts said list is
    ∙ same_listed (number_due g me known facts said) (number_given_of g facts) list
    (λ w here. number_given g me known facts said w (sym (is.all w) ∙ here))
    ∙ numbers_alone g facts list
