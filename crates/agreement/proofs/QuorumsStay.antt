-- As more becomes known, quorums stay, and the present view and the stable number never fall.
use Rattle.std.proofs.Common.{◌≡◌, ℕ, ◌+◌, ◌≤◌, Bool, true, false, cond, List, [], ◌∷◌, Option, Some, None, length}
use Rattle.std.proofs.Common.{filter, max, refl, sym, ◌∙◌, ap, inl, inr, ◌⊎◌, arith}
use Rattle.std.proofs.lemmas.Bool.{true≢false, leb-true, le-leb}
use Rattle.std.specs.List.{filter_map, list_any, cons_option}
use Rattle.std.specs.Option.{is_some}
use Rattle.plain_lists.specs.Lists.{IsIn, here, there, Within}
use Rattle.plain_lists.proofs.Members.{none_in, in_cons_cases, any_from, any_in, in_filter_map, in_filter_map_from}
use Rattle.protocol_rules.proofs.FirstMet.{first_in, first_there}
use Rattle.quorum_sets.specs.Masters.{numbers_below, voters}
use Rattle.quorum_sets.specs.Quorum.{has_quorum}
use Rattle.message_types.specs.declared.signed.Signed.{Signed}
use Rattle.message_types.specs.declared.body.Body.{Body}
use Rattle.message_types.specs.declared.body.Body.TheVariants as body
use Rattle.protocol_rules.specs.declared.facts.OrderFact.{OrderFact}
use Rattle.protocol_rules.specs.declared.facts.OrderFact.TheVariants as fact
use Rattle.protocol_rules.specs.Words.{first_of_list, greatest_of}
use Rattle.protocol_rules.specs.Group.{Group}
use Rattle.protocol_rules.specs.Order.{first_votes, is_voted, mark_by, number_marked, stable}
use Rattle.protocol_rules.specs.Views.{view, view_shown, is_suspect, is_suspected}
use Rattle.protocol_rules.proofs.Greatest.{or_zero, greatest-cons}
use Rattle.agreement.proofs.SaidOnce.{length-filter_map, some_from}

pub filter_more : {X : Type 0} (s t : X → Bool) → ((x : X) → s x ≡ true → t x ≡ true) → (xs : List X) →
    length (filter s xs) ≤ length (filter t xs)
filter_more s t h [] = omega arith
filter_more {X} s t h (x ∷ xs) = by_test (s x) (t x) refl refl (filter_more s t h xs)
  where
    by_test : (a b : Bool) → s x ≡ a → t x ≡ b → length (filter s xs) ≤ length (filter t xs) →
        length {A = X} (cond a (x ∷ filter s xs) (filter s xs)) ≤ length {A = X}
        (cond b (x ∷ filter t xs) (filter t xs))
    by_test true true p q less = omega arith
    by_test true false p q less = absurd (true≢false (sym (h x p) ∙ q))
    by_test false true p q less = omega arith
    by_test false false p q less = less

pub quorum_more : (n q : ℕ) (s t : ℕ → Bool) → ((m : ℕ) → s m ≡ true → t m ≡ true) → has_quorum n q s ≡ true →
    has_quorum n q t ≡ true
unfolding has_quorum
quorum_more n q s t h e =
    let enough : q ≤ length (voters s n) = leb-true q (length (voters s n)) e in
    let more : length (voters s n) ≤ length (voters t n) = filter_more s t h (numbers_below n) in
    le-leb q (length (voters t n)) (omega arith)

some_more : {X : Type 0} (vote : OrderFact → Option X) (facts more : List OrderFact) → Within facts more →
    is_some (first_of_list (filter_map vote facts)) ≡ true → is_some (first_of_list (filter_map vote more)) ≡ true
some_more vote facts more h e =
    let first = some_from (first_of_list (filter_map vote facts)) e in
    let found = in_filter_map_from vote facts (first_in (filter_map vote facts) first.1) in
    let again = first_there (in_filter_map vote (h found.0 found.1) found.2) in
    ap is_some again.1

pub voted_more : {X : Type 0} (g : Group) (vote : ℕ → OrderFact → Option X) (facts more : List OrderFact) →
    Within facts more → is_voted g vote facts ≡ true → is_voted g vote more ≡ true
unfolding is_voted
voted_more g vote facts more h e =
    let enough : g.q ≤ length (first_votes g vote facts) = leb-true g.q (length (first_votes g vote facts)) e in
    let one : length (first_votes g vote facts) ≡ length
    (voters (λ m. is_some (first_of_list (filter_map (vote m) facts))) g.n) =
    length-filter_map (λ m. first_of_list (filter_map (vote m) facts)) (numbers_below g.n) in
    let other : length (first_votes g vote more) ≡ length
    (voters (λ m. is_some (first_of_list (filter_map (vote m) more))) g.n) =
    length-filter_map (λ m. first_of_list (filter_map (vote m) more)) (numbers_below g.n) in
    let grown : length (voters (λ m. is_some (first_of_list (filter_map (vote m) facts))) g.n) ≤ length
    (voters (λ m. is_some (first_of_list (filter_map (vote m) more))) g.n) =
    filter_more (λ m. is_some (first_of_list (filter_map (vote m) facts)))
    (λ m. is_some (first_of_list (filter_map (vote m) more))) (λ m. some_more (vote m) facts more h)
    (numbers_below g.n) in
    le-leb g.q (length (first_votes g vote more)) (omega arith)

-- the greatest is no less than what a function gives of a member, and no more than what is no less than all that it
-- gives
pub member_below : {X : Type 0} (h : X → Option ℕ) {x : X} (xs : List X) → IsIn x xs →
    or_zero (h x) ≤ greatest_of (filter_map h xs)
member_below h [] k = absurd (none_in k)
member_below h {x} (y ∷ ys) k = by_place (in_cons_cases k) (λ later. member_below h ys later)
  where
    by_place : (x ≡ y) ⊎ IsIn x ys → (IsIn x ys → or_zero (h x) ≤ greatest_of (filter_map h ys)) →
        or_zero (h x) ≤ greatest_of (filter_map h (y ∷ ys))
    by_place (inl e) deeper =
        let same : or_zero (h x) ≡ or_zero (h y) = ap (λ z. or_zero (h z)) e in
        let all : greatest_of (cons_option (h y) (filter_map h ys)) ≡ max (or_zero (h y))
        (greatest_of (filter_map h ys)) = greatest-cons (h y) (filter_map h ys) in
        omega arith
    by_place (inr later) deeper =
        let rest : or_zero (h x) ≤ greatest_of (filter_map h ys) = deeper later in
        let all : greatest_of (cons_option (h y) (filter_map h ys)) ≡ max (or_zero (h y))
        (greatest_of (filter_map h ys)) = greatest-cons (h y) (filter_map h ys) in
        omega arith

pub each_below : {X : Type 0} (h : X → Option ℕ) (most : ℕ) (xs : List X) →
    ((x : X) → IsIn x xs → or_zero (h x) ≤ most) → greatest_of (filter_map h xs) ≤ most
each_below h most [] low = omega arith
each_below h most (x ∷ xs) low =
    let first : or_zero (h x) ≤ most = low x (here xs) in
    let rest : greatest_of (filter_map h xs) ≤ most = each_below h most xs (λ y k. low y (there x xs k)) in
    let all : greatest_of (cons_option (h x) (filter_map h xs)) ≡ max (or_zero (h x))
    (greatest_of (filter_map h xs)) = greatest-cons (h x) (filter_map h xs) in
    omega arith

-- what two functions give of lists of which one has all that the other has
greatest_more : {X : Type 0} (h k : X → Option ℕ) (xs ys : List X) → Within xs ys →
    ((x : X) → or_zero (h x) ≤ or_zero (k x)) → greatest_of (filter_map h xs) ≤ greatest_of (filter_map k ys)
greatest_more h k xs ys within less = each_below h (greatest_of (filter_map k ys)) xs (λ x i.
    let more : or_zero (h x) ≤ or_zero (k x) = less x in
    let below : or_zero (k x) ≤ greatest_of (filter_map k ys) = member_below k ys (within x i) in
    omega arith)

shown_once : (a b : Bool) (s : ℕ) → (a ≡ true → b ≡ true) →
    or_zero (cond a (Some s) None) ≤ or_zero (cond b (Some s) None)
shown_once true true s h = omega arith
shown_once true false s h = absurd (true≢false (sym (h refl)))
shown_once false b s h = omega arith

marked_more : (g : Group) (facts more : List OrderFact) → Within facts more → (x : OrderFact) →
    or_zero (number_marked g facts x) ≤ or_zero (number_marked g more x)
marked_more g facts more h (fact.Mark f) =
    shown_once (is_voted g (mark_by f.body.s) facts) (is_voted g (mark_by f.body.s) more) f.body.s
    (voted_more g (mark_by f.body.s) facts more h)
marked_more g facts more h (fact.Prepare f) = omega arith
marked_more g facts more h (fact.Commit f) = omega arith
marked_more g facts more h (fact.Rows rows) = omega arith
marked_more g facts more h (fact.Proposal v s rows) = omega arith
marked_more g facts more h (fact.Plan v plan) = omega arith

pub stable_more : (g : Group) (facts more : List OrderFact) → Within facts more → stable g facts ≤ stable g more
unfolding stable
stable_more g facts more h = greatest_more (number_marked g facts) (number_marked g more) facts more h
    (marked_more g facts more h)

any_more : {X : Type 0} (t : X → Bool) (xs ys : List X) → Within xs ys → list_any t xs ≡ true → list_any t ys ≡ true
any_more t xs ys h e = let found = any_from t xs e in any_in t (h found.0 found.1) found.2

shown_more : (g : Group) (known more : List (Signed Body)) → Within known more →
    (signer : ℕ) (word : Body) (sig : List ℕ)
    → or_zero (view_shown g known record { signer = signer; body = word; sig = sig }) ≤ or_zero
    (view_shown g more record { signer = signer; body = word; sig = sig })
shown_more g known more h signer (body.Suspect b) sig =
    shown_once (is_suspected g known b.v) (is_suspected g more b.v) (b.v + 1)
    (quorum_more g.n g.q (λ m. list_any (is_suspect b.v m) known) (λ m. list_any (is_suspect b.v m) more)
    (λ m. any_more (is_suspect b.v m) known more h))
shown_more g known more h signer (body.NewView b) sig = omega arith
shown_more g known more h signer _ sig = omega arith

pub view_more : (g : Group) (known more : List (Signed Body)) → Within known more → view g known ≤ view g more
unfolding view
view_more g known more h = greatest_more (view_shown g known) (view_shown g more) known more h
    (λ f. shown_more g known more h f.signer f.body f.sig)
