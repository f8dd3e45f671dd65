-- What a master asks for, by what its parts answer.
use Rattle.std.proofs.Common.{◌≡◌, ℕ, zero, suc, ◌+◌, ◌-◌, ◌≤◌, Bool, true, false, ◌||◌, not, is_some, cond, List, [], ◌∷◌}
use Rattle.std.proofs.Common.{◌++◌, Option, Some, None, filter, length, map, min, take, true≢false, refl, sym, ◌∙◌, ap, arith}
use Rattle.std.specs.List.{flat_map, list_all, list_any}
use Rattle.std.proofs.lemmas.Bool.{and_parts, and_from}
use Rattle.std.proofs.lemmas.List.Folds.{list_any-append}
use Rattle.std.proofs.Math.Bool.{or-false}
use Rattle.quorum_sets.specs.Masters.{numbers_below}
use Rattle.message_types.specs.declared.signed.Signed.{Signed}
use Rattle.message_types.specs.declared.body.Body.{Body}
use Rattle.protocol_rules.specs.declared.facts.OrderFact.{OrderFact}
use Rattle.protocol_rules.specs.Words.{numbers_from}
use Rattle.protocol_rules.specs.Group.{Group, most_number}
use Rattle.protocol_rules.specs.Order.{ordered, gapless}
use Rattle.protocol_rules.specs.Patience.{Moment, is_beat}
use Rattle.protocol_rules.specs.Lacking.{may_ask, wanted_to, numbers_lacking, requests_lacking_of, update_asks_due, order_asks_due}
use Rattle.protocol_rules.proofs.Numbers.{length-numbers_from}
use Rattle.protocol_rules.specs.Reconcile.{ask_update_due, ask_order_due, orders_asked}
use Rattle.protocol_rules.specs.Master.{waiting_for, gap_of}
use Rattle.execution.specs.Ran.{requested}
use Rattle.reconcile.specs.AskState.{request_at}
use Rattle.reconcile.specs.declared.wanted.Wanted.{Wanted}
use Rattle.reconcile.specs.declared.wanted.Wanted.TheVariants.{Request, Number}
use Rattle.reconcile.specs.Asking.{asks, ask_for}
use Rattle.reconcile.specs.Again.{asks_again_due}
use Rattle.reconcile.proofs.Repeated.{update_asks, order_asks}
use Rattle.master_answers.specs.Asked.{is_request}

same_request : (o : Option (ℕ × ℕ)) → request_at o ≡ requested o
same_request None = refl
same_request (Some at) = refl

pub words_due : (g : Group) (known : List (Signed Body)) (facts : List OrderFact) (said : List Body) (at_tick : Bool)
    (waiting : Option (ℕ × ℕ)) (gap : Option ℕ)
    → requested waiting ≡ waiting_for g known → gap ≡ gap_of g facts
    → ask_update_due said at_tick (request_at waiting) ++ ask_order_due said at_tick gap ≡ ask_update_due said at_tick
    (waiting_for g known) ++ ask_order_due said at_tick (gap_of g facts)
words_due g known facts said at_tick waiting gap w e =
    ap (λ o. ask_update_due said at_tick o ++ ask_order_due said at_tick gap) (same_request waiting ∙ w)
    ∙ ap (λ o. ask_update_due said at_tick (waiting_for g known) ++ ask_order_due said at_tick o) e

-- By the rules that stay alive: asks for what is lacking are those due.
pub updates_asked_for : (g : Group) (known : List (Signed Body)) (facts : List OrderFact) (said : List Body)
    (moments : List Moment) (now : ℕ) (at_tick : Bool) (lacking : List Wanted)
    → (at_tick ≡ true → lacking ≡ map (λ r. Request r.j r.k)
    (flat_map (requests_lacking_of g known facts moments now) (numbers_below g.n)))
    → cond at_tick (asks_again_due said now lacking 16) [] ≡ update_asks_due g known facts said moments now at_tick
updates_asked_for g known facts said moments now true lacking is =
    ap (λ list. asks_again_due said now list 16) (is refl)
    ∙ update_asks said now (flat_map (requests_lacking_of g known facts moments now) (numbers_below g.n))
updates_asked_for g known facts said moments now false lacking is = refl

few_kept : {X : Type 0} (p : X → Bool) (xs : List X) → length (filter p xs) ≤ length xs
few_kept p [] = omega arith
few_kept {X} p (x ∷ rest) = by (p x) (few_kept p rest)
  where
    by : (b : Bool) → length (filter p rest) ≤ length rest →
        length (cond b (x ∷ filter p rest) (filter p rest)) ≤ suc (length rest)
    by true less = omega arith
    by false less = omega arith

few_lacking : (g : Group) (facts : List OrderFact) (said : List Body) (v : ℕ) (is_open : Bool) (waiting now : ℕ) →
    length (numbers_lacking g facts said v is_open waiting now) ≤ 64
few_lacking g facts said v is_open waiting now =
    let count = min 64 (min (wanted_to g facts said v is_open waiting now) most_number - gapless g facts) in
    let less = few_kept (λ s. not (is_some (ordered g facts s))) (numbers_from (gapless g facts + 1) count) in
    let many : length (numbers_from (gapless g facts + 1) count) ≡ count =
    length-numbers_from (gapless g facts + 1) count in
    let few : count ≤ 64 = omega arith in
    omega arith

pub orders_asked_for : (g : Group) (facts : List OrderFact) (said : List Body) (v : ℕ) (is_open : Bool)
    (waiting now : ℕ) (at_tick : Bool) (lacking : List Wanted)
    → (at_tick ≡ true → lacking ≡ map Number (numbers_lacking g facts said v is_open waiting now))
    → cond at_tick (asks_again_due said now lacking 64) [] ≡ order_asks_due g facts said v is_open waiting now at_tick
orders_asked_for g facts said v is_open waiting now true lacking is =
    ap (λ list. asks_again_due said now list 64) (is refl)
    ∙ order_asks said now (numbers_lacking g facts said v is_open waiting now)
    (few_lacking g facts said v is_open waiting now)
orders_asked_for g facts said v is_open waiting now false lacking is = refl

-- Asks for requests leave those for numbers due, which are said after them.
all_filtered : {X : Type 0} (t p : X → Bool) (xs : List X) → list_all t xs ≡ true → list_all t (filter p xs) ≡ true
all_filtered t p [] all = refl
all_filtered {X} t p (x ∷ rest) all =
    let both = and_parts (t x) (list_all t rest) all in by (p x) both.0 (all_filtered t p rest both.1)
  where
    by : (b : Bool) → t x ≡ true → list_all t (filter p rest) ≡ true →
        list_all t (cond b (x ∷ filter p rest) (filter p rest)) ≡ true
    by true here more = and_from (t x) (list_all t (filter p rest)) here more
    by false here more = more

all_taken : {X : Type 0} (t : X → Bool) (most : ℕ) (xs : List X) → list_all t xs ≡ true →
    list_all t (take most xs) ≡ true
all_taken t zero xs all = refl
all_taken t (suc most) [] all = refl
all_taken t (suc most) (x ∷ rest) all =
    let both = and_parts (t x) (list_all t rest) all in
    and_from (t x) (list_all t (take most rest)) both.0 (all_taken t most rest both.1)

none_asked : (list : List Wanted) → list_all is_request list ≡ true → (w : Wanted) → is_request w ≡ false →
    list_any (asks w) (map ask_for list) ≡ false
none_asked [] all w other = refl
none_asked (Request j k ∷ rest) all (Request i m) other = absurd (true≢false other)
none_asked (Request j k ∷ rest) all (Number s) other = none_asked rest all (Number s) other
none_asked (Number s ∷ rest) all w other = absurd (true≢false (sym all))

others_kept : (said early : List Body) (now : ℕ) →
    ((w : Wanted) → is_request w ≡ false → list_any (asks w) early ≡ false) → (numbers : List Wanted) →
    list_any is_request numbers ≡ false →
    filter (λ w. may_ask (said ++ early) now (asks w)) numbers ≡ filter (λ w. may_ask said now (asks w)) numbers
others_kept said early now none [] other = refl
others_kept said early now none (Request j k ∷ rest) other = absurd (true≢false other)
others_kept said early now none (Number s ∷ rest) other =
    ap (λ b. cond (is_beat now || not b) (Number s ∷ filter (λ w. may_ask (said ++ early) now (asks w)) rest)
    (filter (λ w. may_ask (said ++ early) now (asks w)) rest))
    (list_any-append (orders_asked s) said early ∙ ap (λ b. list_any (orders_asked s) said || b) (none (Number s) refl)
    ∙ or-false (list_any (orders_asked s) said))
    ∙ ap (λ (ws : List Wanted). cond (is_beat now || not (list_any (orders_asked s) said)) (Number s ∷ ws) ws)
    (others_kept said early now none rest other)

pub numbers_still_due : (said early : List Body) (now most : ℕ) (requests numbers : List Wanted) →
    list_all is_request requests ≡ true → list_any is_request numbers ≡ false →
    early ≡ asks_again_due said now requests most →
    asks_again_due (said ++ early) now numbers 64 ≡ asks_again_due said now numbers 64
numbers_still_due said early now most requests numbers all none is =
    ap (λ (ws : List Wanted). map ask_for (take 64 ws)) (others_kept said early now
    (λ w other. ap (list_any (asks w)) is ∙ none_asked
    (take most (filter (λ x. may_ask said now (asks x)) requests))
    (all_taken is_request most (filter (λ x. may_ask said now (asks x)) requests)
    (all_filtered is_request (λ x. may_ask said now (asks x)) requests all)) w other) numbers none)

pub where_so : {X : Type 0} (b : Bool) (xs ys zs : List X) → b ≡ true → zs ≡ xs → zs ≡ cond b xs ys
where_so true xs ys zs so e = e
where_so false xs ys zs so e = absurd (true≢false (sym so))
