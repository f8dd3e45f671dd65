-- All orders that a screen has done are notices, so its board loses none of them.
use Rattle.std.proofs.Common.{◌≡◌, ℕ, zero, suc, Bool, true, false, ◌&&◌, List, [], ◌∷◌, ◌++◌, Option, Some, None}
use Rattle.std.proofs.Common.{map, refl, ◌∙◌, ap, subst, if◌then◌else◌, nat_eq, nat_lt, length}
use Rattle.std.proofs.lemmas.Bool.{false≢true, and_parts}
use Rattle.std.specs.List.{list_all}
use Rattle.plain_lists.proofs.Members.{none_some}
use Rattle.message_types.specs.declared.vouchers.Notice.{Notice}
use Rattle.message_types.specs.declared.vouchers.Order.{Order}
use Rattle.message_types.specs.declared.vouchers.Order.TheVariants as order
use Rattle.vouched_orders.specs.declared.vote.Vote.{Vote}
use Rattle.vouched_orders.specs.Vouching.{supporters, settled_by, chosen_after, chosen, or_else, done, run_from}
use Rattle.vouched_orders.specs.Vouching.{counts, counted, orders_done, greatest_number}
use Rattle.operator_screen.specs.Board.{is_notice, notices}
use Rattle.agreement.proofs.SpokenByKind.{if_some}

-- the vote's order is a notice
abbrev is_shown : Vote → Bool
is_shown vote = is_notice vote.voucher.order

counted_shown : (client : ℕ) (votes : List Vote) → list_all is_shown (counted is_notice client votes) ≡ true
counted_shown client [] = refl
counted_shown client (vote ∷ rest) = by_count (counts is_notice client vote) refl (counted_shown client rest)
  where
    by_count : (b : Bool) → counts is_notice client vote ≡ b → list_all is_shown (counted is_notice client rest) ≡ true
        → list_all is_shown (if b then vote ∷ counted is_notice client rest else counted is_notice client rest) ≡ true
    by_count false e later = later
    by_count true e later = ap (λ z. z && list_all is_shown (counted is_notice client rest))
        (and_parts (nat_eq vote.voucher.client client) (is_shown vote) e).1 ∙ later

chosen_shown : (n f : ℕ) (seen rest : List Vote) (x : ℕ) (o : Order) → list_all is_shown rest ≡ true →
    chosen_after n f seen rest x ≡ Some o → is_notice o ≡ true
unfolding chosen_after
chosen_shown n f seen [] x o all e = absurd (none_some e)
chosen_shown n f seen (vote ∷ rest) x o all e = by_first (settled_by n f (seen ++ vote ∷ []) vote x) refl e
    (λ later. chosen_shown n f (seen ++ vote ∷ []) rest x o
    (and_parts (is_shown vote) (list_all is_shown rest) all).1 later)
  where
    both : (is_shown vote ≡ true) × (list_all is_shown rest ≡ true)
    both = and_parts (is_shown vote) (list_all is_shown rest) all

    by_first : (p : Option Order) → settled_by n f (seen ++ vote ∷ []) vote x ≡ p →
        or_else p (chosen_after n f (seen ++ vote ∷ []) rest x) ≡ Some o
        → (chosen_after n f (seen ++ vote ∷ []) rest x ≡ Some o → is_notice o ≡ true) → is_notice o ≡ true
    by_first None is later deeper = deeper later
    by_first (Some p) is found deeper =
        let held = if_some (nat_eq vote.voucher.number x
        && nat_lt f (length (supporters n (seen ++ vote ∷ []) x vote.voucher.order))) (is ∙ found) in
        subst (λ (q : Order). is_notice q ≡ true) held.1 both.0

-- notices that are taken out of orders and made orders again, where each order of the run is one
run_shown : (f : ℕ → Option Order) → ((x : ℕ) (o : Order) → f x ≡ Some o → is_notice o ≡ true) → (start most : ℕ)
    → map (λ n. order.Notice n) (notices (run_from f start most)) ≡ run_from f start most
unfolding run_from
run_shown f shown start zero = refl
run_shown f shown start (suc most) = by_first (f start) refl (run_shown f shown (suc start) most)
  where
    one : (o : Order) (rest : List Order) → is_notice o ≡ true → map (λ n. order.Notice n) (notices rest) ≡ rest →
        map (λ n. order.Notice n) (notices (o ∷ rest)) ≡ o ∷ rest
    one (order.Notice n) rest is e = ap (λ (z : List Order). order.Notice n ∷ z) e
    one (order.Write p r) rest is e = absurd (false≢true is)

    by_first : (p : Option Order) → f start ≡ p →
        map (λ n. order.Notice n) (notices (run_from f (suc start) most)) ≡ run_from f (suc start) most
        → map (λ n. order.Notice n) (notices (elim p [ None ↦ [] | Some o ↦ o ∷ run_from f (suc start) most ])) ≡ elim
        p as (λ _. List Order) [ None ↦ [] | Some o ↦ o ∷ run_from f (suc start) most ]
    by_first None is later = refl
    by_first (Some o) is later = one o (run_from f (suc start) most) (shown start o is) later

pub board_keeps_all : (client n f : ℕ) (votes : List Vote) →
    map (λ n. order.Notice n) (notices (orders_done is_notice client n f votes)) ≡ orders_done
    is_notice client n f votes
unfolding done
board_keeps_all client n f votes =
    run_shown (chosen n f (counted is_notice client votes))
    (λ x o e. chosen_shown n f [] (counted is_notice client votes) x o (counted_shown client votes) e) 1
    (greatest_number (counted is_notice client votes))
