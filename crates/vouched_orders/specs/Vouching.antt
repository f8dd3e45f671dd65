-- Which orders are done. Order number x of a client is done once the numbers before it are and more than f different
-- masters have vouched for one and the same order as number x: then a master that isn't intruded did. Where several
-- orders were vouched for so, it is the one whose last wanted voucher came first. (In the manner of Spire, whose field
-- and screen sides act on f + 1 matching words of its masters; the numbers are this project's own.)
use Rattle.std.specs.Prelude.{ℕ, zero, suc, Bool, false, ◌&&◌, List, [], ◌∷◌, ◌++◌, Option, Some, None, length}
use Rattle.std.specs.Prelude.{filter, max, nat_eq, nat_lt, if◌then◌else◌}
use Rattle.std.specs.List.{list_any, flat_map}
use Rattle.quorum_sets.specs.Masters.{voters}
use Rattle.message_types.specs.Texts.{notice_number}
use Rattle.message_types.specs.declared.signed.Signed.{Signed}
use Rattle.message_types.specs.declared.body.Body.{Body}
use Rattle.message_types.specs.declared.body.Body.TheVariants as body
use Rattle.message_types.specs.declared.vouchers.Order.{Order}
use Rattle.message_types.specs.declared.vouchers.Order.TheVariants as order
use Rattle.vouched_orders.specs.declared.vote.Vote.{Vote}

-- whether two orders are one and the same
abbrev pub same_order : Order → Order → Bool
same_order (order.Write p r) (order.Write q s) = nat_eq p q && nat_eq r s
same_order (order.Write p r) (order.Notice n) = false
same_order (order.Notice m) (order.Write q s) = false
same_order (order.Notice m) (order.Notice n) = nat_eq (notice_number m.what) (notice_number n.what) && nat_eq m.t n.t
    && nat_eq m.number n.number

-- the vote is for this order as this number
abbrev pub is_for : ℕ → Order → Vote → Bool
is_for x o vote = nat_eq vote.voucher.number x && same_order vote.voucher.order o

-- the masters whose votes are for this order as this number, of n that there are: a vote of a number that is no
-- master's counts for nothing
unfoldable pub supporters : ℕ → List Vote → ℕ → Order → List ℕ
supporters n votes x o = voters (λ m. list_any (λ vote. nat_eq vote.signer m && is_for x o vote) votes) n

-- the first order, where there is one, else the second
abbrev pub or_else : Option Order → Option Order → Option Order
or_else None other = other
or_else (Some o) other = Some o

-- with these votes, of which this is the last, its order has more than f supporters as number x
abbrev pub settled_by : (n f : ℕ) → List Vote → Vote → ℕ → Option Order
settled_by n f votes vote x =
    if nat_eq vote.voucher.number x && nat_lt f (length (supporters n votes x vote.voucher.order))
    then Some vote.voucher.order else None

-- the order for number x: that of the first vote, in the order in which they came, that settles one (`seen` came
-- before)
unfoldable pub chosen_after : (n f : ℕ) → List Vote → List Vote → ℕ → Option Order
chosen_after n f seen [] x = None
chosen_after n f seen (vote ∷ rest) x = or_else (settled_by n f (seen ++ vote ∷ []) vote x)
    (chosen_after n f (seen ++ vote ∷ []) rest x)

abbrev pub chosen : (n f : ℕ) → List Vote → ℕ → Option Order
chosen n f votes x = chosen_after n f [] votes x

-- the greatest number that a vote is for, 0 where there is none
abbrev pub greatest_number : List Vote → ℕ
greatest_number [] = 0
greatest_number (vote ∷ rest) = max vote.voucher.number (greatest_number rest)

-- the orders for start, start + 1, .. up to the first number without one, at most `most`
unfoldable pub run_from : (ℕ → Option Order) → ℕ → ℕ → List Order
run_from order_for start zero = []
run_from order_for start (suc most) =
    elim (order_for start) [ None ↦ [] | Some o ↦ o ∷ run_from order_for (suc start) most ]

-- the orders done, those of the numbers 1, 2, .. in turn; no number above the greatest voted for has one
unfoldable pub done : (n f : ℕ) → List Vote → List Order
done n f votes = run_from (chosen n f votes) 1 (greatest_number votes)

-- A vote counts where it is for this client and its order is one that the client can act on.
abbrev pub counts : (Order → Bool) → ℕ → Vote → Bool
counts can_act client vote = nat_eq vote.voucher.client client && can_act vote.voucher.order

abbrev pub counted : (Order → Bool) → ℕ → List Vote → List Vote
counted can_act client votes = filter (counts can_act client) votes

-- the votes among frames, in their order
unfoldable pub votes_in : List (Signed Body) → List Vote
votes_in frames = flat_map
    (λ frame. elim frame.body [ body.Voucher v ↦ record { signer = frame.signer; voucher = v } ∷ [] | _ ↦ [] ]) frames

-- what a client of n masters has done at the end of a list of votes, whoever they are for
abbrev pub orders_done : (Order → Bool) → (client n f : ℕ) → List Vote → List Order
orders_done can_act client n f votes = done n f (counted can_act client votes)
