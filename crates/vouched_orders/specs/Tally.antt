-- What is kept of votes, and when it stands for the votes taken.
use Rattle.std.specs.Prelude.{◌≡◌, ℕ, ◌<◌, ◌^◌, List, [], ◌∷◌, ◌++◌, Option, Some, length, nat_eq, nat_lt}
use Rattle.std.specs.Prelude.{if◌then◌else◌}
use Rattle.std.specs.Option.{unwrap_or}
use Rattle.std.specs.Ordering.{nat_cmp}
use Rattle.std.specs.Cmp.Lexicographic.{slice_cmp}
use Rattle.std.specs.BTreeMap.{BTreeMap, get, is_at}
use Rattle.std.specs.Map.{lookup}
use Rattle.quorum_sets.specs.Masters.{with_master}
use Rattle.message_types.specs.Texts.{notice_number}
use Rattle.message_types.specs.declared.vouchers.Order.{Order}
use Rattle.message_types.specs.declared.vouchers.Order.TheVariants as order
use Rattle.message_types.specs.declared.vouchers.Voucher.{Voucher}
use Rattle.vouched_orders.specs.declared.vote.Vote.{Vote}
use Rattle.vouched_orders.specs.Vouching.{supporters, chosen, done, greatest_number}

-- a number and an order as a key
abbrev pub ballot : ℕ → Order → List ℕ
ballot x (order.Write p r) = x ∷ 0 ∷ p ∷ r ∷ 0 ∷ []
ballot x (order.Notice n) = x ∷ 1 ∷ notice_number n.what ∷ n.t ∷ n.number ∷ []

-- the masters at a key among entries, and the order of a number
abbrev pub masters_among : List (List ℕ × List ℕ) → List ℕ → List ℕ
masters_among entries key = unwrap_or (lookup (is_at (slice_cmp nat_cmp key)) entries) []

abbrev pub order_among : List (ℕ × Order) → ℕ → Option Order
order_among entries x = lookup (is_at (nat_cmp x)) entries

abbrev pub masters_at : BTreeMap (List ℕ) (List ℕ) → List ℕ → List ℕ
masters_at masters key = masters_among masters.entries key

-- the order for a number, with one voucher's beside those of the map
abbrev pub order_with : BTreeMap ℕ Order → Voucher → ℕ → Option Order
order_with settled voucher x = if nat_eq voucher.number x then Some voucher.order else get nat_cmp settled x

-- the supporters of an order with a vote for it by this signer, where n numbers are masters'
abbrev pub with_signer : ℕ → List ℕ → ℕ → List ℕ
with_signer n masters signer = if nat_lt signer n then with_master masters signer else masters

-- the entries have each order's supporters and each number's order, and so many orders are done
pub record IsTally (n f : ℕ) (votes : List Vote) (masters : List (List ℕ × List ℕ)) (settled : List (ℕ × Order))
    (count : ℕ) : Type 0 where
  pub supporters_are : (x : ℕ) (o : Order) → masters_among masters (ballot x o) ≡ supporters n votes x o
  pub orders_are : (x : ℕ) → order_among settled x ≡ chosen n f votes x
  pub count_is : count ≡ length (done n f votes)
  pub numbers_fit : greatest_number votes < 2 ^ 64

-- What is kept of votes, by number and order: how many masters there are and how many of them may be intruded, the
-- supporters of each order that was voted for, the order of each number that has one, and how many orders are done.
-- (This project's own.)
pub record Tally : Type 0 where
  pub n : ℕ
  pub f : ℕ
  pub masters : List (List ℕ × List ℕ)
  pub settled : List (ℕ × Order)
  pub count : ℕ

-- It is the tally of these votes, in this order, where there are n masters of which f may be intruded.
pub record IsTallyOf (n f : ℕ) (votes : List Vote) (t : Tally) : Type 0 where
  pub masters : t.n ≡ n
  pub intruded : t.f ≡ f
  pub tally : IsTally t.n t.f votes t.masters t.settled t.count

-- with the vote the one is the tally of what the other was, whatever votes those are
abbrev pub TakesVote : Tally → Vote → Tally → Type 0
TakesVote old vote new = (n f : ℕ) (votes : List Vote) → IsTallyOf n f votes old →
    IsTallyOf n f (votes ++ vote ∷ []) new

-- one vote more makes these orders done, whatever votes it is the tally of
abbrev pub MakesDone : Tally → Vote → List Order → Type 0
MakesDone t vote orders = (n f : ℕ) (votes : List Vote) → IsTallyOf n f votes t →
    done n f (votes ++ vote ∷ []) ≡ done n f votes ++ orders

-- both are the tally of the same votes
abbrev pub TalliesAlike : Tally → Tally → Type 0
TalliesAlike old new = (n f : ℕ) (votes : List Vote) → IsTallyOf n f votes old → IsTallyOf n f votes new
