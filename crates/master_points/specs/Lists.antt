-- Lists of orders, one a client. (This project's own.)
use Rattle.std.specs.Prelude.{ℕ, ◌<◌, List, [], ◌∷◌, ◌++◌, zero, suc}
use Rattle.message_types.specs.declared.vouchers.Order.{Order}
use Rattle.master_points.specs.declared.effect.Addressed.{Addressed}

-- each order is for one of so many clients
abbrev pub AreAddressed : ℕ → List Addressed → Type 0
AreAddressed clients [] = Unit {0}
AreAddressed clients (a ∷ as') = (a.client < clients) × AreAddressed clients as'

-- one order more at the end of one list
abbrev pub add_to : ℕ → Order → List (List Order) → List (List Order)
add_to client o [] = []
add_to zero o (l ∷ ls) = (l ++ o ∷ []) ∷ ls
add_to (suc client) o (l ∷ ls) = l ∷ add_to client o ls

-- each order at the end of its client's list
abbrev pub given : List Addressed → List (List Order) → List (List Order)
given [] lists = lists
given (a ∷ as') lists = given as' (add_to a.client a.order lists)
