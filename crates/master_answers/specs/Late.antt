-- Which of the words due with others a master says after them.
use Rattle.std.specs.Prelude.{ℕ, List, [], ◌∷◌}

-- The kinds of asks for orders and of marks. A part owes them together with words of lower kinds, and words of other
-- parts come between: gifts of requests before asks for orders, vouchers before marks. (That words are said in order of
-- their kinds is this project's own.)
abbrev pub late : List ℕ
late = 18 ∷ 21 ∷ []
