-- How a part of a master goes on. What a part holds stands in a relation to the words that its master knows and the
-- bodies that it said: it is the asks, or the views, of a master where these are known and those were said. The
-- contract of a call says how that goes on, from the part `old` before the call to the part `new` after it, whatever
-- was known and said; no part keeps these lists. Each part's definitions give the words out again over its own values,
-- for every group and master.
use Rattle.std.specs.Prelude.{List, ◌++◌}

-- The part learns words, or facts: what it was of all that was known and said, it is with these known too.
abbrev pub Learns : {W B : Type 0} → (List W → List B → Type 0) → (List W → List B → Type 0) → List W → Type 0
Learns {W} {B} old new words = (known : List W) (said : List B) → old known said → new (known ++ words) said

-- The part says bodies, or is told that its master says them: it is with these said too.
abbrev pub Says : {W B : Type 0} → (List W → List B → Type 0) → (List W → List B → Type 0) → List B → Type 0
Says {W} {B} old new bodies = (known : List W) (said : List B) → old known said → new known (said ++ bodies)

-- A part that goes by one list alone, what is known or what was said, takes more at its end.
abbrev pub Grows : {X : Type 0} → (List X → Type 0) → (List X → Type 0) → List X → Type 0
Grows {X} old new more = (list : List X) → old list → new (list ++ more)
