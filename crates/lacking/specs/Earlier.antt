-- What f + 1 of a master's latest summaries had certified earlier, and when it is that of these moments.
use Rattle.std.specs.Prelude.{◌≡◌, ℕ, ◌<◌, Bool, List, [], ◌∷◌, ◌++◌, reverse, slice_index}
use Rattle.protocol_rules.specs.Group.{Group}
use Rattle.protocol_rules.specs.Patience.{Moment, ticks_in}
use Rattle.protocol_rules.specs.Lacking.{before_fourth, shown_before}

-- what they had at the last tick that is a multiple of 4, and at the last one before the present moment, by master
pub record EarlierState : Type 0 where
  pub latest : List ℕ
  pub before : List ℕ

-- the first n numbers are those of a list
abbrev pub TellsBelow : ℕ → List ℕ → List ℕ → Type 0
TellsBelow n numbers list = (j : ℕ) → j < n → slice_index numbers j ≡ slice_index list j

-- what was shown at the first of the moments, if any
abbrev pub shown_first : List Moment → List ℕ
shown_first [] = []
shown_first (m ∷ rest) = m.shown

-- What is kept is that of these moments.
pub record IsShownOf (g : Group) (kept : EarlierState) (moments : List Moment) : Type 0 where
  pub latest : TellsBelow g.n kept.latest (shown_first (before_fourth (ticks_in moments) (reverse moments)))
  pub before : TellsBelow g.n kept.before (shown_before (reverse moments) (ticks_in moments))

-- It is told of a moment, with which there are so many ticks: whatever it was of, it is of this moment too. Of the moment
-- only whether it is a tick and what is shown at it count.
abbrev pub IsTold : EarlierState → EarlierState → ℕ → Bool → List ℕ → Type 0
IsTold old new now at_tick shown =
    (g : Group) (moments : List Moment) (m : Moment) → ticks_in (moments ++ m ∷ []) ≡ now → m.is_tick ≡ at_tick →
    TellsBelow g.n shown m.shown → IsShownOf g old moments → IsShownOf g new (moments ++ m ∷ [])

-- what holds of all moments where this is kept
abbrev pub Where : EarlierState → (Group → List Moment → Type 0) → Type 0
Where kept Holds = (g : Group) (moments : List Moment) → IsShownOf g kept moments → Holds g moments
