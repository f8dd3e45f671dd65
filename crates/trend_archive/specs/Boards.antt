-- Which of the masters' answers is shown: the first that more than f different masters gave, since then a master that
-- isn't intruded did. (In the manner of Spire, whose screens act on f + 1 matching words of its masters.)
use Rattle.std.specs.Prelude.{◌≡◌, ◌<◌, ℕ, Bool, true, false, ◌&&◌, List, [], ◌∷◌, ◌++◌, Option, Some, None, nat_eq}
use Rattle.std.specs.Prelude.{nat_lt, length, slice_get, IsSomeAnd, if◌then◌else◌}
use Rattle.std.specs.List.{list_any}
use Rattle.std.specs.Ordering.{int_eq}
use Rattle.quorum_sets.specs.Masters.{voters}
use Rattle.trend_archive.specs.declared.change.Changed.{Changed}
use Rattle.trend_archive.specs.declared.change.Changes.{Changes}
use Rattle.trend_archive.specs.declared.board.Vote.{Vote}

-- whether two lists of changes are one and the same
abbrev pub same_items : List Changed → List Changed → Bool
same_items [] [] = true
same_items [] (y ∷ ys) = false
same_items (x ∷ xs) [] = false
same_items (x ∷ xs) (y ∷ ys) = nat_eq x.number y.number && int_eq x.value y.value && same_items xs ys

-- whether two answers are one and the same
abbrev pub same_changes : Changes → Changes → Bool
same_changes a b = nat_eq a.point b.point && nat_eq a.first b.first && nat_eq a.last b.last
    && same_items a.items b.items

-- whether a vote is this master's, for this answer
abbrev pub is_vote : Changes → ℕ → Vote → Bool
is_vote a m vote = nat_eq vote.signer m && same_changes vote.changes a

-- whether a master gave this answer
abbrev pub has_vote : List Vote → Changes → ℕ → Bool
has_vote votes a m = list_any (is_vote a m) votes

-- the masters, of n that there are, that gave this answer
unfoldable pub supporters : ℕ → List Vote → Changes → List ℕ
supporters n votes a = voters (has_vote votes a) n

-- with these votes, of which this is the last, its answer is one of more than f masters
abbrev pub settled_by : (n f : ℕ) → List Vote → Vote → Option Changes
settled_by n f votes vote = if nat_lt f (length (supporters n votes vote.changes)) then Some vote.changes else None

-- the first answer, where there is one, else the second
abbrev pub or_else : Option Changes → Option Changes → Option Changes
or_else None other = other
or_else (Some a) other = Some a

-- the answer of the first vote, in the order in which they came, that settles one (`seen` came before)
abbrev pub shown_after : (n f : ℕ) → List Vote → List Vote → Option Changes
shown_after n f seen [] = None
shown_after n f seen (vote ∷ rest) = or_else (settled_by n f (seen ++ vote ∷ []) vote)
    (shown_after n f (seen ++ vote ∷ []) rest)

-- the answer that is shown after these votes
unfoldable pub shown : (n f : ℕ) → List Vote → Option Changes
shown n f votes = shown_after n f [] votes

-- the answer is that of the vote at this place; without a place there is none
abbrev pub IsShownAt : Option ℕ → List Vote → Option Changes → Type 0
IsShownAt None votes shown = shown ≡ None
IsShownAt (Some place) votes shown = IsSomeAnd (slice_get votes place) (λ vote. shown ≡ Some vote.changes)

-- the votes taken, how many masters there are, and how many of them may be intruded
pub record Tally : Type 0 where
  pub n : ℕ
  pub f : ℕ
  pub votes : List Vote

-- Where more than f masters gave an answer, one is shown.
abbrev pub ShownWhereSupported : Type 0
ShownWhereSupported = (n f : ℕ) (votes : List Vote) (a : Changes) → f < length (supporters n votes a) →
    shown n f votes ≡ None → ⊥

-- What is shown is an answer of more than f masters.
abbrev pub ShownIsSupported : Type 0
ShownIsSupported = (n f : ℕ) (votes : List Vote) (a : Changes) → shown n f votes ≡ Some a →
    f < length (supporters n votes a)
