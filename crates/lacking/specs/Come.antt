-- How far each master has come with the numbers, as its commits and marks tell, and when it is what these facts tell.
use Rattle.std.specs.Prelude.{◌≡◌, ℕ, ◌<◌, List, [], ◌∷◌, slice_index}
use Rattle.protocol_rules.specs.declared.facts.OrderFact.{OrderFact}
use Rattle.protocol_rules.specs.Parts as part
use Rattle.protocol_rules.specs.Group.{Group}
use Rattle.protocol_rules.specs.Lacking.{committed_to}

-- the group (whose clients don't matter here), and by master the greatest number that it committed or marked
pub record FurthestState : Type 0 where
  pub group : Group
  pub numbers : List ℕ

-- How far the masters of a group have come where these facts are known.
pub record IsFurthestOf (g : Group) (kept : FurthestState) (facts : List OrderFact) : Type 0 where
  pub masters : kept.group.n ≡ g.n
  pub intruded : kept.group.f ≡ g.f
  pub numbers : (j : ℕ) → j < g.n → slice_index kept.numbers j ≡ committed_to facts j

-- It learns a fact: whatever facts were known, it is of this one too.
abbrev pub Learns : FurthestState → FurthestState → OrderFact → Type 0
Learns old new f = (g : Group) → part.Grows (IsFurthestOf g old) (IsFurthestOf g new) (f ∷ [])

-- what holds of all facts where this is how far the masters have come
abbrev pub Where : FurthestState → (Group → List OrderFact → Type 0) → Type 0
Where kept Holds = (g : Group) (facts : List OrderFact) → IsFurthestOf g kept facts → Holds g facts
