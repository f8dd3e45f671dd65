-- What a master keeps of its wait for the leader, and when it is the wait of these moments.
use Rattle.std.specs.Prelude.{◌≡◌, ℕ, ◌-◌, ◌≤◌, ◌<◌, Bool, true, false, not, List, [], ◌∷◌, ◌++◌, nat_le, nat_lt}
use Rattle.std.specs.Prelude.{slice_index, if◌then◌else◌}
use Rattle.std.specs.List.{list_any, list_all}
use Rattle.std.specs.Str.{bytes_eq}
use Rattle.quorum_sets.specs.Masters.{numbers_below}
use Rattle.protocol_rules.specs.Group.{Group}
use Rattle.protocol_rules.specs.Patience.{Moment, ticks_in, from_first, stretch, lacks, wait}
use Rattle.leader_wait.specs.declared.demands.Demand.{Demand}

-- the group (whose clients don't matter here); how many ticks there were; the view of the last moment; and of the moments
-- of this view, in order, what was eligible and isn't ordered
pub record Waiting : Type 0 where
  pub group : Group
  pub ticks : ℕ
  pub view : ℕ
  pub demands : List Demand

-- something of the demand isn't among what is ordered
abbrev pub is_unmet : ℕ → (ℕ → ℕ) → Demand → Bool
is_unmet n ordered demand = list_any (λ j. nat_lt (ordered j) (slice_index demand.eligible.numbers j)) (numbers_below n)

-- the ticks since the first of the demands, 0 where there is none
abbrev pub first_since : ℕ → List Demand → ℕ
first_since now [] = 0
first_since now (demand ∷ rest) = now - demand.before

-- no demand is of a later tick than this
abbrev pub IsInTime : ℕ → List Demand → Type 0
IsInTime now demands = list_all (λ demand. nat_le demand.before now) demands ≡ true

-- of each master no less is ordered later
abbrev pub Rises : ℕ → (ℕ → ℕ) → (ℕ → ℕ) → Type 0
Rises n ordered later = (j : ℕ) → j < n → ordered j ≤ later j

-- the first n numbers are what is ordered
abbrev pub TellsBelow : ℕ → List ℕ → (ℕ → ℕ) → Type 0
TellsBelow n numbers ordered = (j : ℕ) → j < n → slice_index numbers j ≡ ordered j

-- The wait of a master that had these moments, where so much is ordered. Only the last moments, of one view, count; and
-- whatever more is ordered later, its demands tell whether something lacks, and since when.
pub record IsWaitOf (g : Group) (kept : Waiting) (ordered : ℕ → ℕ) (moments : List Moment) : Type 0 where
  pub masters : kept.group.n ≡ g.n
  pub ticks : kept.ticks ≡ ticks_in moments
  pub others : (v : ℕ) → (kept.view ≡ v → ⊥) → stretch v moments ≡ []
  pub lacking : (later : ℕ → ℕ) → Rises g.n ordered later →
      list_any (is_unmet g.n later) kept.demands ≡ list_any (lacks g later) (stretch kept.view moments)
  pub waiting : (later : ℕ → ℕ) → Rises g.n ordered later →
      first_since kept.ticks (from_first (is_unmet g.n later) kept.demands) ≡ wait g kept.view later moments

-- The moment is a tick or not, of this view, and so much is eligible at it; what else it tells doesn't count.
pub record IsMoment (g : Group) (at_tick : Bool) (view : ℕ) (eligible : List ℕ) (m : Moment) : Type 0 where
  pub tick : m.is_tick ≡ at_tick
  pub of_view : m.view ≡ view
  pub as_much : (j : ℕ) → j < g.n → slice_index eligible j ≡ slice_index m.eligible j

-- The wait is told of a moment: whatever it was of, it is of this moment too.
abbrev pub IsTold : Waiting → Waiting → Bool → ℕ → List ℕ → Type 0
IsTold old new at_tick view eligible =
    (g : Group) (ordered : ℕ → ℕ) (moments : List Moment) (m : Moment) → IsMoment g at_tick view eligible m →
    IsWaitOf g old ordered moments → IsWaitOf g new ordered (moments ++ m ∷ [])

-- what holds of all moments, and of what is ordered, where this is the wait
abbrev pub Where : Waiting → (Group → (ℕ → ℕ) → List Moment → Type 0) → Type 0
Where kept Holds = (g : Group) (ordered : ℕ → ℕ) (moments : List Moment) → IsWaitOf g kept ordered moments →
    Holds g ordered moments

-- It stays the wait of all that it was, where so much is ordered.
abbrev pub Keeps : Waiting → Waiting → List ℕ → Type 0
Keeps old new reach = (g : Group) (ordered : ℕ → ℕ) (moments : List Moment) → TellsBelow g.n reach ordered →
    IsWaitOf g old ordered moments → IsWaitOf g new ordered moments

-- the last of the demands is for the same
abbrev pub ends_with : List Demand → List ℕ → Bool
ends_with [] eligible = false
ends_with (demand ∷ []) eligible = bytes_eq demand.eligible.numbers eligible
ends_with (demand ∷ other ∷ rest) eligible = ends_with (other ∷ rest) eligible

-- all of the first demand is ordered
abbrev pub starts_met : ℕ → (ℕ → ℕ) → List Demand → Bool
starts_met n ordered [] = false
starts_met n ordered (demand ∷ rest) = not (is_unmet n ordered demand)

-- The demands, without those of another view, and one more that isn't for the same as the last.
abbrev pub noted : Bool → List Demand → Demand → List Demand
noted is_same_view demands demand =
    if is_same_view
    then (if ends_with demands demand.eligible.numbers then demands else demands ++ demand ∷ [])
    else demand ∷ []
