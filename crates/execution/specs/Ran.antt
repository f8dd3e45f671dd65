-- What a run holds, and when it is the run of these rows and certificates.
use Rattle.std.specs.Prelude.{◌≡◌, ℕ, ◌+◌, ◌-◌, ◌≤◌, ◌<◌, List, [], ◌∷◌, Option, Some, None, length, map, take, drop}
use Rattle.std.specs.Prelude.{slice_index, vec_capacity, if◌then◌else◌}
use Rattle.std.specs.Prelude.{is_some}
use Rattle.std.specs.List.{list_all, flat_map}
use Rattle.std.specs.Map.{lookup}
use Rattle.message_types.specs.declared.updates.Update.{Update}
use Rattle.quorum_sets.specs.Masters.{numbers_below}
use Rattle.protocol_rules.specs.Words.{or_else}
use Rattle.protocol_rules.specs.Parts as part
use Rattle.protocol_rules.specs.Group.{Group}
use Rattle.protocol_rules.specs.Matrix.{reach}
use Rattle.protocol_rules.specs.Execution.{Request, requests_between, eligible_requests, certified_run, kept_after}
use Rattle.protocol_rules.specs.Execution.{updates_of}
use Rattle.summary_matrix.specs.Held.{TellsEach}
use Rattle.protocol_rules.specs.Keys.{same_pair}

-- the group, how many rows were taken and how far they reach, the requests that they make eligible, and the
-- certificates
pub record Ran : Type 0 where
  pub group : Group
  pub numbers : ℕ
  pub reach : List ℕ
  pub requests : List Request
  pub certificates : List ((ℕ × ℕ) × Update)

-- a request as a pair of its master and its number
abbrev pub request_of : ℕ × ℕ → Request
request_of p = record { j = p.0; k = p.1 }

abbrev pub requested : Option (ℕ × ℕ) → Option Request
requested None = None
requested (Some p) = Some (request_of p)

-- the update that is certified as this request
abbrev pub certificate : List ((ℕ × ℕ) × Update) → Request → Option Update
certificate certificates r = lookup (same_pair (r.j, r.k)) certificates

-- The run of a group over these rows and certificates.
pub record IsRunOf (g : Group) (m : Ran) (certified : Request → Option Update)
    (runs : List (List (List ℕ))) : Type 0 where
  pub group : m.group ≡ g
  pub numbers : m.numbers ≡ length runs
  pub reached : TellsEach m.reach (reach g runs)
  pub requests : m.requests ≡ eligible_requests g [] runs
  pub certificates : (r : Request) → certificate m.certificates r ≡ certified r

-- the certificates with one more, unless the request has one: the first stands
abbrev pub with_certificate : (Request → Option Update) → ℕ → ℕ → Update → Request → Option Update
with_certificate certified j k u r = or_else (certified r) (if same_pair (j, k) (r.j, r.k) then Some u else None)

-- The run learns the rows of the next number: whatever is certified, and whatever rows it was of, it is of these rows
-- too.
abbrev pub LearnsRows : Ran → Ran → List (List ℕ) → Type 0
LearnsRows old new rows = (g : Group) (certified : Request → Option Update) →
    part.Grows (IsRunOf g old certified) (IsRunOf g new certified) (rows ∷ [])

-- It learns that an update is certified as request k of master j.
abbrev pub LearnsCertified : Ran → Ran → ℕ → ℕ → Update → Type 0
LearnsCertified old new j k u =
    (g : Group) (certified : Request → Option Update) (runs : List (List (List ℕ))) → IsRunOf g old certified runs →
    IsRunOf g new (with_certificate certified j k u) runs

-- what holds of all rows and certificates where this is the run
abbrev pub Where : Ran → (Group → (Request → Option Update) → List (List (List ℕ)) → Type 0) → Type 0
Where m Holds = (g : Group) (certified : Request → Option Update) (runs : List (List (List ℕ))) →
    IsRunOf g m certified runs → Holds g certified runs
