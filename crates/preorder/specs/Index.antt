-- The index: each part of it agrees with a definition over the words known, the frames taken or the bodies said.
use Rattle.std.specs.Prelude.{◌≡◌, ◌≢◌, ℕ, suc, ◌+◌, ◌^◌, ◌≤◌, ◌<◌, Bool, true, false, ◌&&◌, List, Option, Some, None}
use Rattle.std.specs.Prelude.{IsSome, length, nat_eq, slice_index, if◌then◌else◌}
use Rattle.std.specs.List.{list_any, find, filter_map}
use Rattle.std.specs.Str.{bytes_eq}
use Rattle.std.specs.Map.{lookup}
use Rattle.message_types.specs.declared.signed.Signed.{Signed}
use Rattle.message_types.specs.declared.updates.Update.{Update}
use Rattle.message_types.specs.declared.body.Body.{Body}
use Rattle.message_types.specs.Digests.{digest_of_update}
use Rattle.quorum_sets.specs.Masters.{has_master}
use Rattle.quorum_sets.specs.declared.limits.TheConstants.{MOST_MASTERS}
use Rattle.protocol_rules.specs.Group.{Group, most_number}
pub use Rattle.protocol_rules.specs.Keys.{same_pair}
use Rattle.protocol_rules.specs.Words.{or_else}
use Rattle.protocol_rules.specs.Preorder.{update_of, updates_requested, is_ack, acks, certified}
use Rattle.protocol_rules.specs.Words.{first_of_list}
use Rattle.preorder.specs.declared.firsts.First.{First}
use Rattle.preorder.specs.declared.ballots.Ballot.{Ballot}

-- the entries of a map from pairs of numbers
abbrev pub PairMap : Type 0 → Type 0
PairMap X = List ((ℕ × ℕ) × X)

abbrev pub at_pair : {X : Type 0} → PairMap X → ℕ × ℕ → Option X
at_pair {X} map key = lookup (same_pair key) map

-- the entries of a map from a master, its number and a digest
abbrev pub BallotMap : Type 0
BallotMap = List ((ℕ × ℕ × List ℕ) × Ballot)

abbrev pub same_ballot : ℕ × ℕ × List ℕ → ℕ × ℕ × List ℕ → Bool
same_ballot x y = (nat_eq x.0 y.0 && nat_eq x.1 y.1) && bytes_eq x.2 y.2

abbrev pub at_ballot : BallotMap → ℕ × ℕ × List ℕ → Option Ballot
at_ballot map key = lookup (same_ballot key) map

-- at each client and number the first update taken
abbrev pub HasUpdates : List (Signed Body) → PairMap (Signed Update) → Type 0
HasUpdates taken map = (c t : ℕ) → at_pair map (c, t) ≡ first_of_list (filter_map (update_of c t) taken)

-- an update is there only for a number that 64 bits hold
abbrev pub HasNumbers : PairMap (Signed Update) → Type 0
HasNumbers map = (c t : ℕ) → 2 ^ 64 ≤ t → at_pair map (c, t) ≡ None

-- at each master and number the update that is certified
abbrev pub HasCertified : Group → List (Signed Body) → PairMap Update → Type 0
HasCertified g known map = (j k : ℕ) → at_pair map (j, k) ≡ certified g known j k

abbrev pub first_update : Option First → Option Update
first_update None = None
first_update (Some first) = Some first.update

-- whether an acknowledgement was said for it
abbrev pub is_settled : Option First → Bool
is_settled None = false
is_settled (Some first) = first.acked

-- the same request, now that one was said
abbrev pub with_ack : First → First
with_ack first = record { update = first.update; acked = true }

-- the first request for a number is there only for a master of the group and a number in its range
abbrev pub IsKnownFirst : Group → ℕ → ℕ → Option First → Type 0
IsKnownFirst g j k None = Unit {0}
IsKnownFirst g j k (Some first) = (j < g.n) × (1 ≤ k) × (k ≤ most_number)

-- the first request for (j, k), and whether an acknowledgement was said for it
pub record IsFirst (g : Group) (known : List (Signed Body)) (said : List Body) (j k : ℕ)
    (first : Option First) : Type 0 where
  pub update : first_update first ≡ first_of_list (updates_requested known j k)
  pub acked : list_any (acks j k) said ≡ is_settled first
  pub placed : IsKnownFirst g j k first

abbrev pub HasFirsts : Group → List (Signed Body) → List Body → PairMap First → Type 0
HasFirsts g known said map = (j k : ℕ) → IsFirst g known said j k (at_pair map (j, k))

-- the bodies acknowledge only what was requested
abbrev pub AcknowledgesKnown : List (Signed Body) → List Body → Type 0
AcknowledgesKnown known bodies = (j k : ℕ) → first_of_list (updates_requested known j k) ≡ None →
    list_any (acks j k) bodies ≡ false

abbrev pub has_digest : List ℕ → Update → Bool
has_digest digest u = bytes_eq (digest_of_update u) digest

abbrev pub ballot_update : Option Ballot → Option Update
ballot_update None = None
ballot_update (Some ballot) = ballot.update

abbrev pub ballot_has : Option Ballot → ℕ → Bool
ballot_has None m = false
ballot_has (Some ballot) m = has_master ballot.voters m

-- the first update requested as (j, k) with this digest, and the masters that acknowledged it
pub record IsBallot (known : List (Signed Body)) (j k : ℕ) (digest : List ℕ) (ballot : Option Ballot) : Type 0 where
  pub update : ballot_update ballot ≡ find (has_digest digest) (updates_requested known j k)
  pub voters : (m : ℕ) → m < MOST_MASTERS → ballot_has ballot m ≡ list_any (is_ack j k digest m) known

abbrev pub HasBallots : List (Signed Body) → BallotMap → Type 0
HasBallots known map = (j k : ℕ) (digest : List ℕ) → IsBallot known j k digest (at_ballot map (j, k, digest))

-- `reach` is how far f gives values without a gap
pub record Reaches (f : ℕ → Option Update) (reach : ℕ) : Type 0 where
  pub limit : reach ≤ most_number
  pub without_gap : (k : ℕ) → 1 ≤ k → k ≤ reach → IsSome (f k)
  pub stops : reach < most_number → f (suc reach) ≡ None

abbrev pub HasReach : Group → List (Signed Body) → List ℕ → Type 0
HasReach g known reach = (j : ℕ) → j < MOST_MASTERS → Reaches (certified g known j) (slice_index reach j)

-- an acknowledgement is due for (j, k)
abbrev pub IsPending : List (Signed Body) → List Body → ℕ → ℕ → Type 0
IsPending known said j k = IsSome (first_of_list (updates_requested known j k)) × (list_any (acks j k) said ≡ false)

-- the numbers of each master for which one is due stand from `low` to below `high`, and in the range of numbers
pub record HasPending (known : List (Signed Body)) (said : List Body) (low high : List ℕ) : Type 0 where
  pub masters : (length low ≡ MOST_MASTERS) × (length high ≡ MOST_MASTERS)
  pub from_one : (j : ℕ) → j < MOST_MASTERS → 1 ≤ slice_index low j
  pub low_limit : (j : ℕ) → j < MOST_MASTERS → slice_index low j ≤ most_number + 1
  pub high_limit : (j : ℕ) → j < MOST_MASTERS → slice_index high j ≤ most_number + 1
  pub from_low : (j k : ℕ) → j < MOST_MASTERS → IsPending known said j k → slice_index low j ≤ k
  pub below_high : (j k : ℕ) → j < MOST_MASTERS → IsPending known said j k → k < slice_index high j

-- as `Reaches`, but f may go on
pub record ReachesLess (f : ℕ → Option Update) (reach : ℕ) : Type 0 where
  pub limit : reach ≤ most_number
  pub without_gap : (k : ℕ) → 1 ≤ k → k ≤ reach → IsSome (f k)

abbrev pub SameElsewhere : List ℕ → List ℕ → ℕ → Type 0
SameElsewhere before after j = (i : ℕ) → i ≢ j → slice_index after i ≡ slice_index before i

-- what is certified after a step is what was before, but that (j, k) takes the candidate where it had nothing
abbrev pub CertifiesAt : Group → List (Signed Body) → List (Signed Body) → ℕ → ℕ → Option Update → Type 0
CertifiesAt g known after j k candidate =
    (i h : ℕ) → certified g after i h ≡ (if same_pair (j, k) (i, h) then or_else (certified g known i h)
    candidate else certified g known i h)
