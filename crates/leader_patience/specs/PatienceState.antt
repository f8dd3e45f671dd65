-- What a master keeps of the votes against leaders, and when it is what these words and bodies make of it.
use Rattle.std.specs.Prelude.{◌≡◌, ℕ, ◌+◌, ◌<◌, Bool, true, false, ◌&&◌, ◌||◌, not, List, ◌∷◌, [], Option, Some, None, map}
use Rattle.std.specs.Prelude.{max, reverse, nat_eq, nat_lt, slice_index, if◌then◌else◌}
use Rattle.std.specs.List.{list_any, slice_index_or}
use Rattle.message_types.specs.declared.signed.Signed.{Signed}
use Rattle.message_types.specs.declared.body.Body.{Body}
use Rattle.message_types.specs.declared.body.Body.TheVariants as body
use Rattle.quorum_sets.specs.Masters.{numbers_below}
use Rattle.protocol_rules.specs.Words.{in_order}
use Rattle.protocol_rules.specs.Parts as part
use Rattle.protocol_rules.specs.Group.{Group}
use Rattle.protocol_rules.specs.Measures.{suspects_said}
use Rattle.protocol_rules.specs.Patience.{voted_to, is_beat}

-- the group (whose clients don't matter here); how far each master voted, as one more than the greatest view; and how far
-- this one did, against each view below
pub record PatienceState : Type 0 where
  pub group : Group
  pub voted : List ℕ
  pub own : ℕ

-- The patience of a master that knows these words and said these bodies.
pub record IsPatienceOf (g : Group) (kept : PatienceState) (known : List (Signed Body)) (said : List Body) : Type 0 where
  pub masters : kept.group.n ≡ g.n
  pub intruded : kept.group.f ≡ g.f
  pub away : kept.group.k ≡ g.k
  pub voted : (master : ℕ) → master < g.n → slice_index_or kept.voted master 0 ≡ voted_to known master
  pub own : (v : ℕ) → list_any (suspects_said v) said ≡ nat_lt v kept.own

-- It learns a word: whatever was known and said, it is the patience where this is known too.
abbrev pub Learns : PatienceState → PatienceState → Signed Body → Type 0
Learns old new f = (g : Group) → part.Learns (IsPatienceOf g old) (IsPatienceOf g new) (f ∷ [])

-- It says bodies.
abbrev pub Says : PatienceState → PatienceState → List Body → Type 0
Says old new bodies = (g : Group) → part.Says (IsPatienceOf g old) (IsPatienceOf g new) bodies

-- what holds of all that may be known and said where this is the patience
abbrev pub Where : PatienceState → (Group → List (Signed Body) → List Body → Type 0) → Type 0
Where kept Holds =
    (g : Group) (known : List (Signed Body)) (said : List Body) → IsPatienceOf g kept known said → Holds g known said

-- the body is a vote against a leader
abbrev pub is_vote : Body → Bool
is_vote word = elim word [ body.Suspect b ↦ true | _ ↦ false ]

abbrev pub is_known_vote : Signed Body → Bool
is_known_vote f = is_vote f.body

-- the view of a vote, else 0
abbrev pub view_of_vote : Body → ℕ
view_of_vote word = elim word [ body.Suspect b ↦ b.v | _ ↦ 0 ]

-- what the numbers kept make of the views to vote against, and of the votes due
abbrev pub votes_to_kept : PatienceState → ℕ → Bool → ℕ
votes_to_kept kept v is_impatient = max
    (slice_index (reverse (in_order (map (λ j. slice_index_or kept.voted j 0) (numbers_below kept.group.n))))
    (kept.group.f + kept.group.k)) (if is_impatient then v + 1 else v)

abbrev pub is_due_kept : PatienceState → ℕ → ℕ → Bool → ℕ → Bool
is_due_kept kept v now is_impatient w =
    not (nat_lt w kept.own) || is_impatient && is_beat now && (nat_eq w v || nat_eq (w + 1) v)

abbrev pub vote_at : PatienceState → ℕ → ℕ → Bool → ℕ → Option Body
vote_at kept v now is_impatient w =
    if is_due_kept kept v now is_impatient w then Some (body.Suspect record { v = w }) else None
