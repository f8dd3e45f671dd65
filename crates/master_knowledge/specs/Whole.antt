-- A part that is in its place with all that is inside it, as each part of a frame that stands.
use Rattle.std.specs.Prelude.{◌≡◌, ℕ, ◌≤◌, Bool, true}
use Rattle.std.specs.List.{list_all}
use Rattle.message_types.specs.declared.signed.Signed.{Signed}
use Rattle.message_types.specs.declared.body.Body.{Body}
use Rattle.message_types.specs.Parts.{parts}
use Rattle.quorum_sets.specs.declared.limits.TheConstants.{MOST_MASTERS}
use Rattle.protocol_rules.specs.Group.{Group}
use Rattle.protocol_rules.specs.Places.{in_place}

abbrev pub is_whole : Group → Signed Body → Bool
is_whole g f = list_all (in_place g) (parts f)

-- The part is whole in some group of so many masters.
pub record IsWhole (masters : ℕ) (f : Signed Body) : Type 0 where
  pub group : Group
  pub same : group.n ≡ masters
  pub few : masters ≤ MOST_MASTERS
  pub whole : is_whole group f ≡ true
