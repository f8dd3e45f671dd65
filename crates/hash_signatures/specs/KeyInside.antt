-- What a `KeyState` keeps.
use Rattle.std.specs.Prelude.{◌≡◌, ◌≤◌, length}
use Rattle.hash_signatures.specs.declared.key_state.KeyState.TheInside.{Inside}
use Rattle.hash_signatures.specs.Signatures.{Key, all_leaves, key_public}
use Rattle.hash_signatures.specs.State.{KeyUse, key_from, key_use, IsLevelCount, HasMadeHeights}
use Rattle.hash_signatures.specs.Path.{IsKeptPath}

abbrev pub key_of : Inside → Key
key_of state = key_from state.seed state.id state.heights.items state.ots

abbrev pub use_of : Inside → KeyUse
use_of state = key_use (key_of state) state.used

pub record IsKept (state : Inside) : Type 0 where
  pub levels : IsLevelCount (length state.heights.items)
  pub heights : HasMadeHeights state.heights.items
  pub id : length state.id ≡ 16
  pub within : state.used ≤ all_leaves (key_of state)
  pub public_key : state.public ≡ key_public (key_of state)
  pub path : IsKeptPath (key_of state) state.path
