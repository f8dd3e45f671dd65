-- What an actor asks of its keeper, and when it is halted. (This project's own.)
use Rattle.std.specs.Prelude.{ℕ, Bool, ◌&&◌, List, [], ◌∷◌, length, nat_le, if◌then◌else◌}
use Rattle.std.specs.List.{list_any, flat_map}
use Rattle.history_rules.specs.Events.{Entry, is_restart}
use Rattle.history_rules.specs.Setup.{Setup}

pub data KeeperCall : Type 0 where
  -- all that was kept is read
  Reading : KeeperCall
  -- an entry is added to what is kept
  Append : KeeperCall

-- each entry is one append, and a restart a reading before it
abbrev pub calls_at : Entry → List KeeperCall
calls_at e = if is_restart e.event then Reading ∷ Append ∷ [] else Append ∷ []

-- the calls of an actor's own list, in order; they are numbered from 1
abbrev pub keeper_calls : List Entry → List KeeperCall
keeper_calls own = flat_map calls_at own

-- one of the actor's calls so far has the number of a call that fails
abbrev pub is_halted : Setup → ℕ → List Entry → Bool
is_halted w actor own = list_any (λ x. nat_le 1 x && nat_le x (length (keeper_calls own))) (w.failing actor)
