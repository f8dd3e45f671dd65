-- What happened to a master so far, beside what it took, knows and said. (How it is kept is this project's own.)
use Rattle.std.specs.Prelude.{ℕ, Bool, List, [], ◌∷◌, ◌++◌}
use Rattle.message_types.specs.declared.signed.Signed.{Signed}
use Rattle.message_types.specs.declared.body.Body.{Body}
use Rattle.protocol_rules.specs.Group.{Group}
use Rattle.protocol_rules.specs.Views.{view}
use Rattle.protocol_rules.specs.Measures.{Told}
use Rattle.protocol_rules.specs.Patience.{Moment}
use Rattle.protocol_rules.specs.Master.{waits, moment}

-- its events as the rules first specified are told of them, and as those that stay alive are; and the masters whose asks it
-- answered
pub record Past : Type 0 where
  pub told : List Told
  pub moments : List Moment
  pub answered : List ℕ

-- where nothing happened yet
abbrev pub no_past : Past
no_past = record { told = []; moments = []; answered = [] }

-- one event more, at which these words are known
abbrev pub past_with : Group → List (Signed Body) → Bool → Past → Past
past_with g known at_tick past = record {
  told = past.told ++ record { is_tick = at_tick; view = view g known; waits = waits g known } ∷ [];
  moments = past.moments ++ moment g known at_tick ∷ [];
  answered = past.answered;
}
