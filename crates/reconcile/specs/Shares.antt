-- How many asks of each master were answered, by the rules that stay alive.
use Rattle.std.specs.Prelude.{◌≡◌, ℕ, ◌+◌, ◌<◌, List, [], ◌∷◌, length, filter, map, nat_eq, sum}
use Rattle.std.specs.Prelude.{slice_index}
use Rattle.message_types.specs.declared.signed.Signed.{Signed}
use Rattle.message_types.specs.declared.body.Body.{Body}
use Rattle.quorum_sets.specs.Masters.{numbers_below}
use Rattle.quorum_sets.specs.declared.limits.TheConstants.{MOST_MASTERS}
use Rattle.protocol_rules.specs.declared.facts.OrderFact.{OrderFact}
use Rattle.protocol_rules.specs.Parts as part
use Rattle.protocol_rules.specs.Group.{Group}
use Rattle.protocol_rules.specs.Preorder.{vector}
use Rattle.protocol_rules.specs.Order.{gapless}

-- how many asks of a master were answered, of which the list has each asker
abbrev pub times_answered : List ℕ → ℕ → ℕ
times_answered answered asker = length (filter (nat_eq asker) answered)

-- what there is to be had of a master: the numbers that it ordered and the requests that it has certified, without a gap
abbrev pub things_had : Group → List (Signed Body) → List OrderFact → ℕ
things_had g known facts = gapless g facts + sum (map (vector g known) (numbers_below g.n))

-- The counts of a master that answered these askers.
abbrev pub AreSharesOf : List ℕ → List ℕ → Type 0
AreSharesOf counts answered = (asker : ℕ) → asker < MOST_MASTERS →
    slice_index counts asker ≡ times_answered answered asker

-- They are told of an answer.
abbrev pub AreTold : List ℕ → List ℕ → ℕ → Type 0
AreTold old new asker = part.Grows (AreSharesOf old) (AreSharesOf new) (asker ∷ [])
