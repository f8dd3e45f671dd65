-- The requests that a master lacks, up to where it wants them.
use Rattle.std.specs.Prelude.{ℕ, ◌+◌, ◌-◌, List, [], ◌∷◌, Option, Some, None}
use Rattle.std.specs.List.{flat_map}
use Rattle.message_types.specs.declared.signed.Signed.{Signed}
use Rattle.message_types.specs.declared.updates.Update.{Update}
use Rattle.message_types.specs.declared.body.Body.{Body}
use Rattle.quorum_sets.specs.Masters.{numbers_below}
use Rattle.protocol_rules.specs.Words.{numbers_from}
use Rattle.protocol_rules.specs.Group.{Group}
use Rattle.protocol_rules.specs.Preorder.{certified, vector}
use Rattle.preorder.specs.PreorderState.{PreorderState, certified_in}
use Rattle.reconcile.specs.declared.wanted.Wanted.{Wanted}
use Rattle.reconcile.specs.declared.wanted.Wanted.TheVariants.{Request}

-- request (j, k), where nothing is certified as it
abbrev pub unless_certified : ℕ → ℕ → Option Update → List Wanted
unless_certified j k None = Request j k ∷ []
unless_certified j k (Some u) = []

-- the same, by what a part holds as certified
abbrev pub one_lacking : PreorderState → ℕ → ℕ → List Wanted
one_lacking p j k = unless_certified j k (certified_in p j k)

-- the requests of master j beyond those certified without a gap, up to number `to`, that aren't certified
abbrev pub lacking_of : Group → List (Signed Body) → (ℕ → ℕ) → ℕ → List Wanted
lacking_of g known to j = flat_map (λ k. unless_certified j k (certified g known j k))
    (numbers_from (vector g known j + 1) (to j - vector g known j))

-- those of all masters
abbrev pub all_lacking : Group → List (Signed Body) → (ℕ → ℕ) → List Wanted
all_lacking g known to = flat_map (lacking_of g known to) (numbers_below g.n)
