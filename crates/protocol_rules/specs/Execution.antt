-- The executed updates: the requests that the ordered rows make eligible, in order, as far as they are certified, each
-- client's updates in turn. (After Prime's execution order; that an update out of turn is passed over is this
-- project's own.)
use Rattle.std.specs.Prelude.{ℕ, ◌+◌, ◌-◌, List, [], ◌∷◌, ◌++◌, Option, Some, None, length, filter, map, nat_eq}
use Rattle.std.specs.Prelude.{if◌then◌else◌}
use Rattle.std.specs.List.{flat_map}
use Rattle.message_types.specs.declared.updates.Update.{Update}
use Rattle.quorum_sets.specs.Masters.{numbers_below}
use Rattle.protocol_rules.specs.Words.{numbers_from}
use Rattle.protocol_rules.specs.Group.{Group}
use Rattle.protocol_rules.specs.Matrix.{eligible, reach}

-- request k of master j
pub record Request : Type 0 where
  pub j : ℕ
  pub k : ℕ

-- the requests of master j after number `from` up to number `to`
abbrev pub requests_between : ℕ → ℕ → ℕ → List Request
requests_between j from to = map (λ k. record { j = j; k = k }) (numbers_from (from + 1) (to - from))

-- the requests that one number's rows make eligible after those of the numbers before, j rising, then k
abbrev pub newly_eligible : Group → List (List (List ℕ)) → List (List ℕ) → List Request
newly_eligible g before rows =
    flat_map (λ j. requests_between j (reach g before j) (eligible g rows j)) (numbers_below g.n)

-- the requests that the numbers' rows make eligible, in order; `before` are the rows of the numbers before
unfoldable pub eligible_requests : Group → List (List (List ℕ)) → List (List (List ℕ)) → List Request
eligible_requests g before [] = []
eligible_requests g before (rows ∷ rest) = newly_eligible g before rows
    ++ eligible_requests g (before ++ rows ∷ []) rest

-- the updates of the requests up to the first that isn't certified
unfoldable pub certified_run : (Request → Option Update) → List Request → List Update
certified_run certified [] = []
certified_run certified (r ∷ rest) = elim (certified r) [ None ↦ [] | Some u ↦ u ∷ certified_run certified rest ]

-- the first request that isn't certified
unfoldable pub first_missing : (Request → Option Update) → List Request → Option Request
first_missing certified [] = None
first_missing certified (r ∷ rest) = elim (certified r) [ None ↦ Some r | Some u ↦ first_missing certified rest ]

-- how many of a client's updates are among these
abbrev pub updates_of : ℕ → List Update → ℕ
updates_of c updates = length (filter (λ u. nat_eq u.client c) updates)

-- The updates that are kept: those whose number is one more than the client's updates kept before.
unfoldable pub kept_after : List Update → List Update → List Update
kept_after kept [] = kept
kept_after kept (u ∷ rest) = if nat_eq u.t (updates_of u.client kept + 1) then kept_after (kept ++ u ∷ [])
    rest else kept_after kept rest

-- what is executed where these rows are ordered and these requests certified
unfoldable pub executed_of : Group → (Request → Option Update) → List (List (List ℕ)) → List Update
executed_of g certified runs = kept_after [] (certified_run certified (eligible_requests g [] runs))

-- the request whose certificate the order waits for
unfoldable pub waiting_of : Group → (Request → Option Update) → List (List (List ℕ)) → Option Request
waiting_of g certified runs = first_missing certified (eligible_requests g [] runs)
