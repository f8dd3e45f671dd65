-- How far the eligible requests are executed: those before a place are certified, and the one at it isn't.
use Rattle.std.specs.Prelude.{◌≡◌, ℕ, ◌<◌, Bool, true, List, [], ◌∷◌, Option, Some, None, is_some, slice_index}
use Rattle.std.specs.List.{list_all, flat_map}
use Rattle.message_types.specs.declared.updates.Update.{Update}
use Rattle.quorum_sets.specs.Masters.{numbers_below}
use Rattle.quorum_sets.specs.declared.limits.TheConstants.{MOST_CLIENTS}
use Rattle.protocol_rules.specs.Execution.{Request, requests_between, certified_run, kept_after, updates_of}
use Rattle.execution.specs.Ran.{certificate}

-- how many of each client's updates were kept
abbrev pub HasCounts : List Update → List ℕ → Type 0
HasCounts executed counts = (c : ℕ) → c < MOST_CLIENTS → slice_index counts c ≡ updates_of c executed

-- the requests done are all certified, and these are the updates kept of them
pub record HasDone (certified : Request → Option Update) (done : List Request) (executed : List Update)
    (counts : List ℕ) : Type 0 where
  pub all : list_all (λ r. is_some (certified r)) done ≡ true
  pub kept : executed ≡ kept_after [] (certified_run certified done)
  pub counted : HasCounts executed counts

-- the first of the requests left isn't certified
abbrev pub IsStopped : (Request → Option Update) → List Request → Type 0
IsStopped certified [] = Unit {0}
IsStopped certified (r ∷ rest) = certified r ≡ None

-- each certified update is that of one of the clients that a plant may have
abbrev pub HasClients : List ((ℕ × ℕ) × Update) → Type 0
HasClients certificates = (r : Request) (u : Update) → certificate certificates r ≡ Some u → u.client < MOST_CLIENTS

-- the requests between two reaches, by master
abbrev pub requests_from : ℕ → List ℕ → List ℕ → List Request
requests_from n from to = flat_map (λ j. requests_between j (slice_index from j) (slice_index to j)) (numbers_below n)
