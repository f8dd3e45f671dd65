-- Counts beside the list of what was said.
use Rattle.std.specs.Prelude.{◌≡◌, ℕ, ◌≤◌, ◌<◌, List, length, slice_index}
use Rattle.message_types.specs.declared.updates.Update.{Update}
use Rattle.message_types.specs.declared.body.Body.{Body}
use Rattle.quorum_sets.specs.declared.limits.TheConstants.{MOST_CLIENTS}
use Rattle.protocol_rules.specs.Group.{most_number}
use Rattle.protocol_rules.specs.Preorder.{requests_said, requests_said_for}
use Rattle.protocol_rules.specs.Execution.{updates_of}
use Rattle.protocol_rules.specs.Turns.{last_request, last_introduced}
use Rattle.preorder.specs.declared.requests.Counts.{Counts}
use Rattle.preorder.specs.declared.introducing.Introduced.{Introduced}

-- how many requests were said, in all and for each client
pub record IsCounted (said : List Body) (counts : Counts) : Type 0 where
  pub all : counts.introduced ≡ length (requests_said said)
  pub limit : counts.introduced ≤ most_number
  pub clients : length counts.said_for ≡ MOST_CLIENTS
  pub of_client : (c : ℕ) → c < MOST_CLIENTS → slice_index counts.said_for c ≡ requests_said_for c said

-- how far the requests said went: the greatest number of one, and of an update of each client
pub record IsIntroduced (said : List Body) (introduced : Introduced) : Type 0 where
  pub request : introduced.request ≡ last_request said
  pub clients : length introduced.updates ≡ MOST_CLIENTS
  pub of_client : (c : ℕ) → c < MOST_CLIENTS → slice_index introduced.updates c ≡ last_introduced said c

-- how many updates of each client are among these
abbrev pub AreCounts : ℕ → List ℕ → List Update → Type 0
AreCounts clients counts updates = (c : ℕ) → c < clients → slice_index counts c ≡ updates_of c updates
