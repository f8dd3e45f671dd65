-- What one request's certificate changes.
use Rattle.std.specs.Prelude.{◌≡◌, ℕ, Option, Some, if◌then◌else◌}
use Rattle.message_types.specs.declared.updates.Update.{Update}
use Rattle.protocol_rules.specs.Execution.{Request}
use Rattle.protocol_rules.specs.Keys.{same_pair}

-- Of all requests only (j, k) may be certified now where it wasn't before, and this is what it is certified as now.
pub record IsCertifiedAt (j k : ℕ) (here : Option Update) (before now : Request → Option Update) : Type 0 where
  pub at : (r : Request) → now r ≡ (if same_pair (j, k) (r.j, r.k) then here else before r)
  pub stays : (r : Request) (u : Update) → before r ≡ Some u → now r ≡ Some u
