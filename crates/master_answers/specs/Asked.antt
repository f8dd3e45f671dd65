-- What a frame taken asks for, and whose ask was answered at an event.
use Rattle.std.specs.Prelude.{ℕ, ◌<◌, ◌^◌, Bool, true, false, ◌||◌, not, List, [], ◌∷◌, Option, Some, None, length}
use Rattle.std.specs.Prelude.{nat_eq, slice_index, if◌then◌else◌}
use Rattle.std.specs.List.{list_any}
use Rattle.message_types.specs.declared.signed.Signed.{Signed}
use Rattle.message_types.specs.declared.body.Body.{Body}
use Rattle.quorum_sets.specs.declared.limits.TheConstants.{MOST_MASTERS}
use Rattle.protocol_rules.specs.declared.facts.OrderFact.{OrderFact}
use Rattle.protocol_rules.specs.Group.{Group}
use Rattle.protocol_rules.specs.Reconcile.{request_gift, order_gift}
use Rattle.protocol_rules.specs.Lacking.{answers_ask}
use Rattle.reconcile.specs.declared.wanted.Wanted.{Wanted}
use Rattle.reconcile.specs.declared.wanted.Wanted.TheVariants.{Request, Number}
use Rattle.reconcile.specs.Asking.{wanted_in}
use Rattle.master_answers.specs.declared.ask.Ask.{Ask}

-- the ask that a frame is, if it is one
abbrev pub ask_of : Option (Signed Body) → Option Ask
ask_of None = None
ask_of (Some f) = elim (wanted_in f.body) [ None ↦ None | Some w ↦ Some record { signer = f.signer; wanted = w } ]

-- the signer of the frame taken, where one of these bodies gives what it asks for
abbrev pub answered_by : Option (Signed Body) → List Body → List ℕ
answered_by None bodies = []
answered_by (Some f) bodies = if list_any (answers_ask f.body) bodies then f.signer ∷ [] else []

-- what may be lacking is a request
abbrev pub is_request : Wanted → Bool
is_request (Request j k) = true
is_request (Number s) = false

-- what is given of one thing that is wanted, where it is a request, and where it is a number
abbrev pub gives_of : Group → List (Signed Body) → Wanted → List Body
gives_of g known (Request j k) = request_gift g known j k
gives_of g known (Number s) = []

abbrev pub orders_of : Group → List OrderFact → Wanted → List Body
orders_of g facts (Request j k) = []
orders_of g facts (Number s) = order_gift g facts s

-- something is given
abbrev pub has_gift : List Body → List Body → Bool
has_gift gives orders = not (nat_eq (length gives) 0) || not (nat_eq (length orders) 0)

-- one more answer to the asker can be counted
pub record HasRoomFor (counts : List ℕ) (asker : ℕ) : Type 0 where
  pub master : asker < MOST_MASTERS
  pub few : slice_index counts asker < 2 ^ 40

abbrev pub HasRoom : List ℕ → Option Ask → Type 0
HasRoom counts None = Unit {0}
HasRoom counts (Some ask) = HasRoomFor counts ask.signer

-- whose ask these gifts answer
abbrev pub answered_by_gift : Option Ask → List Body → List Body → List ℕ
answered_by_gift None gives orders = []
answered_by_gift (Some ask) gives orders = if has_gift gives orders then ask.signer ∷ [] else []
