-- What a master keeps of the global order, and when it is what these facts and bodies make of it. (How it is kept is
-- this project's own.)
use Rattle.std.specs.Prelude.{◌≡◌, ◌+◌, ℕ, Bool, List, ◌++◌, min}
use Rattle.std.specs.List.{flat_map}
use Rattle.message_types.specs.declared.body.Body.{Body}
use Rattle.protocol_rules.specs.declared.facts.OrderFact.{OrderFact}
use Rattle.protocol_rules.specs.Parts as part
use Rattle.protocol_rules.specs.Words.{numbers_from}
use Rattle.protocol_rules.specs.Group.{Group, window}
use Rattle.protocol_rules.specs.Order.{stable, prepare_due, prepares_due, commits_due, marks_due}
use Rattle.global_order.specs.Index.{Map, Vote, HasPrepares, HasCommits, HasMarks, HasChoices}
use Rattle.global_order.specs.Giving.{HasViews}
use Rattle.global_order.specs.Offered.{HasOffers}
use Rattle.global_order.specs.Saying.{HasSaidPrepares, HasSaidCommits, HasMarked}
use Rattle.global_order.specs.Unsaid.{HasPending, HasPendingCommits, said_in, offers_rows}
use Rattle.global_order.specs.declared.choices.Choices.{Choices}
use Rattle.global_order.specs.declared.offers.Offers.{Offers}
use Rattle.global_order.specs.declared.said.Said.{Said}

-- the numbers of masters and of a quorum; the votes, the choices and the offers known; what was said; the stable number
pub record OrderState : Type 0 where
  pub masters : ℕ
  pub quorum : ℕ
  pub prepares : Map Vote (List ℕ)
  pub commits : Map Vote (List ℕ)
  pub marks : Map (ℕ × ℕ) (List ℕ)
  pub choices : Choices
  pub views : Map (ℕ × List ℕ) ℕ
  pub offers : Offers
  pub told : Said
  pub stable : ℕ

-- the group has these sizes; how many clients it has doesn't matter here
pub record HasSizes (g : Group) (n q : ℕ) : Type 0 where
  pub masters : g.n ≡ n
  pub quorum : g.q ≡ q

-- The order of a master of the group that was handed these facts one after another and said these bodies.
pub record IsOrderOf (g : Group) (state : OrderState) (facts : List OrderFact) (said : List Body) : Type 0 where
  pub sizes : HasSizes g state.masters state.quorum
  pub prepares : HasPrepares facts state.prepares
  pub commits : HasCommits facts state.commits
  pub marks : HasMarks facts state.marks
  pub choices : HasChoices g facts state.choices
  pub views : HasViews g facts state.views
  pub offers : HasOffers facts state.offers
  pub prepares_said : HasSaidPrepares said state.told.prepares
  pub commits_said : HasSaidCommits said state.told.commits
  pub marked : HasMarked said state.told.marked
  pub stable : state.stable ≡ stable g facts
  pub prepares_pending : HasPending (said_in state.told.prepares) (offers_rows facts) state.offers.pending
  pub commits_pending : HasPendingCommits (said_in state.told.commits) state.choices

-- The order learns facts: whatever it was handed and said, it is the order that was handed these too.
abbrev pub Learns : OrderState → OrderState → List OrderFact → Type 0
Learns old new more = (g : Group) → part.Learns (IsOrderOf g old) (IsOrderOf g new) more

-- It says bodies: it is the order that said these too.
abbrev pub Says : OrderState → OrderState → List Body → Type 0
Says old new bodies = (g : Group) → part.Says (IsOrderOf g old) (IsOrderOf g new) bodies

-- It stays the order of what it was handed and said, as where there was no memory for more.
abbrev pub Stays : OrderState → OrderState → Type 0
Stays old new = (g : Group) (facts : List OrderFact) (said : List Body) → IsOrderOf g old facts said →
    IsOrderOf g new facts said

-- what holds of all that may have been handed to it and said
abbrev pub Where : OrderState → (Group → List OrderFact → List Body → Type 0) → Type 0
Where state Holds = (g : Group) (facts : List OrderFact) (said : List Body) → IsOrderOf g state facts said →
    Holds g facts said

-- what is due in a view: prepares, commits, marks
abbrev pub bodies_due : Group → List OrderFact → List Body → ℕ → Bool → List Body
bodies_due g facts said view is_open = prepares_due g facts said view is_open ++ commits_due g facts said view
    ++ marks_due g facts said

-- the prepares due in a view for the numbers of the window up to `last`, and with them all commits and marks
abbrev pub prepares_up_to : Group → List OrderFact → List Body → ℕ → ℕ → List Body
prepares_up_to g facts said view last =
    flat_map (prepare_due facts said view) (numbers_from 1 (min last (stable g facts + window)))

abbrev pub bodies_up_to : Group → List OrderFact → List Body → ℕ → ℕ → List Body
bodies_up_to g facts said view last = prepares_up_to g facts said view last ++ commits_due g facts said view
    ++ marks_due g facts said
