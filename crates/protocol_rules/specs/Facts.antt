-- What the words known tell the global order, as a list of facts in the order in which they became known.
use Rattle.std.specs.Prelude.{ℕ, List, [], ◌∷◌, map}
use Rattle.std.specs.List.{flat_map}
use Rattle.message_types.specs.declared.signed.Signed.{Signed}
use Rattle.message_types.specs.declared.body.Body.{Body}
use Rattle.message_types.specs.declared.body.Body.TheVariants as body
use Rattle.protocol_rules.specs.declared.facts.OrderFact.{OrderFact}
use Rattle.protocol_rules.specs.declared.facts.OrderFact.TheVariants as fact
use Rattle.protocol_rules.specs.Group.{Group}
use Rattle.protocol_rules.specs.Matrix.{rows_of_frames}
use Rattle.protocol_rules.specs.Plans.{plan_of}

-- what one word tells; a report tells the rows of its certificates, and a new view its plan
abbrev pub tells : Group → Signed Body → List OrderFact
tells g f = elim f.body [
  | body.PrePrepare b ↦ fact.Proposal b.v b.s (rows_of_frames g b.frames) ∷ []
  | body.Prepare b ↦ fact.Prepare record { signer = f.signer; body = b; sig = f.sig } ∷ []
  | body.Commit b ↦ fact.Commit record { signer = f.signer; body = b; sig = f.sig } ∷ []
  | body.Mark b ↦ fact.Mark record { signer = f.signer; body = b; sig = f.sig } ∷ []
  | body.Report b ↦ map (λ c. fact.Rows c.rows) b.certificates
  | body.GiveOrdered b ↦ fact.Rows b.rows ∷ []
  | body.NewView b ↦ fact.Plan b.v (plan_of g (map (λ r. r.body) b.reports)) ∷ []
  | _ ↦ []
]

-- what all words known tell
unfoldable pub facts_of : Group → List (Signed Body) → List OrderFact
facts_of g known = flat_map (tells g) known

-- the rows that a fact makes known
abbrev pub rows_in : OrderFact → List (List (List ℕ))
rows_in (fact.Rows rows) = rows ∷ []
rows_in (fact.Proposal v s rows) = rows ∷ []
rows_in (fact.Plan v plan) = plan.rows
rows_in _ = []

-- all rows known, first known first
unfoldable pub rows_known : List OrderFact → List (List (List ℕ))
rows_known facts = flat_map rows_in facts
