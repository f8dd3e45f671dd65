-- What the views offer: their plans and the first preprepare of each number.
use Rattle.std.specs.Prelude.{◌≡◌, ℕ, Bool, true, List, Option, Some, None, nat_eq}
use Rattle.std.specs.List.{filter_map, list_all}
use Rattle.indexmap.specs.IndexMap.{get}
use Rattle.message_types.specs.declared.views.Plan.{Plan}
use Rattle.message_types.specs.Spelling.{rows_fit}
use Rattle.protocol_rules.specs.declared.facts.OrderFact.{OrderFact}
use Rattle.protocol_rules.specs.Words.{first_of_list}
use Rattle.protocol_rules.specs.Plans.{first_plan}
use Rattle.protocol_rules.specs.Order.{plan_in, proposal_in}
use Rattle.global_order.specs.Index.{same_pair}
use Rattle.global_order.specs.declared.offers.Offers.{Offers}

pub record HasOffers (facts : List OrderFact) (offers : Offers) : Type 0 where
  pub first : offers.first_plan ≡ first_plan
  pub plans : (v : ℕ) → get nat_eq offers.plans v ≡ first_of_list (filter_map (plan_in v) facts)
  pub proposals : (v s : ℕ) → get same_pair offers.proposals (v, s) ≡ first_of_list (filter_map (proposal_in v s) facts)

abbrev pub fits : Option (List (List ℕ)) → Bool
fits None = true
fits (Some rows) = rows_fit rows

abbrev pub plan_fits : Option Plan → Bool
plan_fits None = true
plan_fits (Some plan) = list_all rows_fit plan.rows

-- all rows offered have a text
pub record OffersFit (offers : Offers) : Type 0 where
  pub first : list_all rows_fit offers.first_plan.rows ≡ true
  pub plans : (v : ℕ) → plan_fits (get nat_eq offers.plans v) ≡ true
  pub proposals : (k : ℕ × ℕ) → fits (get same_pair offers.proposals k) ≡ true
