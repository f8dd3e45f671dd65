-- The plan is made of the reports of the new view, and its rows fit a spelling because those of the reports do.
use Rattle.std.proofs.Common.{[], ◌∷◌, refl, ◌∙◌, ap, subst}
use Rattle.std.proofs.lemmas.Result.{on_ok_weaker}
use Rattle.std.specs.List.{list_all}
use Rattle.message_types.specs.Spelling.{rows_fit}
use Rattle.message_types.specs.declared.views.Plan.{Plan}
use Rattle.protocol_rules.specs.declared.facts.OrderFact.TheVariants as fact
use Rattle.protocol_rules.specs.Group.{Group, group_of}
use Rattle.global_order.specs.OrderState.{Learns}
use Rattle.words_in_place.proofs.PlanRows.{plan_fits}
use Rattle.quorum_sets.proofs.Numbered.{masters_few}
use Rattle.master_knowledge.proofs.order_words.take_plan.Goals as goal

pub offer_plan-requires : goal.offer_plan-requires
offer_plan-requires c =
    let g : Group = group_of c.args.sizes.now 0 in
    ap (λ (p : Plan). list_all rows_fit p.rows) (c.in_ok-plan.ensures (group_of c.args.sizes.now 0) refl)
    ∙ plan_fits (group_of c.args.sizes.now 0) _ (masters_few c.args.sizes.now) c.requires

pub returns : goal.returns
returns c = on_ok_weaker c.offer_plan.result (λ took g masters.
    subst (λ (p : Plan). Learns c.args.order.now c.offer_plan.new.self (fact.Plan c.args.new_view.now.v p ∷ []))
    (c.in_ok-plan.ensures g masters) took) c.offer_plan.ensures.taken
