-- A new view tells the rows of its plan. Where many numbers have the same empty rows they are told once, which
-- no search by digest can tell from the whole plan.
use Rattle.std.proofs.Common.{ℕ, List, map, subst}
use Rattle.message_types.specs.declared.signed.Signed.{Signed}
use Rattle.message_types.specs.declared.views.Report.{Report}
use Rattle.intruder_words.specs.Telling.{HasSameRows}
use Rattle.protocol_rules.specs.declared.facts.OrderFact.TheVariants as fact
use Rattle.protocol_rules.specs.Group.{group_of}
use Rattle.protocol_rules.specs.Plans.{plan_of}
use Rattle.global_order.specs.OrderState.{Learns}
use Rattle.intruder_words.proofs.Alike.{told-plan}
use Rattle.intruder_words.proofs.telling.tell_plan.Goals as goal

pub returns : goal.returns
returns c = λ question. (
  map fact.Rows c.in_ok-rows.rows.items,
  subst (λ (all : List (List (List ℕ))). Learns c.args.order.now c.tell_rows.new.order (map fact.Rows all))
      c.deref.ensures.value c.in_ok-tell_rows.ensures,
  told-plan question c.args.new_view.now.v
      (plan_of (group_of c.args.sizes.now 0) (map (λ r. r.body) c.args.new_view.now.reports)) _
      (subst (λ (rs : List (Signed Report)). HasSameRows c.in_ok-rows.rows.items
      (plan_of (group_of c.args.sizes.now 0) (map (λ r. r.body) rs)).rows) c.as_slice.ensures
      c.in_ok-rows.ensures.same),
)
