-- Certificates without their prepares are spelled as whole ones are, and with the greatest base of the reports they
-- give the rows of the whole reports' plan.
use Rattle.std.proofs.Common.{map, ◌∙◌}
use Rattle.protocol_rules.specs.Group.{group_of}
use Rattle.intruder_words.proofs.Shortening.{plan-rows, bare-fit, ok-weaker}
use Rattle.intruder_words.proofs.plans.plan_rows.Goals as goal

pub rows_after-requires : goal.rows_after-requires
rows_after-requires c = bare-fit (map (λ r. r.body) c.args.reports.now) c.deref.result.now
    (c.deref.ensures.value ∙ c.in_ok-all.ensures) c.requires

pub returns-clause-same : goal.returns-clause-same
returns-clause-same c = ok-weaker c.rows_after.result
    (λ rows same. plan-rows (group_of c.args.sizes.now 0) (map (λ r. r.body) c.args.reports.now)
    c.greatest_base.result c.deref.result.now rows.items c.greatest_base.ensures
    (c.deref.ensures.value ∙ c.in_ok-all.ensures) same) c.rows_after.ensures.same
