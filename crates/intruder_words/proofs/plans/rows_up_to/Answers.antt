-- Numbers between two certificates have the same empty rows, so that one of them stands for all: a plan from
-- just below the next number gives the same rows to any search by digest.
use Rattle.std.proofs.Common.{◌∷◌, [], ◌∙◌, ap, refl, max, ◌++◌}
use Rattle.std.specs.List.{list_all, find}
use Rattle.message_types.specs.Digests.{digest_of_rows}
use Rattle.message_types.specs.Spelling.{rows_fit}
use Rattle.protocol_rules.specs.Group.{group_of}
use Rattle.protocol_rules.specs.Plans.{plan_of}
use Rattle.view_change.specs.Planning.{is_spelled}
use Rattle.intruder_words.specs.Telling.{report_on}
use Rattle.intruder_words.proofs.Shortening.{rows-up-to, filter-spelled}
use Rattle.words_in_place.proofs.PlanRows.{plan_fits}
use Rattle.quorum_sets.proofs.Numbered.{masters_few}
use Rattle.intruder_words.proofs.plans.rows_up_to.Goals as goal

pub plan_of-requires : goal.plan_of-requires
plan_of-requires c = ap (λ cs. list_all is_spelled (cs ++ [])) c.in_ok-certificates.ensures
    ∙ filter-spelled c.args.next c.args.all.now c.requires.spelled

pub returns-clause-same : goal.returns-clause-same
returns-clause-same c = λ test.
    ap (find (λ rows. test (digest_of_rows rows))) (c.into_vec.ensures ∙ c.in_ok-rows.ensures
    ∙ ap (λ p. p.rows) (c.in_ok-plan.ensures (group_of c.args.sizes.now 0) refl)
    ∙ ap (λ ms. (plan_of (group_of c.args.sizes.now 0)
    (record { v = 0; base = c.max-base.result; marks = ms; certificates = c.in_ok-certificates.certificates }
    ∷ [])).rows) c.new.ensures
    ∙ ap (λ cs. (plan_of (group_of c.args.sizes.now 0) (report_on c.max-base.result cs ∷ [])).rows)
    c.in_ok-certificates.ensures)
    ∙ rows-up-to (group_of c.args.sizes.now 0) c.args.all.now c.args.at c.args.next c.max-base.result c.requires.next
    (c.max-base.ensures ∙ ap (max c.args.at) c.saturating_sub.ensures) test

pub returns-clause-fit : goal.returns-clause-fit
returns-clause-fit c =
    ap (list_all rows_fit) (c.into_vec.ensures ∙ c.in_ok-rows.ensures
    ∙ ap (λ p. p.rows) (c.in_ok-plan.ensures (group_of c.args.sizes.now 0) refl))
    ∙ plan_fits (group_of c.args.sizes.now 0)
    (record {
      v = 0;
      base = c.max-base.result;
      marks = c.new.result;
      certificates =
          c.in_ok-certificates.certificates;
    } ∷ []) (masters_few c.args.sizes.now)
    (ap (λ cs. list_all is_spelled (cs ++ [])) c.in_ok-certificates.ensures
    ∙ filter-spelled c.args.next c.args.all.now c.requires.spelled)
