-- The views are handed the stable number, its marks and the certificates known, which are those of the rules; so what
-- is due of the views with them is what the rules make of all that is known.
use Rattle.std.proofs.Common.{◌∙◌}
use Rattle.std.proofs.lemmas.Result.{IfOk-weaker}
use Rattle.master_answers.proofs.Reporting.{report_alike}
use Rattle.master_answers.proofs.view_words.say_views.Goals as goal

pub returns-clause-words : goal.returns-clause-words
returns-clause-words c = IfOk-weaker c.due-2.result _ _ (λ words due g me known facts ordered said order views.
    due g me known said views
    ∙ report_alike g me known said facts c.args.view c.stable.result c.deref.result.now c.deref-2.result.now
    (c.stable.ensures g facts ordered order)
    (c.deref.ensures.value ∙ c.in_ok-marks.ensures g facts ordered order)
    (c.deref-2.ensures.value ∙ c.in_ok-certificates.ensures g facts ordered order)) c.due-2.ensures.bodies
