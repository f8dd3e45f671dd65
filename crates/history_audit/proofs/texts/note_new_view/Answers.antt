-- The certificates in a spelled new view are spelled, so that its plan can be made; and the texts noted are
-- those of the plan's rows.
use Rattle.std.proofs.Common.{ℕ, List, ◌++◌, map, subst, ap, ◌∙◌}
use Rattle.message_types.specs.declared.views.Plan.{Plan}
use Rattle.message_types.specs.Texts.{rows_text}
use Rattle.history_audit.specs.Texts.{AreTexts}
use Rattle.history_audit.proofs.Spelled.{new_view_spelled}
use Rattle.history_audit.proofs.texts.note_new_view.Goals as goal

pub plan_of_new_view-requires : goal.plan_of_new_view-requires
plan_of_new_view-requires c = new_view_spelled c.args.new_view.now c.requires

pub returns : goal.returns
returns c = λ g n given are.
    subst (λ (lists : List (List (List ℕ))). AreTexts (given ++ map rows_text lists) c.note_plan.new.kept)
    (c.as_slice.ensures ∙ ap (λ (p : Plan). p.rows) (c.in_ok-plan.ensures g n)) (c.in_ok-note_plan.ensures given are)
