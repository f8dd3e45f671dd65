-- Each argument adds its rule.
use Rattle.std.proofs.Common.{rules, codes, [], ◌∷◌}
use Rattle.command_words.specs.CommandLine.{command, text_rule, whole_rule}
use Rattle.command_words.proofs.Chains.{added, added_ok, longer}
use Rattle.command_words.proofs.command_line.trend.Goals as goal

pub returns-in_err-over_a_history : goal.returns-in_err-over_a_history
returns-in_err-over_a_history c = search rules

pub returns-in_err-arg : goal.returns-in_err-arg
returns-in_err-arg c = search rules

pub returns-in_err-arg-2 : goal.returns-in_err-arg-2
returns-in_err-arg-2 c = search rules

pub returns : goal.returns
returns c =
    let step0 = added (command (codes "trend") (text_rule (codes "scenario") ∷ text_rule (codes "history") ∷ []))
    (whole_rule (codes "point")) c.in_ok-over_a_history.field-0 c.number.result c.in_ok-arg.field-0
    c.in_ok-over_a_history.ensures c.number.ensures.rule c.number.ensures.local c.in_ok-arg.ensures in
    let step1 = added (longer (command (codes "trend") (text_rule (codes "scenario") ∷ text_rule (codes "history") ∷
    [])) (whole_rule (codes "point"))) (whole_rule (codes "first")) c.in_ok-arg.field-0 c.number-2.result
    c.in_ok-arg-2.field-0 step0 c.number-2.ensures.rule c.number-2.ensures.local c.in_ok-arg-2.ensures in
    added_ok (longer (longer (command (codes "trend") (text_rule (codes "scenario") ∷ text_rule (codes "history") ∷
    [])) (whole_rule (codes "point"))) (whole_rule (codes "first"))) (whole_rule (codes "last"))
    c.in_ok-arg-2.field-0 c.number-3.result c.arg-3.result step1 c.number-3.ensures.rule c.number-3.ensures.local
    c.arg-3.ensures
