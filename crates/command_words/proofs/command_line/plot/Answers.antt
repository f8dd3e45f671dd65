-- Each argument adds its rule.
use Rattle.std.proofs.Common.{rules, codes, [], ◌∷◌}
use Rattle.command_words.specs.CommandLine.{command, text_rule, whole_rule, width_rule}
use Rattle.command_words.proofs.Chains.{added, added_ok, longer}
use Rattle.command_words.proofs.command_line.plot.Goals as goal

pub returns-in_err-over_a_history : goal.returns-in_err-over_a_history
returns-in_err-over_a_history c = search rules

pub returns-in_err-arg : goal.returns-in_err-arg
returns-in_err-arg c = search rules

pub returns : goal.returns
returns c =
    let step0 = added (command (codes "plot") (text_rule (codes "scenario") ∷ text_rule (codes "history") ∷ []))
    (whole_rule (codes "point")) c.in_ok-over_a_history.field-0 c.number.result c.in_ok-arg.field-0
    c.in_ok-over_a_history.ensures c.number.ensures.rule c.number.ensures.local c.in_ok-arg.ensures in
    added_ok (longer (command (codes "plot") (text_rule (codes "scenario") ∷ text_rule (codes "history") ∷ []))
    (whole_rule (codes "point"))) width_rule c.in_ok-arg.field-0 c.width.result c.arg-2.result step0
    c.width.ensures.rule c.width.ensures.local c.arg-2.ensures
