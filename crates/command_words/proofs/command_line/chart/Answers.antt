-- The argument adds its rule.
use Rattle.std.proofs.Common.{rules, codes, [], ◌∷◌}
use Rattle.command_words.specs.CommandLine.{command, text_rule, width_rule}
use Rattle.command_words.proofs.Chains.{added_ok}
use Rattle.command_words.proofs.command_line.chart.Goals as goal

pub returns-in_err-over_a_history : goal.returns-in_err-over_a_history
returns-in_err-over_a_history c = search rules

pub returns : goal.returns
returns c =
    added_ok (command (codes "chart") (text_rule (codes "scenario") ∷ text_rule (codes "history") ∷ [])) width_rule
    c.in_ok-over_a_history.field-0 c.width.result c.arg.result c.in_ok-over_a_history.ensures c.width.ensures.rule
    c.width.ensures.local c.arg.ensures
