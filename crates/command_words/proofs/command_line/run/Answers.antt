-- Each argument adds its rule.
use Rattle.std.proofs.Common.{rules, codes, [], ◌∷◌}
use Rattle.command_words.specs.CommandLine.{command, option_rule, text_rule}
use Rattle.command_words.proofs.Chains.{added, added_ok, longer}
use Rattle.command_words.proofs.command_line.run.Goals as goal

pub returns-in_err-over_a_script : goal.returns-in_err-over_a_script
returns-in_err-over_a_script c = search rules

pub returns-in_err-arg : goal.returns-in_err-arg
returns-in_err-arg c = search rules

pub returns : goal.returns
returns c =
    let step0 = added (command (codes "run") (text_rule (codes "scenario") ∷ text_rule (codes "script") ∷ text_rule
    (codes "words") ∷ [])) (option_rule (codes "hands") 1 4) c.in_ok-over_a_script.field-0 c.option.result
    c.in_ok-arg.field-0 c.in_ok-over_a_script.ensures c.option.ensures.rule c.option.ensures.local
    c.in_ok-arg.ensures in
    added_ok (longer (command (codes "run") (text_rule (codes "scenario") ∷ text_rule (codes "script") ∷ text_rule
    (codes "words") ∷ [])) (option_rule (codes "hands") 1 4)) (option_rule (codes "turns") 1 4000)
    c.in_ok-arg.field-0 c.option-2.result c.arg-2.result step0 c.option-2.ensures.rule c.option-2.ensures.local
    c.arg-2.ensures
