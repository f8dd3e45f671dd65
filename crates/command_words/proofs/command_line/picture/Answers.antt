-- Each argument adds its rule.
use Rattle.std.proofs.Common.{rules, codes, [], ◌∷◌}
use Rattle.command_words.specs.CommandLine.{command, free_rule, text_rule, width_rule}
use Rattle.command_words.proofs.Chains.{added, added_ok, longer}
use Rattle.command_words.proofs.command_line.picture.Goals as goal

pub returns-in_err-over_a_history : goal.returns-in_err-over_a_history
returns-in_err-over_a_history c = search rules

pub returns-in_err-arg : goal.returns-in_err-arg
returns-in_err-arg c = search rules

pub returns-in_err-arg-2 : goal.returns-in_err-arg-2
returns-in_err-arg-2 c = search rules

pub returns : goal.returns
returns c =
    let step0 = added (command (codes "picture") (text_rule (codes "scenario") ∷ text_rule (codes "history") ∷ []))
    (free_rule (codes "first") 0 4294967295) c.in_ok-over_a_history.field-0 c.free.result c.in_ok-arg.field-0
    c.in_ok-over_a_history.ensures c.free.ensures.rule c.free.ensures.local c.in_ok-arg.ensures in
    let step1 = added (longer (command (codes "picture") (text_rule (codes "scenario") ∷ text_rule (codes "history") ∷
    [])) (free_rule (codes "first") 0 4294967295)) (free_rule (codes "last") 0 4294967295) c.in_ok-arg.field-0
    c.free-2.result c.in_ok-arg-2.field-0 step0 c.free-2.ensures.rule c.free-2.ensures.local c.in_ok-arg-2.ensures in
    added_ok (longer (longer (command (codes "picture") (text_rule (codes "scenario") ∷ text_rule (codes "history") ∷
    [])) (free_rule (codes "first") 0 4294967295)) (free_rule (codes "last") 0 4294967295)) width_rule
    c.in_ok-arg-2.field-0 c.width.result c.arg-3.result step1 c.width.ensures.rule c.width.ensures.local
    c.arg-3.ensures
