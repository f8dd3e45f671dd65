-- Each argument adds its rule.
use Rattle.std.proofs.Common.{rules, codes, []}
use Rattle.command_words.specs.CommandLine.{command, keeps_rule, text_rule}
use Rattle.command_words.proofs.Chains.{added, added_ok, longer}
use Rattle.command_words.proofs.command_line.merge.Goals as goal

pub returns-in_err-arg : goal.returns-in_err-arg
returns-in_err-arg c = search rules

pub returns : goal.returns
returns c =
    let step0 = added (command (codes "merge") []) (text_rule (codes "scenario")) c.new.result c.text.result
    c.in_ok-arg.field-0 (c.new.ensures.app, c.new.ensures.local) c.text.ensures.rule c.text.ensures.local
    c.in_ok-arg.ensures in
    added_ok (longer (command (codes "merge") []) (text_rule (codes "scenario"))) keeps_rule
    c.in_ok-arg.field-0 c.keeps.result c.arg-2.result step0 c.keeps.ensures.rule c.keeps.ensures.local
    c.arg-2.ensures
