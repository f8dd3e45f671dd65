-- Each argument adds its rule.
use Rattle.std.proofs.Common.{rules, codes, []}
use Rattle.command_words.specs.CommandLine.{command, text_rule}
use Rattle.command_words.proofs.Chains.{added, added_ok, longer}
use Rattle.command_words.proofs.command_line.key.Goals as goal

pub returns-in_err-arg : goal.returns-in_err-arg
returns-in_err-arg c = search rules

pub returns : goal.returns
returns c =
    let step0 = added (command (codes "key") []) (text_rule (codes "scenario")) c.new.result c.text.result
    c.in_ok-arg.field-0 (c.new.ensures.app, c.new.ensures.local) c.text.ensures.rule c.text.ensures.local
    c.in_ok-arg.ensures in
    added_ok (longer (command (codes "key") []) (text_rule (codes "scenario"))) (text_rule (codes "actor"))
    c.in_ok-arg.field-0 c.text-2.result c.arg-2.result step0 c.text-2.ensures.rule c.text-2.ensures.local
    c.arg-2.ensures
