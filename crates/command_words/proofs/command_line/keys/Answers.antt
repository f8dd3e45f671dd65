-- Each argument adds its rule.
use Rattle.std.proofs.Common.{codes, []}
use Rattle.command_words.specs.CommandLine.{command, text_rule}
use Rattle.command_words.proofs.Chains.{added_ok}
use Rattle.command_words.proofs.command_line.keys.Goals as goal

pub returns : goal.returns
returns c =
    added_ok (command (codes "keys") []) (text_rule (codes "scenario")) c.new.result c.text.result c.arg.result
    (c.new.ensures.app, c.new.ensures.local) c.text.ensures.rule c.text.ensures.local c.arg.ensures
