-- Each argument adds its rule.
use Rattle.std.proofs.Common.{codes, []}
use Rattle.command_words.specs.CommandLine.{command, whole_rule}
use Rattle.command_words.proofs.Chains.{added_ok}
use Rattle.command_words.proofs.command_line.make.Goals as goal

pub returns : goal.returns
returns c =
    added_ok (command (codes "make") []) (whole_rule (codes "number")) c.new.result c.number.result c.arg.result
    (c.new.ensures.app, c.new.ensures.local) c.number.ensures.rule c.number.ensures.local c.arg.ensures
