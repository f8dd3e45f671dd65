use Rattle.rule_grammar.proofs.Complete.{each-spelled}
use Rattle.rule_grammar.proofs.laws.each_spelled_rule_is_read.Goals as goal

pub returns : goal.returns
returns c = each-spelled
