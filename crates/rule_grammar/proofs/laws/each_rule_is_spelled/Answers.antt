use Rattle.rule_grammar.proofs.Sound.{each-rule}
use Rattle.rule_grammar.proofs.laws.each_rule_is_spelled.Goals as goal

pub returns : goal.returns
returns c = each-rule
