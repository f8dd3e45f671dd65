use Rattle.script_grammar.proofs.NumberLaws.{value_of}
use Rattle.script_grammar.proofs.numbers.value.Goals as goal

pub returns : goal.returns
returns c = rw c.ok.ensures.value (value_of c.args.text.now c.parse.result c.requires c.parse.ensures.value.0)
