use Rattle.script_grammar.proofs.NameLaws.{few_rise}
use Rattle.script_grammar.proofs.names.+names_rise.Goals as goal

pub returns-in_default : goal.returns-in_default
returns-in_default t c = few_rise c.args.frames.now c.in_default.len_below
