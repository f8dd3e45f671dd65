use Rattle.script_lines.proofs.WordLaws.{few_rise}
use Rattle.script_lines.proofs.word_fields.+numbers_rise.Goals as goal

pub returns-in_default : goal.returns-in_default
returns-in_default t c = few_rise c.args.items.now c.in_default.len_below
