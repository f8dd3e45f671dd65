use Rattle.std.proofs.Common.{length}
use Rattle.script_lines.proofs.word_fields.+numbers_rise.Given as goal

abbrev pub decreases-numbers_rise : goal.decreases-numbers_rise
decreases-numbers_rise l = length l.items.now
