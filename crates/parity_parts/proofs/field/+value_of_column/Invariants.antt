-- Each call has one coefficient less.
use Rattle.parity_parts.proofs.field.+value_of_column.Given as goal

abbrev pub decreases-value_of_column : goal.decreases-value_of_column
decreases-value_of_column l = l.count
