-- The first coefficient and x times the value of the others.
use Rattle.std.proofs.Common.{◌≢◌, rules}
use Rattle.parity_parts.proofs.Columns.{column_value}
use Rattle.parity_parts.proofs.field.+value_of_column.Goals as goal

pub returns : goal.returns
returns t c =
    let some : c.args.count ≢ 0 = search rules in
    column_value c.args.step c.args.count c.args.x c.args.text.now c.behind.result.now c.first_or_zero.result
    c.value_of_column-higher.result c.multiply.result some c.first_or_zero.ensures c.behind.ensures
    c.value_of_column-higher.ensures c.multiply.ensures
