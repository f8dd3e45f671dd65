use Rattle.std.proofs.Common.{◌≡◌, length, map, drop}
use Rattle.toml.specs.View.{table_view}
use Rattle.scenario_file.specs.Lists.{each, row_name, gathered}
use Rattle.scenario_file.proofs.rows.read_rows.Given as goal

abbrev pub invariant-loop-table : goal.invariant-loop-table
invariant-loop-table g l =
    gathered (λ before t. g.R.RowReader.reads l.reader before (row_name l.key (length before)) t) l.items
    (map (λ t. table_view t.now) (drop l.table-index l.table-items))
    ≡ each (g.R.RowReader.reads l.reader) l.key (map (λ t. table_view t.now) l.table-items)
