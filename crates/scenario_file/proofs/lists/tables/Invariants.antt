use Rattle.std.proofs.Common.{◌≡◌, [], map, drop}
use Rattle.toml.specs.View.{view, table_view}
use Rattle.scenario_file.specs.Lists.{table_in, gathered}
use Rattle.scenario_file.proofs.lists.tables.Given as goal

abbrev pub invariant-loop-value : goal.invariant-loop-value
invariant-loop-value l =
    gathered (table_in l.key) (map (λ t. table_view t.now) l.tables) (map view (drop l.value-index l.values))
    ≡ gathered (table_in l.key) [] (map view l.values)
