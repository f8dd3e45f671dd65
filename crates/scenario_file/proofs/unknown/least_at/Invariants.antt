use Rattle.std.proofs.Common.{◌≡◌, map, drop}
use Rattle.toml.specs.View.{table_view}
use Rattle.scenario_file.specs.Unknown.{unknown_rows, least_of}
use Rattle.scenario_file.proofs.unknown.least_at.Given as goal

abbrev pub invariant-loop-place : goal.invariant-loop-place
invariant-loop-place l =
    least_of l.best (unknown_rows l.kind l.key l.place (map (λ t. table_view t.now) (drop l.place l.table-items)))
    ≡ least_of l.initial.best (unknown_rows l.kind l.key 0 (map (λ t. table_view t.now) l.table-items))
