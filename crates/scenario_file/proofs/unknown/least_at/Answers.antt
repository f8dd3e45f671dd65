-- The least name so far is that of the rows so far and the one given. One row more may bring a lesser one, so
-- after the last row it is the least of all.
use Rattle.std.proofs.Common.{◌≡◌, ap, map, arith}
use Rattle.toml.specs.View.{table_view}
use Rattle.scenario_file.proofs.UnknownLaws.{least-row, least-rows-end, least_at-read}
use Rattle.scenario_file.proofs.unknown.least_at.Goals as goal

pub loop-place-preserved : goal.loop-place-preserved
loop-place-preserved c =
    least-row c.args.kind c.args.key.now (λ t. table_view t.now) c.as_slice-table-items.result.now c.loop-place.place
    c.table-item.result c.loop-place.best c.in_ok-best.best _
    (omega (arith, c.loop-place-test.true)) c.table-item.is c.loop-place.invariant c.in_ok-best.ensures

pub returns : goal.returns
returns c =
    let all : map (λ t. table_view t.now) c.as_slice-table-items.result.now ≡ map (λ t. table_view t.now)
    c.in_ok-tables.tables = ap (map (λ t. table_view t.now)) c.as_slice-table-items.ensures in
    least_at-read c.args.kind c.args.key.now c.args.best (table_view c.args.document.now.table.now)
    (map (λ t. table_view t.now) c.as_slice-table-items.result.now) c.loop-place.best
    (rw all c.in_ok-tables.ensures)
    (least-rows-end c.args.kind c.args.key.now (λ t. table_view t.now) c.as_slice-table-items.result.now
    c.loop-place.place c.loop-place.best _ (omega (arith, c.loop-place-test.false)) c.loop-place.invariant)
