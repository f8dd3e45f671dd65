-- Line by line.
use Rattle.std.proofs.Common.{arith}
use Rattle.run_lines.proofs.Parts.{lines-more-at, lines-end}
use Rattle.station_rules.specs.Notes.{write_note}
use Rattle.stations.proofs.notes.put_writes.Goals as goal

pub loop-place-preserved : goal.loop-place-preserved
loop-place-preserved c =
    lines-more-at write_note c.loop-place.place c.args.writes.now _ _ _ _ (omega (arith, c.loop-place-test.true))
    c.loop-place.invariant c.in_ok-put_one_write.ensures

pub returns : goal.returns
returns c =
    lines-end write_note _ c.loop-place.place c.args.writes.now _ _ (omega (arith, c.loop-place-test.false))
    c.loop-place.invariant
