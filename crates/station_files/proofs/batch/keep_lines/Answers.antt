-- Lines that were added and couldn't be settled are in the file whole.
use Rattle.station_files.proofs.Begun.{unsettled}
use Rattle.station_files.proofs.batch.keep_lines.Goals as goal

pub returns-then-is_settled-clause-begun : goal.returns-then-is_settled-clause-begun
returns-then-is_settled-clause-begun g c =
    unsettled (g.F.KeptFile.held c.args.file.now) (g.F.KeptFile.held c.append.new.self)
    (g.F.KeptFile.held c.settle.new.self) c.args.lines.now c.settle.result c.in_ok-append.ensures.added
    c.settle.ensures.settled
