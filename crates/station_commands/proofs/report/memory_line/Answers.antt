use Rattle.command_ends.proofs.Pieces.{any-beginning}
use Rattle.station_commands.proofs.report.memory_line.Goals as goal

pub returns-clause-put : goal.returns-clause-put
returns-clause-put g c = any-beginning (g.E.Sink.told c.args.err.now) (g.E.Sink.told c.put.new.self)
    _ c.put.result c.put.ensures.bytes
