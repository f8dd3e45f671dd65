-- A call that ended well tells nothing, another one its refusal.
use Rattle.std.proofs.Common.{Ok, Err, refl}
use Rattle.station_commands.proofs.call.station.Goals as goal

pub returns-in-Ok : goal.returns-in-Ok
returns-in-Ok g c = record { result = Ok tt; course = c.in-Ok.ensures; finish = (refl, refl, refl) }

pub returns-in-Err : goal.returns-in-Err
returns-in-Err g c = record { result = Err c.in-Err.refusal; course = c.in-Err.ensures; finish = c.report.ensures.told }
