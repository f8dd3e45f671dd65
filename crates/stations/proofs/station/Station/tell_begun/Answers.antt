-- The bench has as many leaves left as its list says.
use Rattle.std.proofs.Common.{◌∙◌, ap, arith}
use Rattle.std.proofs.lemmas.Result.{on_ok_weaker}
use Rattle.printed_history.specs.Reading.{contents_in}
use Rattle.world_history.specs.State.{leaves_left}
use Rattle.stations.specs.Station.{list_of}
use Rattle.stations.proofs.Noted.{begun_told}
use Rattle.stations.proofs.station.Station.tell_begun.Goals as goal

pub returns : goal.returns
returns c =
    on_ok_weaker c.note_begun.result
    (λ is. begun_told (contents_in c.args.self.now.so_far) c.args.self.now.actor (list_of c.args.self.now)
    c.len-entries.result c.left.result c.args.batch.now c.note_begun.new.batch (omega (arith, c.len-entries.ensures))
    (c.left.ensures (ap (λ b. b.is_spent) c.bench-bench.ensures) ∙ ap leaves_left c.bench-bench.ensures) is)
    c.note_begun.ensures
