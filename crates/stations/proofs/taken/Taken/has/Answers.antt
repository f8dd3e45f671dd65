use Rattle.stations.proofs.Taking.{known_by}
use Rattle.stations.proofs.taken.Taken.has.Goals as goal

pub returns : goal.returns
returns c = λ list are.
    known_by list c.args.self.now c.args.bytes.now c.digest-digest.result c.contains.result are c.digest-digest.ensures
    c.contains.ensures
