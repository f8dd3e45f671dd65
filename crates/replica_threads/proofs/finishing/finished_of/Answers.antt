-- What the station lacked is made, and it is given back as it stands.
use Rattle.std.proofs.Common.{sym, subst}
use Rattle.station_turns.specs.Turns.{Stationed}
use Rattle.replica_threads.specs.Ended.{HasEnded}
use Rattle.replica_threads.proofs.Ends.{ended_so}
use Rattle.replica_threads.proofs.finishing.finished_of.Goals as goal

pub returns-clause-ended : goal.returns-clause-ended
returns-clause-ended g c =
    subst (λ (s : Stationed). HasEnded g.N.Naming.name.turns s) (sym c.into_station.ensures.same)
    (ended_so g.N.Naming.name.turns c.lacking.new.station c.in_ok-lacking.ensures.all)
