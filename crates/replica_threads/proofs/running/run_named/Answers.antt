-- What the end of a run asks is what came before it: all stations were made and have ended, and the first seat was
-- split once for each of them.
use Rattle.std.proofs.Common.{sym, ap, ◌∙◌}
use Rattle.replica_threads.specs.Courses.{seats_made}
use Rattle.replica_threads.proofs.running.run_named.Goals as goal

pub ended-requires-clause-first : goal.ended-requires-clause-first
ended-requires-clause-first g c = c.in_ok-stations.ensures.first ∙ ap (seats_made c.args.stamps)
    (sym c.in_ok-turned.ensures.all)

pub ended-requires-clause-all : goal.ended-requires-clause-all
ended-requires-clause-all g c = c.in_ok-turned.ensures.all

pub ended-requires-clause-ended : goal.ended-requires-clause-ended
ended-requires-clause-ended g c = c.in_ok-turned.ensures.ended
