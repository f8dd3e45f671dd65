use Rattle.std.proofs.Common.{◌∙◌}
use Rattle.suspect_leader.proofs.Sets.{said_is}
use Rattle.suspect_leader.proofs.Early.{moved_one}
use Rattle.suspect_leader.proofs.answers.release_one.Goals as goal

pub returns-in_ok-insert-clause-moved : goal.returns-in_ok-insert-clause-moved
returns-in_ok-insert-clause-moved c =
    moved_one c.args.pending.now c.insert.new.self c.args.early.now c.remove.new.self c.args.trip
    (said_is c.args.early.now c.args.trip _ c.contains.ensures ∙ c.if-contains.true)
    c.in_ok-insert.ensures.updates c.remove.ensures.updates c.in_ok-insert.ensures.ordered
