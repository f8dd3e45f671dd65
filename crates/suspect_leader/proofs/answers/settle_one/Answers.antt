use Rattle.std.proofs.Common.{◌∙◌, sym}
use Rattle.suspect_leader.proofs.Sets.{settled_one}
use Rattle.suspect_leader.proofs.answers.settle_one.Goals as goal

pub returns-in-Some : goal.returns-in-Some
returns-in-Some c = λ s. settled_one c.args.pending.now c.remove.new.self c.in-Some.saying s c.args.body.now
    (sym c.saying_of.ensures ∙ c.in-Some.is) c.remove.ensures.updates
