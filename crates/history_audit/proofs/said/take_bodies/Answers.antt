use Rattle.std.proofs.Common.{◌∙◌, ap, map}
use Rattle.std.specs.Borrow.{Bor}
use Rattle.message_types.specs.declared.body.Body.{Body}
use Rattle.history_audit.specs.Said.{lent}
use Rattle.history_audit.proofs.said.take_bodies.Goals as goal

pub returns-in-Some-clause-bodies : goal.returns-in-Some-clause-bodies
returns-in-Some-clause-bodies c = ap lent c.in-Some.ensures.value

pub returns-in-None-clause-bodies : goal.returns-in-None-clause-bodies
returns-in-None-clause-bodies c = ap (map (λ (b : Bor Body). b.now)) c.new.ensures.items
    ∙ ap lent c.in-None.ensures.value
