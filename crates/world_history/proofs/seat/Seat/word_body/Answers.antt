-- The master is intruded, so its role is what it overheard, and the body is what the word makes of that.
-- Without a leaf left to sign it there is none.
use Rattle.std.proofs.lemmas.Result.{IfOk-weaker}
use Rattle.world_history.specs.Seats.{world_in, list_in}
use Rattle.world_history.proofs.SpokenWords.{other_role, no_leaf, body_is}
use Rattle.world_history.proofs.seat.Seat.word_body.Goals as goal

pub unreachable-requires : goal.unreachable-requires
unreachable-requires c =
    let s = c.args.self.now in
    other_role (world_in s) s.actor (list_in s) s.role c.requires.seated.role c.requires.master c.requires.intruded
    c.in_default.not-Intruded

pub returns-then-left-eq0-clause-body : goal.returns-then-left-eq0-clause-body
returns-then-left-eq0-clause-body c = no_leaf c.args.self.now c.args.word.now c.left.result c.requires.seated
    c.left.ensures.left c.if-left-eq0.true

pub returns-clause-body : goal.returns-clause-body
returns-clause-body c =
    IfOk-weaker c.body.result _ _
    (λ made by. body_is c.args.self.now c.args.word.now c.in-Intruded.known c.left.result made c.requires.seated
    c.in-Intruded.is c.left.ensures.left
    c.if-left-eq0.false by) c.body.ensures.body

pub returns-clause-fits : goal.returns-clause-fits
returns-clause-fits c = IfOk-weaker c.body.result _ _ (λ made fits. fits c.requires.accepted) c.body.ensures.fits
