-- All masters before the one looked at have nothing certified, so its update is the first one. After the last
-- of them there is none.
use Rattle.std.proofs.Common.{sym, ap, arith}
use Rattle.protocol_rules.specs.Group.{Group}
use Rattle.world_rules.proofs.Fields.{group_is}
use Rattle.run_questions.proofs.BenchesCertify.{first_found, none_found}
use Rattle.run_questions.proofs.parts.certified.first_certified.Goals as goal

pub returns-in-Some : goal.returns-in-Some
returns-in-Some c = λ world history are size.
    first_found world history c.args.request.originator c.args.request.number c.args.n c.loop-master.master
    c.in-Some.update.now size (ap (λ (g : Group). g.n) (group_is world))
    c.loop-master-test.true (c.loop-master.invariant world history are size)
    (sym (c.in-Some.ensures world history are (omega (arith, c.loop-master-test.true, size))))

pub returns : goal.returns
returns c = λ world history are size.
    none_found world history c.args.request.originator c.args.request.number c.args.n size
    (ap (λ (g : Group). g.n) (group_is world))
    (λ m low. c.loop-master.invariant world history are size m (omega (arith, c.loop-master-test.false, low)))
