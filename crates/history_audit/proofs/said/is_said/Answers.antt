use Rattle.history_audit.proofs.Words.{said_some, said_none}
use Rattle.history_audit.proofs.said.is_said.Goals as goal

pub returns-in-Some : goal.returns-in-Some
returns-in-Some c = λ words has.
    said_some words c.args.said.now c.args.actor c.args.body.now c.key_of.result c.in-Some.bodies.now
    c.as_slice.result.now c.is_among.result
    c.key_of.ensures c.in-Some.ensures.value c.as_slice.ensures.value c.is_among.ensures has

pub returns-in-None : goal.returns-in-None
returns-in-None c = λ words has. said_none words c.args.said.now c.args.actor c.args.body.now c.key_of.result
    c.key_of.ensures c.in-None.ensures.value has
