use Rattle.run_questions.proofs.BenchesCertify.{certified_there, none_missing}
use Rattle.run_questions.proofs.parts.certified.certified_by.Goals as goal

pub returns-in-Some : goal.returns-in-Some
returns-in-Some c = λ world history are low.
    certified_there world history c.args.benches.now c.args.master c.args.request.originator c.args.request.number
    c.in-Some.bench.now _ are low c.in-Some.ensures.lookup.0
    c.in-Some.ensures.lookup.1 c.certified.ensures

pub returns-in-None : goal.returns-in-None
returns-in-None c = λ world history are low.
    none_missing world history c.args.benches.now c.args.master _ _ are low c.in-None.ensures.lookup.0
