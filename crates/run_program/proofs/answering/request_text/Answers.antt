use Rattle.scenario_file.specs.Reading.{contents}
use Rattle.run_program.proofs.Answered.{gives_request, gives_no_request}
use Rattle.run_program.proofs.answering.request_text.Goals as goal

pub returns-in-Ok : goal.returns-in-Ok
returns-in-Ok c = gives_request (contents c.args.scenario.now) c.args.pieces.now c.in-Ok.text c.in-Ok.ensures.text

pub returns-in-Err : goal.returns-in-Err
returns-in-Err c =
    gives_no_request (contents c.args.scenario.now) c.args.pieces.now c.in-Err.fault c.request_refusal.result
    c.request_refusal.ensures c.in-Err.ensures.fault
