-- A text that tells a history is answered over it by the benches that the replay made. One that tells none is
-- refused for the fault of its reading.
use Rattle.scenario_file.specs.Reading.{contents}
use Rattle.run_program.proofs.Answered.{gives_answer, gives_no_answer}
use Rattle.world_history.proofs.AuditAsks.{all_unsigned}
use Rattle.run_program.proofs.answering.answered_text.Goals as goal

pub answer-requires-clause-benches : goal.answer-requires-clause-benches
answer-requires-clause-benches c =
    all_unsigned (contents c.args.scenario.now) c.in-Ok.replay.history c.in-Ok.replay.benches.items
    c.in-Ok.ensures.benches

pub returns-in-Ok : goal.returns-in-Ok
returns-in-Ok c =
    gives_answer (contents c.args.scenario.now) c.args.text.now c.args.question c.in-Ok.replay.history c.answer.result
    c.in-Ok.ensures.history c.answer.ensures

pub returns-in-Err : goal.returns-in-Err
returns-in-Err c =
    gives_no_answer (contents c.args.scenario.now) c.args.text.now c.args.question c.in-Err.refusal
    c.history_refusal.result c.history_refusal.ensures c.in-Err.ensures.history
