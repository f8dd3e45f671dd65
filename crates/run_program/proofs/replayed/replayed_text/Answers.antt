-- A text that tells a history is printed anew from the benches that the replay made of it. One that tells none
-- is refused for the fault of its reading.
use Rattle.std.proofs.Common.{◌∙◌}
use Rattle.scenario_file.specs.Reading.{contents}
use Rattle.run_program.proofs.Giving.{gives_replay, gives_no_history}
use Rattle.history_audit.proofs.FewEach.{few_each_below}
use Rattle.world_history.proofs.AuditAsks.{all_unsigned}
use Rattle.run_program.proofs.Telling.{is_told}
use Rattle.run_program.proofs.replayed.replayed_text.Goals as goal

pub write_run_of-requires-clause-few : goal.write_run_of-requires-clause-few
write_run_of-requires-clause-few c = few_each_below c.in-Ok.replay.history c.in-Ok.ensures.short

pub write_run_of-requires-clause-benches : goal.write_run_of-requires-clause-benches
write_run_of-requires-clause-benches c =
    all_unsigned (contents c.args.scenario.now) c.in-Ok.replay.history c.deref.result.now
    (c.deref.ensures.value ∙ c.in-Ok.ensures.benches)

pub returns-in-Ok-write_run_of : goal.returns-in-Ok-write_run_of
returns-in-Ok-write_run_of c =
    gives_replay (contents c.args.scenario.now) c.args.text.now c.in-Ok-write_run_of.text c.in-Ok.replay.history
    c.in-Ok.ensures.history
    (is_told c.texts_tell_histories.ensures (contents c.args.scenario.now) c.in-Ok.replay.history
    c.in-Ok-write_run_of.text c.requires c.in-Ok.ensures.legal c.in-Ok.ensures.short
    c.in-Ok-write_run_of.ensures.text c.in-Ok-write_run_of.ensures.told)

pub returns : goal.returns
returns c =
    gives_no_history (contents c.args.scenario.now) c.args.text.now c.in-Err.refusal c.history_refusal.result
    c.history_refusal.ensures c.in-Err.ensures.history
