-- A history that joins what was kept is printed from the benches that the joining made of it. Where there is none, the first
-- fault of the files is told.
use Rattle.std.proofs.Common.{◌∙◌, map}
use Rattle.scenario_file.specs.Reading.{contents}
use Rattle.history_audit.proofs.FewEach.{few_each_below}
use Rattle.world_history.proofs.AuditAsks.{all_unsigned}
use Rattle.run_program.proofs.Merging.{all_short, each_short, gives_merge, gives_fault}
use Rattle.run_program.proofs.Telling.{is_told}
use Rattle.run_program.proofs.merged.merged_text.Goals as goal

pub join-requires-clause-short : goal.join-requires-clause-short
join-requires-clause-short c = each_short c.args.kept.now c.requires.short

pub join-requires-clause-together : goal.join-requires-clause-together
join-requires-clause-together c = all_short c.args.kept.now c.requires.few c.requires.short

pub write_run_of-requires-clause-legal : goal.write_run_of-requires-clause-legal
write_run_of-requires-clause-legal c = c.in-Ok.ensures.joins.joint.legal

pub write_run_of-requires-clause-few : goal.write_run_of-requires-clause-few
write_run_of-requires-clause-few c = few_each_below c.in-Ok.replay.history c.in-Ok.ensures.short

pub write_run_of-requires-clause-benches : goal.write_run_of-requires-clause-benches
write_run_of-requires-clause-benches c =
    all_unsigned (contents c.args.scenario.now) c.in-Ok.replay.history c.deref.result.now
    (c.deref.ensures.value ∙ c.in-Ok.ensures.benches)

pub returns-in-Ok-write_run_of : goal.returns-in-Ok-write_run_of
returns-in-Ok-write_run_of c =
    gives_merge (contents c.args.scenario.now) (map (λ name. name.now) c.args.names.now) c.args.kept.now
    c.in-Ok-write_run_of.text c.in-Ok.replay.history c.in-Ok.ensures.joins
    (is_told c.texts_tell_histories.ensures (contents c.args.scenario.now) c.in-Ok.replay.history
    c.in-Ok-write_run_of.text c.requires.valid c.in-Ok.ensures.joins.joint.legal c.in-Ok.ensures.short
    c.in-Ok-write_run_of.ensures.text c.in-Ok-write_run_of.ensures.told)

pub returns : goal.returns
returns c =
    gives_fault (contents c.args.scenario.now) (map (λ name. name.now) c.args.names.now) c.args.kept.now
    c.in-Err.refusal c.join_refusal.result c.in-Err.ensures.joins c.join_refusal.ensures
