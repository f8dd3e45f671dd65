use Rattle.std.proofs.Common.{◌∙◌}
use Rattle.scenario_file.specs.Reading.{contents}
use Rattle.world_history.proofs.AuditAsks.{all_unsigned}
use Rattle.printed_run.proofs.printing.write_run.Goals as goal

pub write_run_of-requires-clause-benches : goal.write_run_of-requires-clause-benches
write_run_of-requires-clause-benches c =
    all_unsigned (contents c.args.scenario.now) c.args.history.now c.deref.result.now
    (c.deref.ensures.value ∙ c.in_ok-benches.ensures)
