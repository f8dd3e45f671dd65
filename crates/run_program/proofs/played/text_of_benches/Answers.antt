-- The benches have each entry of their history once, so they merge to that history. It is legal and they are its
-- benches, so its text is written with nothing replayed, and tells it.
use Rattle.scenario_file.specs.Reading.{contents}
use Rattle.history_audit.proofs.FewEach.{few_each_below}
use Rattle.run_program.proofs.Benches.{printed_once, printed_after, merged_text}
use Rattle.run_program.proofs.Telling.{told_text}
use Rattle.run_program.proofs.played.text_of_benches.Goals as goal

pub merge-requires : goal.merge-requires
merge-requires c = printed_once (contents c.args.scenario.now) c.args.benches.now c.requires.benches

pub write_run_of-requires-clause-legal : goal.write_run_of-requires-clause-legal
write_run_of-requires-clause-legal c =
    (printed_after (contents c.args.scenario.now) c.in_ok-history.history c.args.benches.now
    c.in_ok-history.ensures.merged (c.in_ok-history.ensures.legal (contents c.args.scenario.now))
    c.requires.benches).legal

pub write_run_of-requires-clause-few : goal.write_run_of-requires-clause-few
write_run_of-requires-clause-few c =
    few_each_below c.in_ok-history.history (printed_after (contents c.args.scenario.now) c.in_ok-history.history
    c.args.benches.now c.in_ok-history.ensures.merged (c.in_ok-history.ensures.legal (contents c.args.scenario.now))
    c.requires.benches).short

pub write_run_of-requires-clause-benches : goal.write_run_of-requires-clause-benches
write_run_of-requires-clause-benches c =
    (printed_after (contents c.args.scenario.now) c.in_ok-history.history c.args.benches.now
    c.in_ok-history.ensures.merged (c.in_ok-history.ensures.legal (contents c.args.scenario.now))
    c.requires.benches).are_benches

pub returns : goal.returns
returns c =
    let made = c.in_ok-history.history in
    let scenario = contents c.args.scenario.now in
    let after = printed_after scenario made c.args.benches.now c.in_ok-history.ensures.merged
    (c.in_ok-history.ensures.legal scenario) c.requires.benches in
    merged_text scenario made c.args.benches.now c.write_run_of.result c.in_ok-history.ensures.merged
    (told_text c.texts_tell_histories.ensures scenario made c.write_run_of.result c.requires.valid
    after.legal after.short c.write_run_of.ensures.text c.write_run_of.ensures.told)
