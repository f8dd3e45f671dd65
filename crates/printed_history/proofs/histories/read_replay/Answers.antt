-- The lines are read first, and what is made of them is the history. So a refusal of the lines is that of the
-- text, and otherwise the answer is the replay's.
use Rattle.std.proofs.Common.{sym, ◌∙◌, ap, subst}
use Rattle.scenario_file.specs.Reading.{contents}
use Rattle.script_grammar.specs.Names.{Who}
use Rattle.run_lines.specs.Runs.{run_in, RefusesRun}
use Rattle.printed_history.specs.Reading.{told_history}
use Rattle.printed_history.proofs.Lines.{lines_refused, lines_told}
use Rattle.printed_history.proofs.histories.read_replay.Goals as goal

pub returns-in-Err-clause-history : goal.returns-in-Err-clause-history
returns-in-Err-clause-history c =
    lines_refused (contents c.args.scenario.now) c.args.bytes.now c.in-Err.refusal
    (subst (λ (w : Who). RefusesRun c.in-Err.refusal (run_in w.cast c.args.bytes.now))
    c.of-company.ensures c.in-Err.ensures.lines)

pub returns-in-Ok-clause-history : goal.returns-in-Ok-clause-history
returns-in-Ok-clause-history c =
    lines_told (contents c.args.scenario.now) c.args.bytes.now c.in-Ok.lines (told_history c.replay_of.result)
    (sym (ap (λ (w : Who). run_in w.cast c.args.bytes.now) c.of-company.ensures) ∙ c.in-Ok.ensures.lines)
    c.replay_of.ensures.history
