-- A made run is a play of the script made of its number, without words. So it takes the course of a play, and a
-- refusal along that course is that of the run.
use Rattle.std.proofs.Common.{◌∙◌}
use Rattle.scenario_file.specs.Reading.{contents}
use Rattle.run_commands.proofs.Playing.{run-played, run-words-refused}
use Rattle.run_commands.proofs.made.made_text.Goals as goal

pub returns-in-Ok-read_words : goal.returns-in-Ok-read_words
returns-in-Ok-read_words g c =
    run-played g.R.Runs.readers (contents c.args.scenario.now) c.args.number c.as_bytes.result.now
    c.in-Ok-read_script.script c.in-Ok-read_words.words c.play_text.result
    (c.as_bytes.ensures.value ∙ c.in-Ok.ensures) c.in-Ok-read_script.ensures.leads c.in-Ok-read_words.ensures.leads
    c.play_text.ensures

pub returns-in-Ok-read_script : goal.returns-in-Ok-read_script
returns-in-Ok-read_script g c =
    run-words-refused (λ words. words) g.R.Runs.readers (contents c.args.scenario.now)
    c.args.number c.as_bytes.result.now c.in-Ok-read_script.script c.in-Err-read_words.refusal
    (c.as_bytes.ensures.value ∙ c.in-Ok.ensures) c.in-Ok-read_script.ensures.leads c.in-Err-read_words.ensures.leads
