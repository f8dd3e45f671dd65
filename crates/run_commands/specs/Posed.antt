-- The commands that ask a question over a history. (This project's own.)
use Rattle.std.specs.Prelude.{ℕ, List, Option, None, Some, unwrap_or}
use Rattle.command_words.specs.Wanted.{Wanted, parts, blame, trend, delays, page, picture, plot, chart}
use Rattle.run_commands.specs.declared.questions.Question.{Question}
use Rattle.run_commands.specs.declared.questions.Question.TheVariants as question

-- the names of the scenario and the history, and what is asked; a picture is 900 pixels wide where no width is told
abbrev pub posed : Wanted → Option (List ℕ × List ℕ × Question)
posed (parts scenario history originator number) = Some (scenario, history, question.Parts originator number)
posed (blame scenario history) = Some (scenario, history, question.Blame)
posed (trend scenario history point first last) = Some (scenario, history, question.Trend point first last)
posed (delays scenario history) = Some (scenario, history, question.Delays)
posed (page scenario history) = Some (scenario, history, question.Page)
posed (picture scenario history first last width) =
    Some (scenario, history, question.Picture first last (unwrap_or width 900))
posed (plot scenario history point width) = Some (scenario, history, question.Plot point (unwrap_or width 900))
posed (chart scenario history width) = Some (scenario, history, question.Chart (unwrap_or width 900))
posed _ = None
