-- What is asked over a history is answered by these definitions, and requests are rebuilt by this one. (This project's
-- own.)
use Rattle.std.specs.Prelude.{◌≡◌, ℕ, List, Option, None, Some, Result, Ok, Err}
use Rattle.std.specs.declared.vec.Vec.{Vec}
use Rattle.std.specs.declared.alloc.Global.{Global}
use Rattle.scenario_file.specs.Reading.{Contents}
use Rattle.history_rules.specs.Events.{Entry}
use Rattle.run_questions.specs.BlameText.{blame_text}
use Rattle.part_lines.specs.declared.fault.RebuildRefusal.{RebuildRefusal}
use Rattle.part_lines.specs.declared.fault.RebuildRefusal.TheVariants as rebuild
use Rattle.part_lines.specs.Rebuilding.{rebuilt_in}
use Rattle.run_questions.specs.DelaysText.{delays_in}
use Rattle.run_page.specs.Page.{page_in}
use Rattle.history_picture.specs.Pictures.{chart_in, picture_in, plot_in}
use Rattle.history_picture.specs.declared.fault.PictureRefusal.{PictureRefusal}
use Rattle.history_picture.specs.declared.fault.PictureRefusal.TheVariants as fault
use Rattle.run_questions.specs.PartsText.{parts_in}
use Rattle.run_questions.specs.declared.parts.text.PartsRefusal.{PartsRefusal}
use Rattle.run_questions.specs.declared.parts.text.PartsRefusal.TheVariants as parts
use Rattle.run_questions.specs.TrendAnswers.{trend_in}
use Rattle.run_questions.specs.declared.trend.fault.TrendRefusal.{TrendRefusal}
use Rattle.run_questions.specs.declared.trend.fault.TrendRefusal.TheVariants as trend
use Rattle.command_ends.specs.declared.refusal.NoAnswer.{NoAnswer}
use Rattle.command_ends.specs.declared.refusal.NoAnswer.TheVariants as none
use Rattle.command_ends.specs.declared.refusal.Refusal.{Refusal}
use Rattle.command_ends.specs.declared.refusal.Refusal.TheVariants as refusal
use Rattle.run_commands.specs.declared.questions.Question.{Question}
use Rattle.run_commands.specs.declared.questions.Question.TheVariants as question
use Rattle.run_commands.specs.Readers.{NoRequest}

-- Why there is no trend. No trend is defined to want memory, so that case may be told as any.
abbrev pub trend_lack : TrendRefusal → NoAnswer
trend_lack trend.NoPoint = none.NoPoint
trend_lack trend.BadRange = none.BadRange
trend_lack (trend.NotReached executed) = none.NotReached executed
trend_lack trend.NoMatch = none.NoMatch
trend_lack trend.Want = none.NoPoint

abbrev pub trend_or_lack : Result (List ℕ) TrendRefusal → Result (List ℕ) NoAnswer
trend_or_lack (Ok text) = Ok text
trend_or_lack (Err why) = Err (trend_lack why)

-- Why there is no picture. None is defined to want memory, so that case may be told as any.
abbrev pub picture_lack : PictureRefusal → NoAnswer
picture_lack fault.BadRange = none.BadPart
picture_lack (fault.NotReached last) = none.NoSuchEntry last
picture_lack fault.NoPoint = none.NoPlot
picture_lack fault.Want = none.NoPlot

abbrev pub picture_or_lack : Result (List ℕ) PictureRefusal → Result (List ℕ) NoAnswer
picture_or_lack (Ok text) = Ok text
picture_or_lack (Err why) = Err (picture_lack why)

abbrev pub certified_or_lack : Option (List ℕ) → Result (List ℕ) NoAnswer
certified_or_lack (Some text) = Ok text
certified_or_lack None = Err none.NotCertified

-- the answer to a question over a history
abbrev pub answered : Contents → List Entry → Question → Result (List ℕ) NoAnswer
answered c history (question.Parts originator number) = certified_or_lack (parts_in c history originator number)
answered c history question.Blame = Ok (blame_text c history)
answered c history (question.Trend point first last) = trend_or_lack (trend_in c history point first last)
answered c history question.Delays = Ok (delays_in c history)
answered c history question.Page = Ok (page_in c history)
answered c history (question.Picture first last width) = picture_or_lack (picture_in c history first last width)
answered c history (question.Plot point width) = picture_or_lack (plot_in c history point width)
answered c history (question.Chart width) = Ok (chart_in c history width)

-- Why parts rebuild no request. None is defined to want memory, so that case may be told as either.
abbrev pub no_request : RebuildRefusal → NoRequest
no_request (rebuild.BadLine number) = NoRequest.BadLine number
no_request rebuild.NoText = NoRequest.NoText
no_request rebuild.Want = NoRequest.NoText

abbrev pub request_or_lack : Result (List ℕ) RebuildRefusal → Result (List ℕ) NoRequest
request_or_lack (Ok text) = Ok text
request_or_lack (Err why) = Err (no_request why)

-- the request that lines of parts rebuild
abbrev pub requested : Contents → List ℕ → Result (List ℕ) NoRequest
requested c bytes = request_or_lack (rebuilt_in c bytes)

-- The answer to a question over a history, or why there is none. Want of memory alone is free.
abbrev pub Answers : Contents → List Entry → Question → Result (Vec ℕ Global) Refusal → Type 0
Answers c history asked (Ok text) = answered c history asked ≡ Ok text.items
Answers c history asked (Err (refusal.NoAnswer why)) = answered c history asked ≡ Err why
Answers c history asked (Err refusal.Memory) = Unit {0}
Answers c history asked (Err _) = ⊥

-- what a trend, a picture, parts or a rebuilt request answer that there are none of, as a refusal
abbrev pub trend_refusal : TrendRefusal → Refusal
trend_refusal trend.Want = refusal.Memory
trend_refusal other = refusal.NoAnswer (trend_lack other)

abbrev pub picture_refusal : PictureRefusal → Refusal
picture_refusal fault.Want = refusal.Memory
picture_refusal other = refusal.NoAnswer (picture_lack other)

abbrev pub parts_refusal : PartsRefusal → Refusal
parts_refusal parts.NotCertified = refusal.NoAnswer none.NotCertified
parts_refusal parts.Want = refusal.Memory

abbrev pub request_refusal : RebuildRefusal → Refusal
request_refusal (rebuild.BadLine number) = refusal.Pieces number
request_refusal rebuild.NoText = refusal.NoAnswer none.NoText
request_refusal rebuild.Want = refusal.Memory
