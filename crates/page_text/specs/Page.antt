-- The page of a run. (This project's own.)
use Rattle.std.specs.Prelude.{ℕ, List, ◌++◌}
use Rattle.page_text.specs.Escaping.{escaped}
use Rattle.page_text.specs.declared.part.Part.{Part}
use Rattle.page_text.specs.declared.part.Part.TheVariants as part
use Rattle.page_text.specs.declared.around.TheConstants.{BEFORE_PLANT, BEFORE_RUN, BEFORE_DETAILS, BEFORE_SCRIPT, BEHIND}
use Rattle.page_text.specs.declared.script.read.TheConstants.{READ}
use Rattle.page_text.specs.declared.script.words.TheConstants.{WORDS}
use Rattle.page_text.specs.declared.script.causes.TheConstants.{CAUSES}
use Rattle.page_text.specs.declared.script.head.TheConstants.{HEAD}
use Rattle.page_text.specs.declared.script.line.TheConstants.{LINE}
use Rattle.page_text.specs.declared.script.plots.TheConstants.{PLOTS}
use Rattle.page_text.specs.declared.script.delays.TheConstants.{DELAYS}
use Rattle.page_text.specs.declared.script.page.TheConstants.{PAGE}

-- A part that is the same for every run: what stands around the texts, and the script. Only who puts a part looks into it,
-- since they are long.
unfoldable pub part_text : Part → List ℕ
part_text part.BeforePlant = BEFORE_PLANT.now
part_text part.BeforeRun = BEFORE_RUN.now
part_text part.BeforeDetails = BEFORE_DETAILS.now
part_text part.BeforeScript = BEFORE_SCRIPT.now
part_text part.Read = READ.now
part_text part.Words = WORDS.now
part_text part.Causes = CAUSES.now
part_text part.Head = HEAD.now
part_text part.Line = LINE.now
part_text part.Plots = PLOTS.now
part_text part.Delays = DELAYS.now
part_text part.Page = PAGE.now
part_text part.Behind = BEHIND.now

-- the page's script
unfoldable pub script_text : List ℕ
script_text =
    part_text part.Read ++ part_text part.Words ++ part_text part.Causes ++ part_text part.Head ++ part_text part.Line
    ++ part_text part.Plots ++ part_text part.Delays ++ part_text part.Page

-- The page holds what the scenario says of the plant, the printed run and its details, each escaped. All else is the same
-- for every run.
unfoldable pub page_text : (plant run details : List ℕ) → List ℕ
page_text plant run details =
    part_text part.BeforePlant ++ escaped plant ++ part_text part.BeforeRun ++ escaped run
    ++ part_text part.BeforeDetails ++ escaped details ++ part_text part.BeforeScript ++ script_text
    ++ part_text part.Behind
