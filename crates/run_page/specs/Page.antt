-- The page of a history. (This project's own.)
use Rattle.std.specs.Prelude.{ℕ, List}
use Rattle.scenario_file.specs.Reading.{Contents}
use Rattle.history_rules.specs.Events.{Entry}
use Rattle.page_text.specs.Page.{page_text}
use Rattle.printed_run.specs.Printed.{text_of}
use Rattle.run_page.specs.Details.{details_in}
use Rattle.run_page.specs.Plant.{plant_text}

-- It holds the plant of the scenario, the printed run, and the details of its entries.
unfoldable pub page_in : Contents → List Entry → List ℕ
page_in c history = page_text (plant_text c) (text_of c history) (details_in c history)
