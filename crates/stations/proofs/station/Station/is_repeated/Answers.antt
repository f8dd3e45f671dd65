-- A frame is known by its bytes' digest.
use Rattle.std.proofs.Common.{ℕ, List, sym, ◌∙◌, ap}
use Rattle.std.specs.List.{list_any}
use Rattle.history_rules.specs.Events.{Entry}
use Rattle.station_rules.specs.Coming.{takes_frame, is_repeated}
use Rattle.stations.proofs.station.Station.is_repeated.Goals as goal

pub returns-in-Frame : goal.returns-in-Frame
returns-in-Frame c = λ list are.
    c.has.ensures list are
    ∙ ap (λ (bs : List ℕ). list_any (λ (e : Entry). takes_frame bs e.event) list) c.as_slice.ensures
    ∙ ap (is_repeated list) (sym c.in-Frame.is)
