use Rattle.std.proofs.Common.{◌≡◌, ◌++◌, take}
use Rattle.std.specs.Prelude.{string_bytes}
use Rattle.std.specs.List.{flat_map}
use Rattle.axis_pictures.specs.Charts.{bar_text}
use Rattle.axis_pictures.proofs.chart.put_bars.Given as goal

-- those so far have their bars
abbrev pub invariant-loop-outcome : goal.invariant-loop-outcome
invariant-loop-outcome l =
    string_bytes l.text
    ≡ string_bytes l.initial.text ++ flat_map (bar_text l.frame l.masters l.greatest) (take l.outcome-index l.outcomes)
