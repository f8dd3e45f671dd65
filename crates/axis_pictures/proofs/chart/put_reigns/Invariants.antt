use Rattle.std.proofs.Common.{◌≡◌, ◌++◌, take}
use Rattle.std.specs.Prelude.{string_bytes}
use Rattle.std.specs.List.{flat_map}
use Rattle.axis_pictures.specs.Charts.{reign_text}
use Rattle.axis_pictures.proofs.chart.put_reigns.Given as goal

-- those so far have their bands
abbrev pub invariant-loop-reign : goal.invariant-loop-reign
invariant-loop-reign l =
    string_bytes l.text
    ≡ string_bytes l.initial.text ++ flat_map (reign_text l.frame) (take l.reign-index l.reigns)
