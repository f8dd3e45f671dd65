use Rattle.std.proofs.Common.{◌≡◌, ◌++◌, take}
use Rattle.std.specs.Prelude.{string_bytes}
use Rattle.std.specs.List.{flat_map}
use Rattle.run_page.specs.Plant.{point_text}
use Rattle.run_page.proofs.plant.put_points.Given as goal

-- those so far have their lines
abbrev pub invariant-loop-point : goal.invariant-loop-point
invariant-loop-point l = string_bytes l.text ≡ string_bytes l.initial.text ++ flat_map point_text (take l.point-index l.points)
