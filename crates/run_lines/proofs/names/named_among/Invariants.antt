use Rattle.std.proofs.Common.{◌≡◌, drop}
use Rattle.std.specs.List.{find}
use Rattle.std.specs.Str.{bytes_eq}
use Rattle.run_lines.specs.Names.{area_name}
use Rattle.run_lines.proofs.names.named_among.Given as goal

abbrev pub invariant-loop-area : goal.invariant-loop-area
invariant-loop-area l = find (λ a. bytes_eq (area_name a) l.name) (drop l.area-index l.areas) ≡ find
    (λ a. bytes_eq (area_name a) l.name) l.areas
