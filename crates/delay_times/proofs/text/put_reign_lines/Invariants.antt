use Rattle.std.proofs.Common.{◌≡◌, ◌++◌, take}
use Rattle.std.specs.Prelude.{string_bytes}
use Rattle.std.specs.List.{flat_map}
use Rattle.delay_times.specs.Texts.{reign_text}
use Rattle.delay_times.proofs.text.put_reign_lines.Given as goal

-- those so far have their lines
abbrev pub invariant-loop-reign : goal.invariant-loop-reign
invariant-loop-reign l =
    string_bytes l.text ≡ string_bytes l.initial.text ++ flat_map (reign_text l.cast) (take l.reign-index l.reigns)
