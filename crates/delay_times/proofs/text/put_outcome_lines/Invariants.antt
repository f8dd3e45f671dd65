use Rattle.std.proofs.Common.{◌≡◌, ◌++◌, take}
use Rattle.std.specs.Prelude.{string_bytes}
use Rattle.std.specs.List.{flat_map}
use Rattle.delay_times.specs.Texts.{outcome_text}
use Rattle.delay_times.proofs.text.put_outcome_lines.Given as goal

-- those so far have their lines
abbrev pub invariant-loop-outcome : goal.invariant-loop-outcome
invariant-loop-outcome l =
    string_bytes l.text ≡ string_bytes l.initial.text ++ flat_map (outcome_text l.cast) (take l.outcome-index l.outcomes)
