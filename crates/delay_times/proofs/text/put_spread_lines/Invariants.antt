use Rattle.std.proofs.Common.{◌≡◌, ◌++◌, take}
use Rattle.std.specs.Prelude.{string_bytes}
use Rattle.std.specs.List.{flat_map}
use Rattle.delay_times.specs.Texts.{spread_text}
use Rattle.delay_times.proofs.text.put_spread_lines.Given as goal

-- those so far have their lines
abbrev pub invariant-loop-spread : goal.invariant-loop-spread
invariant-loop-spread l =
    string_bytes l.text ≡ string_bytes l.initial.text ++ flat_map (spread_text l.cast) (take l.spread-index l.spreads)
