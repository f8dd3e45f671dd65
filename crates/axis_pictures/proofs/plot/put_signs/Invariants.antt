use Rattle.std.proofs.Common.{◌≡◌, ◌++◌, drop}
use Rattle.std.specs.Prelude.{string_bytes}
use Rattle.axis_pictures.specs.Plots.{dot_left, sign_text, signs_text}
use Rattle.axis_pictures.specs.Turns.{turns}
use Rattle.axis_pictures.proofs.plot.put_signs.Given as goal

-- the signs so far, and those of the rest behind them, are all signs
abbrev pub invariant-loop-place : goal.invariant-loop-place
invariant-loop-place l =
    string_bytes l.text
    ++ turns (sign_text l.frame l.number l.point) (dot_left l.frame l.number l.point) l.place l.before
    (drop l.place l.executed)
    ≡ string_bytes l.initial.text ++ signs_text l.frame l.number l.point l.executed
