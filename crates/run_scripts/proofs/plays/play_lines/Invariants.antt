use Rattle.std.proofs.Common.{drop}
use Rattle.run_scripts.specs.Making.{played_from}
use Rattle.run_scripts.specs.Playing.{given_in}
use Rattle.run_scripts.proofs.LinesPlayed.{OnTheWay}
use Rattle.run_scripts.proofs.plays.play_lines.Given as goal

-- the lines so far are played, with the rest left
abbrev pub invariant-loop-line : goal.invariant-loop-line
invariant-loop-line l =
    OnTheWay (given_in l.world) (played_from (given_in l.world) (drop l.line-index l.lines))
    (played_from (given_in l.world) l.lines) l.initial.playing l.playing
