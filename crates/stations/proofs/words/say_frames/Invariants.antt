use Rattle.std.proofs.Common.{take}
use Rattle.std.specs.List.{flat_map}
use Rattle.printed_history.specs.Reading.{contents_in}
use Rattle.station_lives.specs.Saying.{word_line}
use Rattle.stations.specs.Telling.{Tells}
use Rattle.stations.proofs.words.say_frames.Given as goal

-- the words so far are told
abbrev pub invariant-loop-frame : goal.invariant-loop-frame
invariant-loop-frame l =
    Tells (contents_in l.so_far) (flat_map (word_line (contents_in l.so_far) l.actor) (take l.frame-index l.frames))
    l.fn.batch l.batch
