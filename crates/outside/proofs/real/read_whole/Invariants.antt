-- What was loaded is what the reader gave so far, and stays within the room. Each piece that isn't empty leaves
-- less room, so the loop ends.
use Rattle.std.proofs.Common.{◌≤◌, ◌-◌, vec_len}
use Rattle.std.specs.Io.KnownBytes.{Consumes}
use Rattle.outside.proofs.real.read_whole.Given as goal

-- what was loaded is what the reader gave so far, and has room
abbrev pub invariant-loop-loaded : goal.invariant-loop-loaded
invariant-loop-loaded g l = record {
  short : vec_len l.loaded ≤ l.room;
  given : Consumes (g.S.Read.remaining l.initial.source) (g.S.Read.remaining l.source) l.loaded.items;
}

-- the room that is left
abbrev pub decreases-loop-loaded : goal.decreases-loop-loaded
decreases-loop-loaded g l = l.room - vec_len l.loaded
