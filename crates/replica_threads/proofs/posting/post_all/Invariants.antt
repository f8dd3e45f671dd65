-- Letters are sent frame by frame, so those sent so far are a beginning of all letters of the turn. The places
-- gone over are within its frames, which is what posting one asks.
use Rattle.std.proofs.Common.{◌≡◌, ◌≤◌, length}
use Rattle.scenario_file.specs.Reading.{contents}
use Rattle.replica_threads.specs.Hands.{ArePassesOf}
use Rattle.replica_threads.specs.Letters.{most_frames, HaveSent}
use Rattle.replica_threads.proofs.Sending.{letters_so_far}
use Rattle.replica_threads.proofs.posting.post_all.Given as goal

-- the frames so far were posted
abbrev pub invariant-loop-place : goal.invariant-loop-place
invariant-loop-place g l =
    ArePassesOf l.shared.inboxes.now l.passes.items
    × HaveSent l.initial.passes.items (letters_so_far (contents l.shared.scenario.now) l.actor l.turned l.place)
    l.passes.items
    × (l.place ≤ length l.turned.frames.items)
    × (l.place ≤ most_frames)
