use Rattle.std.proofs.Common.{◌≡◌, ℕ, ◌≤◌, length, map, take}
use Rattle.replica_threads.specs.Hands.{ArePassesOf}
use Rattle.replica_threads.specs.Letters.{HaveSent}
use Rattle.replica_threads.proofs.posting.post.Given as goal

-- the frame was posted to the actors so far
abbrev pub invariant-loop-actor : goal.invariant-loop-actor
invariant-loop-actor g l =
    ArePassesOf l.shared.inboxes.now l.passes.items
    × HaveSent l.initial.passes.items (map (λ (a : ℕ). (a, l.posted)) (take l.actor-index l.to)) l.passes.items
    × (l.actor-index ≤ length l.to)
