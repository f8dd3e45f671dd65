-- The number of slots never changes, so each sender and kind keeps its own. What is posted and on its way is
-- what was there before, and behind it the frames gone over.
use Rattle.std.proofs.Common.{◌≡◌, ℕ, ◌++◌, List, length, take}
use Rattle.std.specs.List.{flat_map}
use Rattle.run_scripts.specs.declared.mail.Post.{Post}
use Rattle.run_scripts.specs.declared.mail.Delivery.{Delivery}
use Rattle.run_scripts.specs.Mail.{sent}
use Rattle.run_scripts.specs.Playing.{IsMail, new_posts}
use Rattle.run_scripts.proofs.mail.Mail.post.Given as goal

-- the frames so far are posted, and there are as many slots
abbrev pub invariant-loop-post : goal.invariant-loop-post
invariant-loop-post l =
    (length l.self.slots.items ≡ length l.initial.self.slots.items)
    × ((actors : ℕ) (before : List Post) (waiting : List Delivery) → IsMail actors before waiting l.initial.self
    → IsMail actors (before ++ new_posts l.is_new (take l.post-index l.posts))
    (waiting ++ flat_map sent (take l.post-index l.posts)) l.self)
