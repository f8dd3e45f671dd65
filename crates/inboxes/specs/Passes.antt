-- An inbox and its passes, as contracts see them. (This project's own.)
use Rattle.std.specs.Prelude.{◌≡◌, true}
use Rattle.crossbeam_queue.specs.SegTies.{IsSegPassOf}
use Rattle.inboxes.specs.declared.rule.Known.{Known}
use Rattle.inboxes.specs.declared.pass.InboxPass.{InboxPass}
use Rattle.inboxes.specs.declared.inbox.Inbox.{Inbox}

module _ {T : Type 0} where
  -- what the pass knows
  abbrev pub known : InboxPass T → Known T
  known pass = pass.seat.me.view.client

  -- it is a pass of this inbox, in use, and out of each call
  abbrev pub IsPassOf : Inbox T → InboxPass T → Type 0
  IsPassOf inbox pass = IsSegPassOf inbox.queue pass.seat × ((known pass).live ≡ true)
