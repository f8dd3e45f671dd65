-- What an actor says at an entry, as frames. (This project's own.)
use Rattle.std.specs.Prelude.{ℕ, List}
use Rattle.message_types.specs.declared.signed.Signed.{Signed}
use Rattle.message_types.specs.declared.body.Body.{Body}
use Rattle.history_rules.specs.Events.{Entry}
use Rattle.history_rules.specs.Setup.{Setup, leaves_used, signed_from}

-- the frames of what is said at an entry after these
abbrev pub frames_after : Setup → ℕ → List Entry → Entry → List (Signed Body)
frames_after w actor before e = signed_from w actor (leaves_used w before) e.said 0 e.said
