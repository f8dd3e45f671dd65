-- Frames that are checked as they are taken from an inbox. (This project's own.)
use Rattle.std.specs.Prelude.{ℕ, Option, Some, None, if◌then◌else◌}
use Rattle.message_types.specs.declared.signed.Signed.{Signed}
use Rattle.message_types.specs.declared.body.Body.{Body}
use Rattle.history_rules.specs.Setup.{Setup, stands}
use Rattle.station_turns.specs.declared.held.Held.{Held}

-- the frame as a turn can take it: none where it doesn't stand
abbrev pub held_where_standing : Setup → ℕ → ℕ → Signed Body → Option Held
held_where_standing w stamp place f =
    if stands w f then Some (record { stamp = stamp; place = place; frame = f }) else None
