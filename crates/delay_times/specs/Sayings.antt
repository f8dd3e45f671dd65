-- The updates that were said. (This project's own.)
use Rattle.std.specs.Prelude.{ℕ, List, Option, Some, None, length, option_and_then, slice_get}
use Rattle.std.specs.List.{filter_map}
use Rattle.quorum_sets.specs.Masters.{numbers_below}
use Rattle.delay_times.specs.declared.happening.Happening.{Happening}
use Rattle.delay_times.specs.declared.happening.What.TheVariants as what
use Rattle.delay_times.specs.declared.sayings.Saying.{Saying}

-- the update that this is the saying of, at its place among all that happened
abbrev pub said_by : ℕ → Happening → Option Saying
said_by place h = elim h.what [
  | what.Said client t ↦ Some record {
    place = place;
    stamp = h.stamp;
    actor = h.actor;
    name = record { client = client; t = t };
  }
  | _ ↦ None
]

abbrev pub said_at : List Happening → ℕ → Option Saying
said_at hs place = option_and_then (said_by place) (slice_get hs place)

-- all updates said, in the order in which they were said
unfoldable pub sayings_in : List Happening → List Saying
sayings_in hs = filter_map (said_at hs) (numbers_below (length hs))
