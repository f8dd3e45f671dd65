-- Entries without their stamps, and without where the frames that they take were said. (This project's own.)
use Rattle.std.specs.Prelude.{◌≡◌, List, map}
use Rattle.history_rules.specs.Events.{Event, Took, Entry}

-- an event without where its frame was said
abbrev pub without_place : Event → Event
without_place (Took stamp place frame) = Took 0 0 frame
without_place event = event

-- an entry without its stamp and without where its frame was said
abbrev pub plain : Entry → Entry
plain e = record e { stamp = 0; event = without_place e.event }

-- the same entries, but for that
abbrev pub AreTheSame : List Entry → List Entry → Type 0
AreTheSame xs ys = map plain xs ≡ map plain ys
