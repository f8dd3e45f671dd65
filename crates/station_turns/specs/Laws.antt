-- Runs of threads as histories: each actor's list has the stamps that its seat drew. (This project's own.)
use Rattle.std.specs.Prelude.{ℕ, List, map}
use Rattle.std.specs.List.{flat_map}
use Rattle.history_rules.specs.Events.{Entry}
use Rattle.history_rules.specs.Setup.{Setup}
use Rattle.history_rules.specs.Legal.{IsLegal}
use Rattle.history_rules.specs.Counts.{merged}
use Rattle.history_laws.specs.Own.{AreOwnHistories, HasEachStampOnce}
use Rattle.stamps.specs.Seats.{IsEachOnce}

-- the stamps of a list, and of all lists, one list's after the other's
abbrev pub stamps_in : List Entry → List ℕ
stamps_in list = map (λ e. e.stamp) list

abbrev pub stamps_of : List (List Entry) → List ℕ
stamps_of lists = flat_map stamps_in lists

-- numbers that were drawn each once are each the stamp of just one entry
abbrev pub DrawnOnceIsStampedOnce : Type 0
DrawnOnceIsStampedOnce = (n : ℕ) (lists : List (List Entry)) → IsEachOnce n (stamps_of lists) → HasEachStampOnce lists

-- own histories of all actors with such stamps merge to a legal history
abbrev pub RunIsLegal : Type 0
RunIsLegal = (w : Setup) (n : ℕ) (lists : List (List Entry)) → AreOwnHistories w lists →
    IsEachOnce n (stamps_of lists) → IsLegal w (merged lists)
