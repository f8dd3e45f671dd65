-- Lists on the way to one history. (This project's own.)
use Rattle.std.specs.Prelude.{◌≡◌, ℕ, ◌+◌, ◌-◌, List, [], ◌∷◌, length, take}
use Rattle.std.specs.Prelude.{slice_index}
use Rattle.history_rules.specs.Events.{Event, Took, Entry}
use Rattle.history_rules.specs.Setup.{own}
use Rattle.joint_lists.specs.Plain.{AreTheSame}
use Rattle.joint_lists.specs.Joint.{kept_by}

-- how many entries are left of lists, of each of which so many were joined
abbrev pub left : List (List Entry) → List ℕ → ℕ
left [] next = 0
left (list ∷ rest) [] = length list + left rest []
left (list ∷ rest) (n ∷ next) = (length list - n) + left rest next

-- Of each actor as many entries as `next` says stand in the history, those that it kept first.
pub record HasJoined (kept : List (List Entry)) (next : List ℕ) (history : List Entry) : Type 0 where
  pub all : length next ≡ length kept
  pub each : (actor : ℕ) → AreTheSame (own history actor) (take (slice_index next actor) (kept_by kept actor))

-- an event with another place from which its frame comes
abbrev pub placed : ℕ → ℕ → Event → Event
placed stamp place (Took s p frame) = Took stamp place frame
placed stamp place event = event

-- an entry behind a history, a frame that it takes coming from a stamp and place of that
abbrev pub joined_entry : List Entry → ℕ → ℕ → Entry → Entry
joined_entry history stamp place e =
    record { stamp = length history; actor = e.actor; event = placed stamp place e.event; said = e.said }
