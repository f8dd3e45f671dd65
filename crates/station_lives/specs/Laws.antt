-- The laws of stations and of what they say, over every scenario, whoever is intruded.
use Rattle.std.specs.Prelude.{◌≡◌, ℕ, List, [], ◌++◌, take}
use Rattle.plain_lists.specs.Lists.{IsIn}
use Rattle.scenario_file.specs.Reading.{Contents}
use Rattle.history_rules.specs.Events.{Entry}
use Rattle.history_rules.specs.Legal.{Stands}
use Rattle.history_laws.specs.Leaves.{SignsGroup}
use Rattle.history_laws.specs.Own.{IsOwnHistory}
use Rattle.world_rules.specs.Scenarios.{setup_of}
use Rattle.joint_lists.specs.Stations.{IsStation}
use Rattle.station_lives.specs.Saying.{SaidBy, BeginsToSay, word_lines, words_since}
use Rattle.station_lives.specs.Lives.{Life, kept_by, AreLives, kept_last}

-- A station has done nothing at first, and what it had done at any time before is a station's too.
abbrev pub NoneIsStation : Type 0
NoneIsStation = (c : Contents) (actor : ℕ) → IsStation c actor []

abbrev pub BeginningIsStation : Type 0
BeginningIsStation =
    (c : Contents) (actor : ℕ) (list : List Entry) (count : ℕ) → IsStation c actor list →
    IsStation c actor (take count list)

-- What a station has done is an own history of its actor.
abbrev pub StationIsOwn : Type 0
StationIsOwn =
    (c : Contents) (actor : ℕ) (list : List Entry) → IsStation c actor list → IsOwnHistory (setup_of c) actor list

-- What was said stays said by more entries, and so does what was said after it.
abbrev pub SaidStays : Type 0
SaidStays = (c : Contents) (durable more : List Entry) (out : List ℕ) → SaidBy c durable out →
    SaidBy c (durable ++ more) out

abbrev pub SaidTogether : Type 0
SaidTogether = (c : Contents) (durable : List Entry) (out more : List ℕ) → SaidBy c durable out → SaidBy c durable more →
    SaidBy c durable (out ++ more)

-- All words of an entry that is durable may be said, and so may those of all entries from a stamp on.
abbrev pub WordsAreSaid : Type 0
WordsAreSaid =
    (c : Contents) (durable before : List Entry) (e : Entry) (stamp : ℕ) → Stands durable before e →
    SaidBy c durable (word_lines c before e) × SaidBy c durable (words_since c stamp [] durable)

-- What any life of a file put out is said by the entries that are durable in the end.
abbrev pub LivesSayOfTheLast : Type 0
LivesSayOfTheLast =
    (c : Contents) (actor : ℕ) (lives : List Life) (life : Life) → AreLives c actor lives → IsIn life lives →
    BeginsToSay c (kept_last lives) life.out

-- Over all lives of a file no leaf of the actor's key signs two groups of words that were durable, and so none that were said:
-- whichever entries of whichever lives say them, it is one entry and one group.
abbrev pub LivesSignOnce : Type 0
LivesSignOnce =
    (c : Contents) (actor : ℕ) (lives : List Life) (one other : Life) (before later : List Entry) (d e : Entry)
    (group again leaf : ℕ) → AreLives c actor lives → IsIn one lives → IsIn other lives
    → Stands (kept_by one) before d → Stands (kept_by other) later e
    → SignsGroup (setup_of c) before d group leaf → SignsGroup (setup_of c) later e again leaf
    → (before ≡ later) × (d ≡ e) × (group ≡ again)
