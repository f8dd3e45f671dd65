-- What an audit asks of a history, every legal one has of at most 2^32 entries of each actor. (The limits of spellings and
-- of entries are this project's own.)
use Rattle.std.specs.Prelude.{◌≡◌, ◌^◌, ◌<◌, ◌≤◌, true, List, None, length}
use Rattle.scenario_file.specs.Reading.{Contents}
use Rattle.scenario_file.specs.Valid.{IsScenario}
use Rattle.history_rules.specs.Events.{Entry}
use Rattle.history_rules.specs.Legal.{IsLegal}
use Rattle.world_rules.specs.Scenarios.{setup_of}
use Rattle.history_audit.specs.Counting.{are_spelled, AreFewEach}

-- In a legal history of a scenario whose seed is known, of at most 2^32 entries of each actor, all that was said has a
-- spelling: intruded masters say nothing, correct ones what the rules make of words that are spelled themselves, clients
-- updates.
abbrev pub LegalAreSpelled : Type 0
LegalAreSpelled =
    (c : Contents) (history : List Entry) → IsScenario c → c.held ≡ None → IsLegal (setup_of c) history →
    AreFewEach history → are_spelled history ≡ true

-- A legal history of at most 2^32 entries of each actor has fewer than 2^52: a scenario has at most 26 actors.
abbrev pub FewEachAreShort : Type 0
FewEachAreShort =
    (c : Contents) (history : List Entry) → IsScenario c → IsLegal (setup_of c) history → AreFewEach history →
    length history < 2 ^ 52

-- A history of at most 2^32 entries has as few of each actor.
abbrev pub ShortAreFewEach : Type 0
ShortAreFewEach = (history : List Entry) → length history ≤ 2 ^ 32 → AreFewEach history
