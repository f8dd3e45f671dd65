-- Leaves: one-time keys (RFC 8554 section 5), of which each actor has so many. Each body that an actor says at an entry
-- uses one, or up to MOST_SHARING bodies of one entry share one. (That they may share one is this project's own.)
use Rattle.std.specs.Prelude.{ℕ, ◌+◌, ◌-◌, ◌*◌, ◌/◌, Bool, List, [], ◌∷◌, if◌then◌else◌}
use Rattle.history_rules.specs.declared.limits.TheConstants.{MOST_SHARING}

-- how many leaves so many bodies of one entry use
abbrev pub leaves_for : Bool → ℕ → ℕ
leaves_for shared bodies = if shared then (bodies + (MOST_SHARING - 1)) / MOST_SHARING else bodies

-- how many bodies of one entry so many leaves can sign
abbrev pub room_of : Bool → ℕ → ℕ
room_of shared leaves = if shared then MOST_SHARING * leaves else leaves

-- how many leaves a list of entries uses, of which each says so many bodies
abbrev pub leaves_of : Bool → List ℕ → ℕ
leaves_of shared [] = 0
leaves_of shared (bodies ∷ rest) = leaves_for shared bodies + leaves_of shared rest
