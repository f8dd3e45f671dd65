-- What an input asks a station for, line by line. A line that has no room asks for nothing clear, and so do bytes behind the
-- last line feed, which are no line: the beginning of a command may be a command. (This project's own.)
use Rattle.std.specs.Prelude.{◌≡◌, ℕ, true, if◌then◌else◌, List, [], ◌∷◌, ◌++◌, Option, Some, None, length, nat_le}
use Rattle.run_lines.specs.Runs.{pieces, is_empty}
use Rattle.station_rules.specs.Coming.{is_given}
use Rattle.station_rules.specs.Answers.{Asked, Given, Again, Unclear, line_asked}
use Rattle.stations.specs.declared.asking.Ask.{Ask}
use Rattle.stations.specs.declared.asking.Ask.TheVariants as ask

-- what was read, as what is asked
abbrev pub asked_by : Ask → Asked
asked_by (ask.Given line) = Given line
asked_by (ask.Again stamp) = Again stamp
asked_by ask.Unclear = Unclear

-- an event that is asked for comes from outside
abbrev pub IsGivenAt : Ask → Type 0
IsGivenAt (ask.Given line) = is_given line ≡ true
IsGivenAt other = Unit {0}

-- a line of at most `room` bytes
abbrev pub line_within : ℕ → List ℕ → Asked
line_within room line = if nat_le (length line) room then line_asked line else Unclear

-- a text cut at its line feeds, of which the last piece is what no line feed ends
abbrev pub pieces_asked : ℕ → List (List ℕ) → List Asked
pieces_asked room [] = []
pieces_asked room (last ∷ []) = if is_empty last then [] else Unclear ∷ []
pieces_asked room (line ∷ next ∷ more) = line_within room line ∷ pieces_asked room (next ∷ more)

-- all that the bytes of an input ask for, in turn
unfoldable pub input_asked : ℕ → List ℕ → List Asked
input_asked room bytes = pieces_asked room (pieces bytes)

-- of the bytes that waited, where that is told, so much was asked for, and the others wait
abbrev pub AskedOf : ℕ → Option (List ℕ) → List Asked → Option (List ℕ) → Type 0
AskedOf room None asked after = Unit {0}
AskedOf room (Some bytes) asked None = ⊥
AskedOf room (Some bytes) asked (Some rest) = input_asked room bytes ≡ asked ++ input_asked room rest
