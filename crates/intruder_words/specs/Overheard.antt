-- What an intruded master's knowledge keeps.
use Rattle.std.specs.Prelude.{◌≡◌, true}
use Rattle.intruder_words.specs.Speaking.{are_spelled}
use Rattle.intruder_words.specs.declared.overheard.Overheard.TheInside.{Inside}

-- all frames known have a spelling, so that bodies made of them have one
abbrev pub IsHeld : Inside → Type 0
IsHeld a = are_spelled a.known.items ≡ true
