-- The lines of keys: of a ring, which has all actors' public keys, and of one actor's own key. (This project's own; what a key
-- is made of is RFC 8554's.)
use Rattle.std.specs.Prelude.{◌≡◌, ◌≢◌, ◌<◌, ◌⊎◌, ◌+◌, ℕ, suc, List, [], ◌∷◌, ◌++◌, codes, length, Result, Ok, Err}
use Rattle.plain_lists.specs.Lists.{Each}
use Rattle.hex.specs.Hex.{IsBytes, encode_lower}
use Rattle.scenario_file.specs.Actors.{actor_name, actors_of}
use Rattle.scenario_file.specs.declared.actors.Cast.{Cast}
use Rattle.command_files.specs.declared.fault.KeyFault.{KeyFault}
use Rattle.command_files.specs.declared.fault.KeyFault.TheVariants as fault
use Rattle.command_files.specs.declared.own_key.OwnKey.{OwnKey}

-- ---- As they are written.

-- an actor's line of a ring: its name, and its public key in hex digits
unfoldable pub ring_line : List ℕ → List ℕ → List ℕ
ring_line name public = name ++ codes " " ++ encode_lower public ++ codes "\n"

-- a line for each of these public keys, the first of which is this actor's
unfoldable pub ring_from : Cast → ℕ → List (List ℕ) → List ℕ
ring_from cast actor [] = []
ring_from cast actor (public ∷ more) = ring_line (actor_name cast actor) public ++ ring_from cast (suc actor) more

-- the ring of the public keys of all actors, in the order of their numbers
abbrev pub ring_text : Cast → List (List ℕ) → List ℕ
ring_text cast publics = ring_from cast 0 publics

-- the line of an actor's own key: its name, the key's seed and its identifier in hex digits
unfoldable pub own_line : List ℕ → List ℕ → List ℕ → List ℕ
own_line name seed identifier =
    name ++ codes " " ++ encode_lower seed ++ codes " " ++ encode_lower identifier ++ codes "\n"

-- ---- As they are read.

-- the 60 bytes of a public key
abbrev pub IsPublic : List ℕ → Type 0
IsPublic public = (length public ≡ 60) × IsBytes public

-- no text that begins with the line of this public key
abbrev pub HasNotLine : List ℕ → List ℕ → List ℕ → Type 0
HasNotLine name public text = (rest : List ℕ) → text ≡ ring_line name public ++ rest → ⊥

-- no text that begins with a line of this name
abbrev pub HasNoLine : List ℕ → List ℕ → Type 0
HasNoLine name text = (public : List ℕ) → IsPublic public → HasNotLine name public text

-- a list with the public key more that stands in the line of this name, with which the text begins, and what follows
abbrev pub Cuts : List ℕ → List ℕ → List (List ℕ) → List (List ℕ) → List ℕ → Type 0
Cuts name text publics more after = (public : List ℕ) × IsPublic public × (more ≡ publics ++ public ∷ [])
    × (text ≡ ring_line name public ++ after)

-- The text is a ring: a line for each actor, and nothing else.
pub record IsRing (cast : Cast) (text : List ℕ) (publics : List (List ℕ)) : Type 0 where
  pub all : length publics ≡ actors_of cast
  pub each : Each IsPublic publics
  pub same : text ≡ ring_text cast publics

-- what follows the lines of the actors before this one doesn't begin with its line; behind the last actor's something follows
abbrev pub GoesWrong : Cast → ℕ → List ℕ → Type 0
GoesWrong cast actor rest =
    ((actor < actors_of cast) × HasNoLine (actor_name cast actor) rest) ⊎ ((actor ≡ actors_of cast) × (rest ≢ []))

-- This line is the first of the text that isn't a ring's: those before it are.
pub record IsBadLine (cast : Cast) (text : List ℕ) (line : ℕ) : Type 0 where
  pub before : List (List ℕ)
  pub rest : List ℕ
  pub publics : Each IsPublic before
  pub place : line ≡ length before + 1
  pub begins : text ≡ ring_text cast before ++ rest
  pub wrong : GoesWrong cast (length before) rest

-- the ring that a text is, or its first line that isn't one's; want of memory alone is free
abbrev pub AnswersRing : Cast → List ℕ → Result (List (List ℕ)) KeyFault → Type 0
AnswersRing cast text (Ok publics) = IsRing cast text publics
AnswersRing cast text (Err (fault.BadLine line)) = IsBadLine cast text line
AnswersRing cast text (Err fault.Want) = Unit {0}

-- no text that is the line of an own key of this name
abbrev pub IsNoOwnKey : List ℕ → List ℕ → Type 0
IsNoOwnKey name text = (seed identifier : List ℕ) → length seed ≡ 32 → IsBytes seed → length identifier ≡ 16
    → IsBytes identifier → text ≡ own_line name seed identifier → ⊥

-- the key of this seed and identifier, where the text is their line
abbrev pub AnswersLine : List ℕ → List ℕ → List ℕ → List ℕ → Result OwnKey KeyFault → Type 0
AnswersLine name seed identifier text (Ok key) =
    (key.seed ≡ seed) × (key.identifier ≡ identifier) × (own_line name seed identifier ≡ text)
AnswersLine name seed identifier text (Err (fault.BadLine line)) =
    (line ≡ 1) × (own_line name seed identifier ≡ text → ⊥)
AnswersLine name seed identifier text (Err fault.Want) = Unit {0}

-- the own key whose line a text is; it has one line alone. Want of memory alone is free.
abbrev pub AnswersOwnKey : List ℕ → List ℕ → Result OwnKey KeyFault → Type 0
AnswersOwnKey name text (Ok key) = text ≡ own_line name key.seed key.identifier
AnswersOwnKey name text (Err (fault.BadLine line)) = (line ≡ 1) × IsNoOwnKey name text
AnswersOwnKey name text (Err fault.Want) = Unit {0}
