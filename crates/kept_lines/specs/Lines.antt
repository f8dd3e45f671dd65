-- What a station keeps of what it did: a line for each entry, as a printed run has it, with each frame that was taken by
-- its bytes, and behind it a digest of the words said there. By the digest the words of another program, or of another
-- scenario's keys, are told from these. (This project's own.)
use Rattle.std.specs.Prelude.{ℕ, false, List, [], ◌∷◌, ◌++◌, codes, decimal}
use Rattle.std.specs.List.{flat_map}
use Rattle.hex.specs.Hex.{encode_lower}
use Rattle.sha2.specs.Sha256.{sha256}
use Rattle.message_types.specs.declared.signed.Signed.{Signed}
use Rattle.message_types.specs.declared.body.Body.{Body}
use Rattle.message_types.specs.Texts.{frame_text}
use Rattle.scenario_file.specs.declared.actors.Cast.{Cast}
use Rattle.scenario_file.specs.Actors.{actor_name}
use Rattle.scenario_file.specs.Reading.{Contents, cast_of}
use Rattle.history_rules.specs.Events.{Entry}
use Rattle.history_rules.specs.Setup.{own}
use Rattle.bench_rules.specs.Lists.{frames_after}
use Rattle.world_rules.specs.Scenarios.{setup_of}
use Rattle.run_lines.specs.Texts.{event_text, said_text}

-- the digest of frames: SHA-256 over their bytes, one frame after another
abbrev pub digest_of : List (Signed Body) → List ℕ
digest_of frames = sha256 (flat_map frame_text frames)

-- what stands behind an entry of what was said at it, be it nothing
abbrev pub digest_words : List (Signed Body) → List ℕ
digest_words frames = codes " digest " ++ encode_lower (digest_of frames)

-- the line of an entry in a printed run, without its line feed
abbrev pub entry_words : Cast → Entry → List ℕ
entry_words cast e =
    decimal e.stamp ++ codes " " ++ actor_name cast e.actor ++ codes " " ++ event_text false e.event ++ said_text e.said

-- the frames of what an entry's actor said at it, `before` being the history before it
abbrev pub frames_said : Contents → List Entry → Entry → List (Signed Body)
frames_said c before e = frames_after (setup_of c) e.actor (own before e.actor) e

-- the line that is kept of an entry, without its line feed
unfoldable pub kept_line : Contents → List Entry → Entry → List ℕ
kept_line c before e = entry_words (cast_of c.settings c.plant) e ++ digest_words (frames_said c before e)

-- the lines of entries that come after these
abbrev pub kept_from : Contents → List Entry → List Entry → List ℕ
kept_from c before [] = []
kept_from c before (e ∷ rest) = kept_line c before e ++ codes "\n" ++ kept_from c (before ++ e ∷ []) rest

-- all that is kept of a list
abbrev pub kept_file : Contents → List Entry → List ℕ
kept_file c list = kept_from c [] list
