-- The parts of an update that the correct masters of a history have certified. (What is certified is Prime's
-- pre-ordering; that its text is given in parts is this project's own.)
use Rattle.std.specs.Prelude.{ℕ, if◌then◌else◌, List, [], ◌∷◌, Option, Some, None}
use Rattle.std.specs.List.{filter_map, flat_map}
use Rattle.std.specs.Option.{option_map}
use Rattle.std.specs.Str.{bytes_eq}
use Rattle.message_types.specs.declared.updates.Update.{Update}
use Rattle.message_types.specs.Digests.{digest_of_update}
use Rattle.message_types.specs.Texts.{update_text}
use Rattle.quorum_sets.specs.Masters.{numbers_below}
use Rattle.protocol_rules.specs.Preorder.{certified}
use Rattle.protocol_rules.specs.Words.{first_of_list}
use Rattle.scenario_file.specs.Reading.{Contents}
use Rattle.history_rules.specs.Events.{Entry}
use Rattle.history_rules.specs.Setup.{Setup, is_correct_master}
use Rattle.history_rules.specs.Legal.{heard, known_of}
use Rattle.world_rules.specs.Scenarios.{setup_of}
use Rattle.parity_parts.specs.declared.part.Part.{Part}
use Rattle.part_lines.specs.Laws.{own_part}
use Rattle.part_lines.specs.Texts.{parts_text}

-- the update that a correct master has certified as request k of master j at the end of its list; of others none
abbrev pub certified_by : Setup → List Entry → ℕ → ℕ → ℕ → Option Update
certified_by w history j k master =
    if is_correct_master w master then certified w.group (known_of (heard w history master)) j k else None

-- that of the least correct master that has one
abbrev pub first_certified : Setup → List Entry → ℕ → ℕ → Option Update
first_certified w history j k = first_of_list (filter_map (certified_by w history j k) (numbers_below w.group.n))

-- a master's part of its update's text, if the update has the digest
abbrev pub part_if : ℕ → List ℕ → ℕ → Option Update → List Part
part_if f digest master None = []
part_if f digest master (Some u) = if bytes_eq (digest_of_update u) digest then own_part f
    (update_text u) master ∷ [] else []

-- the parts of the masters, in their order
abbrev pub parts_by : Setup → List Entry → ℕ → ℕ → List ℕ → List Part
parts_by w history j k digest =
    flat_map (λ master. part_if w.group.f digest master (certified_by w history j k master)) (numbers_below w.group.n)

-- the digest of the first certified update, and the parts of all that have it
abbrev pub parts_of_first : Setup → List Entry → ℕ → ℕ → Option (List ℕ)
parts_of_first w history j k =
    option_map (λ u. parts_text (digest_of_update u) (parts_by w history j k (digest_of_update u)))
    (first_certified w history j k)

-- what is printed for request k of master j in a history of a scenario; none where no correct master has it certified
unfoldable pub parts_in : Contents → List Entry → ℕ → ℕ → Option (List ℕ)
parts_in c history j k = parts_of_first (setup_of c) history j k
