-- The counts of an audit, as they are printed: how many parts of the frames taken bear words that their correct signers
-- hadn't said, how many texts share a digest with another text that came before, and how many masters are intruded. And
-- the one list that the actors' own lists make. (This project's own.)
use Rattle.std.specs.Prelude.{ℕ, ◌+◌, Bool, ◌&&◌, not, List, [], ◌∷◌, ◌++◌, length, filter, nat_eq, if◌then◌else◌}
use Rattle.std.specs.List.{list_any, flat_map}
use Rattle.std.specs.Str.{bytes_eq}
use Rattle.sha2.specs.Sha256.{sha256}
use Rattle.message_types.specs.declared.signed.Signed.{Signed}
use Rattle.message_types.specs.declared.body.Body.{Body}
use Rattle.quorum_sets.specs.Masters.{numbers_below, voters}
use Rattle.protocol_rules.specs.Group.{Group}
use Rattle.history_rules.specs.Events.{Entry}
use Rattle.history_rules.specs.Setup.{Setup, is_correct}
use Rattle.history_rules.specs.Audit.{parts_taken, history_texts}
use Rattle.history_rules.specs.Sameness.{is_same_body}

-- the actor said the body at one of these entries
abbrev pub has_said : List Entry → ℕ → Body → Bool
has_said before actor b = list_any (λ e. nat_eq e.actor actor && list_any (is_same_body b) e.said) before

-- the part bears the name of a correct actor that said no such body at these entries
abbrev pub is_forged : Setup → List Entry → Signed Body → Bool
is_forged w before p = is_correct w p.signer && not (has_said before p.signer p.body)

-- the forged parts of the frames taken at these entries, at each taking, `before` being the entries before them
abbrev pub forged_from : Setup → List Entry → List Entry → ℕ
forged_from w before [] = 0
forged_from w before (e ∷ rest) = length (filter (is_forged w before) (parts_taken e)) + forged_from w
    (before ++ e ∷ []) rest

-- how many words are forged in a history
abbrev pub forged : Setup → List Entry → ℕ
forged w history = forged_from w [] history

-- the texts with an earlier one's digest, each text counted where it first occurs; `earlier` are those that came before
abbrev pub alike_from : List (List ℕ) → List (List ℕ) → ℕ
alike_from earlier [] = 0
alike_from earlier (text ∷ rest) =
    if list_any (bytes_eq text) earlier then alike_from earlier rest
    else (if list_any (λ other. bytes_eq (sha256 text) (sha256 other)) earlier then 1 else 0) + alike_from
    (earlier ++ text ∷ []) rest

-- how many different texts of a history share a digest with an earlier one
abbrev pub alike : Group → List Entry → ℕ
alike g history = alike_from [] (history_texts g history)

-- how many masters are intruded
abbrev pub intruded_masters : Setup → ℕ
intruded_masters w = length (voters w.intruded w.group.n)

-- the entries with this stamp in any of the lists
abbrev pub stamped : List (List Entry) → ℕ → List Entry
stamped lists stamp = flat_map (filter (λ e. nat_eq e.stamp stamp)) lists

-- the actors' own lists as one: the entries with stamp 0, 1, .. in turn, as many as there are
abbrev pub merged : List (List Entry) → List Entry
merged lists = flat_map (stamped lists) (numbers_below (length (flat_map (λ entries. entries) lists)))
