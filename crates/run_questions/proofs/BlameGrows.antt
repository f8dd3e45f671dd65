-- Blame for one entry more.
use Rattle.std.proofs.Common.{◌≡◌, ℕ, ◌+◌, ◌<◌, ◌≤◌, List, [], ◌∷◌, ◌++◌, length, map, take, get_or, refl, sym, ◌∙◌}
use Rattle.std.proofs.Common.{ap, subst}
use Rattle.std.proofs.lemmas.List.{append-nil, map_more, take_all}
use Rattle.std.proofs.lemmas.List.Concat.{flat_map-append}
use Rattle.std.specs.List.{flat_map}
use Rattle.message_types.specs.declared.signed.Signed.{Signed}
use Rattle.message_types.specs.declared.body.Body.{Body}
use Rattle.message_types.specs.Parts.{parts}
use Rattle.protocol_rules.specs.Master.{taken_frames}
use Rattle.history_rules.specs.Events.{frame_taken}
use Rattle.history_rules.specs.Audit.{parts_taken}
use Rattle.world_entries.specs.declared.entry.Entry.{Entry}
use Rattle.world_entries.specs.declared.entry.Event.{Event}
use Rattle.world_entries.specs.declared.entry.Event.TheVariants as kept
use Rattle.world_entries.specs.Entries.{event_of, entry_of}
use Rattle.blame_check.specs.declared.blame.Blame.{Blame}
use Rattle.blame_check.specs.Slots.{HasTaken}
use Rattle.blame_check.specs.Laws.{words_taken}

-- an entry that took no frame
none_of_it : (event : Event) → ((stamp place : ℕ) (frame : Signed Body) → event ≡ kept.Took stamp place frame → ⊥)
    → flat_map parts (taken_frames (frame_taken (event_of event))) ≡ []
none_of_it (kept.Took stamp place frame) other = absurd (other stamp place frame refl)
none_of_it _ other = refl

pub nothing_taken : (n : ℕ) (words : List (Signed Body)) (e : Entry) (blame : Blame) →
    ((stamp place : ℕ) (frame : Signed Body) → e.event ≡ kept.Took stamp place frame → ⊥)
    → HasTaken n words blame → HasTaken n (words ++ parts_taken (entry_of e)) blame
nothing_taken n words e blame other has =
    subst (λ (ws : List (Signed Body)). HasTaken n ws blame)
    (sym (ap (λ (ws : List (Signed Body)). words ++ ws) (none_of_it e.event other) ∙ append-nil words)) has

words_more : (entries : List Entry) (i : ℕ) (e : Entry) → i < length entries → e ≡ get_or entries i e
    → words_taken (map entry_of (take (i + 1) entries)) ≡ words_taken (map entry_of (take i entries))
    ++ parts_taken (entry_of e)
words_more entries i e below is =
    ap words_taken (map_more entry_of entries i e below
    ∙ ap (λ (k : Entry). map entry_of (take i entries) ++ entry_of k ∷ []) (sym is))
    ∙ flat_map-append parts_taken (map entry_of (take i entries)) (entry_of e ∷ [])
    ∙ ap (λ (ws : List (Signed Body)). words_taken (map entry_of (take i entries)) ++ ws)
    (append-nil (parts_taken (entry_of e)))

-- what taking the next entry does to blame
abbrev pub Takes : Entry → Blame → Blame → Type 0
Takes e old new = (n : ℕ) (words : List (Signed Body)) → HasTaken n words old →
    HasTaken n (words ++ parts_taken (entry_of e)) new

pub entry_more : (n : ℕ) (entries : List Entry) (i : ℕ) (e : Entry) (old new : Blame) → i < length entries →
    e ≡ get_or entries i e
    → HasTaken n (words_taken (map entry_of (take i entries))) old → Takes e old new →
    HasTaken n (words_taken (map entry_of (take (i + 1) entries))) new
entry_more n entries i e old new below is so_far takes =
    subst (λ (ws : List (Signed Body)). HasTaken n ws new) (sym (words_more entries i e below is))
    (takes n (words_taken (map entry_of (take i entries))) so_far)

pub entries_all : (n : ℕ) (entries : List Entry) (i : ℕ) (blame : Blame) → length entries ≤ i
    → HasTaken n (words_taken (map entry_of (take i entries))) blame →
    HasTaken n (words_taken (map entry_of entries)) blame
entries_all n entries i blame all has = subst (λ (es : List Entry). HasTaken n (words_taken (map entry_of es)) blame)
    (take_all i entries all) has
