-- What was looked at can be told, and with it a history of which all entries were.
use Rattle.std.proofs.Common.{◌≡◌, ℕ, ◌+◌, ◌<◌, ◌≤◌, Bool, false, List, [], ◌∷◌, ◌++◌, length, map, take}
use Rattle.std.proofs.Common.{get_or, sym, ◌∙◌, ap, subst, Result, Ok, Err}
use Rattle.std.specs.Result.{OnOk}
use Rattle.plain_lists.specs.declared.want.Want.{Want}
use Rattle.std.specs.List.{All, AllByRecursion}
use Rattle.std.proofs.lemmas.List.{map_more, take_all}
use Rattle.std.proofs.lemmas.List.Elements.{All-nil, All-push, All-same}
use Rattle.wire_parts.specs.Fields.{u8_bytes, u32_bytes, u64_bytes}
use Rattle.message_types.specs.declared.signed.Signed.{Signed}
use Rattle.message_types.specs.declared.body.Body.{Body}
use Rattle.message_types.specs.Texts.{frame_text}
use Rattle.message_forms.specs.Widths.{IsBytes}
use Rattle.scenario_file.specs.Reading.{Contents}
use Rattle.history_rules.specs.Events.{Took, Entry}
use Rattle.entry_texts.specs.Fits.{FitsEntry}
use Rattle.entry_texts.specs.Texts.{kept_text, taken_text}
use Rattle.world_entries.specs.declared.entry.Entry.{Entry as KeptEntry}
use Rattle.world_entries.specs.declared.entry.Event.{Event as KeptEvent}
use Rattle.world_entries.specs.declared.entry.Event.TheVariants as kept
use Rattle.world_entries.specs.Entries.{entry_of, event_of}
use Rattle.world_rules.specs.Scenarios.{setup_of}
use Rattle.printed_run.specs.Printed.{is_said}
use Rattle.printed_run.specs.Tellable.{CanBeTold, AllCanBeTold}

pub all_bytes : (bytes : List ℕ) → AllByRecursion (λ b. b < 256) bytes → IsBytes bytes
all_bytes [] all = tt
all_bytes (b ∷ bytes) all = (all.0, all_bytes bytes all.1)

-- bytes behind others
bytes_behind : (before bytes : List ℕ) → IsBytes (before ++ bytes) → IsBytes bytes
bytes_behind [] bytes are = are
bytes_behind (b ∷ before) bytes are = bytes_behind before bytes are.1

-- ---- One event.

-- an event is told as the one that it is
told_as : (told : Bool) (event other : KeptEvent) → event ≡ other → CanBeTold told (event_of other) →
    CanBeTold told (event_of event)
told_as told event other is can = subst (λ (e : KeptEvent). CanBeTold told (event_of e)) (sym is) can

-- the bytes of a frame in those of its entry
frame_bytes : (stamp at place : ℕ) (frame : Signed Body) →
    IsBytes (u64_bytes stamp ++ (u8_bytes 1 ++ taken_text at place (frame_text frame))) → IsBytes (frame_text frame)
frame_bytes stamp at place frame are =
    let text : List ℕ = frame_text frame in
    let counted : List ℕ = u32_bytes (length text) ++ text in
    bytes_behind (u32_bytes (length text)) text
    (bytes_behind (u32_bytes place) counted
    (bytes_behind (u64_bytes at) (u32_bytes place ++ counted)
    (bytes_behind (u8_bytes 1) (u64_bytes at ++ (u32_bytes place ++ counted))
    (bytes_behind (u64_bytes stamp) (u8_bytes 1 ++ (u64_bytes at ++ (u32_bytes place ++ counted))) are))))

spelled_as : (e : KeptEntry) (event : KeptEvent) → KeptEntry
spelled_as e event = record e { event = event }

pub spelled_told : (told : Bool) (e : KeptEntry) (stamp place : ℕ) (frame : Signed Body) →
    e.event ≡ kept.Took stamp place frame → told ≡ false → FitsEntry e.stamp (event_of e.event)
    → AllByRecursion (λ b. b < 256) (kept_text (entry_of e)) → CanBeTold told (event_of e.event)
unfolding spelled_as
spelled_told told e stamp place frame is by_bytes fits bytes =
    let fit : FitsEntry e.stamp (Took stamp place frame) =
    subst (λ (x : KeptEvent). FitsEntry e.stamp (event_of x)) is fits in
    let all : AllByRecursion (λ b. b < 256) (kept_text (entry_of (spelled_as e (kept.Took stamp place frame)))) =
    subst (λ (x : KeptEvent). AllByRecursion (λ b. b < 256) (kept_text (entry_of (spelled_as e x)))) is bytes in
    told_as told e.event (kept.Took stamp place frame) is
    (subst (λ (b : Bool). CanBeTold b (Took stamp place frame)) (sym by_bytes)
    (fit.1.1.1.0, frame_bytes e.stamp stamp place frame (all_bytes _ all)))

pub cry_told : (told : Bool) (event : KeptEvent) (bytes : List ℕ) → event ≡ kept.Cry bytes →
    AllByRecursion (λ b. b < 256) bytes → CanBeTold told (event_of event)
cry_told told event bytes is all = told_as told event (kept.Cry bytes) is (all_bytes bytes all)

-- what two clauses say of an answer where it is well
pub both_ok : {A B C : Type 0} (result : Result (Unit {0}) Want) → (A → B → C) → OnOk result A → OnOk result B →
    OnOk result C
both_ok (Ok done) goes one other = goes one other
both_ok (Err want) goes one other = tt

-- ---- All entries.

-- these entries of the history can be told
abbrev pub AreTold : Contents → List Entry → List Entry → Type 0
AreTold c history entries = All (λ e. CanBeTold (is_said (setup_of c) history e.event) e.event) entries

pub none_told : (c : Contents) (history : List Entry) → AreTold c history []
none_told c history = All-nil (λ e. CanBeTold (is_said (setup_of c) history e.event) e.event)

-- one entry more
pub told_more : (c : Contents) (history : List Entry) (xs : List KeptEntry) (i : ℕ) (x : KeptEntry) (told : Bool) →
    map entry_of xs ≡ history → i < length xs → x ≡ get_or xs i x
    → told ≡ is_said (setup_of c) (map entry_of xs) (event_of x.event) → CanBeTold told (event_of x.event)
    → AreTold c history (map entry_of (take i xs)) → AreTold c history (map entry_of (take (i + 1) xs))
told_more c history xs i x told whole below here is can so_far =
    let Told : Entry → Type 0 = λ e. CanBeTold (is_said (setup_of c) history e.event) e.event in
    All-same Told (map entry_of (take (i + 1) xs)) (map entry_of (take i xs) ++ entry_of x ∷ [])
    (map_more entry_of xs i x below
    ∙ ap (λ (k : KeptEntry). map entry_of (take i xs) ++ entry_of k ∷ []) (sym here))
    (All-push Told (map entry_of (take i xs)) (entry_of x) so_far
    (subst (λ (b : Bool). CanBeTold b (event_of x.event))
    (is ∙ ap (λ (es : List Entry). is_said (setup_of c) es (event_of x.event)) whole) can))

pub told_all : (c : Contents) (history : List Entry) (xs : List KeptEntry) (n : ℕ) → map entry_of xs ≡ history →
    length xs ≤ n → AreTold c history (map entry_of (take n xs)) → AllCanBeTold (setup_of c) history
told_all c history xs n whole all are =
    subst (AreTold c history)
    (ap (λ (es : List KeptEntry). map entry_of es) (take_all n xs all) ∙ whole) are
