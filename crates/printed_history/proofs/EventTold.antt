-- The event that a line tells.
use Rattle.std.proofs.Common.{◌≡◌, ◌⊎◌, ℕ, zero, suc, ◌<◌, ◌≤◌, Bool, true, false, cond, List, [], ◌∷◌, Option, Some}
use Rattle.std.proofs.Common.{None, Result, Ok, Err, length, take, filter, inl, inr, refl, sym, ◌∙◌, ap, subst, arith}
use Rattle.std.proofs.lemmas.Bool.{cases_lt}
use Rattle.std.proofs.lemmas.Option.{slice_get_past}
use Rattle.std.specs.Option.{option_to_list}
use Rattle.std.specs.Prelude.{slice_get}
use Rattle.std.specs.Result.{IfOk}
use Rattle.plain_lists.specs.declared.want.Want.{Want}
use Rattle.message_types.specs.declared.signed.Signed.{Signed}
use Rattle.message_types.specs.declared.body.Body.{Body}
use Rattle.message_forms.specs.declared.refusal.FormRefusal.{FormRefusal}
use Rattle.message_forms.specs.Forms.{frame_at}
use Rattle.checked_frames.specs.Standing.{Ring}
use Rattle.checked_frames.specs.Standing as checked
use Rattle.scenario_file.specs.Reading.{Contents}
use Rattle.history_rules.specs.Events.{Event, Took, Tick, Command, Field, Poll, Cry, Skip, Restart, Entry}
use Rattle.history_rules.specs.Setup.{Setup, stands, own}
use Rattle.history_rules.specs.Legal.{TakesWell}
use Rattle.world_rules.specs.Frames.{cried, frames_of, frames_at_stamp}
use Rattle.world_rules.specs.Scenarios.{setup_of}
use Rattle.world_history.specs.Signed.{ring_in}
use Rattle.world_entries.specs.declared.entry.Event.{Event as KeptEvent}
use Rattle.world_entries.specs.Entries.{event_of}
use Rattle.run_lines.specs.declared.event_line.EventLine.{EventLine}
use Rattle.run_lines.specs.declared.event_line.EventLine.TheVariants as line
use Rattle.printed_history.specs.Histories.{said_there, told_by_bytes, event_from, standing_event}
use Rattle.printed_history.specs.declared.reading.SoFar.{SoFar}
use Rattle.printed_history.specs.Reading.{standing_frame, contents_in, world_in, IsSoFar, event_found}
use Rattle.printed_history.proofs.FramesFound.{same_stand}

-- a frame that stands, as an event
pub found_said : (w : Setup) (stamp place : ℕ) (o found : Option (Signed Body)) → found ≡ standing_frame w o
    → said_there stamp place found ≡ standing_event w (said_there stamp place o)
found_said w stamp place None found is = ap (said_there stamp place) is
found_said w stamp place (Some f) found is = ap (said_there stamp place) is ∙ by (stands w f)
  where
    by : (b : Bool) → said_there stamp place (cond b (Some f) None) ≡ cond b (Some (Took stamp place f)) None
    by true = refl
    by false = refl

-- the frame that bytes spell, as an event
pub found_told : (w : Setup) (before : ℕ) (read : Result (Signed Body) FormRefusal) (found : Option (Signed Body))
    → option_to_list found ≡ filter (stands w) (elim read [ Ok f ↦ f ∷ [] | Err fault ↦ [] ])
    → said_there before 4294967295 found ≡ standing_event w (told_by_bytes (suc before) read)
found_told w before (Ok f) found is = by (stands w f) found is
  where
    by : (b : Bool) (o : Option (Signed Body)) → option_to_list o ≡ cond b (f ∷ []) [] →
        said_there before 4294967295 o ≡ cond b (Some (Took before 4294967295 f)) None
    by true None same = absurd (cc)
    by true (Some g) same = let one : g ≡ f = cc in ap (λ (x : Signed Body). Some (Took before 4294967295 x)) one
    by false None same = refl
    by false (Some g) same = absurd (cc)
found_told w before (Err e) None is = refl
found_told w before (Err e) (Some g) is = absurd (cc)

-- What is told by bytes behind so many entries.
pub told_behind : (c : Contents) (ring : Ring) (many before : ℕ) (bytes : List ℕ) (found : Option (Signed Body)) →
    ring ≡ ring_in c → many ≡ suc before
    → option_to_list found ≡ filter (checked.stands ring) (cried (Cry bytes))
    → said_there before 4294967295 found ≡ standing_event (setup_of c) (told_by_bytes many (frame_at bytes))
told_behind c ring many before bytes found same is read =
    found_told (setup_of c) before (frame_at bytes) found (read ∙ same_stand c ring (cried (Cry bytes)) same)
    ∙ ap (λ (n : ℕ). standing_event (setup_of c) (told_by_bytes n (frame_at bytes))) (sym is)

-- no entry is before the first
pub told_first : (w : Setup) (many : ℕ) (read : Result (Signed Body) FormRefusal) → many ≡ 0 →
    ◌≡◌ {A = Option Event} None (standing_event w (told_by_bytes many read))
told_first w many read is = sym (ap (λ (n : ℕ). standing_event w (told_by_bytes n read)) is)

-- a frame was said at a stamp that an entry has
pub said_earlier : (w : Setup) (before : List Entry) (stamp place : ℕ) (f : Signed Body) →
    slice_get (frames_at_stamp w before stamp) place ≡ Some f → stamp < length before
unfolding frames_at_stamp
said_earlier w before stamp place f is = by (cases_lt stamp (length before))
  where
    at : Option Entry → Option (Signed Body)
    at o = slice_get (elim o [ None ↦ [] | Some e ↦ frames_of w (own (take stamp before) e.actor) e ]) place

    by : (stamp < length before) ⊎ (length before ≤ stamp) → stamp < length before
    by (inl less) = less
    by (inr past) = let none : at (slice_get before stamp) ≡ None =
        ap at (slice_get_past before stamp past) in absurd (cc)

-- an event that stands takes a frame that stands and that was said earlier
pub taken_well : (w : Setup) (before : List Entry) (l : EventLine) (event : Event) →
    Some event ≡ standing_event w (event_from w before l) → TakesWell w (length before) event
taken_well w before (line.Said stamp place) event is = by (slice_get (frames_at_stamp w before stamp) place) refl is
  where
    at : (f : Signed Body) (b : Bool) → stands w f ≡ b → stamp < length before →
        Some event ≡ cond b (Some (Took stamp place f)) None → TakesWell w (length before) event
    at f true stand less same = let one : Took stamp place f ≡ event = cc in
        subst (TakesWell w (length before)) one (stand, less)
    at f false stand less same = absurd (cc)

    by : (o : Option (Signed Body)) → slice_get (frames_at_stamp w before stamp) place ≡ o →
        Some event ≡ standing_event w (said_there stamp place o) → TakesWell w (length before) event
    by None there same = absurd (cc)
    by (Some f) there same = at f (stands w f) refl (said_earlier w before stamp place f there) same
taken_well w before (line.Frame bytes) event is = by (length before) (frame_at bytes) refl is
  where
    at : (n : ℕ) (f : Signed Body) (b : Bool) → stands w f ≡ b → length before ≡ suc n →
        Some event ≡ cond b (Some (Took n 4294967295 f)) None → TakesWell w (length before) event
    at n f true stand many same = let one : Took n 4294967295 f ≡ event = cc in
        subst (TakesWell w (length before)) one (stand, omega arith)
    at n f false stand many same = absurd (cc)

    by : (n : ℕ) (read : Result (Signed Body) FormRefusal) → length before ≡ n →
        Some event ≡ standing_event w (told_by_bytes n read) → TakesWell w (length before) event
    by zero read many same = absurd (cc)
    by (suc n) (Ok f) many same = at n f (stands w f) refl many same
    by (suc n) (Err e) many same = absurd (cc)
taken_well w before line.Tick event is = let one : Tick ≡ event = cc in subst (TakesWell w (length before)) one tt
taken_well w before (line.Command op) event is = let one : Command op ≡ event = cc in
    subst (TakesWell w (length before)) one tt
taken_well w before (line.Field area place value) event is = let one : Field area place value ≡ event = cc in
    subst (TakesWell w (length before)) one tt
taken_well w before line.Poll event is = let one : Poll ≡ event = cc in subst (TakesWell w (length before)) one tt
taken_well w before (line.Cry bytes) event is = let one : Cry bytes ≡ event = cc in
    subst (TakesWell w (length before)) one tt
taken_well w before line.Skip event is = let one : Skip ≡ event = cc in subst (TakesWell w (length before)) one tt
taken_well w before line.Restart event is = let one : Restart ≡ event = cc in subst (TakesWell w (length before)) one tt

-- The frame that was said at a stamp and a place, by what is at hand.
at_hand : List (List (Signed Body)) → ℕ → ℕ → Option (List (Signed Body)) → Option (Signed Body)
at_hand posted stamp place o = elim o [ None ↦ None | Some frames ↦ slice_get frames place ]

pub said_never : (r : SoFar) (stamp place : ℕ) → IsSoFar r → slice_get r.posted stamp ≡ None
    → ◌≡◌ {A = Option Event} None
    (standing_event (world_in r) (event_from (world_in r) r.history (line.Said stamp place)))
unfolding at_hand
said_never r stamp place is none =
    found_said (world_in r) stamp place (slice_get (frames_at_stamp (world_in r) r.history stamp) place) None
    (sym (ap (at_hand r.posted stamp place) none) ∙ is.are_frames stamp place)

pub said_elsewhere : (r : SoFar) (stamp place : ℕ) (frames : List (Signed Body)) → IsSoFar r →
    slice_get r.posted stamp ≡ Some frames → slice_get frames place ≡ None
    → ◌≡◌ {A = Option Event} None
    (standing_event (world_in r) (event_from (world_in r) r.history (line.Said stamp place)))
unfolding at_hand
said_elsewhere r stamp place frames is some none =
    found_said (world_in r) stamp place (slice_get (frames_at_stamp (world_in r) r.history stamp) place) None
    (sym (ap (at_hand r.posted stamp place) some ∙ none) ∙ is.are_frames stamp place)

pub said_so : (r : SoFar) (stamp place : ℕ) (frames : List (Signed Body)) (frame copy : Signed Body) → IsSoFar r →
    slice_get r.posted stamp ≡ Some frames
    → slice_get frames place ≡ Some frame → copy ≡ frame
    → Some (Took stamp place copy) ≡ standing_event (world_in r)
    (event_from (world_in r) r.history (line.Said stamp place))
unfolding at_hand
said_so r stamp place frames frame copy is some one same =
    ap (λ (f : Signed Body). Some (Took stamp place f)) same
    ∙ found_said (world_in r) stamp place (slice_get (frames_at_stamp (world_in r) r.history stamp) place) (Some frame)
    (sym (ap (at_hand r.posted stamp place) some ∙ one) ∙ is.are_frames stamp place)

-- The frame that bytes spell, by the ring that is at hand.
pub told_nothing : (r : SoFar) (bytes : List ℕ) (many : ℕ) → many ≡ length r.history → many ≡ 0
    → ◌≡◌ {A = Option Event} None (standing_event (world_in r) (event_from (world_in r) r.history (line.Frame bytes)))
told_nothing r bytes many is none = told_first (world_in r) (length r.history) (frame_at bytes) (sym is ∙ none)

pub told_so : (r : SoFar) (bytes : List ℕ) (before : ℕ) (found : Option (Signed Body)) → IsSoFar r →
    length r.history ≡ suc before
    → option_to_list found ≡ filter (checked.stands r.ring) (cried (Cry bytes))
    → said_there before 4294967295 found ≡ standing_event (world_in r)
    (event_from (world_in r) r.history (line.Frame bytes))
told_so r bytes before found is long read = told_behind (contents_in r) r.ring (length r.history)
    before bytes found is.is_ring long read

-- What is found of a line is the event that it tells.
abbrev pub Finds : SoFar → Result (Option KeptEvent) Want → EventLine → Type 0
Finds r told l = IfOk told
    (λ found. event_found found ≡ standing_event (world_in r) (event_from (world_in r) r.history l))

-- a line of no frame tells an event of its own
pub plain_event : (r : SoFar) (l plain : EventLine) (event : KeptEvent) → l ≡ plain →
    Some (event_of event) ≡ standing_event (world_in r) (event_from (world_in r) r.history plain)
    → event_found (Some event) ≡ standing_event (world_in r) (event_from (world_in r) r.history l)
plain_event r l plain event is tells =
    tells ∙ ap (λ (x : EventLine). standing_event (world_in r) (event_from (world_in r) r.history x)) (sym is)

pub found_so : (r : SoFar) (told : Result (Option KeptEvent) Want) (l plain : EventLine) → plain ≡ l →
    Finds r told plain → Finds r told l
found_so r told l plain is tells = subst (Finds r told) is tells
