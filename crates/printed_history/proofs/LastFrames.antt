-- The frames of a bench's last entry.
use Rattle.std.proofs.Common.{◌≡◌, ℕ, zero, suc, ◌+◌, ◌<◌, ◌≤◌, true, List, [], ◌∷◌, ◌++◌, Option, Some, None}
use Rattle.std.proofs.Common.{Result, Ok, Err, length, map, get_or, append-nil, append_assoc, refl, sym, ◌∙◌, ap}
use Rattle.std.proofs.Common.{subst, arith}
use Rattle.std.proofs.lemmas.List.{length-append, length-map, get_or_push}
use Rattle.std.specs.Borrow.{Bor}
use Rattle.std.specs.List.{list_all}
use Rattle.std.specs.Option.{option_map}
use Rattle.std.specs.Prelude.{slice_get}
use Rattle.message_types.specs.declared.signed.Signed.{Signed}
use Rattle.message_types.specs.declared.body.Body.{Body}
use Rattle.message_forms.specs.declared.refusal.FormRefusal.{FormRefusal}
use Rattle.message_forms.specs.Forms.{frame_at}
use Rattle.checked_frames.specs.Standing.{Ring}
use Rattle.protocol_rules.specs.Group.{Group}
use Rattle.scenario_file.specs.Reading.{Contents}
use Rattle.history_rules.specs.Events.{Event, Took, Tick, Command, Field, Poll, Cry, Skip, Restart, Entry}
use Rattle.history_rules.specs.Setup.{Setup, stands, leaves_used, signed_from}
use Rattle.history_rules.specs.Legal.{says_in}
use Rattle.world_rules.specs.Frames.{cried, frames_of}
use Rattle.world_rules.specs.Scenarios.{setup_of, masters_in}
use Rattle.world_rules.proofs.Fields.{setup_goes_by, group_is}
use Rattle.world_history.specs.Signed.{ring_in}
use Rattle.bench_rules.specs.Lists.{frames_after}
use Rattle.history_laws.proofs.BenchLists.{intruded_say_nothing}
use Rattle.world_entries.specs.declared.entry.Entry.{Entry as KeptEntry}
use Rattle.world_entries.specs.Entries.{entry_of}
use Rattle.world_history.specs.State.{BenchState, setup_in, entry_at, with_entry, frames_said}
use Rattle.world_history.specs.Seats.{frames_of_each}
use Rattle.printed_history.specs.Reading.{standing_frame, list_at, posted_of}
use Rattle.printed_history.proofs.FramesFound.{same_stand, all_standing, few_standing}
use Rattle.world_history.proofs.IntrudedEntry.{who_cries}
use Rattle.plain_lists.proofs.Lists.{mapped_at}

-- the last entry is the one that was added
pub last_added : (b grown : BenchState) (stamp last : ℕ) (event : Event) (kept : List KeptEntry) (e : KeptEntry) →
    grown ≡ with_entry b stamp event → map entry_of kept ≡ grown.list
    → last + 1 ≡ length kept → e ≡ get_or kept last e → entry_of e ≡ entry_at b stamp event
last_added b grown stamp last event kept e is are end at =
    let long : length kept ≡ length b.list + 1 =
    sym (length-map kept entry_of) ∙ ap length are ∙ ap (λ (x : BenchState). length x.list) is
    ∙ length-append b.list (entry_at b stamp event ∷ []) in
    let below : last < length kept = omega arith in
    let here : length b.list ≡ last = omega arith in
    mapped_at entry_of kept last e below at
    ∙ ap (λ (es : List Entry). get_or es last (entry_of e)) (are ∙ ap (λ (x : BenchState). x.list) is)
    ∙ get_or_push b.list (entry_at b stamp event) (entry_of e) last here

-- there is a last entry
pub one_kept : (b grown : BenchState) (stamp : ℕ) (event : Event) (kept : List KeptEntry) →
    grown ≡ with_entry b stamp event → map entry_of kept ≡ grown.list → length kept ≡ length b.list + 1
one_kept b grown stamp event kept is are =
    sym (length-map kept entry_of) ∙ ap length are ∙ ap (λ (x : BenchState). length x.list) is
    ∙ length-append b.list (entry_at b stamp event ∷ [])

pub each_last : (w : Setup) (actor : ℕ) (before list : List Entry) (e : Entry) →
    slice_get (frames_of_each w actor before (list ++ e ∷ [])) (length list) ≡ Some
    (frames_after w actor (before ++ list) e)
each_last w actor before [] e = ap (λ (es : List Entry). Some (frames_after w actor es e)) (sym (append-nil before))
each_last w actor before (x ∷ list) e =
    each_last w actor (before ++ x ∷ []) list e
    ∙ ap (λ (es : List Entry). Some (frames_after w actor es e)) (append_assoc before (x ∷ []) list)

-- each place of a bench's list has its frames
pub frames_there : (w : Setup) (actor : ℕ) (before list : List Entry) (place : ℕ) → place < length list →
    slice_get (frames_of_each w actor before list) place ≡ None → ⊥
frames_there w actor before [] place below none = omega arith
frames_there w actor before (e ∷ list) zero below none = absurd (cc)
frames_there w actor before (e ∷ list) (suc place) below none =
    frames_there w actor (before ++ e ∷ []) list place (omega arith) none

few_cried : (bytes : List ℕ) → length (cried (Cry bytes)) ≤ 1
few_cried bytes = by (frame_at bytes)
  where
    by : (read : Result (Signed Body) FormRefusal) →
        length {A = Signed Body} (elim read [ Ok f ↦ f ∷ [] | Err fault ↦ [] ]) ≤ 1
    by (Ok f) = omega arith
    by (Err e) = omega arith

-- of a cry there are its bytes' frames alone
cry_frames : (b : BenchState) (stamp : ℕ) (bytes : List ℕ) → (setup_in b).fits b.actor (Cry bytes) ≡ true
    → frames_of (setup_in b) b.list (entry_at b stamp (Cry bytes)) ≡ cried (Cry bytes)
unfolding entry_at
cry_frames b stamp bytes may =
    let c : Contents = b.world in
    let who = who_cries c b.actor bytes (sym ((setup_goes_by c).fits b.actor (Cry bytes)) ∙ may) in
    let low : b.actor < masters_in c = grind (arith, who.0) in
    let master : b.actor < (setup_of c).group.n = subst (λ (g : Group). b.actor < g.n) (sym (group_is c)) low in
    let silent : says_in (setup_of c) b.actor b.list (Cry bytes) ≡ [] =
    intruded_say_nothing (setup_of c) b.actor b.list (Cry bytes) master ((setup_goes_by c).intruded b.actor ∙ who.1) in
    ap (λ (said : List Body). signed_from (setup_of c) b.actor (leaves_used (setup_of c) b.list) said 0 said
    ++ cried (Cry bytes)) silent

-- of another event there is what was said
said_frames : (b : BenchState) (stamp : ℕ) (event : Event) → cried event ≡ [] →
    frames_of (setup_in b) b.list (entry_at b stamp event) ≡ frames_said b stamp event
unfolding entry_at
said_frames b stamp event silent =
    ap (λ (fs : List (Signed Body)). frames_said b stamp event ++ fs) silent ∙ append-nil (frames_said b stamp event)

-- The frames of the entry that was added, where they stand.
abbrev PostsWell : BenchState → ℕ → Event → List (Signed Body) → ℕ → Type 0
PostsWell b stamp event posted place = slice_get posted place ≡ standing_frame (setup_in b)
    (slice_get (frames_of (setup_in b) b.list (entry_at b stamp event)) place)

said_posted : (b : BenchState) (stamp place : ℕ) (event : Event) → cried event ≡ [] →
    list_all (stands (setup_in b)) (frames_said b stamp event) ≡ true
    → PostsWell b stamp event
    (list_at (slice_get (frames_of_each (setup_in b) b.actor [] (b.list ++ entry_at b stamp event ∷ []))
    (length b.list))) place
said_posted b stamp place event silent all =
    ap (λ (o : Option (List (Signed Body))). slice_get (list_at o) place)
    (each_last (setup_in b) b.actor [] b.list (entry_at b stamp event))
    ∙ all_standing (setup_in b) (frames_said b stamp event) place all
    ∙ ap (λ (fs : List (Signed Body)). standing_frame (setup_in b) (slice_get fs place))
    (sym (said_frames b stamp event silent))

all_posted : (b : BenchState) (ring : Ring) (stamp place : ℕ) (event : Event) → ring ≡ ring_in b.world →
    (setup_in b).fits b.actor event ≡ true
    → list_all (stands (setup_in b)) (frames_said b stamp event) ≡ true →
    PostsWell b stamp event (posted_of ring (with_entry b stamp event) (length b.list) event) place
all_posted b ring stamp place (Cry bytes) same may all =
    ap (λ (fs : List (Signed Body)). slice_get fs place) (same_stand b.world ring (cried (Cry bytes)) same)
    ∙ few_standing (setup_in b) (cried (Cry bytes)) place (few_cried bytes)
    ∙ ap (λ (fs : List (Signed Body)). standing_frame (setup_in b) (slice_get fs place))
    (sym (cry_frames b stamp bytes may))
all_posted b ring stamp place (Took s p f) same may all = said_posted b stamp place (Took s p f) refl all
all_posted b ring stamp place Tick same may all = said_posted b stamp place Tick refl all
all_posted b ring stamp place (Command op) same may all = said_posted b stamp place (Command op) refl all
all_posted b ring stamp place (Field area at value) same may all =
    said_posted b stamp place (Field area at value) refl all
all_posted b ring stamp place Poll same may all = said_posted b stamp place Poll refl all
all_posted b ring stamp place Skip same may all = said_posted b stamp place Skip refl all
all_posted b ring stamp place Restart same may all = said_posted b stamp place Restart refl all

pub last_posted : (b grown : BenchState) (ring : Ring) (stamp last : ℕ) (event told : Event)
    (posted : List (Signed Body)) → ring ≡ ring_in b.world
    → (setup_in b).fits b.actor event ≡ true → grown ≡ with_entry b stamp event → last ≡ length b.list →
    told ≡ event → list_all (stands (setup_in b)) (frames_said b stamp event) ≡ true
    → posted ≡ posted_of ring grown last told → (place : ℕ) → PostsWell b stamp event posted place
last_posted b grown ring stamp last event told posted same fits is here copied stand are place =
    ap (λ (fs : List (Signed Body)). slice_get fs place) (are ∙ (λ i. posted_of ring (is i) (here i) (copied i)))
    ∙ all_posted b ring stamp place event same fits stand

-- the entry has the event
pub event_made : (b : BenchState) (stamp : ℕ) (event : Event) (e : Entry) → e ≡ entry_at b stamp event → e.event ≡ event
unfolding entry_at
event_made b stamp event e is = ap (λ (x : Entry). x.event) is

pub none_seen : (o : Option (Bor (List (Signed Body)))) (x : Option (List (Signed Body))) →
    option_map (λ frames. frames.now) o ≡ x → o ≡ None → x ≡ None
none_seen o x told is = sym told
    ∙ ap (λ (p : Option (Bor (List (Signed Body)))). option_map (λ frames. frames.now) p) is
