-- Whether a frame is the one that was said at a stamp and a place: in a cry, in an actor's frames, or nowhere.
use Rattle.std.proofs.Common.{◌≡◌, ℕ, zero, suc, ◌<◌, Bool, true, false, nat_lt, List, [], ◌∷◌}
use Rattle.std.proofs.Common.{◌++◌, Option, None, Some, Result, length, get_or, inl, inr, map, take, drop}
use Rattle.std.proofs.Common.{refl, sym, ◌∙◌, ap, subst, arith}
use Rattle.std.specs.List.{slice_get}
use Rattle.message_types.specs.declared.signed.Signed.{Signed}
use Rattle.message_types.specs.declared.body.Body.{Body}
use Rattle.protocol_rules.specs.Group.{Group}
use Rattle.scenario_file.specs.Reading.{Contents}
use Rattle.history_rules.specs.Events.{Cry, Entry}
use Rattle.history_rules.specs.Setup.{Setup, own, signed_from, leaves_used}
use Rattle.history_rules.specs.Legal.{IsLegal}
use Rattle.history_laws.proofs.BenchLists.{intruded_say_nothing}
use Rattle.world_rules.specs.Frames.{cried, frames_of, frames_at_stamp}
use Rattle.world_rules.specs.Scenarios.{setup_of, masters_in, fits_in}
use Rattle.world_rules.proofs.Fields.{setup_goes_by, group_is}
use Rattle.world_entries.specs.declared.entry.Entry.{Entry as KeptEntry}
use Rattle.plain_lists.specs.declared.want.Want.{Want}
use Rattle.std.specs.Result.{IfOk}
use Rattle.world_entries.specs.declared.entry.Event.{Event as KeptEvent}
use Rattle.world_entries.specs.declared.entry.Event.TheVariants as kept
use Rattle.world_entries.specs.Entries.{entry_of, event_of}
use Rattle.history_laws.proofs.Same.{signed_test, body_test}
use Rattle.history_rules.specs.Sameness.{is_same_signed, is_same_body}
use Rattle.std.proofs.lemmas.Bool.{true≢false, lt-ltb, ltb-true}
use Rattle.std.proofs.lemmas.Bool.Decides.{same_from_decides}
use Rattle.std.proofs.lemmas.Option.{slice_get-get_or, slice_get_cases}
use Rattle.std.specs.Bool.{Decides}
use Rattle.world_history.proofs.IntrudedEntry.{who_cries}
use Rattle.printed_run.specs.Printed.{is_frame}
use Rattle.printed_run.proofs.FramesOfEntries.{stands_at}

-- the comparison of a frame with the one that was said
pub same_frame : (same : Bool) (said frame : Signed Body) → Decides same (said ≡ frame) →
    same ≡ is_frame frame (Some said)
same_frame same said frame tells = same_from_decides same (is_same_signed is_same_body said frame) tells
    (signed_test is_same_body body_test said frame)

-- a cry has one frame at most, in its first place
pub cry_spells : (bytes : List ℕ) (said frame : Signed Body) (place : ℕ) (same : Bool) → place ≡ 0 →
    said ∷ [] ≡ cried (Cry bytes) → Decides same (said ≡ frame)
    → same ≡ is_frame frame (slice_get (cried (Cry bytes)) place)
cry_spells bytes said frame place same first is tells =
    same_frame same said frame tells
    ∙ ap (λ (n : ℕ). is_frame frame (slice_get (said ∷ []) n)) (sym first)
    ∙ ap (λ (fs : List (Signed Body)). is_frame frame (slice_get fs place)) is

pub cry_spells_none : (bytes : List ℕ) (frame : Signed Body) (place : ℕ) → [] ≡ cried (Cry bytes) →
    false ≡ is_frame frame (slice_get (cried (Cry bytes)) place)
cry_spells_none bytes frame place is = ap (λ (fs : List (Signed Body)). is_frame frame (slice_get fs place)) is

pub kept_there : (xs : List KeptEntry) (i : ℕ) (e : KeptEntry) → slice_get xs i ≡ Some e →
    slice_get (map entry_of xs) i ≡ Some (entry_of e)
kept_there [] i e is = absurd (cc)
kept_there (x ∷ xs) zero e is = let same : x ≡ e = cc in ap (λ (k : KeptEntry). Some (entry_of k)) same
kept_there (x ∷ xs) (suc i) e is = kept_there xs i e is

pub none_kept : (xs : List KeptEntry) (i : ℕ) → slice_get xs i ≡ None → slice_get (map entry_of xs) i ≡ None
none_kept [] i is = refl
none_kept (x ∷ xs) zero is = absurd (cc)
none_kept (x ∷ xs) (suc i) is = none_kept xs i is

-- the entry at a place that is one of the list's, and none at another
pub kept_found : (xs : List KeptEntry) (i : ℕ) (e : KeptEntry) → true ≡ nat_lt i (length xs) → e ≡ get_or xs i e →
    slice_get xs i ≡ Some e
kept_found xs i e below is = slice_get-get_or xs i e (ltb-true i (length xs) (sym below)) ∙ ap Some (sym is)

pub kept_missing : (xs : List KeptEntry) (i : ℕ) → false ≡ nat_lt i (length xs) → slice_get xs i ≡ None
kept_missing xs i beyond =
    elim (slice_get_cases xs i).1 [
      | inl inside ↦ absurd (true≢false (sym (lt-ltb i (length xs) inside.1) ∙ sym beyond))
      | inr past ↦ past.1
    ]

-- at a stamp that no entry has, no frame was said
pub none_said : (w : Setup) (history : List Entry) (stamp place : ℕ) (frame : Signed Body) →
    slice_get history stamp ≡ None
    → false ≡ is_frame frame (slice_get (frames_at_stamp w history stamp) place)
unfolding frames_at_stamp
none_said w history stamp place frame is = sym (ap (λ (o : Option Entry). is_frame frame (slice_get (at o) place)) is)
  where
    at : Option Entry → List (Signed Body)
    at o = elim o [ None ↦ [] | Some e ↦ frames_of w (own (take stamp history) e.actor) e ]

-- The frames of a cry are what its bytes spell.
pub frames_of_cry : (c : Contents) (history : List Entry) (stamp : ℕ) (e : Entry) (bytes : List ℕ) →
    IsLegal (setup_of c) history → slice_get history stamp ≡ Some e
    → e.event ≡ Cry bytes → cried (Cry bytes) ≡ frames_at_stamp (setup_of c) history stamp
unfolding frames_at_stamp
frames_of_cry c history stamp e bytes legal is cries =
    let before : List Entry = take stamp history in
    let entry = legal.entries before e record {
      after = drop (suc stamp) history;
      whole =
          stands_at history stamp e is;
    } in
    let fits : fits_in c e.actor (Cry bytes) ≡ true = sym ((setup_goes_by c).fits e.actor (Cry bytes))
    ∙ ap ((setup_of c).fits e.actor) (sym cries) ∙ entry.role in
    let who = who_cries c e.actor bytes fits in
    let low : e.actor < masters_in c = grind (arith, who.0) in
    let master : e.actor < (setup_of c).group.n = subst (λ (g : Group). e.actor < g.n) (sym (group_is c)) low in
    let silent : e.said ≡ [] = entry.said ∙ intruded_say_nothing (setup_of c) e.actor (own before e.actor)
    e.event master ((setup_goes_by c).intruded e.actor ∙ who.1) in
    sym (ap (λ (o : Option Entry). at o) is
    ∙ ap (λ (said : List Body). signed_from (setup_of c) e.actor (leaves_used (setup_of c) (own before e.actor))
    said 0 said ++ cried e.event) silent
    ∙ ap cried cries)
  where
    at : Option Entry → List (Signed Body)
    at o = elim o [ None ↦ [] | Some e ↦ frames_of (setup_of c) (own (take stamp history) e.actor) e ]

-- an event of another kind cries nothing
pub silent_event : (event : KeptEvent) → ((bytes : List ℕ) → event ≡ kept.Cry bytes → ⊥) → cried (event_of event) ≡ []
silent_event (kept.Took stamp place frame) none = refl
silent_event kept.Tick none = refl
silent_event (kept.Command op) none = refl
silent_event (kept.Field area place value) none = refl
silent_event kept.Poll none = refl
silent_event (kept.Cry bytes) none = absurd (none bytes refl)
silent_event kept.Skip none = refl
silent_event kept.Restart none = refl

-- whether a cry's frame is the one at a stamp
pub cry_answered : (c : Contents) (xs : List KeptEntry) (stamp place : ℕ) (e : KeptEntry) (bytes : List ℕ)
    (frame : Signed Body) (told : Result Bool Want) → IsLegal (setup_of c) (map entry_of xs)
    → slice_get xs stamp ≡ Some e → e.event ≡ kept.Cry bytes →
    IfOk told (λ yes. yes ≡ is_frame frame (slice_get (cried (Cry bytes)) place))
    → IfOk told (λ yes. yes ≡ is_frame frame (slice_get (frames_at_stamp (setup_of c) (map entry_of xs) stamp) place))
cry_answered c xs stamp place e bytes frame told legal is cries tells =
    subst (λ (fs : List (Signed Body)). IfOk told (λ yes. yes ≡ is_frame frame (slice_get fs place)))
    (frames_of_cry c (map entry_of xs) stamp (entry_of e) bytes legal (kept_there xs stamp e is) (ap event_of cries))
    tells
