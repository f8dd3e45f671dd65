-- A station that is started has an entry, and so a frame that comes counts as said at one.
use Rattle.std.proofs.Common.{◌≡◌, ℕ, ◌+◌, ◌-◌, ◌<◌, Bool, true, false, cond, not, ◌&&◌, ◌||◌, List, [], ◌∷◌, ◌++◌, Option, Some, None}
use Rattle.std.proofs.Common.{Result, Ok, nat_le, nat_lt, length, refl, sym, ◌∙◌, ap, subst, arith}
use Rattle.std.proofs.lemmas.Bool.{and_from, lt-ltb, false≢true}
use Rattle.std.specs.List.{list_any}
use Rattle.message_types.specs.declared.signed.Signed.{Signed}
use Rattle.message_types.specs.declared.body.Body.{Body}
use Rattle.message_forms.specs.declared.refusal.FormRefusal.{FormRefusal}
use Rattle.message_forms.specs.Forms.{frame_at}
use Rattle.quorum_sets.specs.Masters.{has_master}
use Rattle.protocol_rules.specs.Group.{Group}
use Rattle.scenario_file.specs.Reading.{Contents}
use Rattle.agreement.proofs.KnownAsItGrows.{own_none}
use Rattle.history_rules.specs.Events.{Event, Took, Restart, Entry}
use Rattle.history_rules.specs.Keeping.{is_halted}
use Rattle.history_rules.specs.Setup.{Setup, own, stands, is_correct}
use Rattle.world_rules.specs.Scenarios.{setup_of, group_in, masters_in, proxies_in, actors_in}
use Rattle.world_rules.proofs.Fields.{setup_goes_by, group_is}
use Rattle.run_lines.specs.declared.event_line.EventLine.{EventLine}
use Rattle.run_lines.specs.declared.event_line.EventLine.TheVariants as line
use Rattle.printed_history.specs.Histories.{told_by_bytes, standing_event, is_running, entry_next}
use Rattle.printed_history.proofs.NextEntry.{next_of}
use Rattle.station_rules.specs.Coming.{is_repeated, entry_of_line, entry_given, first_entry}
use Rattle.station_rules.specs.Answers.{start_answer}
use Rattle.station_rules.specs.Laws.{StartedHasEntry, StandingFramesAreTaken}

-- who did nothing yet isn't halted
no_call : (calls : List ℕ) → list_any (λ x. nat_le 1 x && nat_le x 0) calls ≡ false
no_call [] = refl
no_call (x ∷ rest) =
    ap (λ b. b || list_any (λ y. nat_le 1 y && nat_le y 0) rest) (by (nat_le 1 x) refl) ∙ no_call rest
  where
    by : (b : Bool) → nat_le 1 x ≡ b → (b && nat_le x 0) ≡ false
    by false is = refl
    by true is = above
      where
        above : nat_le x 0 ≡ false
        above = grind (arith, is)

runs_first : (c : Contents) (actor : ℕ) → actor < actors_in c → is_running (setup_of c) [] actor ≡ true
runs_first c actor there =
    and_from (nat_lt actor ((setup_of c).group.n + (setup_of c).group.clients))
    (not (is_halted (setup_of c) actor (own [] actor)))
    (ap (λ (g : Group). nat_lt actor (g.n + g.clients)) (group_is c)
    ∙ lt-ltb actor ((group_in c).n + (group_in c).clients) there)
    (ap not (ap (is_halted (setup_of c) actor) (own_none actor) ∙ no_call ((setup_of c).failing actor)))

-- a correct actor of whatever role may be started again
restart_fits : (c : Contents) (actor : ℕ) → is_correct (setup_of c) actor ≡ true →
    (setup_of c).fits actor Restart ≡ true
restart_fits c actor correct =
    (setup_goes_by c).fits actor Restart
    ∙ by (nat_lt actor (masters_in c)) (has_master c.settings.intruded actor)
    (nat_lt (actor - masters_in c) (proxies_in c))
    ((λ i. not (nat_lt actor (sym (group_is c) i).n && sym ((setup_goes_by c).intruded actor) i)) ∙ correct)
  where
    by : (m i p : Bool) → not (m && i) ≡ true → cond m (cond i false true) (cond p true true) ≡ true
    by true true p e = absurd (false≢true e)
    by true false p e = refl
    by false i true e = refl
    by false i false e = refl

-- and takes frames
took_fits : (c : Contents) (actor stamp place : ℕ) (frame : Signed Body) →
    (setup_of c).fits actor (Took stamp place frame) ≡ true
took_fits c actor stamp place frame =
    (setup_goes_by c).fits actor (Took stamp place frame)
    ∙ by (nat_lt actor (masters_in c)) (has_master c.settings.intruded actor)
    (nat_lt (actor - masters_in c) (proxies_in c))
  where
    by : (m i p : Bool) → cond m (cond i true true) (cond p true true) ≡ true
    by true true p = refl
    by true false p = refl
    by false i true = refl
    by false i false = refl

-- an event of a running actor's role makes an entry
makes_entry : (w : Setup) (list : List Entry) (actor : ℕ) (event : Event) → is_running w list actor ≡ true →
    w.fits actor event ≡ true → entry_next w list actor (Some event) ≡ Some (next_of w list actor event)
makes_entry w list actor event running fits =
    ap (λ b. cond b (Some (next_of w list actor event)) None)
    (and_from (is_running w list actor) (w.fits actor event) running fits)

pub first_is : (c : Contents) (actor : ℕ) → actor < actors_in c → is_correct (setup_of c) actor ≡ true →
    first_entry c actor [] ≡ Some (next_of (setup_of c) [] actor Restart)
first_is c actor there correct =
    makes_entry (setup_of c) [] actor Restart (runs_first c actor there) (restart_fits c actor correct)

pub started_has_entry : StartedHasEntry
started_has_entry c actor [] there correct =
    let one : 0 < length (next_of (setup_of c) [] actor Restart ∷ []) = omega arith in
    subst (λ (o : Option Entry). 0 < length (start_answer c actor [] o).entries) (sym (first_is c actor there correct))
    one
started_has_entry c actor (x ∷ list) there correct =
    let some : 0 < length (x ∷ (list ++ [])) = omega arith in
    some

pub frames_are_taken : StandingFramesAreTaken
frames_are_taken c actor [] bytes frame some running spelled good new = absurd (omega (arith, some))
frames_are_taken c actor (x ∷ rest) bytes frame some running spelled good new =
    (next_of (setup_of c) (x ∷ rest) actor took, (made, refl))
  where
    took : Event
    took = Took (length rest) 4294967295 frame

    made : entry_given c actor (x ∷ rest) (line.Frame bytes) ≡ Some (next_of (setup_of c) (x ∷ rest) actor took)
    made =
        ap (λ b. cond (not b) (entry_of_line c actor (x ∷ rest) (line.Frame bytes)) None) new
        ∙ ap (λ (r : Result (Signed Body) FormRefusal). entry_next (setup_of c) (x ∷ rest) actor
        (standing_event (setup_of c) (told_by_bytes (length (x ∷ rest)) r))) spelled
        ∙ ap (λ b. entry_next (setup_of c) (x ∷ rest) actor (cond b (Some took) None)) good
        ∙ makes_entry (setup_of c) (x ∷ rest) actor took running (took_fits c actor (length rest) 4294967295 frame)
