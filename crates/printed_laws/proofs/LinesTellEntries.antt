-- The lines of a history's entries tell the entries in turn.
use Rattle.std.proofs.Common.{◌≡◌, ℕ, zero, suc, ◌+◌, ◌-◌, ◌<◌, Bool, true, false, not, nat_lt, List, [], ◌∷◌, ◌++◌}
use Rattle.std.proofs.Common.{Option, Some, None, Result, Ok, length, map, append-nil, append_assoc, refl, sym, ◌∙◌}
use Rattle.std.proofs.Common.{ap, subst, arith}
use Rattle.std.specs.Prelude.{slice_get}
use Rattle.std.specs.List.{All}
use Rattle.std.proofs.lemmas.Bool.{and_from, lt-ltb}
use Rattle.std.proofs.lemmas.Bool.Decides.{Decides-eqb}
use Rattle.std.proofs.lemmas.List.{length-map, map-append}
use Rattle.std.proofs.lemmas.List.Elements.{All-head, All-tail}
use Rattle.message_types.specs.declared.signed.Signed.{Signed}
use Rattle.message_types.specs.declared.body.Body.{Body}
use Rattle.message_types.specs.Texts.{frame_text}
use Rattle.message_types.specs.Spelling.{has_spelling}
use Rattle.message_forms.specs.declared.refusal.FormRefusal.{FormRefusal}
use Rattle.message_forms.specs.Forms.{frame_at}
use Rattle.message_forms.proofs.FrameLaws.{frame_back}
use Rattle.scenario_file.specs.Reading.{Contents}
use Rattle.history_rules.specs.Events.{Event, Took, Tick, Command, Field, Poll, Cry, Skip, Restart, Entry}
use Rattle.history_rules.specs.Setup.{Setup, own}
use Rattle.history_rules.specs.Keeping.{is_halted}
use Rattle.history_rules.specs.Legal.{TakesWell, IsLegalEntry, IsLegal}
use Rattle.world_rules.specs.Frames.{frames_at_stamp}
use Rattle.world_rules.specs.Scenarios.{setup_of}
use Rattle.printed_run.specs.Printed.{is_frame, is_said}
use Rattle.run_lines.specs.declared.entry_line.EntryLine.{EntryLine}
use Rattle.run_lines.specs.Runs.{Reading}
use Rattle.printed_history.specs.Histories.{told_by_bytes, said_there, event_from, is_running, entries_from}
use Rattle.printed_history.specs.Histories.{entry_from, not_legal}
use Rattle.printed_laws.specs.Lines.{took_line, event_line, line_read}
use Rattle.printed_laws.proofs.BareEvents.{fits_bare}
use Rattle.printed_run.specs.Tellable.{CanBeTold, entry_as_told}
use Rattle.printed_laws.proofs.ToldIsAlike.{event_as_told, plain_told, stands_told, told_comes_to_the_same}
use Rattle.printed_laws.proofs.FramesStay.{frame_found, frames_before}
use Rattle.printed_laws.proofs.ToldComesNext.{TellsNext, entry_comes, own_kinds}
use Rattle.history_rules.proofs.Frames.{spelled_of_standing}

bytes_tell : (many stamp : ℕ) (read : Result (Signed Body) FormRefusal) (frame : Signed Body) → many ≡ stamp →
    0 < many → read ≡ Ok frame
    → told_by_bytes many read ≡ Some (Took (stamp - 1) 4294967295 frame)
bytes_tell zero stamp read frame same some is = absurd (omega arith)
bytes_tell (suc before) stamp read frame same some is =
    let last : before ≡ stamp - 1 = omega (arith, same) in
    ap (told_by_bytes (suc before)) is ∙ ap (λ (n : ℕ). Some (Took n 4294967295 frame)) last

-- the frame of a line, by where it was said or by its bytes
took_told : (w : Setup) (history before : List Entry) (stamp at place : ℕ) (frame : Signed Body) (b : Bool) →
    length before ≡ stamp → at < stamp
    → frames_at_stamp w history at ≡ frames_at_stamp w before at → has_spelling frame ≡ true →
    CanBeTold b (Took at place frame)
    → is_frame frame (slice_get (frames_at_stamp w history at) place) ≡ b
    → event_from w before (took_line b at place frame) ≡ Some (event_as_told b stamp (Took at place frame))
took_told w history before stamp at place frame true many less same spelled_of_standing can is =
    ap (λ (fs : List (Signed Body)). said_there at place (slice_get fs place)) (sym same)
    ∙ ap (said_there at place) (frame_found frame (slice_get (frames_at_stamp w history at) place) is)
took_told w history before stamp at place frame false many less same spelled_of_standing can is =
    bytes_tell (length before) stamp (frame_at (frame_text frame)) frame many (omega arith)
    (frame_back frame (frame_text frame) can.0 spelled_of_standing refl)

event_told : (w : Setup) (history before : List Entry) (stamp : ℕ) (event : Event) → length before ≡ stamp →
    TakesWell w stamp event → CanBeTold (is_said w history event) event
    → ((at : ℕ) → at < stamp → frames_at_stamp w history at ≡ frames_at_stamp w before at)
    → event_from w before (event_line (is_said w history event) event) ≡ Some
    (event_as_told (is_said w history event) stamp event)
event_told w history before stamp (Took at place frame) many takes fits same =
    took_told w history before stamp at place frame (is_said w history (Took at place frame))
    many takes.1 (same at takes.1)
    (spelled_of_standing w frame takes.0) fits refl
event_told w history before stamp Tick many takes fits same = refl
event_told w history before stamp (Command op) many takes fits same = refl
event_told w history before stamp (Field area place value) many takes fits same = refl
event_told w history before stamp Poll many takes fits same = refl
event_told w history before stamp (Cry bytes) many takes fits same = refl
event_told w history before stamp Skip many takes fits same = refl
event_told w history before stamp Restart many takes fits same = refl

-- the same role, with where the frame was said or without
fits_told : (c : Contents) (actor stamp : ℕ) (b : Bool) (event : Event) → (setup_of c).fits actor event ≡ true →
    (setup_of c).fits actor (event_as_told b stamp event) ≡ true
fits_told c actor stamp b event fits =
    sym (fits_bare c actor (event_as_told b stamp event)) ∙ ap ((setup_of c).fits actor) (plain_told b stamp event)
    ∙ fits_bare c actor event ∙ fits

-- the entries before, as they are told
abbrev told_before : Contents → List Entry → List Entry → List Entry
told_before c history before = map (entry_as_told (setup_of c) history) before

runs_told : (c : Contents) (history before : List Entry) (e : Entry) → IsLegalEntry (setup_of c) before e →
    is_running (setup_of c) (told_before c history before) e.actor ≡ true
runs_told c history before e legal =
    and_from (nat_lt e.actor ((setup_of c).group.n + (setup_of c).group.clients))
    (not (is_halted (setup_of c) e.actor (own (told_before c history before) e.actor)))
    (lt-ltb e.actor ((setup_of c).group.n + (setup_of c).group.clients) legal.actor)
    (ap not ((told_comes_to_the_same c history before).halted e.actor ∙ legal.running))

long_told : (c : Contents) (history before : List Entry) (e : Entry) → IsLegalEntry (setup_of c) before e →
    length (told_before c history before) ≡ e.stamp
long_told c history before e legal = length-map before (entry_as_told (setup_of c) history) ∙ sym legal.stamp

same_frames : (c : Contents) (history before rest : List Entry) (stamp at : ℕ) → history ≡ before ++ rest →
    length before ≡ stamp → at < stamp
    → frames_at_stamp (setup_of c) history at ≡ frames_at_stamp (setup_of c) (told_before c history before) at
same_frames c history before rest stamp at whole many less =
    ap (λ (es : List Entry). frames_at_stamp (setup_of c) es at) whole
    ∙ frames_before (setup_of c) before rest at (omega (arith, many, less))
    ∙ sym ((told_comes_to_the_same c history before).frames at)

tells_next : (c : Contents) (history before rest : List Entry) (e : Entry) → history ≡ before ++ rest →
    IsLegalEntry (setup_of c) before e → CanBeTold (is_said (setup_of c) history e.event) e.event
    → TellsNext (setup_of c) (told_before c history before) (line_read (is_said (setup_of c) history e.event) e) e.actor
    (event_as_told (is_said (setup_of c) history e.event) e.stamp e.event) e.said
tells_next c history before rest e whole legal can = record {
  who = refl;
  now = (Decides-eqb e.stamp (length (told_before c history before))).1 (sym (long_told c history before e legal));
  running = runs_told c history before e legal;
  what = event_told (setup_of c) history (told_before c history before) e.stamp e.event
      (long_told c history before e legal)
      (subst (λ (n : ℕ). TakesWell (setup_of c) n e.event) (sym legal.stamp) legal.taken) can
      (λ at less. same_frames c history before rest e.stamp at whole (sym legal.stamp) less);
  stand = stands_told (setup_of c) (length before) e.stamp (is_said (setup_of c) history e.event) e.event legal.taken;
  role = fits_told c e.actor e.stamp (is_said (setup_of c) history e.event) e.event legal.role;
  answer = (told_comes_to_the_same c history before).words e.actor
      (event_as_told (is_said (setup_of c) history e.event) e.stamp e.event) e.event
      (plain_told (is_said (setup_of c) history e.event) e.stamp e.event) ∙ sym legal.said;
  kinds = own_kinds e.said;
}

-- the entry that a line tells is the entry as it is told
with_stamp : Event → Entry → ℕ → Entry
with_stamp event e stamp = record { stamp = stamp; actor = e.actor; event = event; said = e.said }

next_told : (c : Contents) (history before rest : List Entry) (e : Entry) → history ≡ before ++ rest →
    IsLegalEntry (setup_of c) before e → CanBeTold (is_said (setup_of c) history e.event) e.event
    → entry_from (setup_of c) (told_before c history before) (line_read (is_said (setup_of c) history e.event) e) ≡
    Some (entry_as_told (setup_of c) history e)
unfolding with_stamp
next_told c history before rest e whole legal can =
    let event : Event = event_as_told (is_said (setup_of c) history e.event) e.stamp e.event in
    entry_comes (setup_of c) (told_before c history before) (line_read (is_said (setup_of c) history e.event) e)
    e.actor event e.said (tells_next c history before rest e whole legal can)
    ∙ ap (λ (n : ℕ). Some (with_stamp event e n)) (long_told c history before e legal)

told_on : Setup → List Entry → List EntryLine → Option Entry → Reading (List Entry)
told_on w before rest o = elim o [ None ↦ not_legal (length before) | Some e ↦ entries_from w (before ++ e ∷ []) rest ]

pub entries_told : (c : Contents) (history before rest : List Entry) → IsLegal (setup_of c) history →
    history ≡ before ++ rest → All (λ e. CanBeTold (is_said (setup_of c) history e.event) e.event) rest
    → entries_from (setup_of c) (told_before c history before)
    (map (λ e. line_read (is_said (setup_of c) history e.event) e) rest) ≡ Ok (told_before c history history)
unfolding told_on
entries_told c history before [] legal whole can = ap (λ (es : List Entry). Ok (told_before c history es))
    (sym (append-nil before) ∙ sym whole)
entries_told c history before (e ∷ rest) legal whole can =
    let told : Entry → Type 0 = λ x. CanBeTold (is_said (setup_of c) history x.event) x.event in
    let one = next_told c history before (e ∷ rest) e whole
    (legal.entries before e (record { after = rest; whole = whole })) (All-head told e rest can) in
    let lines : List EntryLine = map (λ x. line_read (is_said (setup_of c) history x.event) x) rest in
    ap (told_on (setup_of c) (told_before c history before) lines) one
    ∙ ap (λ (es : List Entry). entries_from (setup_of c) es lines)
    (sym (map-append (entry_as_told (setup_of c) history) before (e ∷ [])))
    ∙ entries_told c history (before ++ e ∷ []) rest legal (whole ∙ sym (append_assoc before (e ∷ []) rest))
    (All-tail told e rest can)
