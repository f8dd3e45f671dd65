-- What is read is printed as the same text.
use Rattle.std.proofs.Common.{◌≡◌, ℕ, ◌-◌, Bool, true, false, cond, nat_lt, List, [], ◌∷◌, ◌++◌, map, refl, ◌∙◌, ap}
use Rattle.std.specs.Prelude.{codes, decimal, slice_get}
use Rattle.std.specs.List.{All, flat_map}
use Rattle.std.proofs.lemmas.List.{length-map}
use Rattle.message_types.specs.declared.signed.Signed.{Signed}
use Rattle.message_types.specs.declared.body.Body.{Body}
use Rattle.quorum_sets.specs.Masters.{numbers_below, has_master}
use Rattle.scenario_file.specs.declared.actors.Cast.{Cast}
use Rattle.scenario_file.specs.Actors.{actor_name}
use Rattle.scenario_file.specs.Reading.{Contents}
use Rattle.history_rules.specs.Events.{Event, Took, Tick, Command, Field, Poll, Cry, Skip, Restart, Entry}
use Rattle.history_rules.specs.Setup.{Setup, own}
use Rattle.history_rules.specs.Counts.{intruded_masters}
use Rattle.world_rules.specs.Clients.{board_of}
use Rattle.world_rules.specs.Frames.{frames_at_stamp}
use Rattle.world_rules.specs.Scenarios.{setup_of, masters_in, proxies_in, actors_in}
use Rattle.run_lines.specs.Texts.{intruded_text, master_text, proxy_text, screen_text, audit_text, agree_text}
use Rattle.run_lines.specs.Texts.{count_text, said_text, entry_text}
use Rattle.printed_run.specs.Printed.{cast_in, master_lines, client_lines, actor_lines, is_frame, is_said, entry_line}
use Rattle.printed_run.specs.Printed.{actors_text, totals_text, text_of}
use Rattle.printed_laws.specs.AlikeLaws.{ComeToTheSame}
use Rattle.printed_run.specs.Tellable.{entry_as_told, as_told}
use Rattle.printed_laws.specs.RunLaws.{IsHeld}
use Rattle.printed_laws.proofs.ToldIsAlike.{event_as_told, text_told, told_comes_to_the_same}
use Rattle.printed_laws.proofs.FramesStay.{none_there}

-- what each actor came to

master_again : (c : Contents) (xs ys : List Entry) (master : ℕ) → ComeToTheSame c xs ys →
    master_lines c master (own xs master) ≡ master_lines c master (own ys master)
unfolding master_lines
master_again c xs ys master same =
    λ i. cond (has_master c.settings.intruded master) (intruded_text (cast_in c) master)
    (master_text (cast_in c) master (same.views master i) (same.executed master i) (same.halted master i))

client_again : (c : Contents) (xs ys : List Entry) (actor : ℕ) → ComeToTheSame c xs ys →
    client_lines c actor (own xs actor) ≡ client_lines c actor (own ys actor)
unfolding client_lines
client_again c xs ys actor same =
    let client : ℕ = actor - masters_in c in
    let fronts = same.fronts client actor in
    let desks = same.desks client actor in
    λ i. cond (nat_lt client (proxies_in c)) (proxy_text (cast_in c) actor (fronts i).writes (same.halted actor i))
    (screen_text (cast_in c) actor (board_of (desks i)) (same.halted actor i))

actor_again : (c : Contents) (xs ys : List Entry) (actor : ℕ) → ComeToTheSame c xs ys →
    actor_lines c actor (own xs actor) ≡ actor_lines c actor (own ys actor)
actor_again c xs ys actor same = λ i. cond (nat_lt actor (masters_in c)) (master_again c xs ys actor same i)
    (client_again c xs ys actor same i)

actors_again : (c : Contents) (xs ys : List Entry) → ComeToTheSame c xs ys → actors_text c xs ≡ actors_text c ys
actors_again c xs ys same = λ i. flat_map (λ actor. actor_again c xs ys actor same i) (numbers_below (actors_in c))

totals_again : (c : Contents) (xs ys : List Entry) → ComeToTheSame c xs ys →
    totals_text (setup_of c) xs ≡ totals_text (setup_of c) ys
totals_again c xs ys same =
    λ i. audit_text (same.forgeries i) (same.digests i) (intruded_masters (setup_of c)) (setup_of c).group.f
    ++ agree_text (same.agreement i)

-- the lines of the entries

-- a frame that is named by where it was said is so again, and one that is told by its bytes too
took_again : (w : Setup) (history told : List Entry) (stamp at place : ℕ) (frame : Signed Body) (b : Bool) →
    All IsHeld history
    → ((s : ℕ) → frames_at_stamp w told s ≡ frames_at_stamp w history s) →
    is_frame frame (slice_get (frames_at_stamp w history at) place) ≡ b
    → is_said w told (event_as_told b stamp (Took at place frame)) ≡ b
took_again w history told stamp at place frame true held same is =
    ap (λ (fs : List (Signed Body)). is_frame frame (slice_get fs place)) (same at) ∙ is
took_again w history told stamp at place frame false held same is =
    ap (λ (fs : List (Signed Body)). is_frame frame (slice_get fs 4294967295)) (same (stamp - 1))
    ∙ ap (is_frame frame) (none_there w history (stamp - 1) held)

said_again : (w : Setup) (history told : List Entry) (stamp : ℕ) (event : Event) → All IsHeld history →
    ((s : ℕ) → frames_at_stamp w told s ≡ frames_at_stamp w history s)
    → is_said w told (event_as_told (is_said w history event) stamp event) ≡ is_said w history event
said_again w history told stamp (Took at place frame) held same =
    took_again w history told stamp at place frame (is_said w history (Took at place frame)) held same refl
said_again w history told stamp Tick held same = refl
said_again w history told stamp (Command op) held same = refl
said_again w history told stamp (Field area place value) held same = refl
said_again w history told stamp Poll held same = refl
said_again w history told stamp (Cry bytes) held same = refl
said_again w history told stamp Skip held same = refl
said_again w history told stamp Restart held same = refl

-- the line of an entry, by its event's text
line_with : Cast → Entry → List ℕ → List ℕ
line_with cast e text = decimal e.stamp ++ codes " " ++ actor_name cast e.actor ++ codes " " ++ text
    ++ said_text e.said ++ codes "\n"

same_line : (cast : Cast) (w : Setup) (history : List Entry) (e : Entry) →
    entry_text cast (is_said w history e.event) (entry_as_told w history e) ≡ entry_text cast
    (is_said w history e.event) e
unfolding entry_text line_with
same_line cast w history e = ap (line_with cast e) (text_told (is_said w history e.event) e.stamp e.event)

entry_again : (c : Contents) (history told : List Entry) (e : Entry) → All IsHeld history →
    ((s : ℕ) → frames_at_stamp (setup_of c) told s ≡ frames_at_stamp (setup_of c) history s)
    → entry_line c told (entry_as_told (setup_of c) history e) ≡ entry_line c history e
entry_again c history told e held same =
    ap (λ (b : Bool). entry_text (cast_in c) b (entry_as_told (setup_of c) history e))
    (said_again (setup_of c) history told e.stamp e.event held same)
    ∙ same_line (cast_in c) (setup_of c) history e

entries_again : (c : Contents) (history told entries : List Entry) → All IsHeld history →
    ((s : ℕ) → frames_at_stamp (setup_of c) told s ≡ frames_at_stamp (setup_of c) history s)
    → flat_map (entry_line c told) (map (entry_as_told (setup_of c) history) entries) ≡ flat_map
    (entry_line c history) entries
entries_again c history told [] held same = refl
entries_again c history told (e ∷ entries) held same = λ i. entry_again c history told e held same i
    ++ entries_again c history told entries held same i

-- the whole text by its parts
text_by : List ℕ → List ℕ → ℕ → List ℕ → List ℕ
text_by actors totals count entries = codes "spire 1\n" ++ actors ++ totals ++ count_text count ++ entries

pub text_again : (c : Contents) (history : List Entry) → All IsHeld history →
    text_of c (as_told c history) ≡ text_of c history
unfolding text_of text_by
text_again c history held =
    let same = told_comes_to_the_same c history history in
    λ i. text_by (actors_again c (as_told c history) history same i)
    (totals_again c (as_told c history) history same i) (length-map history (entry_as_told (setup_of c) history) i)
    (entries_again c history (as_told c history) history held same.frames i)
