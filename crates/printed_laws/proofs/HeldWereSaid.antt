-- An event more in a play: each frame that can be taken was still said where it is held from.
use Rattle.std.proofs.Common.{◌≡◌, inl, inr, ℕ, ◌<◌, true, List, [], ◌∷◌, ◌++◌}
use Rattle.std.proofs.Common.{Some, length, map, nat_lt, refl, sym, ◌∙◌, subst}
use Rattle.std.proofs.lemmas.Bool.{and_parts, ltb-true}
use Rattle.plain_lists.proofs.Members.{none_in, in_cases, in_cons_cases}
use Rattle.plain_lists.specs.Lists.{IsIn}
use Rattle.quorum_sets.specs.Masters.{has_master}
use Rattle.protocol_rules.specs.Group.{Group}
use Rattle.history_rules.specs.Events.{Event, Took, Tick, Command, Field, Poll, Cry, Skip, Restart, Entry}
use Rattle.history_rules.specs.Setup.{Setup}
use Rattle.world_rules.specs.Frames.{cried}
use Rattle.world_rules.specs.Scenarios.{setup_of, masters_in}
use Rattle.world_rules.proofs.Fields.{group_is, setup_goes_by}
use Rattle.world_history.specs.State.{entry_at}
use Rattle.script_laws.specs.Accepted.{is_intruded}
use Rattle.run_scripts.specs.declared.mail.Held.{Held}
use Rattle.run_scripts.specs.declared.mail.Post.{Post}
use Rattle.run_scripts.specs.Mail.{post_to}
use Rattle.run_scripts.specs.Making.{Given, Making, bench_at}
use Rattle.printed_laws.proofs.SaidThere.{IsPosted, WasSaid, posted_on, said_on}
use Rattle.printed_laws.proofs.PostedWereSaid.{post_posted, cry_posted}
use Rattle.world_history.proofs.KeptGrows.{event_at}
use Rattle.run_scripts.proofs.PlayKeeps.{Keeps, TakesAs, with_event}

-- the frame was said where it is held from
abbrev IsHeldFrom : Setup → List Entry → Held → Type 0
IsHeldFrom w history h = IsPosted w history h.stamp h.place h.frame

-- each frame that was taken was said where its event tells
abbrev pub AllSaid : Setup → List Entry → Type 0
AllSaid w history = (e : Entry) → IsIn e history → WasSaid w history e.event

-- an entry more
all_said : (w : Setup) (history later : List Entry) (e : Entry) → later ≡ history ++ e ∷ [] →
    ((x : Entry) → IsIn x history → WasSaid w history x.event) → WasSaid w history e.event
    → (x : Entry) → IsIn x later → WasSaid w later x.event
all_said w history later e grown before now x among =
    elim (in_cases history (subst (λ (es : List Entry). IsIn x es) grown among)) [
      | inl old ↦ said_on w history (e ∷ []) later x.event grown (before x old)
      | inr last ↦ elim (in_cons_cases last) [
        | inl same ↦ said_on w history (e ∷ []) later x.event grown
            (subst (λ (y : Entry). WasSaid w history y.event) (sym same) now)
        | inr none ↦ absurd (none_in none)
      ]
    ]

-- an event that takes what was said where it is held from
said_as : (w : Setup) (history : List Entry) (event : Event) → TakesAs (IsHeldFrom w) history event →
    WasSaid w history event
said_as w history (Took stamp place frame) held = held
said_as w history Tick held = tt
said_as w history (Command op) held = tt
said_as w history (Field area place value) held = tt
said_as w history Poll held = tt
said_as w history (Cry bytes) held = tt
said_as w history Skip held = tt
said_as w history Restart held = tt

cry_is_posted : (g : Given) (m : Making) (master : ℕ) (to bytes : List ℕ) (p : Post) (h : Held) →
    is_intruded g.scenario master ≡ true
    → IsIn p (map (post_to to (setup_of g.scenario) master (length m.history) 0) (cried (Cry bytes))) → p.held ≡ Some h
    → IsHeldFrom (setup_of g.scenario)
    (m.history ++ entry_at (bench_at g m.history master) (length m.history) (Cry bytes) ∷ []) h
unfolding bench_at
cry_is_posted g m master to bytes p h intruded among is =
    let both = and_parts (nat_lt master (masters_in g.scenario)) (has_master g.scenario.settings.intruded master)
    intruded in
    let low : master < (setup_of g.scenario).group.n = subst (λ (x : Group). master < x.n) (sym (group_is g.scenario))
    (ltb-true master (masters_in g.scenario) both.0) in
    cry_posted g.scenario m.history (bench_at g m.history master) to bytes p h refl low
    ((setup_goes_by g.scenario).intruded master ∙ both.1) among is

said_with : (g : Given) (m : Making) (actor : ℕ) (event : Event) → AllSaid (setup_of g.scenario) m.history →
    WasSaid (setup_of g.scenario) m.history event → AllSaid (setup_of g.scenario) (with_event g m actor event)
said_with g m actor event before said =
    let w = setup_of g.scenario in
    all_said w m.history (with_event g m actor event)
    (entry_at (bench_at g m.history actor) (length m.history) event) refl before
    (subst (λ (ev : Event). WasSaid w m.history ev)
    (sym (event_at (bench_at g m.history actor) (length m.history) event)) said)

-- so each entry of a play keeps it
pub told_keeps : (g : Given) → Keeps g (AllSaid (setup_of g.scenario)) (IsHeldFrom (setup_of g.scenario))
told_keeps g = record {
  goes_on = λ history more h held. posted_on (setup_of g.scenario) history more (history ++ more)
      h.stamp h.place h.frame refl held;
  entry = λ m actor event kept sound takes. said_with g m actor event kept.good
      (said_as (setup_of g.scenario) m.history event takes);
  posted = λ m actor event kept good p h among is. post_posted g m.history actor event p h kept.sound.legal among is;
  cry = λ m master s bytes kept sound cries. said_with g m master (Cry bytes) kept.good tt;
  cry_posted = λ m master s bytes kept cries p h among is. cry_is_posted g m master s.to bytes p h cries.intruded
      among is;
}
