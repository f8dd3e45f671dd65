-- An event without where its frame was said does the same, and an entry without its stamp too.
use Rattle.std.proofs.Common.{◌≡◌, ℕ, Option, refl, sym, ◌∙◌, ap}
use Rattle.std.specs.List.{flat_map}
use Rattle.message_types.specs.declared.signed.Signed.{Signed}
use Rattle.message_types.specs.declared.body.Body.{Body}
use Rattle.message_types.specs.Parts.{parts}
use Rattle.protocol_rules.specs.Master.{taken_frames}
use Rattle.field_proxy.specs.Front.{Front}
use Rattle.operator_screen.specs.Board.{Desk}
use Rattle.scenario_file.specs.Reading.{Contents}
use Rattle.history_rules.specs.Events.{Event, Took, Tick, Command, Field, Poll, Cry, Skip, Restart, Entry}
use Rattle.history_rules.specs.Events.{frame_taken, is_tick, is_silent, is_restart}
use Rattle.history_rules.specs.Audit.{parts_taken}
use Rattle.world_rules.specs.Clients.{happenings_of, proxy_says, screen_says}
use Rattle.world_rules.specs.Scenarios.{setup_of}
use Rattle.world_rules.proofs.Fields.{setup_goes_by}
use Rattle.joint_lists.specs.Plain.{without_place, plain}

-- A function of events that doesn't ask where a frame was said, case by case.
same_for : {X : Type 0} (g : Event → X) →
    ((stamp place : ℕ) (frame : Signed Body) → g (Took 0 0 frame) ≡ g (Took stamp place frame)) → (event : Event) →
    g (without_place event) ≡ g event
same_for g same (Took stamp place frame) = same stamp place frame
same_for g same Tick = refl
same_for g same (Command op) = refl
same_for g same (Field area place value) = refl
same_for g same Poll = refl
same_for g same (Cry bytes) = refl
same_for g same Skip = refl
same_for g same Restart = refl

pub taken_plain : (event : Event) → frame_taken (without_place event) ≡ frame_taken event
taken_plain event = same_for frame_taken (λ stamp place frame. refl) event

pub tick_plain : (event : Event) → is_tick (without_place event) ≡ is_tick event
tick_plain event = same_for is_tick (λ stamp place frame. refl) event

pub silent_plain : (event : Event) → is_silent (without_place event) ≡ is_silent event
silent_plain event = same_for is_silent (λ stamp place frame. refl) event

pub restart_plain : (event : Event) → is_restart (without_place event) ≡ is_restart event
restart_plain event = same_for is_restart (λ stamp place frame. refl) event

pub parts_plain : (e : Entry) → parts_taken (plain e) ≡ parts_taken e
parts_plain e = ap (λ (o : Option (Signed Body)). flat_map parts (taken_frames o)) (taken_plain e.event)

happenings_so : (e : Entry) (event : Event) →
    happenings_of (record e { stamp = 0; event = without_place event }) ≡ happenings_of (record e { event = event })
happenings_so e (Took stamp place frame) = refl
happenings_so e Tick = refl
happenings_so e (Command op) = refl
happenings_so e (Field area place value) = refl
happenings_so e Poll = refl
happenings_so e (Cry bytes) = refl
happenings_so e Skip = refl
happenings_so e Restart = refl

pub happenings_plain : (e : Entry) → happenings_of (plain e) ≡ happenings_of e
happenings_plain e = happenings_so e e.event

pub proxy_plain : (s : Front) (event : Event) → proxy_says s (without_place event) ≡ proxy_says s event
proxy_plain s event = same_for (proxy_says s) (λ stamp place frame. refl) event

pub screen_plain : (s : Desk) (event : Event) → screen_says s (without_place event) ≡ screen_says s event
screen_plain s event = same_for (screen_says s) (λ stamp place frame. refl) event

-- so it is one of the same roles
pub fits_plain : (c : Contents) (actor : ℕ) (event : Event) →
    (setup_of c).fits actor (without_place event) ≡ (setup_of c).fits actor event
fits_plain c actor event =
    same_for ((setup_of c).fits actor) (λ stamp place frame. (setup_goes_by c).fits actor (Took 0 0 frame)
    ∙ sym ((setup_goes_by c).fits actor (Took stamp place frame))) event
