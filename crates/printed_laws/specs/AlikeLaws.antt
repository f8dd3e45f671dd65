-- Histories that tell the same, but for where the frames that they take were said. (This project's own.)
use Rattle.std.specs.Prelude.{◌≡◌, ℕ, List, map}
use Rattle.scenario_file.specs.Reading.{Contents}
use Rattle.history_rules.specs.Events.{Event, Took, Entry}
use Rattle.history_rules.specs.Setup.{own}
use Rattle.history_rules.specs.Keeping.{is_halted}
use Rattle.history_rules.specs.Legal.{says, view_by, executions}
use Rattle.history_rules.specs.Counts.{forged, alike}
use Rattle.world_rules.specs.Clients.{front_of, desk_of}
use Rattle.world_rules.specs.Frames.{frames_at_stamp}
use Rattle.world_rules.specs.Headline.{agrees}
use Rattle.world_rules.specs.Scenarios.{masters_in, setup_of}

-- an event without where its frame was said
abbrev pub without_place : Event → Event
without_place (Took stamp place frame) = Took 0 0 frame
without_place event = event

abbrev pub bare : Entry → Entry
bare e = record e { event = without_place e.event }

-- they tell the same, but for that
abbrev pub AreAlike : List Entry → List Entry → Type 0
AreAlike xs ys = map bare xs ≡ map bare ys

-- What the actors say after two histories, and what they have come to, is the same.
pub record ComeToTheSame (c : Contents) (xs ys : List Entry) : Type 0 where
  pub words : (actor : ℕ) (event other : Event) → without_place event ≡ without_place other →
      says (setup_of c) xs actor event ≡ says (setup_of c) ys actor other
  pub halted : (actor : ℕ) → is_halted (setup_of c) actor (own xs actor) ≡ is_halted (setup_of c) actor (own ys actor)
  pub frames : (stamp : ℕ) → frames_at_stamp (setup_of c) xs stamp ≡ frames_at_stamp (setup_of c) ys stamp
  pub views : (master : ℕ) → view_by (setup_of c) xs master ≡ view_by (setup_of c) ys master
  pub executed : (master : ℕ) → executions (setup_of c) xs master ≡ executions (setup_of c) ys master
  pub fronts : (client actor : ℕ) → front_of (masters_in c) c.settings.f c.plant client (own xs actor) ≡ front_of
      (masters_in c) c.settings.f c.plant client (own ys actor)
  pub desks : (client actor : ℕ) → desk_of (masters_in c) c.settings.f client (own xs actor) ≡ desk_of (masters_in c)
      c.settings.f client (own ys actor)
  pub forgeries : forged (setup_of c) xs ≡ forged (setup_of c) ys
  pub digests : alike (setup_of c).group xs ≡ alike (setup_of c).group ys
  pub agreement : agrees (setup_of c) xs ≡ agrees (setup_of c) ys

abbrev pub AlikeComeToTheSame : Type 0
AlikeComeToTheSame = (c : Contents) (xs ys : List Entry) → AreAlike xs ys → ComeToTheSame c xs ys
