-- Histories that are alike come to the same.
use Rattle.std.proofs.Common.{◌≡◌, ℕ, List, map, sym, ◌∙◌, ap}
use Rattle.scenario_file.specs.Reading.{Contents}
use Rattle.history_rules.specs.Events.{Event, Entry}
use Rattle.history_rules.specs.Setup.{own}
use Rattle.history_rules.specs.Keeping.{is_halted}
use Rattle.history_rules.specs.Legal.{says, says_in, view_in, executions}
use Rattle.history_rules.specs.Counts.{forged, alike}
use Rattle.world_rules.specs.Clients.{front_of, desk_of}
use Rattle.world_rules.specs.Frames.{frames_at_stamp}
use Rattle.world_rules.specs.Headline.{agrees}
use Rattle.world_rules.specs.Scenarios.{masters_in, setup_of}
use Rattle.printed_laws.specs.AlikeLaws.{without_place, bare, AreAlike, AlikeComeToTheSame}
use Rattle.printed_laws.proofs.BareLists.{own_bare, halted_bare, view_bare, front_bare, desk_bare}
use Rattle.printed_laws.proofs.BareWords.{says_bare}
use Rattle.printed_laws.proofs.BareFrames.{frames_bare}
use Rattle.printed_laws.proofs.BareAudits.{forged_bare, alike_bare, executions_bare, agrees_bare}

-- What bare histories determine is the same of both.
same_of : {X : Type 0} (g : List Entry → X) → ((history : List Entry) → g (map bare history) ≡ g history) →
    (xs ys : List Entry) → AreAlike xs ys → g xs ≡ g ys
same_of g bares xs ys same = sym (bares xs) ∙ ap g same ∙ bares ys

-- the same of an actor's own lists
own_same : {X : Type 0} (g : List Entry → X) (actor : ℕ) → ((list : List Entry) → g (map bare list) ≡ g list) →
    (xs ys : List Entry) → AreAlike xs ys
    → g (own xs actor) ≡ g (own ys actor)
own_same g actor bares xs ys same =
    same_of (λ history. g (own history actor)) (λ history. ap g (own_bare history actor) ∙ bares (own history actor))
    xs ys same

says_same : (c : Contents) (xs ys : List Entry) → AreAlike xs ys → (actor : ℕ) (event other : Event) →
    without_place event ≡ without_place other
    → says (setup_of c) xs actor event ≡ says (setup_of c) ys actor other
says_same c xs ys same actor event other plain =
    sym (says_bare c actor (own xs actor) event)
    ∙ ap (λ (x : Event). says_in (setup_of c) actor (map bare (own xs actor)) x) plain
    ∙ ap (λ (list : List Entry). says_in (setup_of c) actor list (without_place other))
    (sym (own_bare xs actor) ∙ ap (λ (hs : List Entry). own hs actor) same ∙ own_bare ys actor)
    ∙ says_bare c actor (own ys actor) other

pub alike_come_to_the_same : AlikeComeToTheSame
alike_come_to_the_same c xs ys same = record {
  words = says_same c xs ys same;
  halted = λ actor. own_same (is_halted (setup_of c) actor) actor (halted_bare (setup_of c) actor) xs ys same;
  frames = λ stamp. same_of (λ history. frames_at_stamp (setup_of c) history stamp)
      (λ history. frames_bare (setup_of c) history stamp) xs ys same;
  views = λ master. own_same (view_in (setup_of c) master) master (view_bare (setup_of c) master) xs ys same;
  executed = λ master. same_of (λ history. executions (setup_of c) history master)
      (λ history. executions_bare (setup_of c) history master) xs ys same;
  fronts = λ client actor. own_same (front_of (masters_in c) c.settings.f c.plant client) actor
      (front_bare (masters_in c) c.settings.f c.plant client) xs ys same;
  desks = λ client actor. own_same (desk_of (masters_in c) c.settings.f client) actor
      (desk_bare (masters_in c) c.settings.f client) xs ys same;
  forgeries = same_of (forged (setup_of c)) (forged_bare (setup_of c)) xs ys same;
  digests = same_of (alike (setup_of c).group) (alike_bare (setup_of c).group) xs ys same;
  agreement = same_of (agrees (setup_of c)) (agrees_bare (setup_of c)) xs ys same;
}
