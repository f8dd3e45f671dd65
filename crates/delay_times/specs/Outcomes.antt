-- What became of each update at each actor: when a correct master executed it, and when the screen that said it was
-- answered. (This project's own.)
use Rattle.std.specs.Prelude.{ℕ, ◌-◌, List, [], ◌∷◌, ◌++◌, Option, drop, map, nat_lt, position, slice_get, take}
use Rattle.std.specs.Prelude.{if◌then◌else◌, option_and_then}
use Rattle.std.specs.List.{flat_map}
use Rattle.std.specs.Option.{option_map}
use Rattle.delay_times.specs.declared.happening.Happening.{Happening}
use Rattle.delay_times.specs.declared.happening.Name.{Name}
use Rattle.delay_times.specs.declared.sayings.Saying.{Saying}
use Rattle.delay_times.specs.declared.outcomes.Delay.{Delay}
use Rattle.delay_times.specs.declared.outcomes.Outcome.{Outcome}
use Rattle.delay_times.specs.Happenings.{ends, ticks_of}
use Rattle.delay_times.specs.Sayings.{sayings_in}

-- the delay that ends at a place of what happened since the saying, with the actor's own ticks before that place
abbrev pub delay_at : ℕ → ℕ → List Happening → ℕ → Option Delay
delay_at actor said since place = option_map (λ h. record {
  stamp = h.stamp;
  entries = h.stamp - said;
  ticks = ticks_of actor (take place since);
}) (slice_get since place)

-- The delay at an actor: up to the first execution or answer there. A tick at that entry comes before it.
unfoldable pub delay_of : Name → ℕ → ℕ → List Happening → Option Delay
delay_of u actor said since = option_and_then (delay_at actor said since) (position (ends u actor) since)

-- an update's outcome at an actor
abbrev pub outcome_of : List Happening → Saying → ℕ → Outcome
outcome_of hs x actor = record {
  name = x.name;
  said = x.stamp;
  actor = actor;
  tick = ticks_of actor (take x.place hs);
  delay = delay_of x.name actor x.stamp (drop x.place hs);
}

abbrev pub outcomes_for : List Happening → Saying → List ℕ → List Outcome
outcomes_for hs x actors = map (outcome_of hs x) actors

-- the outcome at the client itself, where it is a screen
abbrev pub own_outcome : List Happening → (proxies : ℕ) → Saying → List Outcome
own_outcome hs proxies x = if nat_lt x.name.client proxies then [] else outcome_of hs x x.actor ∷ []

-- the outcomes at the correct masters, and at the client where it is a screen
abbrev pub all_outcomes : List Happening → (proxies : ℕ) → (masters : List ℕ) → Saying → List Outcome
all_outcomes hs proxies masters x = outcomes_for hs x masters ++ own_outcome hs proxies x

-- the outcomes of all updates said, in the order in which they were said
unfoldable pub outcomes_in : (proxies : ℕ) → (masters : List ℕ) → List Happening → List Outcome
outcomes_in proxies masters hs = flat_map (all_outcomes hs proxies masters) (sayings_in hs)
