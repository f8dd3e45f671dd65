-- How delays spread. A percentile is taken from above: the greatest number that so many of them reach. (This project's
-- own.)
use Rattle.std.specs.Prelude.{ℕ, ◌+◌, ◌/◌, Bool, ◌&&◌, List, [], ◌∷◌, Option, Some, None, filter, length, nat_eq, nat_le}
use Rattle.std.specs.Prelude.{if◌then◌else◌}
use Rattle.std.specs.List.{filter_map, flat_map}
use Rattle.quorum_sets.specs.Masters.{numbers_below}
use Rattle.protocol_rules.specs.Words.{greatest_reached}
use Rattle.delay_times.specs.declared.spreads.Figures.{Figures}
use Rattle.delay_times.specs.declared.spreads.Spread.{Spread}
use Rattle.delay_times.specs.declared.outcomes.Delay.{Delay}
use Rattle.delay_times.specs.declared.outcomes.Outcome.{Outcome}

-- the greatest numbers that more than half, more than a tenth and more than a hundredth of them reach, and the greatest
-- of all
abbrev pub figures_of : List ℕ → Figures
figures_of numbers = record {
  median = greatest_reached (length numbers / 2 + 1) numbers;
  ninetieth = greatest_reached (length numbers / 10 + 1) numbers;
  ninety_ninth = greatest_reached (length numbers / 100 + 1) numbers;
  greatest = greatest_reached 1 numbers;
}

-- the outcome of an update of the client at the actor
abbrev pub is_of : ℕ → ℕ → Outcome → Bool
is_of client actor outcome = nat_eq outcome.name.client client && nat_eq outcome.actor actor

-- what a delay shows, where it is such an outcome and has one
abbrev pub shown_if : (Delay → ℕ) → Bool → Option Delay → Option ℕ
shown_if show fits None = None
shown_if show fits (Some delay) = if fits then Some (show delay) else None

abbrev pub entries_if : ℕ → ℕ → Outcome → Option ℕ
entries_if client actor outcome = shown_if (λ d. d.entries) (is_of client actor outcome) outcome.delay

abbrev pub ticks_if : ℕ → ℕ → Outcome → Option ℕ
ticks_if client actor outcome = shown_if (λ d. d.ticks) (is_of client actor outcome) outcome.delay

-- the outcomes of the client's updates at the actor
unfoldable pub spread_of : List Outcome → ℕ → ℕ → Spread
spread_of outcomes client actor = record {
  client = client;
  actor = actor;
  said = length (filter (is_of client actor) outcomes);
  ended = length (filter_map (entries_if client actor) outcomes);
  entries = figures_of (filter_map (entries_if client actor) outcomes);
  ticks = figures_of (filter_map (ticks_if client actor) outcomes);
}

-- the same, where there are any
abbrev pub if_any : Spread → List Spread
if_any spread = if nat_le 1 spread.said then spread ∷ [] else []

abbrev pub spreads_at : List Outcome → ℕ → ℕ → List Spread
spreads_at outcomes client actor = if_any (spread_of outcomes client actor)

abbrev pub spreads_of_client : List Outcome → ℕ → ℕ → List Spread
spreads_of_client outcomes client actors = flat_map (spreads_at outcomes client) (numbers_below actors)

-- all of them, client by client
abbrev pub spreads_in : List Outcome → (clients actors : ℕ) → List Spread
spreads_in outcomes clients actors = flat_map (λ client. spreads_of_client outcomes client actors) (numbers_below clients)
