-- What contracts see of a bench once its seat has an entry more: the state with the entry, field by field.
use Rattle.std.proofs.Common.{◌≡◌, ℕ, Bool, false, [], ◌∷◌, ◌++◌, refl, sym, ◌∙◌, ap, subst}
use Rattle.history_rules.specs.Events.{Event}
use Rattle.world_rules.specs.Scenarios.{setup_of}
use Rattle.bench_rules.specs.Lists.{frames_after}
use Rattle.world_history.specs.declared.seat.Seat.{Seat}
use Rattle.world_history.specs.Seats.{GoesByTheSame, world_in, list_in, entry_of_seat}
use Rattle.world_history.specs.State.{BenchState, entry_at, with_entry, frames_said}

-- a bench's state, by its seat
abbrev state : Seat → Bool → BenchState
state s spent = record { world = world_in s; actor = s.actor; list = list_in s; signed = s.signed; is_spent = spent }

entry_added_to : (old new : Seat) (spent : Bool) (stamp : ℕ) (event : Event) → spent ≡ false → GoesByTheSame old new
    → list_in new ≡ list_in old ++ entry_of_seat old stamp event ∷ [] →
    state new false ≡ with_entry (state old spent) stamp event
unfolding entry_at
entry_added_to old new spent stamp event works (world, actor, signed) list =
    λ i. record { world = world i; actor = actor i; list = list i; signed = signed i; is_spent = sym works i }

-- The state has the entry of the event at its end.
pub entry_added : (old new : Seat) (spent : Bool) (b : BenchState) (stamp : ℕ) (event : Event) →
    state old spent ≡ b → spent ≡ false
    → GoesByTheSame old new → list_in new ≡ list_in old ++ entry_of_seat old stamp event ∷ []
    → state new false ≡ with_entry b stamp event
entry_added old new spent b stamp event is works same list =
    subst (λ (x : BenchState). state new false ≡ with_entry x stamp event) is
    (entry_added_to old new spent stamp event works same list)

frames_told : (s : Seat) (spent : Bool) (stamp : ℕ) (event : Event)
    → frames_after (setup_of (world_in s)) s.actor (list_in s) (entry_of_seat s stamp event) ≡ frames_said
    (state s spent) stamp event
unfolding entry_at
frames_told s spent stamp event = refl

-- The frames of the entry are those that contracts name.
pub frames_seen : (s : Seat) (spent : Bool) (b : BenchState) (stamp : ℕ) (event : Event) → state s spent ≡ b
    → frames_after (setup_of (world_in s)) s.actor (list_in s) (entry_of_seat s stamp event) ≡ frames_said b stamp event
frames_seen s spent b stamp event is = frames_told s spent stamp event
    ∙ ap (λ (x : BenchState). frames_said x stamp event) is
