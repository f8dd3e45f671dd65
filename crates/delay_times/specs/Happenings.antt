-- What happened in a history, as far as delays go by it: tests of one thing that happened. (This project's own.)
use Rattle.std.specs.Prelude.{ℕ, Bool, true, false, ◌&&◌, List, filter, length, nat_eq}
use Rattle.delay_times.specs.declared.happening.Happening.{Happening}
use Rattle.delay_times.specs.declared.happening.Name.{Name}
use Rattle.delay_times.specs.declared.happening.What.{What}
use Rattle.delay_times.specs.declared.happening.What.TheVariants as what

-- the update was executed, or its screen was answered
abbrev pub is_end : Name → What → Bool
is_end u (what.Executed client t) = nat_eq client u.client && nat_eq t u.t
is_end u (what.Shown t) = nat_eq t u.t
is_end u _ = false

-- the update came to its end at the actor
abbrev pub ends : Name → ℕ → Happening → Bool
ends u actor h = nat_eq h.actor actor && is_end u h.what

abbrev pub is_tick_of : What → Bool
is_tick_of what.Tick = true
is_tick_of _ = false

-- it is a tick of the actor
abbrev pub is_tick : ℕ → Happening → Bool
is_tick actor h = nat_eq h.actor actor && is_tick_of h.what

-- how many ticks of the actor these are
abbrev pub ticks_of : ℕ → List Happening → ℕ
ticks_of actor hs = length (filter (is_tick actor) hs)
