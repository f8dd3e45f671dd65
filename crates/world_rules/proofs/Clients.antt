-- What a proxy and a screen say has a spelling, and each actor may be handed a tick.
use Rattle.std.proofs.Common.{◌≡◌, ℕ, suc, true, List, [], ◌∷◌, map, refl, ◌+◌, ◌-◌, Bool, false, cond, length}
use Rattle.std.proofs.Common.{nat_lt}
use Rattle.std.specs.List.{list_all}
use Rattle.message_types.specs.declared.updates.Op.{Op}
use Rattle.message_types.specs.Spelling.{body_fits}
use Rattle.field_proxy.specs.Readings.{numbered, readings, last_in}
use Rattle.message_types.specs.declared.body.Body.TheVariants as body
use Rattle.field_proxy.specs.Front.{Front}
use Rattle.history_rules.specs.Events.{Event, Poll, Command, Tick}
use Rattle.world_rules.specs.Clients.{proxy_says, screen_says}
use Rattle.operator_screen.specs.Board.{Desk}
use Rattle.quorum_sets.specs.Masters.{has_master}
use Rattle.scenario_file.specs.Reading.{Contents}
use Rattle.world_rules.specs.Scenarios.{masters_in, fits_in}

-- updates have no lists, so all of them fit
updates_fit : (client t : ℕ) (ops : List Op) → list_all body_fits (map body.Update (numbered client t ops)) ≡ true
unfolding numbered
updates_fit client t [] = refl
updates_fit client t (o ∷ rest) = updates_fit client (suc t) rest

pub proxy_fits : (s : Front) (event : Event) → list_all body_fits (proxy_says s event) ≡ true
proxy_fits s Poll = updates_fit s.client (s.updates + 1) (readings s.places s.client s.points (last_in s.lasts))
proxy_fits s _ = refl

pub screen_fits : (s : Desk) (event : Event) → list_all body_fits (screen_says s event) ≡ true
screen_fits s (Command op) = refl
screen_fits s _ = refl

pub fits_tick : (c : Contents) (actor : ℕ) → fits_in c actor Tick ≡ true
fits_tick c actor = at (nat_lt actor (masters_in c)) (has_master c.settings.intruded actor)
    (nat_lt (actor - masters_in c) (length c.plant.devices))
  where
    at : (a b d : Bool) → cond a (cond b true true) (cond d true true) ≡ true
    at true true d = refl
    at true false d = refl
    at false b true = refl
    at false b false = refl
