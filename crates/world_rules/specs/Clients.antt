-- The clients of a plant as functions of their own entries alone: a proxy before its device, and a screen. (After
-- Spire, whose proxies and screens act on f + 1 equal words of its masters; what they say is this project's own.)
use Rattle.std.specs.Prelude.{ℕ, ◌+◌, List, [], ◌∷◌, length, map, unwrap_or, slice_get}
use Rattle.std.specs.List.{flat_map}
use Rattle.message_types.specs.declared.body.Body.{Body}
use Rattle.message_types.specs.declared.body.Body.TheVariants as body
use Rattle.message_types.specs.declared.vouchers.Notice.{Notice}
use Rattle.point_table.specs.declared.point.DeviceSizes.{DeviceSizes}
use Rattle.master_points.specs.declared.plant.Plant.{Plant}
use Rattle.vouched_orders.specs.declared.vote.Vote.{Vote}
use Rattle.vouched_orders.specs.Vouching.{votes_in, counted, done}
use Rattle.field_proxy.specs.Readings.{readings, last_in, numbered}
use Rattle.field_proxy.specs.Front.{Front, fresh}
use Rattle.field_proxy.specs.Happenings.{Happening, Changed, Polled, Vouched, front_after}
use Rattle.operator_screen.specs.Board.{Desk, is_notice, notices}
use Rattle.history_rules.specs.Events.{Event, Took, Tick, Command, Field, Poll, Cry, Skip, Restart, Entry}
use Rattle.history_rules.specs.Audit.{parts_taken}

-- What an entry is to a proxy: a change in its field, a poll, the voucher that it took. A poll had room for just what
-- was said at it.
abbrev pub happenings_of : Entry → List Happening
happenings_of e = elim e.event [
  | Took stamp place frame ↦ map Vouched (votes_in (parts_taken e))
  | Field area place value ↦ Changed area place value ∷ []
  | Poll ↦ Polled (length e.said) ∷ []
  | _ ↦ []
]

-- a device that isn't there has no places
abbrev pub no_device : DeviceSizes
no_device = record { coils = 0; discrete = 0; holding = 0; input = 0 }

abbrev pub device_of : Plant → ℕ → DeviceSizes
device_of plant client = unwrap_or (slice_get plant.devices client) no_device

-- the proxy of a client after its own entries
unfoldable pub front_of : (n f : ℕ) → Plant → ℕ → List Entry → Front
front_of n f plant client own = front_after (fresh client n f plant.points (device_of plant client))
    (flat_map happenings_of own)

-- a screen after its own entries: it counts the commands that it said, and keeps the votes for its notices
unfoldable pub desk_of : (n f : ℕ) → ℕ → List Entry → Desk
desk_of n f client own = record {
  client = client;
  n = n;
  f = f;
  commands = length (flat_map (λ e. e.said) own);
  votes = counted is_notice client (votes_in (flat_map parts_taken own));
}

-- What a proxy is to say at an event: at a poll the readings that changed, as its next updates.
abbrev pub proxy_says : Front → Event → List Body
proxy_says s event = elim event [
  | Poll ↦ map body.Update (numbered s.client (s.updates + 1) (readings s.places s.client s.points (last_in s.lasts)))
  | _ ↦ []
]

-- What a screen is to say at an event: the command, as its next update.
abbrev pub screen_says : Desk → Event → List Body
screen_says s event = elim event [
  | Command op ↦ body.Update record { client = s.client; t = s.commands + 1; op = op } ∷ []
  | _ ↦ []
]

-- what a screen shows
abbrev pub board_of : Desk → List Notice
board_of s = notices (done s.n s.f s.votes)
