-- What a master says once at most, and when an answer to a word known is still owed.
use Rattle.std.specs.Prelude.{ℕ, Bool, true, false, ◌&&◌, not, List, Option, Some, None, nat_eq, nat_lt}
use Rattle.std.specs.List.{list_any, filter_map}
use Rattle.message_types.specs.declared.signed.Signed.{Signed}
use Rattle.message_types.specs.declared.body.Body.{Body}
use Rattle.message_types.specs.declared.body.Body.TheVariants as body
use Rattle.protocol_rules.specs.Group.{Group}
use Rattle.protocol_rules.specs.Measures.{ping_in, pong_in, pings_said, pongs_said, round_trips_said}
use Rattle.protocol_rules.specs.Measures.{tat_reports_said, tat_bounds_said, suspects_said}
use Rattle.suspect_leader.specs.declared.heard.Heard.{Heard}
use Rattle.suspect_leader.specs.declared.heard.Heard.TheVariants as heard
use Rattle.suspect_leader.specs.declared.saying.Saying.{Saying}
use Rattle.suspect_leader.specs.declared.saying.Saying.TheVariants.{Ping, Pong, RoundTrip, Report, Bound, Vote}

-- what a body of these kinds says
abbrev pub saying_in : Body → Option Saying
saying_in word = elim word [
  | body.Ping b ↦ Some (Ping b.number)
  | body.Pong b ↦ Some (Pong b.to b.number)
  | body.Rtt b ↦ Some (RoundTrip b.to b.number)
  | body.TatReport b ↦ Some (Report b.v b.ticks)
  | body.TatBound b ↦ Some (Bound b.v)
  | body.Suspect b ↦ Some (Vote b.v)
  | _ ↦ None
]

-- the body says it
abbrev pub says : Saying → Body → Bool
says (Ping number) = pings_said number
says (Pong to number) = pongs_said to number
says (RoundTrip to number) = round_trips_said to number
says (Report v ticks) = tat_reports_said v ticks
says (Bound v) = tat_bounds_said v
says (Vote v) = suspects_said v

-- what a body tells of the measures of a leader
abbrev pub heard_in : Body → Option Heard
heard_in word = elim word [
  | body.Ping b ↦ Some (heard.Ping b)
  | body.Pong b ↦ Some (heard.Pong b)
  | body.Rtt b ↦ Some (heard.RoundTrip b)
  | body.TatReport b ↦ Some (heard.Report b)
  | body.TatBound b ↦ Some (heard.Bound b)
  | _ ↦ None
]

-- the word is a ping, a pong, a round trip, a tatreport or a tatbound
abbrev pub is_measure : Signed Body → Bool
is_measure f = elim f.body [
  | body.Ping b ↦ true
  | body.Pong b ↦ true
  | body.Rtt b ↦ true
  | body.TatReport b ↦ true
  | body.TatBound b ↦ true
  | _ ↦ false
]

-- the ticks of a round trip, else 0
abbrev pub ticks_of_round_trip : Body → ℕ
ticks_of_round_trip word = elim word [ body.Rtt b ↦ b.ticks | _ ↦ 0 ]

-- the two are one
abbrev pub same_saying : Saying → Saying → Bool
same_saying (Ping number) (Ping m) = nat_eq number m
same_saying (Pong to number) (Pong j m) = nat_eq to j && nat_eq number m
same_saying (RoundTrip to number) (RoundTrip j m) = nat_eq to j && nat_eq number m
same_saying (Report v ticks) (Report w m) = nat_eq v w && nat_eq ticks m
same_saying (Bound v) (Bound w) = nat_eq v w
same_saying (Vote v) (Vote w) = nat_eq v w
same_saying _ _ = false

-- it is one of the list
abbrev pub is_among : List Saying → Saying → Bool
is_among list s = list_any (same_saying s) list

-- An answer that is still owed: a pong to a known ping of another master, and the round trip of a known pong to `me`,
-- also where its ping isn't said yet.
abbrev pub is_pending : Group → ℕ → List (Signed Body) → List Body → Saying → Bool
is_pending g me known said (Pong to number) =
    nat_lt to g.n && not (nat_eq to me) && list_any (nat_eq number) (filter_map (ping_in to) known)
    && not (list_any (pongs_said to number) said)
is_pending g me known said (RoundTrip to number) =
    nat_lt to g.n && list_any (nat_eq number) (filter_map (pong_in me to) known)
    && not (list_any (round_trips_said to number) said)
is_pending g me known said _ = false
