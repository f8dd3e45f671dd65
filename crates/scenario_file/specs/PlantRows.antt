-- The tables of the plant: proxies with their devices, points, alarms and interlocks. A name is one as rules have
-- them, and no two of one list have the same.
use Rattle.std.specs.Prelude.{ℕ, nat_lt, Bool, true, false, not, ◌&&◌, if◌then◌else◌, ◌++◌, List, codes, length}
use Rattle.std.specs.Prelude.{Option, Some, None, Result, Ok, Err, ℤ, pos, is_some, position}
use Rattle.std.specs.Str.{bytes_eq}
use Rattle.toml.specs.Data.{Data, Members, get_member}
use Rattle.point_table.specs.declared.point.Area.{Area}
use Rattle.point_table.specs.declared.point.Area.TheVariants.{Coil, Discrete, Holding, Input}
use Rattle.point_table.specs.declared.point.DeviceSizes.{DeviceSizes}
use Rattle.point_table.specs.declared.point.Point.{Point}
use Rattle.point_table.specs.Table.{point_named, start_values}
use Rattle.alarm_rules.specs.declared.alarm.AlarmKind.{AlarmKind}
use Rattle.alarm_rules.specs.declared.alarm.AlarmKind.TheVariants.{High, Low}
use Rattle.alarm_rules.specs.declared.alarm.AlarmRule.{AlarmRule}
use Rattle.alarm_rules.specs.Board.{alarm_named, quiet}
use Rattle.interlocks.specs.declared.interlock.Interlock.{Interlock}
use Rattle.interlocks.specs.declared.refusal.RuleRefusal.{RuleRefusal}
use Rattle.interlocks.specs.declared.token.Token.{Token}
use Rattle.interlocks.specs.declared.token.Token.TheVariants as token
use Rattle.interlocks.specs.Formula.{Formula}
use Rattle.interlocks.specs.Reading.{Names, read_rule}
use Rattle.interlocks.specs.Tokens.{token_of}
use Rattle.master_points.specs.declared.plant.Plant.{Plant}
use Rattle.master_points.specs.declared.limits.TheConstants.{MOST_INTERLOCKS, MOST_PROXIES}
use Rattle.scenario_file.specs.Answers.{Answer, ◌>>=◌, kept, or_bad}
use Rattle.scenario_file.specs.Values.{integer_at, integer_or, integer_in, count_at, text_at, least, most}
use Rattle.scenario_file.specs.Values.{greatest_count}
use Rattle.scenario_file.specs.Lists.{rows_of}

-- how many places of each area the device behind a proxy has
unfoldable pub device_in : List DeviceSizes → List ℕ → Members → Answer DeviceSizes
device_in before at t = do
  coils ← count_at at (codes "coils") 0 1024 t
  discrete ← count_at at (codes "discrete") 0 1024 t
  holding ← count_at at (codes "holding") 0 1024 t
  input ← count_at at (codes "input") 0 1024 t
  Ok (record { coils = coils; discrete = discrete; holding = holding; input = input })

abbrev pub is_name_token : Token → Bool
is_name_token token.Name = true
is_name_token _ = false

-- whether a rule's text can name something so
abbrev pub is_name : List ℕ → Bool
is_name s = is_name_token (token_of s)

-- a name that nothing has yet
unfoldable pub name_in : (List ℕ → Option ℕ) → List ℕ → Members → Answer (List ℕ)
name_in place_of at t = text_at at (codes "name") t
    >>= (λ s. kept (at ++ codes "name") (is_name s && not (is_some (place_of s))) s)

abbrev pub area_of : List ℕ → Option Area
area_of s =
    if bytes_eq s (codes "coil") then Some Coil
    else if bytes_eq s (codes "discrete") then Some Discrete
    else if bytes_eq s (codes "holding") then Some Holding
    else if bytes_eq s (codes "input") then Some Input
    else None

unfoldable pub area_in : List ℕ → Members → Answer Area
area_in at t = text_at at (codes "area") t >>= (λ s. or_bad (at ++ codes "area") (area_of s))

-- the number of a proxy that is there
unfoldable pub proxy_in : ℕ → List ℕ → Members → Answer ℕ
proxy_in devices at t = count_at at (codes "proxy") 0 greatest_count t
    >>= (λ p. kept (at ++ codes "proxy") (nat_lt p devices) p)

-- a place that the device doesn't have is allowed
unfoldable pub point_in : ℕ → List Point → List ℕ → Members → Answer Point
point_in devices before at t = do
  name ← name_in (point_named before) at t
  proxy ← proxy_in devices at t
  area ← area_in at t
  place ← count_at at (codes "place") 0 65535 t
  scale ← integer_or at (codes "scale") (pos 1) (pos 1) (pos 1000000) t
  offset ← integer_or at (codes "offset") (pos 0) least most t
  low ← integer_at at (codes "low") least most t
  high ← integer_at at (codes "high") low most t
  start ← integer_or at (codes "start") (pos 0) low high t
  Ok (record {
    name = name;
    proxy = proxy;
    area = area;
    place = place;
    scale = scale;
    offset = offset;
    low = low;
    high = high;
    start = start;
  })

-- the number of the point that a row names
unfoldable pub point_named_in : List Point → List ℕ → Members → Answer ℕ
point_named_in points at t = text_at at (codes "point") t >>= (λ s. or_bad (at ++ codes "point") (point_named points s))

abbrev pub kind_of : List ℕ → Option AlarmKind
kind_of s = if bytes_eq s (codes "high") then Some High else if bytes_eq s (codes "low") then Some Low else None

unfoldable pub kind_in : List ℕ → Members → Answer AlarmKind
kind_in at t = text_at at (codes "kind") t >>= (λ s. or_bad (at ++ codes "kind") (kind_of s))

unfoldable pub alarm_in : List Point → List AlarmRule → List ℕ → Members → Answer AlarmRule
alarm_in points before at t = do
  name ← name_in (alarm_named before) at t
  point ← point_named_in points at t
  kind ← kind_in at t
  limit ← integer_at at (codes "limit") least most t
  band ← integer_at at (codes "band") (pos 0) most t
  Ok (record { name = name; point = point; kind = kind; limit = limit; band = band })

abbrev pub interlock_named : List Interlock → List ℕ → Option ℕ
interlock_named locks name = position (λ l. bytes_eq l.name name) locks

unfoldable pub value_of : List ℕ → Option Data → Answer (Option ℤ)
value_of name None = Ok None
value_of name (Some d) = integer_in name least most d >>= (λ z. Ok (Some z))

-- what the names in a rule mean, before any reading
abbrev pub names_of : List Point → List AlarmRule → Names
names_of points alarms = record {
  points = record { points = points; values = start_values points };
  alarms = record { rules = alarms; states = quiet alarms };
}

abbrev pub rule_of : List ℕ → Result Formula RuleRefusal → Answer Formula
rule_of name (Ok rule) = Ok rule
rule_of name (Err e) = or_bad name None

unfoldable pub rule_in : Names → List ℕ → Members → Answer Formula
rule_in names at t = text_at at (codes "deny") t >>= (λ s. rule_of (at ++ codes "deny") (read_rule names s))

unfoldable pub interlock_in : Names → List Interlock → List ℕ → Members → Answer Interlock
interlock_in names before at t = do
  name ← name_in (interlock_named before) at t
  point ← point_named_in names.points.points at t
  value ← value_of (at ++ codes "value") (get_member (codes "value") t)
  deny ← rule_in names at t
  Ok (record { name = name; point = point; value = value; deny = deny })

unfoldable pub devices_of : Members → Answer (List DeviceSizes)
devices_of doc = rows_of device_in (codes "proxy") (Some MOST_PROXIES) doc

unfoldable pub points_of : ℕ → Members → Answer (List Point)
points_of devices doc = rows_of (point_in devices) (codes "point") (Some 1024) doc

unfoldable pub alarms_of : List Point → Members → Answer (List AlarmRule)
alarms_of points doc = rows_of (alarm_in points) (codes "alarm") (Some 256) doc

unfoldable pub interlocks_of : Names → Members → Answer (List Interlock)
interlocks_of names doc = rows_of (interlock_in names) (codes "interlock") (Some MOST_INTERLOCKS) doc

-- the lists in the order in which they are tried, each whole
unfoldable pub plant_of : Members → Answer Plant
plant_of doc = do
  devices ← devices_of doc
  points ← points_of (length devices) doc
  alarms ← alarms_of points doc
  interlocks ← interlocks_of (names_of points alarms) doc
  Ok (record { devices = devices; points = points; alarms = alarms; interlocks = interlocks })
