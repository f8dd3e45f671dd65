-- What holds of each scenario that a file gives: its numbers are within their ranges, its names are names, each once in
-- its list, and whatever it names is there. (The ranges are this project's own; `docs/FORMATS.md` lists them by key.)
use Rattle.std.specs.Prelude.{◌≡◌, ◌≢◌, ℕ, ◌<◌, ◌≤◌, ◌⊎◌, true, List, [], length, All, AllPairs, IsTrue, Option, ℤ}
use Rattle.std.specs.Prelude.{pos, ◌≤ℤ◌}
use Rattle.std.specs.List.{slice_index_or}
use Rattle.std.specs.List.Sorted.{IsStrictlyIncreasing}
use Rattle.std.specs.Option.{ForSome}
use Rattle.quorum_sets.specs.Quorum.{IsGroup, group_size}
use Rattle.quorum_sets.specs.Masters.{has_master}
use Rattle.point_table.specs.declared.point.DeviceSizes.{DeviceSizes}
use Rattle.point_table.specs.declared.point.Point.{Point}
use Rattle.alarm_rules.specs.declared.alarm.AlarmRule.{AlarmRule}
use Rattle.interlocks.specs.declared.interlock.Interlock.{Interlock}
use Rattle.interlocks.specs.Formula.{Formula, alarm, compare, negation, bracket, both, either}
use Rattle.master_points.specs.Orders.{IsPlant}
use Rattle.master_points.specs.declared.limits.TheConstants.{MOST_SCREENS}
use Rattle.scenario_file.specs.declared.held.HeldKeys.{HeldKeys}
use Rattle.scenario_file.specs.Actors.{actors_of}
use Rattle.scenario_file.specs.PlantRows.{is_name}
use Rattle.scenario_file.specs.Reading.{Contents, cast_of}
use Rattle.scenario_file.specs.Values.{least, most}

-- a tree's height is 5 or 10
abbrev pub IsHeight : ℕ → Type 0
IsHeight h = (h ≡ 5) ⊎ (h ≡ 10)

-- a number of 64 bits, with its sign
abbrev pub IsI64 : ℤ → Type 0
IsI64 z = (least ≤ℤ z) × (z ≤ℤ most)

-- a device has at most 1,024 places of each area
pub record IsDevice (d : DeviceSizes) : Type 0 where
  pub coils : d.coils ≤ 1024
  pub discrete : d.discrete ≤ 1024
  pub holding : d.holding ≤ 1024
  pub input : d.input ≤ 1024

-- a point has a name, a place of 16 bits, and numbers of 64 bits. That its proxy is there, and what holds of its scale,
-- its bounds and its start, is in `IsPlant`.
pub record IsPoint (p : Point) : Type 0 where
  pub name : IsTrue (is_name p.name)
  pub place : p.place ≤ 65535
  pub offset : IsI64 p.offset
  pub low : IsI64 p.low
  pub high : IsI64 p.high

-- an alarm has a name, and is over a point that is there
pub record IsAlarm (points : ℕ) (a : AlarmRule) : Type 0 where
  pub name : IsTrue (is_name a.name)
  pub point : a.point < points
  pub limit : IsI64 a.limit
  pub band : pos 0 ≤ℤ a.band
  pub band_most : a.band ≤ℤ most

-- a rule names points and alarms that are there
abbrev pub NamesThere : (points alarms : ℕ) → Formula → Type 0
NamesThere points alarms (alarm n) = n < alarms
NamesThere points alarms (compare p c z) = p < points
NamesThere points alarms (negation f) = NamesThere points alarms f
NamesThere points alarms (bracket f) = NamesThere points alarms f
NamesThere points alarms (both f g) = NamesThere points alarms f × NamesThere points alarms g
NamesThere points alarms (either f g) = NamesThere points alarms f × NamesThere points alarms g

-- an interlock has a name, guards a point that is there, and so does its rule speak of those that are there
pub record IsInterlock (points alarms : ℕ) (l : Interlock) : Type 0 where
  pub name : IsTrue (is_name l.name)
  pub point : l.point < points
  pub value : ForSome l.value IsI64
  pub deny : NamesThere points alarms l.deny

-- rising numbers of calls from 1 to 50,000, at most 16 of them
pub record IsFailing (calls : List ℕ) : Type 0 where
  pub at_most_sixteen : length calls ≤ 16
  pub from_one : All (λ call. 1 ≤ call) calls
  pub at_most_fifty_thousand : All (λ call. call ≤ 50000) calls
  pub rising : IsStrictlyIncreasing calls

pub record IsScenario (c : Contents) : Type 0 where
  -- the group and its keys
  pub group : IsGroup c.settings.f c.settings.k
  pub seed : length c.settings.seed ≡ 32
  pub some_levels : 1 ≤ length c.settings.heights
  pub at_most_three_levels : length c.settings.heights ≤ 3
  pub heights : All IsHeight c.settings.heights
  pub some_frames : 1 ≤ c.settings.frames
  pub at_most_two_frames : c.settings.frames ≤ 2
  -- the intruded masters, rising
  pub intruded : All (λ m. m < group_size c.settings.f c.settings.k) c.settings.intruded
  pub intruded_rise : IsStrictlyIncreasing c.settings.intruded
  pub some_screens : 1 ≤ c.settings.screens
  pub at_most_four_screens : c.settings.screens ≤ MOST_SCREENS
  -- the plant, with no more of anything than a plant may have
  pub plant : IsPlant c.plant c.settings.screens
  pub devices : All IsDevice c.plant.devices
  pub points : All IsPoint c.plant.points
  pub alarms : All (IsAlarm (length c.plant.points)) c.plant.alarms
  pub interlocks : All (IsInterlock (length c.plant.points) (length c.plant.alarms)) c.plant.interlocks
  -- no two of a list have one name
  pub points_differ : AllPairs (λ (p q : Point). p.name ≢ q.name) c.plant.points
  pub alarms_differ : AllPairs (λ (a b : AlarmRule). a.name ≢ b.name) c.plant.alarms
  pub interlocks_differ : AllPairs (λ (l m : Interlock). l.name ≢ m.name) c.plant.interlocks
  -- one list of failing calls for each actor, and none fails for an intruded master
  pub failing : length c.failing ≡ actors_of (cast_of c.settings c.plant)
  pub failing_calls : All IsFailing c.failing
  pub intruded_keep_all : (m : ℕ) → IsTrue (has_master c.settings.intruded m) → slice_index_or c.failing m [] ≡ []
  -- a key that is held has an identifier of its size (RFC 8554, section 5.1)
  pub held : ForSome c.held (λ keys. length keys.identifier ≡ 16)
