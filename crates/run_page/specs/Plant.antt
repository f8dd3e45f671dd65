-- What a page is told of a scenario's plant: a line for the group, and one for each point, alarm and interlock, in order.
-- (This project's own.)
use Rattle.std.specs.Prelude.{ℕ, ℤ, List, ◌++◌, Option, Some, None, codes, decimal}
use Rattle.std.specs.List.{flat_map}
use Rattle.std.specs.Fmt.{signed_decimal}
use Rattle.point_table.specs.declared.point.Point.{Point}
use Rattle.alarm_rules.specs.declared.alarm.AlarmKind.{AlarmKind}
use Rattle.alarm_rules.specs.declared.alarm.AlarmKind.TheVariants as kind
use Rattle.alarm_rules.specs.declared.alarm.AlarmRule.{AlarmRule}
use Rattle.interlocks.specs.declared.interlock.Interlock.{Interlock}
use Rattle.quorum_sets.specs.declared.sizes.Rules.{Rules}
use Rattle.quorum_sets.specs.declared.sizes.Rules.TheVariants as rules
use Rattle.scenario_file.specs.Reading.{Contents}
use Rattle.run_lines.specs.Names.{area_name}

-- the rules of the group by their number in a scenario
abbrev pub rules_text : Rules → List ℕ
rules_text rules.First = codes "1"
rules_text rules.Live = codes "2"

unfoldable pub group_text : ℕ → ℕ → Rules → List ℕ
group_text f k r = codes "group " ++ decimal f ++ codes " " ++ decimal k ++ codes " rules " ++ rules_text r ++ codes "\n"

-- where a point stands: its proxy, the area and the place there
unfoldable pub place_text : Point → List ℕ
place_text p = codes " p" ++ decimal p.proxy ++ codes " " ++ area_name p.area ++ codes " " ++ decimal p.place

-- which values it may have, and the one before any reading
unfoldable pub bounds_text : Point → List ℕ
bounds_text p = codes " low " ++ signed_decimal p.low ++ codes " high " ++ signed_decimal p.high

unfoldable pub start_text : Point → List ℕ
start_text p = codes " start " ++ signed_decimal p.start ++ codes "\n"

-- how its raw value is read
unfoldable pub scale_text : Point → List ℕ
scale_text p = codes " scale " ++ signed_decimal p.scale ++ codes " offset " ++ signed_decimal p.offset

unfoldable pub point_text : Point → List ℕ
point_text p = codes "point " ++ p.name ++ place_text p ++ scale_text p ++ bounds_text p ++ start_text p

abbrev pub kind_text : AlarmKind → List ℕ
kind_text kind.High = codes "high"
kind_text kind.Low = codes "low"

-- the value that an alarm looks for, and by how much it has to be left
unfoldable pub limit_text : AlarmRule → List ℕ
limit_text a = codes " " ++ signed_decimal a.limit ++ codes " band " ++ signed_decimal a.band ++ codes "\n"

unfoldable pub alarm_text : AlarmRule → List ℕ
alarm_text a = codes "alarm " ++ a.name ++ codes " point " ++ decimal a.point ++ codes " " ++ kind_text a.kind ++ limit_text a

-- the value that an interlock guards, or that it guards all
abbrev pub value_text : Option ℤ → List ℕ
value_text (Some value) = signed_decimal value ++ codes "\n"
value_text None = codes "any\n"

unfoldable pub interlock_text : Interlock → List ℕ
interlock_text i =
    codes "interlock " ++ i.name ++ codes " point " ++ decimal i.point ++ codes " value " ++ value_text i.value

-- the plant of a scenario
unfoldable pub plant_text : Contents → List ℕ
plant_text c =
    group_text c.settings.f c.settings.k c.settings.rules ++ flat_map point_text c.plant.points
    ++ flat_map alarm_text c.plant.alarms ++ flat_map interlock_text c.plant.interlocks
