-- What holds of each scenario that a document gives.
use Rattle.std.proofs.Common.{◌≡◌, ℕ, zero, suc, ◌≤◌, ◌<◌, nat_eq, ◌==◌, Bool, true, false, cond, List, [], ◌∷◌, ◌++◌}
use Rattle.std.proofs.Common.{length, refl, ◌∙◌, subst, arith, inl, inr, Result, Ok, Err, Option, Some, None, ℤ, pos}
use Rattle.std.specs.Prelude.{codes, IfOk}
use Rattle.std.specs.List.{AllByRecursion}
use Rattle.std.specs.List.Sorted.{IsStrictlyIncreasing}
use Rattle.std.specs.Option.{ForSome}
use Rattle.std.proofs.lemmas.List.{length-map}
use Rattle.std.proofs.lemmas.Bool.{or_cases, eqb-true}
use Rattle.quorum_sets.specs.Quorum.{IsGroup, group_size}
use Rattle.quorum_sets.specs.Masters.{has_master, voters, numbers_below}
use Rattle.quorum_sets.proofs.MastersLemmas.{voters-suc, voters-zero}
use Rattle.toml.specs.Data.{Data, Members, get_member, array, no_items}
use Rattle.point_table.specs.declared.point.DeviceSizes.{DeviceSizes}
use Rattle.point_table.specs.declared.point.Point.{Point}
use Rattle.point_table.specs.Table.{point_named}
use Rattle.alarm_rules.specs.declared.alarm.AlarmRule.{AlarmRule}
use Rattle.alarm_rules.specs.Board.{alarm_named}
use Rattle.interlocks.specs.declared.interlock.Interlock.{Interlock}
use Rattle.interlocks.specs.Reading.{Names}
use Rattle.master_points.specs.declared.plant.Plant.{Plant}
use Rattle.master_points.specs.Orders.{IsPlant}
use Rattle.scenario_file.specs.declared.refusal.ScenarioRefusal.{ScenarioRefusal}
use Rattle.toml.specs.Parse.{parse_document}
use Rattle.scenario_file.specs.declared.actors.Cast.{Cast}
use Rattle.scenario_file.specs.declared.scenario.Scenario.{Scenario}
use Rattle.scenario_file.specs.Answers.{Shows}
use Rattle.scenario_file.specs.Values.{count_at, count_or, integer_at, integer_in, text_at, bytes_at, least, most}
use Rattle.scenario_file.specs.Values.{or_default}
use Rattle.scenario_file.specs.Lists.{list_in, number_after, numbers_in}
use Rattle.scenario_file.specs.Settings.{Settings, is_height, is_new_master, usual_levels, levels_of, set_of}
use Rattle.scenario_file.specs.Settings.{intruded_of, rules_of, settings_of}
use Rattle.scenario_file.specs.PlantRows.{device_in, name_in, point_named_in, kind_in, alarm_in, interlock_named}
use Rattle.scenario_file.specs.PlantRows.{value_of, rule_in, names_of, interlock_in, devices_of, points_of, alarms_of}
use Rattle.scenario_file.specs.PlantRows.{interlocks_of, plant_of}
use Rattle.scenario_file.specs.Actors.{actors_of}
use Rattle.scenario_file.specs.Keepers.{keepers_of, calls_of, failing_of}
use Rattle.scenario_file.specs.Unknown.{first_unknown}
use Rattle.scenario_file.specs.Reading.{Contents, cast_of, unless_unknown, scenario_of, or_no_toml, scenario_in}
use Rattle.scenario_file.specs.Reading.{contents}
use Rattle.scenario_file.specs.Valid.{IsHeight, IsI64, IsDevice, IsPoint, IsAlarm, IsInterlock, IsFailing, IsScenario}
use Rattle.scenario_file.proofs.Steps.{step, ok-same, or_bad-ok, integer_in-ok, integer_at-ok, count_at-ok}
use Rattle.scenario_file.proofs.Steps.{count_or-ok, int_le-at-most}
use Rattle.scenario_file.proofs.RowLaws.{all-at, gathered-length, gathered-all, list_in-ok, at-most, rows_of-all}
use Rattle.scenario_file.proofs.RowLaws.{rows_of-keeps}
use Rattle.scenario_file.proofs.NameLaws.{name_in-fresh, Differ, none-differ, differ-push, point_named-there}
use Rattle.scenario_file.proofs.NameLaws.{rule_in-there}
use Rattle.scenario_file.proofs.KeeperLaws.{set_of-rises, keepers_of-ok, calls_of-failing, calls_of-intruded, all-map}
use Rattle.scenario_file.proofs.KeeperLaws.{map-empty, bytes_at-size}
use Rattle.scenario_file.proofs.PlantLaws.{devices_of-few, points_of-few, points_of-usable, points_of-owned}
use Rattle.scenario_file.proofs.PlantLaws.{points_of-differ, points_of-ranges, alarms_of-few, interlocks_of-few}
use Rattle.scenario_file.proofs.SettingsLaws.{number_after-ok, masters-there}
use Rattle.quorum_sets.proofs.Numbered.{length-numbers_below}

-- Heights

height-of : (h : ℕ) → is_height [] h ≡ true → IsHeight h
height-of h passed = elim (or_cases (h == 5) (h == 10) passed) [
  | inl five ↦ inl (eqb-true h 5 five)
  | inr ten ↦ inr (eqb-true h 10 ten)
]

record HasLevels (heights : List ℕ) : Type 0 where
  some : 1 ≤ length heights
  few : length heights ≤ 3
  all : AllByRecursion IsHeight heights

levels_of-ok : (doc : Members) (hs : List ℕ) → levels_of doc ≡ Ok hs → HasLevels hs
unfolding levels_of
levels_of-ok doc hs h =
    step (list_in (codes "levels") 1 (Some 3) (or_default (codes "levels") usual_levels doc)) _ hs h (λ ds listed read.
    let (some, few) = list_in-ok (codes "levels") 1 (Some 3) (or_default (codes "levels") usual_levels doc) ds listed in
    let at_most = at-most 3 (length ds) few in
    let as_many = gathered-length (number_after (codes "levels") is_height) [] ds hs read in
    record {
      some = omega arith;
      few = omega arith;
      all = gathered-all IsHeight (number_after (codes "levels") is_height)
          (λ before d n one. height-of n (number_after-ok (codes "levels") is_height before d n one)) [] ds hs tt read;
    })

-- Intruded masters

all-append : {A : Type 0} (P : A → Type 0) (xs ys : List A) → AllByRecursion P xs → AllByRecursion P ys →
    AllByRecursion P (xs ++ ys)
all-append P [] ys first second = second
all-append P (x ∷ xs) ys first second = (first.0, all-append P xs ys first.1 second)

one-if : (P : ℕ → Type 0) (b : Bool) (n : ℕ) → (b ≡ true → P n) → AllByRecursion P (cond b (n ∷ []) [])
one-if P true n go = (go refl, tt)
one-if P false n go = tt

all-voters : (P : ℕ → Type 0) (t : ℕ → Bool) → ((x : ℕ) → t x ≡ true → P x) → (n : ℕ) → AllByRecursion P (voters t n)
all-voters P t good zero = rw (voters-zero t) tt
all-voters P t good (suc n) =
    rw (voters-suc t n) (all-append P (voters t n) (cond (t n) (n ∷ []) []) (all-voters P t good n)
    (one-if P (t n) n (good n)))

named-below : (n : ℕ) (xs : List ℕ) (x : ℕ) → AllByRecursion (λ m. m < n) xs → has_master xs x ≡ true → x < n
named-below n [] x all h = absurd (cc)
named-below n (y ∷ ys) x all h =
    elim (or_cases (nat_eq y x) (has_master ys x) h) [
      | inl here ↦ subst (λ m. m < n) (eqb-true y x here) all.0
      | inr later ↦ named-below n ys x all.1 later
    ]

intruded_of-rises : (n : ℕ) (doc : Members) (masters : List ℕ) → intruded_of n doc ≡ Ok masters →
    IsStrictlyIncreasing masters
unfolding intruded_of
intruded_of-rises n doc masters h =
    step (list_in (codes "intruded") 0 None (or_default (codes "intruded") (array no_items) doc))
    _ masters h (λ ds listed h1.
    step (numbers_in (codes "intruded") (is_new_master n) ds) _ masters h1 (λ ms read h2.
    subst IsStrictlyIncreasing (ok-same (set_of ms) masters h2) (set_of-rises ms)))

intruded_of-ok : (n : ℕ) (doc : Members) (masters : List ℕ) → intruded_of n doc ≡ Ok masters →
    AllByRecursion (λ m. m < n) masters
unfolding intruded_of
intruded_of-ok n doc masters h =
    step (list_in (codes "intruded") 0 None (or_default (codes "intruded") (array no_items) doc))
    _ masters h (λ ds listed h1.
    step (numbers_in (codes "intruded") (is_new_master n) ds) _ masters h1 (λ ms read h2.
    let there = masters-there (codes "intruded") n ds ms read in
    subst (AllByRecursion (λ m. m < n)) (ok-same (set_of ms) masters h2)
    (all-voters (λ m. m < n) (has_master ms) (λ x named. named-below n ms x there named) 14)))

-- The keys that aren't tables

record HasSettings (s : Settings) : Type 0 where
  group : IsGroup s.f s.k
  seed : length s.seed ≡ 32
  levels : HasLevels s.heights
  some_frames : 1 ≤ s.frames
  few_frames : s.frames ≤ 2
  intruded : AllByRecursion (λ m. m < group_size s.f s.k) s.intruded
  intruded_rise : IsStrictlyIncreasing s.intruded
  some_screens : 1 ≤ s.screens
  few_screens : s.screens ≤ 4

settings_of-ok : (doc : Members) (s : Settings) → settings_of doc ≡ Ok s → HasSettings s
unfolding settings_of
settings_of-ok doc s h =
    step (count_at [] (codes "f") 1 3 doc) _ s h (λ f fed h1.
    step (count_or [] (codes "k") 0 0 2 doc) _ s h1 (λ k kept h2.
    step (bytes_at [] (codes "seed") 32 doc) _ s h2 (λ seed seeded h3.
    step (levels_of doc) _ s h3 (λ heights leveled h4.
    step (count_or [] (codes "frames") 1 1 2 doc) _ s h4 (λ frames framed h5.
    step (intruded_of (group_size f k) doc) _ s h5 (λ intruded named h6.
    step (count_at [] (codes "screens") 1 4 doc) _ s h6 (λ screens shown h7.
    step (rules_of doc) _ s h7 (λ rules ruled h8.
    let made : Settings = record {
      f = f;
      k = k;
      seed = seed;
      heights = heights;
      frames = frames;
      intruded =
          intruded;
      screens = screens;
      rules = rules;
    } in
    let (f_some, f_few) = count_at-ok [] (codes "f") 1 3 doc f fed in
    let (k_some, k_few) = count_or-ok [] (codes "k") 0 0 2 doc k kept in
    let (frames_some, frames_few) = count_or-ok [] (codes "frames") 1 1 2 doc frames framed in
    let (screens_some, screens_few) = count_at-ok [] (codes "screens") 1 4 doc screens shown in
    let holds : HasSettings made = record {
      group = record { some_may_be_intruded = f_some; at_most_three_intruded = f_few; at_most_two_away = k_few };
      seed = bytes_at-size [] (codes "seed") 32 doc seed seeded;
      levels = levels_of-ok doc heights leveled;
      some_frames = frames_some;
      few_frames = frames_few;
      intruded = intruded_of-ok (group_size f k) doc intruded named;
      intruded_rise = intruded_of-rises (group_size f k) doc intruded named;
      some_screens = screens_some;
      few_screens = screens_few;
    } in
    subst HasSettings (ok-same made s h8) holds))))))))

-- The plant

device_in-ok : (before : List DeviceSizes) (at : List ℕ) (t : Members) (d : DeviceSizes) →
    device_in before at t ≡ Ok d → IsDevice d
unfolding device_in
device_in-ok before at t d h =
    step (count_at at (codes "coils") 0 1024 t) _ d h (λ coils a h1.
    step (count_at at (codes "discrete") 0 1024 t) _ d h1 (λ discrete b h2.
    step (count_at at (codes "holding") 0 1024 t) _ d h2 (λ holding c h3.
    step (count_at at (codes "input") 0 1024 t) _ d h3 (λ input e h4.
    let made : DeviceSizes = record { coils = coils; discrete = discrete; holding = holding; input = input } in
    let few : IsDevice made = record {
      coils = (count_at-ok at (codes "coils") 0 1024 t coils a).1;
      discrete = (count_at-ok at (codes "discrete") 0 1024 t discrete b).1;
      holding = (count_at-ok at (codes "holding") 0 1024 t holding c).1;
      input = (count_at-ok at (codes "input") 0 1024 t input e).1;
    } in
    subst IsDevice (ok-same made d h4) few))))

point_named_in-there : (points : List Point) (at : List ℕ) (t : Members) (n : ℕ) → point_named_in points at t ≡ Ok n →
    n < length points
unfolding point_named_in
point_named_in-there points at t n h =
    step (text_at at (codes "point") t) _ n h
    (λ s named h1. point_named-there points s n (or_bad-ok (at ++ codes "point") (point_named points s) n h1))

-- an alarm that is read, and an interlock: what holds of it, and that nothing has its name yet

record ReadsAlarm (points : ℕ) (before : List AlarmRule) (a : AlarmRule) : Type 0 where
  is : IsAlarm points a
  fresh : alarm_named before a.name ≡ None

alarm_in-ok : (points : List Point) (before : List AlarmRule) (at : List ℕ) (t : Members) (a : AlarmRule) →
    alarm_in points before at t ≡ Ok a → ReadsAlarm (length points) before a
unfolding alarm_in
alarm_in-ok points before at t a h =
    step (name_in (alarm_named before) at t) _ a h (λ name named h1.
    step (point_named_in points at t) _ a h1 (λ point pointed h2.
    step (kind_in at t) _ a h2 (λ kind of_kind h3.
    step (integer_at at (codes "limit") least most t) _ a h3 (λ limit limited h4.
    step (integer_at at (codes "band") (pos 0) most t) _ a h4 (λ band banded h5.
    let made : AlarmRule = record { name = name; point = point; kind = kind; limit = limit; band = band } in
    let (is_named, is_fresh) = name_in-fresh (alarm_named before) at t name named in
    let (limit_low, limit_high) = integer_at-ok at (codes "limit") least most t limit limited in
    let (band_low, band_high) = integer_at-ok at (codes "band") (pos 0) most t band banded in
    let holds : ReadsAlarm (length points) before made = record {
      is = record {
        name = is_named;
        point = point_named_in-there points at t point pointed;
        limit = (int_le-at-most least limit limit_low, int_le-at-most limit most limit_high);
        band = int_le-at-most (pos 0) band band_low;
        band_most = int_le-at-most band most band_high;
      };
      fresh = is_fresh;
    } in
    subst (ReadsAlarm (length points) before) (ok-same made a h5) holds)))))

value_of-ok : (name : List ℕ) (o : Option Data) (v : Option ℤ) → value_of name o ≡ Ok v → ForSome v IsI64
unfolding value_of
value_of-ok name None v h = λ x is. absurd (let none : None ≡ Some x = ok-same None v h ∙ is in cc)
value_of-ok name (Some d) v h =
    step (integer_in name least most d) _ v h (λ z read h1 x is.
    let same : Some z ≡ Some x = ok-same (Some z) v h1 ∙ is in
    let equal : z ≡ x = cc in
    let (low, high) = integer_in-ok name least most d z read in
    subst IsI64 equal (int_le-at-most least z low, int_le-at-most z most high))

record ReadsInterlock (points alarms : ℕ) (before : List Interlock) (l : Interlock) : Type 0 where
  is : IsInterlock points alarms l
  fresh : interlock_named before l.name ≡ None

interlock_in-ok : (names : Names) (before : List Interlock) (at : List ℕ) (t : Members) (l : Interlock) →
    interlock_in names before at t ≡ Ok l
    → ReadsInterlock (length names.points.points) (length names.alarms.rules) before l
unfolding interlock_in
interlock_in-ok names before at t l h =
    step (name_in (interlock_named before) at t) _ l h (λ name named h1.
    step (point_named_in names.points.points at t) _ l h1 (λ point pointed h2.
    step (value_of (at ++ codes "value") (get_member (codes "value") t)) _ l h2 (λ value valued h3.
    step (rule_in names at t) _ l h3 (λ deny denied h4.
    let made : Interlock = record { name = name; point = point; value = value; deny = deny } in
    let (is_named, is_fresh) = name_in-fresh (interlock_named before) at t name named in
    let holds : ReadsInterlock (length names.points.points) (length names.alarms.rules) before made = record {
      is = record {
        name = is_named;
        point = point_named_in-there names.points.points at t point pointed;
        value = value_of-ok (at ++ codes "value") (get_member (codes "value") t) value valued;
        deny = rule_in-there names at t deny denied;
      };
      fresh = is_fresh;
    } in
    subst (ReadsInterlock (length names.points.points) (length names.alarms.rules) before) (ok-same made l h4) holds))))

alarms-differ : (points : List Point) (doc : Members) (as' : List AlarmRule) → alarms_of points doc ≡ Ok as' →
    Differ (λ (a : AlarmRule). a.name) as'
unfolding alarms_of
alarms-differ points doc as' h =
    rows_of-keeps (Differ (λ (a : AlarmRule). a.name)) (alarm_in points) (codes "alarm") (Some 256) doc as'
    (none-differ (λ (a : AlarmRule). a.name))
    (λ before at t a so_far one. differ-push (λ (a : AlarmRule). a.name) before a so_far
    (alarm_in-ok points before at t a one).fresh) h

interlocks-differ : (names : Names) (doc : Members) (ls : List Interlock) → interlocks_of names doc ≡ Ok ls →
    Differ (λ (l : Interlock). l.name) ls
unfolding interlocks_of
interlocks-differ names doc ls h =
    rows_of-keeps (Differ (λ (l : Interlock). l.name)) (interlock_in names) (codes "interlock") (Some 64) doc ls
    (none-differ (λ (l : Interlock). l.name))
    (λ before at t l so_far one. differ-push (λ (l : Interlock). l.name) before l so_far
    (interlock_in-ok names before at t l one).fresh) h

record HasPlant (p : Plant) : Type 0 where
  limits : (screens : ℕ) → screens ≤ 4 → IsPlant p screens
  devices : AllByRecursion IsDevice p.devices
  points : AllByRecursion IsPoint p.points
  alarms : AllByRecursion (IsAlarm (length p.points)) p.alarms
  interlocks : AllByRecursion (IsInterlock (length p.points) (length p.alarms)) p.interlocks
  points_differ : Differ (λ (q : Point). q.name) p.points
  alarms_differ : Differ (λ (a : AlarmRule). a.name) p.alarms
  interlocks_differ : Differ (λ (l : Interlock). l.name) p.interlocks

plant_of-ok : (doc : Members) (p : Plant) → plant_of doc ≡ Ok p → HasPlant p
unfolding plant_of devices_of alarms_of interlocks_of
plant_of-ok doc p h =
    step (devices_of doc) _ p h (λ devices a h1.
    step (points_of (length devices) doc) _ p h1 (λ points b h2.
    step (alarms_of points doc) _ p h2 (λ alarms c h3.
    step (interlocks_of (names_of points alarms) doc) _ p h3 (λ interlocks e h4.
    let made : Plant = record { devices = devices; points = points; alarms = alarms; interlocks = interlocks } in
    let holds : HasPlant made = record {
      limits = λ screens few. record {
        devices = devices_of-few doc devices a;
        points = points_of-few (length devices) doc points b;
        usable = points_of-usable (length devices) doc points b;
        owned = points_of-owned (length devices) doc points b;
        alarms = alarms_of-few points doc alarms c;
        interlocks = interlocks_of-few (names_of points alarms) doc interlocks e;
        shown = few;
      };
      devices = rows_of-all IsDevice device_in (codes "proxy") (Some 8) doc devices device_in-ok a;
      points = points_of-ranges (length devices) doc points b;
      alarms = rows_of-all (IsAlarm (length points)) (alarm_in points) (codes "alarm") (Some 256) doc alarms
          (λ before at t x one. (alarm_in-ok points before at t x one).is) c;
      interlocks = rows_of-all (IsInterlock (length points) (length alarms)) (interlock_in (names_of points alarms))
          (codes "interlock") (Some 64) doc interlocks
          (λ before at t x one. (interlock_in-ok (names_of points alarms) before at t x one).is) e;
      points_differ = points_of-differ (length devices) doc points b;
      alarms_differ = alarms-differ points doc alarms c;
      interlocks_differ = interlocks-differ (names_of points alarms) doc interlocks e;
    } in
    subst HasPlant (ok-same made p h4) holds))))

-- The whole

unless_unknown-ok : {A : Type 0} (x y : A) (name : Option (List ℕ)) → unless_unknown x name ≡ Ok y → x ≡ y
unless_unknown-ok x y None h = ok-same x y h
unless_unknown-ok x y (Some name) h = absurd (cc)

pub scenario_of-valid : (doc : Members) (c : Contents) → scenario_of doc ≡ Ok c → IsScenario c
unfolding scenario_of
scenario_of-valid doc c h =
    step (settings_of doc) _ c h (λ s settled h1.
    step (plant_of doc) _ c h1 (λ plant planted h2.
    step (keepers_of (cast_of s plant) s.intruded doc) _ c h2 (λ keepers kept h3.
    step (first_unknown doc) _ c h3 (λ unknown searched h4.
    let made : Contents = record { settings = s; plant = plant; failing = failing_of (cast_of s plant) keepers; held = None } in
    let here = settings_of-ok doc s settled in
    let there = plant_of-ok doc plant planted in
    let right = keepers_of-ok (cast_of s plant) s.intruded doc keepers kept in
    let lists : length (failing_of (cast_of s plant) keepers) ≡ actors_of (cast_of s plant) =
    length-map (numbers_below (actors_of (cast_of s plant))) (calls_of keepers)
    ∙ length-numbers_below (actors_of (cast_of s plant)) in
    let holds : IsScenario made = record {
      group = here.group;
      seed = here.seed;
      some_levels = here.levels.some;
      at_most_three_levels = here.levels.few;
      heights = all-at IsHeight s.heights here.levels.all;
      some_frames = here.some_frames;
      at_most_two_frames = here.few_frames;
      intruded = all-at (λ m. m < group_size s.f s.k) s.intruded here.intruded;
      intruded_rise = here.intruded_rise;
      some_screens = here.some_screens;
      at_most_four_screens = here.few_screens;
      plant = there.limits s.screens here.few_screens;
      devices = all-at IsDevice plant.devices there.devices;
      alarms = all-at (IsAlarm (length plant.points)) plant.alarms there.alarms;
      points = all-at IsPoint plant.points there.points;
      interlocks = all-at (IsInterlock (length plant.points) (length plant.alarms)) plant.interlocks there.interlocks;
      points_differ = there.points_differ;
      alarms_differ = there.alarms_differ;
      interlocks_differ = there.interlocks_differ;
      failing = lists;
      failing_calls = all-at IsFailing (failing_of (cast_of s plant) keepers)
          (all-map IsFailing (calls_of keepers) (numbers_below (actors_of (cast_of s plant)))
          (λ a. calls_of-failing s.intruded keepers a right));
      intruded_keep_all = λ m is. map-empty (calls_of keepers) (actors_of (cast_of s plant)) m
          (calls_of-intruded s.intruded keepers m right is);
      held = λ keys is. absurd (cc);
    } in
    subst IsScenario (unless_unknown-ok made c unknown h4) holds))))

pub or_no_toml-valid : (doc : Option Members) (c : Contents) → or_no_toml doc ≡ Ok c → IsScenario c
or_no_toml-valid None c h = absurd (cc)
or_no_toml-valid (Some doc) c h = scenario_of-valid doc c h

-- what is read is valid
pub read-valid : (r : Result Scenario ScenarioRefusal) (text : List ℕ) → Shows contents r (scenario_in text) →
    IfOk r (λ s. IsScenario (contents s))
unfolding scenario_in
read-valid (Ok s) text h = or_no_toml-valid (parse_document text) (contents s) h
read-valid (Err e) text h = tt

-- a scenario by its parts
pub whole-of : (s t : Settings) (p q : Plant) (f g : List (List ℕ)) → s ≡ t → p ≡ q → f ≡ g → let a : Contents =
    record { settings = s; plant = p; failing = f; held = None } in let b : Contents =
    record { settings = t; plant = q; failing = g; held = None } in a ≡ b
whole-of s t p q f g one two three = rw (one, two, three) refl

pub no-failing : let cast : Cast = record { masters = 4; proxies = 0; screens = 1 } in
    failing_of cast [] ≡ [] ∷ [] ∷ [] ∷ [] ∷ [] ∷ []
unfolding numbers_below
no-failing = refl
