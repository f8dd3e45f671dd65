-- What holds of the plant that a document gives.
use Rattle.std.proofs.Common.{◌≡◌, ℕ, ◌≤◌, ◌<◌, nat_lt, List, [], ◌∷◌, ◌++◌, length, refl, subst, arith, Ok, Some}
use Rattle.std.proofs.Common.{None, ℤ, pos}
use Rattle.std.specs.Prelude.{codes, ◌≤ℤ◌}
use Rattle.std.proofs.lemmas.Int.{ints}
use Rattle.std.specs.List.{AllByRecursion}
use Rattle.std.proofs.lemmas.Bool.{ltb-true}
use Rattle.toml.specs.Data.{Members}
use Rattle.point_table.specs.declared.point.DeviceSizes.{DeviceSizes}
use Rattle.point_table.specs.declared.point.Point.{Point}
use Rattle.point_table.specs.Point.{IsUsable}
use Rattle.point_table.specs.Table.{AreUsable, point_named}
use Rattle.alarm_rules.specs.declared.alarm.AlarmRule.{AlarmRule}
use Rattle.interlocks.specs.declared.interlock.Interlock.{Interlock}
use Rattle.interlocks.specs.Reading.{Names}
use Rattle.master_points.specs.Orders.{AreOwned}
use Rattle.scenario_file.specs.Values.{count_at, integer_at, integer_or, least, most, greatest_count}
use Rattle.scenario_file.specs.PlantRows.{device_in, name_in, proxy_in, area_in, point_in, alarm_in, interlock_in}
use Rattle.scenario_file.specs.PlantRows.{devices_of, points_of, alarms_of, interlocks_of}
use Rattle.scenario_file.specs.Valid.{IsPoint}
use Rattle.scenario_file.proofs.Steps.{step, ok-same, kept-ok, int_le-at-most, integer_at-ok, integer_or-ok}
use Rattle.scenario_file.proofs.Steps.{count_at-ok}
use Rattle.scenario_file.proofs.RowLaws.{rows_of-few, rows_of-all, rows_of-keeps}
use Rattle.scenario_file.proofs.NameLaws.{name_in-fresh, Differ, none-differ, differ-push}

pub devices_of-few : (doc : Members) (ds : List DeviceSizes) → devices_of doc ≡ Ok ds → length ds ≤ 8
unfolding devices_of
devices_of-few doc ds h = rows_of-few device_in (codes "proxy") 8 doc ds h

pub points_of-few : (devices : ℕ) (doc : Members) (ps : List Point) → points_of devices doc ≡ Ok ps → length ps ≤ 1024
unfolding points_of
points_of-few devices doc ps h = rows_of-few (point_in devices) (codes "point") 1024 doc ps h

pub alarms_of-few : (points : List Point) (doc : Members) (as' : List AlarmRule) →
    alarms_of points doc ≡ Ok as' → length as' ≤ 256
unfolding alarms_of
alarms_of-few points doc as' h = rows_of-few (alarm_in points) (codes "alarm") 256 doc as' h

pub interlocks_of-few : (names : Names) (doc : Members) (ls : List Interlock) →
    interlocks_of names doc ≡ Ok ls → length ls ≤ 64
unfolding interlocks_of
interlocks_of-few names doc ls h = rows_of-few (interlock_in names) (codes "interlock") 64 doc ls h

pub proxy_in-there : (devices : ℕ) (at : List ℕ) (t : Members) (p : ℕ) → proxy_in devices at t ≡ Ok p → p < devices
unfolding proxy_in
proxy_in-there devices at t p h =
    step (count_at at (codes "proxy") 0 greatest_count t) _ p h (λ n counted h1.
    let (there, same) = kept-ok (at ++ codes "proxy") (nat_lt n devices) n p h1 in
    subst (λ (m : ℕ). m < devices) same (ltb-true n devices there))

-- a point that is read: what the crates ltb-true ask of it, that its proxy is there, its ranges, and that nothing has
-- its name yet
pub record ReadsPoint (devices : ℕ) (before : List Point) (p : Point) : Type 0 where
  pub usable : IsUsable p
  pub owned : p.proxy < devices
  pub ranges : IsPoint p
  pub fresh : point_named before p.name ≡ None

at-most-far : (a b c : ℤ) → a ≤ℤ b → b ≤ℤ c → a ≤ℤ c
at-most-far a b c first second = omega (arith, ints)

pub point_in-reads : (devices : ℕ) (before : List Point) (at : List ℕ) (t : Members) (p : Point) →
    point_in devices before at t ≡ Ok p → ReadsPoint devices before p
unfolding point_in
point_in-reads devices before at t p h =
    step (name_in (point_named before) at t) _ p h (λ name named h1.
    step (proxy_in devices at t) _ p h1 (λ proxy over h2.
    step (area_in at t) _ p h2 (λ area of_area h3.
    step (count_at at (codes "place") 0 65535 t) _ p h3 (λ place placed h4.
    step (integer_or at (codes "scale") (pos 1) (pos 1) (pos 1000000) t) _ p h4 (λ scale scaled h5.
    step (integer_or at (codes "offset") (pos 0) least most t) _ p h5 (λ offset moved h6.
    step (integer_at at (codes "low") least most t) _ p h6 (λ low above h7.
    step (integer_at at (codes "high") low most t) _ p h7 (λ high beneath h8.
    step (integer_or at (codes "start") (pos 0) low high t) _ p h8 (λ start begun h9.
    let made : Point = record {
      name = name;
      proxy = proxy;
      area = area;
      place = place;
      scale = scale;
      offset =
          offset;
      low = low;
      high = high;
      start = start;
    } in
    let (scale_low, scale_high) = integer_or-ok at (codes "scale") (pos 1) (pos 1) (pos 1000000) t scale scaled in
    let (offset_low, offset_high) = integer_or-ok at (codes "offset") (pos 0) least most t offset moved in
    let (low_least, low_most) = integer_at-ok at (codes "low") least most t low above in
    let (bounds, high_most) = integer_at-ok at (codes "high") low most t high beneath in
    let (start_low, start_high) = integer_or-ok at (codes "start") (pos 0) low high t start begun in
    let (is_named, is_fresh) = name_in-fresh (point_named before) at t name named in
    let holds : ReadsPoint devices before made = record {
      usable = record {
        scale_low = int_le-at-most (pos 1) scale scale_low;
        scale_high =
            int_le-at-most scale (pos 1000000) scale_high;
        bounds = int_le-at-most low high bounds;
        start =
            rw (start_low, start_high) refl;
      };
      owned = proxy_in-there devices at t proxy over;
      ranges = record {
        name = is_named;
        place = (count_at-ok at (codes "place") 0 65535 t place placed).1;
        offset = (int_le-at-most least offset offset_low, int_le-at-most offset most offset_high);
        low = (int_le-at-most least low low_least, int_le-at-most low most low_most);
        high = (
          at-most-far least low high (int_le-at-most least low low_least) (int_le-at-most low high bounds),
          int_le-at-most high most high_most,
        );
      };
      fresh = is_fresh;
    } in
    subst (ReadsPoint devices before) (ok-same made p h9) holds)))))))))

-- the parts of it that don't speak of the points before
abbrev pub IsRead : ℕ → Point → Type 0
IsRead devices p = IsUsable p × (p.proxy < devices) × IsPoint p

pub points_of-all : (devices : ℕ) (doc : Members) (ps : List Point) → points_of devices doc ≡ Ok ps →
    AllByRecursion (IsRead devices) ps
unfolding points_of
points_of-all devices doc ps h =
    rows_of-all (IsRead devices) (point_in devices) (codes "point") (Some 1024) doc ps
    (λ before at t p one. let r = point_in-reads devices before at t p one in (r.usable, r.owned, r.ranges)) h

pub points_of-differ : (devices : ℕ) (doc : Members) (ps : List Point) → points_of devices doc ≡ Ok ps →
    Differ (λ (p : Point). p.name) ps
unfolding points_of
points_of-differ devices doc ps h =
    rows_of-keeps (Differ (λ (p : Point). p.name)) (point_in devices) (codes "point") (Some 1024) doc ps
    (none-differ (λ (p : Point). p.name))
    (λ before at t p so_far one. differ-push (λ (p : Point). p.name) before p so_far
    (point_in-reads devices before at t p one).fresh) h

are-points : (devices : ℕ) (ps : List Point) → AllByRecursion (IsRead devices) ps → AllByRecursion IsPoint ps
are-points devices [] all = tt
are-points devices (p ∷ ps) all = (all.0.2, are-points devices ps all.1)

pub points_of-ranges : (devices : ℕ) (doc : Members) (ps : List Point) → points_of devices doc ≡ Ok ps →
    AllByRecursion IsPoint ps
points_of-ranges devices doc ps h = are-points devices ps (points_of-all devices doc ps h)

are-usable : (devices : ℕ) (ps : List Point) → AllByRecursion (IsRead devices) ps → AreUsable ps
are-usable devices [] all = tt
are-usable devices (p ∷ ps) all = (all.0.0, are-usable devices ps all.1)

are-owned : (devices : ℕ) (ps : List Point) → AllByRecursion (IsRead devices) ps → AreOwned devices ps
are-owned devices [] all = tt
are-owned devices (p ∷ ps) all = (all.0.1, are-owned devices ps all.1)

pub points_of-usable : (devices : ℕ) (doc : Members) (ps : List Point) → points_of devices doc ≡ Ok ps → AreUsable ps
points_of-usable devices doc ps h = are-usable devices ps (points_of-all devices doc ps h)

pub points_of-owned : (devices : ℕ) (doc : Members) (ps : List Point) → points_of devices doc ≡ Ok ps →
    AreOwned devices ps
points_of-owned devices doc ps h = are-owned devices ps (points_of-all devices doc ps h)
