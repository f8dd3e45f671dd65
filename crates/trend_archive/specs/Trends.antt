-- The changes of one point over the executed updates. (This project's own.)
use Rattle.std.specs.Prelude.{◌≡◌, ℕ, zero, suc, ◌+◌, ◌<◌, ◌≤◌, Bool, false, ◌&&◌, ◌||◌, not, if◌then◌else◌, List, []}
use Rattle.std.specs.Prelude.{◌∷◌, ◌++◌, Option, Some, None, ℤ, nat_eq, nat_lt, nat_le, filter, length, slice_get}
use Rattle.std.specs.Prelude.{slice_set}
use Rattle.std.specs.Ordering.{int_eq}
use Rattle.message_types.specs.declared.updates.Op.{Op}
use Rattle.message_types.specs.declared.updates.Op.TheVariants as op
use Rattle.message_types.specs.declared.updates.Update.{Update}
use Rattle.point_table.specs.declared.point.Point.{Point}
use Rattle.master_points.specs.declared.plant.Plant.{Plant}
use Rattle.master_points.specs.Effects.{Site, State, settled, effect, is_own_within}
use Rattle.master_points.specs.Orders.{AreOwned, site_of, start_of, state_after}
use Rattle.trend_archive.specs.declared.change.Changed.{Changed}
use Rattle.trend_archive.specs.declared.change.Reading.{Reading}
use Rattle.trend_archive.specs.declared.answer.TrendAnswer.{TrendAnswer}
use Rattle.trend_archive.specs.declared.answer.TrendAnswer.TheVariants as answer

-- whether a point is there and has this value
abbrev pub has_value : ℤ → Option ℤ → Bool
has_value v None = false
has_value v (Some w) = int_eq w v

-- The reading by which an update changes a point: by the point's own proxy, within the point's bounds, of another value
-- than the point had before.
abbrev pub news : List Point → List ℤ → ℕ → Op → Option Reading
news points values client (op.Reading p v) =
    if is_own_within client v (slice_get points p) && not (has_value v (slice_get values p)) then Some
    (record { point = p; value = v }) else None
news points values client (op.Set p v) = None
news points values client (op.Ack a) = None

-- what update number x changes of point p
abbrev pub told : ℕ → ℕ → Option Reading → List Changed
told p x None = []
told p x (Some r) = if nat_eq r.point p then record { number = x; value = r.value } ∷ [] else []

-- the changes of point p by updates numbered from x on, each from the state that the master has after those before it
abbrev pub changes_from : Site → ℕ → ℕ → State → List Update → List Changed
changes_from site p x s [] = []
changes_from site p x s (u ∷ us) =
    told p x (news s.table.points s.table.values u.client u.op) ++ changes_from site p (suc x)
    (settled (effect site s u).step s) us

-- the changes of point p by executed updates, which are numbered from 1
abbrev pub all_changes : Plant → (screens p : ℕ) → List Update → List Changed
all_changes plant screens p us = changes_from (site_of plant screens) p 1 (start_of plant) us

-- whether a change is by an update of these numbers
abbrev pub is_between : ℕ → ℕ → Changed → Bool
is_between first last change = nat_le first change.number && nat_le change.number last

-- those by the updates number `first` to `last`
unfoldable pub changes : Plant → (screens p first last : ℕ) → List Update → List Changed
changes plant screens p first last us = filter (is_between first last) (all_changes plant screens p us)

-- Why a question has no answer, of so many points and after so many updates; tried in this order.
abbrev pub refusal : (points count p first last : ℕ) → Option TrendAnswer
refusal points count p first last =
    if nat_le points p then Some answer.NoPoint
    else (if nat_eq first 0 || nat_lt last first then Some answer.BadRange
    else (if nat_lt count last then Some (answer.NotReached count) else None))

-- what a trend holds: the points, their values and changes, and how many updates it has taken
pub record Archive : Type 0 where
  pub points : List Point
  pub values : List ℤ
  pub lists : List (List Changed)
  pub count : ℕ

-- one change more at the end of a point's list
abbrev pub with_change : ℕ → Changed → List (List Changed) → List (List Changed)
with_change p change [] = []
with_change zero change (list ∷ lists) = (list ++ change ∷ []) ∷ lists
with_change (suc p) change (list ∷ lists) = list ∷ with_change p change lists

-- a trend with one update more, which changed a point by this reading or none
abbrev pub noted : Archive → Option Reading → Archive
noted t None = record { points = t.points; values = t.values; lists = t.lists; count = t.count + 1 }
noted t (Some r) = record {
  points = t.points;
  values = slice_set t.values r.point r.value;
  lists = with_change r.point (record { number = t.count + 1; value = r.value }) t.lists;
  count = t.count + 1;
}

-- A plant's trend after executed updates: it has the values that a master has then, and each point's changes.
pub record IsTrend (plant : Plant) (screens : ℕ) (us : List Update) (t : Archive) : Type 0 where
  pub owned : AreOwned (length plant.devices) plant.points
  pub points : t.points ≡ plant.points
  pub values : t.values ≡ (state_after (site_of plant screens) (start_of plant) us).table.values
  pub lists : (p : ℕ) → p < length plant.points → slice_get t.lists p ≡ Some (all_changes plant screens p us)
  pub count : t.count ≡ length us

-- what is executed later changes no answer
abbrev pub EarlierStays : Type 0
EarlierStays = (plant : Plant) (screens p first last : ℕ) (us more : List Update) → last ≤ length us →
    changes plant screens p first last (us ++ more) ≡ changes plant screens p first last us
