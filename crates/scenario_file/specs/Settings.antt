-- The keys that aren't tables: the group, the seed of its keys, its intruded masters, its screens.
use Rattle.std.specs.Prelude.{ℕ, ◌==◌, nat_lt, Bool, not, ◌&&◌, ◌||◌, List, [], codes, Some, None, Ok, pos}
use Rattle.std.specs.Prelude.{if◌then◌else◌}
use Rattle.toml.specs.Data.{Data, integer, array, no_items, item, Members}
use Rattle.quorum_sets.specs.Quorum.{group_size}
use Rattle.quorum_sets.specs.Masters.{has_master, voters}
use Rattle.quorum_sets.specs.declared.limits.TheConstants.{MOST_MASTERS}
use Rattle.quorum_sets.specs.declared.sizes.Rules.{Rules}
use Rattle.quorum_sets.specs.declared.sizes.Rules.TheVariants.{First, Live}
use Rattle.master_points.specs.declared.limits.TheConstants.{MOST_SCREENS}
use Rattle.scenario_file.specs.Answers.{Answer, ◌>>=◌}
use Rattle.scenario_file.specs.Values.{count_at, count_or, bytes_at, or_default}
use Rattle.scenario_file.specs.Lists.{list_in, numbers_in}

-- trees of height 5 or 10
abbrev pub is_height : List ℕ → ℕ → Bool
is_height before h = (h == 5) || (h == 10)

-- three levels of height 5
abbrev pub usual_levels : Data
usual_levels = array (item (integer (pos 5)) (item (integer (pos 5)) (item (integer (pos 5)) no_items)))

-- one to three levels of trees, the highest tree first
unfoldable pub levels_of : Members → Answer (List ℕ)
levels_of doc = list_in (codes "levels") 1 (Some 3) (or_default (codes "levels") usual_levels doc)
    >>= numbers_in (codes "levels") is_height

-- a master that is there, and not named before
abbrev pub is_new_master : ℕ → List ℕ → ℕ → Bool
is_new_master n before m = nat_lt m n && not (has_master before m)

-- the masters named, as a set
abbrev pub set_of : List ℕ → List ℕ
set_of masters = voters (has_master masters) MOST_MASTERS

unfoldable pub intruded_of : ℕ → Members → Answer (List ℕ)
intruded_of n doc = do
  ds ← list_in (codes "intruded") 0 None (or_default (codes "intruded") (array no_items) doc)
  masters ← numbers_in (codes "intruded") (is_new_master n) ds
  Ok (set_of masters)

pub record Settings : Type 0 where
  pub f : ℕ
  pub k : ℕ
  pub seed : List ℕ
  pub heights : List ℕ
  pub frames : ℕ
  pub intruded : List ℕ
  pub screens : ℕ
  pub rules : Rules

-- 1 are the rules first specified, 2 those that stay alive; left out they are the first
abbrev pub rules_by : ℕ → Rules
rules_by number = if number == 2 then Live else First

unfoldable pub rules_of : Members → Answer Rules
rules_of doc = do
  number ← count_or [] (codes "rules") 1 1 2 doc
  Ok (rules_by number)

-- the keys in the order in which they are tried
unfoldable pub settings_of : Members → Answer Settings
settings_of doc = do
  f ← count_at [] (codes "f") 1 3 doc
  k ← count_or [] (codes "k") 0 0 2 doc
  seed ← bytes_at [] (codes "seed") 32 doc
  heights ← levels_of doc
  frames ← count_or [] (codes "frames") 1 1 2 doc
  intruded ← intruded_of (group_size f k) doc
  screens ← count_at [] (codes "screens") 1 MOST_SCREENS doc
  rules ← rules_of doc
  Ok (record {
    f = f;
    k = k;
    seed = seed;
    heights = heights;
    frames = frames;
    intruded = intruded;
    screens = screens;
    rules = rules;
  })
