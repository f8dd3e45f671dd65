-- Keys that no scenario has. The first of them by the bytes of its whole name is a fault, where there is no other.
use Rattle.std.specs.Prelude.{ℕ, suc, ◌++◌, codes, if◌then◌else◌, List, [], ◌∷◌, Option, Some, None, Ok}
use Rattle.std.specs.List.{list_any}
use Rattle.std.specs.Str.{bytes_eq}
use Rattle.std.specs.Ordering.{nat_cmp, is_lt}
use Rattle.std.specs.Cmp.Lexicographic.{slice_cmp}
use Rattle.toml.specs.Data.{Members, no_members, member}
use Rattle.scenario_file.specs.declared.unknown.Kind.{Kind}
use Rattle.scenario_file.specs.declared.unknown.Kind.TheVariants as kind
use Rattle.scenario_file.specs.Answers.{Answer, ◌>>=◌}
use Rattle.scenario_file.specs.Lists.{rows_at, row_name}

-- the keys that each kind of table may have
abbrev pub keys_of : Kind → List (List ℕ)
keys_of kind.Document = codes "f" ∷ codes "k" ∷ codes "seed" ∷ codes "levels" ∷ codes "frames" ∷ codes "intruded"
    ∷ codes "screens" ∷ codes "rules" ∷ codes "proxy" ∷ codes "point" ∷ codes "alarm" ∷ codes "interlock" ∷ codes "keeper" ∷ []
keys_of kind.Proxy = codes "coils" ∷ codes "discrete" ∷ codes "holding" ∷ codes "input" ∷ []
keys_of kind.Point = codes "name" ∷ codes "proxy" ∷ codes "area" ∷ codes "place" ∷ codes "scale" ∷ codes "offset"
    ∷ codes "low" ∷ codes "high" ∷ codes "start" ∷ []
keys_of kind.Alarm = codes "name" ∷ codes "point" ∷ codes "kind" ∷ codes "limit" ∷ codes "band" ∷ []
keys_of kind.Interlock = codes "name" ∷ codes "point" ∷ codes "value" ∷ codes "deny" ∷ []
keys_of kind.Keeper = codes "actor" ∷ codes "failing" ∷ []

-- the names of a table's keys that its kind doesn't have
abbrev pub unknown_in : Kind → List ℕ → Members → List (List ℕ)
unknown_in what at no_members = []
unknown_in what at (member k d ms) = if list_any (bytes_eq k) (keys_of what) then unknown_in what at ms else (at ++ k)
    ∷ unknown_in what at ms

-- the same of rows, the first having this place
abbrev pub unknown_rows : Kind → List ℕ → ℕ → List Members → List (List ℕ)
unknown_rows what key place [] = []
unknown_rows what key place (t ∷ ts) = unknown_in what (row_name key place) t ++ unknown_rows what key (suc place) ts

unfoldable pub unknown_at : Kind → List ℕ → Members → Answer (List (List ℕ))
unknown_at what key doc = rows_at key None doc >>= (λ ts. Ok (unknown_rows what key 0 ts))

abbrev pub lesser : Option (List ℕ) → List ℕ → List ℕ
lesser None name = name
lesser (Some best) name = if is_lt (slice_cmp nat_cmp name best) then name else best

-- the least of names by their bytes, and of one more that is there already
abbrev pub least_of : Option (List ℕ) → List (List ℕ) → Option (List ℕ)
least_of best [] = best
least_of best (name ∷ names) = least_of (Some (lesser best name)) names

-- the first of all of them, if there are any
unfoldable pub first_unknown : Members → Answer (Option (List ℕ))
first_unknown doc = do
  proxies ← unknown_at kind.Proxy (codes "proxy") doc
  points ← unknown_at kind.Point (codes "point") doc
  alarms ← unknown_at kind.Alarm (codes "alarm") doc
  interlocks ← unknown_at kind.Interlock (codes "interlock") doc
  keepers ← unknown_at kind.Keeper (codes "keeper") doc
  Ok (least_of None (unknown_in kind.Document [] doc ++ proxies ++ points ++ alarms ++ interlocks ++ keepers))
