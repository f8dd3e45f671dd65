-- The first unknown key found table by table, each time with the least name so far: by `specs/Unknown.antt` it is
-- the least of all names at once.
use Rattle.std.specs.Prelude.{ℕ, ◌++◌, codes, if◌then◌else◌, List, [], Option, Some, None, Ok}
use Rattle.std.specs.List.{list_any}
use Rattle.std.specs.Str.{bytes_eq}
use Rattle.toml.specs.Data.{Members}
use Rattle.scenario_file.specs.declared.unknown.Kind.{Kind}
use Rattle.scenario_file.specs.declared.unknown.Kind.TheVariants as kind
use Rattle.scenario_file.specs.Answers.{Answer, ◌>>=◌}
use Rattle.scenario_file.specs.Unknown.{keys_of, unknown_in, unknown_at, lesser, least_of}

-- the least name after one key more
abbrev pub least_with : Kind → List ℕ → Option (List ℕ) → List ℕ → Option (List ℕ)
least_with what at best key = if list_any (bytes_eq key) (keys_of what) then best else Some (lesser best (at ++ key))

abbrev pub least_among : Option (List ℕ) → Answer (List (List ℕ)) → Answer (Option (List ℕ))
least_among best names = names >>= (λ ns. Ok (least_of best ns))

-- the least name after the rows at one key of the document
unfoldable pub least_at : Kind → List ℕ → Option (List ℕ) → Members → Answer (Option (List ℕ))
least_at what key best doc = least_among best (unknown_at what key doc)

unfoldable pub least_unknown : Members → Answer (Option (List ℕ))
least_unknown doc = do
  proxies ← least_at kind.Proxy (codes "proxy") (least_of None (unknown_in kind.Document [] doc)) doc
  points ← least_at kind.Point (codes "point") proxies doc
  alarms ← least_at kind.Alarm (codes "alarm") points doc
  interlocks ← least_at kind.Interlock (codes "interlock") alarms doc
  least_at kind.Keeper (codes "keeper") interlocks doc
