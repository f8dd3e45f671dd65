-- Which calls of which actor's keeper fail. Appends and readings are counted together, from 1.
use Rattle.std.specs.Prelude.{ℕ, ◌==◌, nat_le, nat_lt, Bool, not, ◌&&◌, if◌then◌else◌, ◌++◌, List, [], ◌∷◌, map}
use Rattle.std.specs.Prelude.{codes, Some, None, Ok}
use Rattle.std.specs.List.{list_all, list_any}
use Rattle.toml.specs.Data.{Members}
use Rattle.quorum_sets.specs.Masters.{has_master, numbers_below}
use Rattle.scenario_file.specs.declared.keepers.Failing.{Failing}
use Rattle.scenario_file.specs.Answers.{Answer, ◌>>=◌, kept, or_bad}
use Rattle.scenario_file.specs.Values.{text_at, needed}
use Rattle.scenario_file.specs.Lists.{list_in, numbers_in, rows_of}
use Rattle.scenario_file.specs.declared.actors.Cast.{Cast}
use Rattle.scenario_file.specs.Actors.{actors_of, actor_named}

-- a correct actor that no row before names
abbrev pub is_new_actor : List ℕ → List Failing → ℕ → Bool
is_new_actor intruded before a = not (has_master intruded a) && not (list_any (λ k. k.actor == a) before)

unfoldable pub actor_in : Cast → List ℕ → List Failing → List ℕ → Members → Answer ℕ
actor_in cast intruded before at t = do
  name ← text_at at (codes "actor") t
  a ← or_bad (at ++ codes "actor") (actor_named cast name)
  kept (at ++ codes "actor") (is_new_actor intruded before a) a

-- a call number from 1 to 50,000 that rises above those before it
abbrev pub is_next_call : List ℕ → ℕ → Bool
is_next_call before call = nat_le 1 call && nat_le call 50000 && list_all (λ b. nat_lt b call) before

-- 1 to 16 calls
unfoldable pub calls_in : List ℕ → Members → Answer (List ℕ)
calls_in at t = do
  d ← needed at (codes "failing") t
  ds ← list_in (at ++ codes "failing") 1 (Some 16) d
  numbers_in (at ++ codes "failing") is_next_call ds

unfoldable pub keeper_in : Cast → List ℕ → List Failing → List ℕ → Members → Answer Failing
keeper_in cast intruded before at t = do
  actor ← actor_in cast intruded before at t
  calls ← calls_in at t
  Ok (record { actor = actor; calls = calls })

unfoldable pub keepers_of : Cast → List ℕ → Members → Answer (List Failing)
keepers_of cast intruded doc = rows_of (keeper_in cast intruded) (codes "keeper") None doc

-- an actor's calls that fail: those of its row, or none
abbrev pub calls_of : List Failing → ℕ → List ℕ
calls_of [] a = []
calls_of (k ∷ ks) a = if k.actor == a then k.calls else calls_of ks a

-- one list for each actor
abbrev pub failing_of : Cast → List Failing → List (List ℕ)
failing_of cast keepers = map (calls_of keepers) (numbers_below (actors_of cast))
