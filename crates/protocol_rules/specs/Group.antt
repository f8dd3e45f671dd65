-- The sizes that the rules are stated over, as plain numbers, and this project's own limits (their numbers stand in
-- src/limits.rt).
use Rattle.std.specs.Prelude.{ℕ, ◌+◌, ◌%◌, Bool, true, false, nat_eq}
use Rattle.std.specs.List.{list_any}
use Rattle.quorum_sets.specs.Masters.{numbers_below}
use Rattle.quorum_sets.specs.declared.sizes.Sizes.{Sizes}
use Rattle.quorum_sets.specs.declared.sizes.Rules.{Rules}
use Rattle.quorum_sets.specs.declared.sizes.Rules.TheVariants.{First, Live}
use Rattle.protocol_rules.specs.declared.limits.TheConstants.{MOST_NUMBER, WINDOW, MOST_VIEW, MARK_STEP}

pub record Group : Type 0 where
  pub n : ℕ
  pub f : ℕ
  pub k : ℕ
  pub q : ℕ
  pub clients : ℕ
  pub rules : Rules

-- the group of these sizes with so many clients
abbrev pub group_of : Sizes → ℕ → Group
group_of sizes clients = record { n = sizes.n; f = sizes.f; k = sizes.k; q = sizes.q; clients = clients; rules = sizes.rules }

-- The group goes by the rules that stay alive. Where these differ from the rules as first specified, both stand beside
-- each other where they are asked for.
unfoldable pub is_live : Group → Bool
is_live g = elim g.rules [ First ↦ false | Live ↦ true ]

-- pre-order numbers of a master, and global numbers, go from 1 to this
unfoldable pub most_number : ℕ
most_number = MOST_NUMBER

-- numbers are offered no further than this above the stable one
unfoldable pub window : ℕ
window = WINDOW

-- views go from 0 to this
unfoldable pub most_view : ℕ
most_view = MOST_VIEW

-- marks are said for each number that is a multiple of this
unfoldable pub mark_step : ℕ
mark_step = MARK_STEP

-- the master that leads a view
abbrev pub leader_of : Group → ℕ → ℕ
leader_of g v = v % g.n

-- The doors of client c are the f + k + 1 masters from c mod n on: at least one of them is correct and there.
-- (In the manner of Spire; that these masters alone introduce the client's updates is this project's own.)
abbrev pub is_door : Group → ℕ → ℕ → Bool
is_door g c master = list_any (λ x. nat_eq ((c + x) % g.n) master) (numbers_below (g.f + g.k + 1))
