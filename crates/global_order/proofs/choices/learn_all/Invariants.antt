-- Those so far are known, there is room for the others, and what was ordered, pending or the greatest goes on
-- as one list of rows has it go on.
use Rattle.std.proofs.Common.{◌≡◌, ℕ, ◌+◌, ◌≤◌, ◌++◌, Bool, List, Option, length, vec_len}
use Rattle.indexmap.specs.IndexMap.{spare}
use Rattle.global_order.specs.Unsaid.{HasPendingCommits}
use Rattle.global_order.specs.Index.{Agrees, HasHighestOrder, HasPlaces, OrdersGrow, with_all}
use Rattle.global_order.proofs.choices.learn_all.Given as goal

-- those so far are known, and there is room for the others
abbrev pub invariant-loop-rows : goal.invariant-loop-rows
invariant-loop-rows l = record {
  whole : l.yielded ++ l.rows-iterator.rest.items ≡ l.fn.all.items;
  room : vec_len l.fn.all ≤ spare l.choices.rows + length l.yielded;
  places : HasPlaces l.choices;
  grow : OrdersGrow l.initial.choices.ordered l.choices.ordered;
  pending : (said : ℕ → ℕ → Bool) → HasPendingCommits said l.initial.choices → HasPendingCommits said l.choices;
  highest : HasHighestOrder l.initial.choices → HasHighestOrder l.choices;
  known : (known : List (List (List ℕ))) (prepares : ℕ × ℕ → List ℕ → Bool) (first : ℕ × ℕ → Option (List ℕ))
      (commits : ℕ → List ℕ → Bool) (order : ℕ → Option (List ℕ)) →
      Agrees known prepares first commits order l.initial.choices →
      Agrees (known ++ l.yielded) prepares (with_all prepares first l.yielded) commits
      (with_all commits order l.yielded) l.choices;
}
