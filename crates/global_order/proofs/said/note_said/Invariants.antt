-- The prepares and commits so far are noted, and there is room for the others.
use Rattle.std.proofs.Common.{◌≡◌, ℕ, ◌+◌, ◌≤◌, ◌||◌, length, take}
use Rattle.std.specs.List.{list_any}
use Rattle.std.specs.HashSet.{contains, spare}
use Rattle.protocol_rules.specs.Order.{prepares_said, commits_said}
use Rattle.global_order.specs.Index.{same_pair}
use Rattle.global_order.proofs.said.note_said.Given as goal

-- those so far are there, and there is room for the others
abbrev pub invariant-loop-body : goal.invariant-loop-body
invariant-loop-body l = record {
  prepares_room : length l.bodies ≤ spare l.prepares + l.body-index;
  commits_room : length l.bodies ≤ spare l.commits + l.body-index;
  prepares : (v s : ℕ) → contains same_pair l.prepares (v, s) ≡ (contains same_pair l.initial.prepares (v, s)
      || list_any (prepares_said v s) (take l.body-index l.bodies));
  commits : (v s : ℕ) → contains same_pair l.commits (v, s) ≡ (contains same_pair l.initial.commits (v, s)
      || list_any (commits_said v s) (take l.body-index l.bodies));
}
