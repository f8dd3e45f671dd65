-- What is held of what was said.
use Rattle.std.specs.Prelude.{◌≡◌, ℕ, ◌≤◌, ◌%◌, List, nat_le}
use Rattle.std.specs.List.{list_any}
use Rattle.std.specs.declared.hash.FoldHasher.{FoldHasher}
use Rattle.std.specs.declared.hash.BuildHasherDefault.{BuildHasherDefault}
use Rattle.std.specs.HashSet.{HashSet, contains}
use Rattle.message_types.specs.declared.body.Body.{Body}
use Rattle.protocol_rules.specs.Group.{mark_step}
use Rattle.protocol_rules.specs.Order.{prepares_said, commits_said, marks_said}
use Rattle.global_order.specs.Index.{same_pair}

-- a set of views with numbers
abbrev pub Places : Type 0
Places = HashSet (ℕ × ℕ) (BuildHasherDefault FoldHasher)

abbrev pub HasSaidPrepares : List Body → Places → Type 0
HasSaidPrepares said places = (v s : ℕ) → contains same_pair places (v, s) ≡ list_any (prepares_said v s) said

abbrev pub HasSaidCommits : List Body → Places → Type 0
HasSaidCommits said places = (v s : ℕ) → contains same_pair places (v, s) ≡ list_any (commits_said v s) said

-- the marks said are those of all multiples of the step up to this number
abbrev pub HasMarked : List Body → ℕ → Type 0
HasMarked said marked = (s : ℕ) → 1 ≤ s → s % mark_step ≡ 0 → list_any (marks_said s) said ≡ nat_le s marked
