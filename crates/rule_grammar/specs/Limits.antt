use Rattle.std.specs.Prelude.{◌≡◌, ◌≤◌, ◌+◌, ℕ, max, List, length, Ok}
use Rattle.interlocks.specs.Formula.{Formula, alarm, compare, negation, bracket, both, either}
use Rattle.interlocks.specs.Tokens.{pieces}
use Rattle.interlocks.specs.Reading.{Names, read_rule}
use Rattle.rule_grammar.specs.Grammar.{IsGrouped, Spells}

-- The limits of a rule. A node is a `not`, a pair of brackets, an `and` or `or` of two parts or more, or a leaf;
-- what a node holds is one level deeper.

-- a chain of `and` that goes on is no new node
abbrev pub new_all : Formula → ℕ
new_all (alarm n) = 1
new_all (compare p c z) = 1
new_all (negation f) = 1
new_all (bracket f) = 1
new_all (both f g) = 0
new_all (either f g) = 1

abbrev pub new_any : Formula → ℕ
new_any (alarm n) = 1
new_any (compare p c z) = 1
new_any (negation f) = 1
new_any (bracket f) = 1
new_any (both f g) = 1
new_any (either f g) = 0

abbrev pub nodes : Formula → ℕ
nodes (alarm n) = 1
nodes (compare p c z) = 1
nodes (negation f) = 1 + nodes f
nodes (bracket f) = 1 + nodes f
nodes (both f g) = nodes f + new_all f + nodes g
nodes (either f g) = nodes f + new_any f + nodes g

abbrev mutual
  -- the levels of a rule
  pub levels : Formula → ℕ
  levels (alarm n) = 1
  levels (compare p c z) = 1
  levels (negation f) = 1 + levels f
  levels (bracket f) = 1 + levels f
  levels (both f g) = 1 + max (all_levels f) (levels g)
  levels (either f g) = 1 + max (any_levels f) (levels g)

  -- the levels of the parts of a chain of `and`, and of a rule that is none
  pub all_levels : Formula → ℕ
  all_levels (alarm n) = 1
  all_levels (compare p c z) = 1
  all_levels (negation f) = 1 + levels f
  all_levels (bracket f) = 1 + levels f
  all_levels (both f g) = max (all_levels f) (levels g)
  all_levels (either f g) = 1 + max (any_levels f) (levels g)

  -- the same of `or`
  pub any_levels : Formula → ℕ
  any_levels (alarm n) = 1
  any_levels (compare p c z) = 1
  any_levels (negation f) = 1 + levels f
  any_levels (bracket f) = 1 + levels f
  any_levels (both f g) = 1 + max (all_levels f) (levels g)
  any_levels (either f g) = max (any_levels f) (levels g)

-- each rule that is grouped as the grammar does, of at most 64 nodes on at most 16 levels, is read from every
-- text of at most 256 bytes whose tokens spell it
abbrev pub EachSpelledRuleIsRead : Type 0
EachSpelledRuleIsRead = (names : Names) (text : List ℕ) (f : Formula) → length text ≤ 256 → IsGrouped f →
    Spells names f (pieces text) → nodes f ≤ 64 → levels f ≤ 16 → read_rule names text ≡ Ok f
