-- A rule as its text groups it, and when it holds over the points' values and the alarms' states. (This project's own.)
use Rattle.std.specs.Prelude.{ℕ, zero, suc, Bool, false, not, ◌&&◌, ◌||◌, ℤ, slice_get}
use Rattle.std.specs.Option.{option_map_or}
use Rattle.point_table.specs.Table.{Table}
use Rattle.alarm_rules.specs.Board.{Board, is_raised_at}
use Rattle.interlocks.specs.declared.tree.Comparison.{Comparison}
use Rattle.interlocks.specs.declared.tree.Tree.{Tree, Alarm, Compare, Not', Group', And', Or'}
use Rattle.interlocks.specs.Comparing.{compares}

-- a rule as its text groups it, with its points and alarms by number; a chain leans to the left
pub data Formula : Type 0 where
  alarm : (number : ℕ) → Formula
  compare : (point : ℕ) (comparison : Comparison) (number : ℤ) → Formula
  negation : (part : Formula) → Formula
  bracket : (part : Formula) → Formula
  both : (left right : Formula) → Formula
  either : (left right : Formula) → Formula

-- the rule of a tree, without where the tree lies in memory
abbrev pub formula : Tree → Formula
formula (Alarm n) = alarm n
formula (Compare p c z) = compare p c z
formula (Not' p t) = negation (formula t)
formula (Group' p t) = bracket (formula t)
formula (And' p l q r) = both (formula l) (formula r)
formula (Or' p l q r) = either (formula l) (formula r)

-- a rule behind n times `not`
abbrev pub negated : ℕ → Formula → Formula
negated zero f = f
negated (suc n) f = negated n (negation f)

-- the meaning of a rule, by cases on its grammar (this project's own)
abbrev pub holds : Formula → Table → Board → Bool
holds (alarm n) points alarms = is_raised_at alarms.states n
holds (compare p c z) points alarms = option_map_or (λ v. compares c v z) (slice_get points.values p) false
holds (negation f) points alarms = not (holds f points alarms)
holds (bracket f) points alarms = holds f points alarms
holds (both f g) points alarms = holds f points alarms && holds g points alarms
holds (either f g) points alarms = holds f points alarms || holds g points alarms
