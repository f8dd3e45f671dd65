-- A list begins another where it is the same, update by update, as the front of its own length; a list longer
-- than the whole has no such front and begins it never.
use Rattle.std.proofs.Common.{ap, ◌∙◌, arith}
use Rattle.std.specs.Cmp.Lexicographic.{pointwise}
use Rattle.history_rules.specs.Sameness.{is_same_update}
use Rattle.history_audit.proofs.Longest.{list_tested, too_long}
use Rattle.history_audit.proofs.prefixes.begins.Goals as goal

pub returns-in-Some : goal.returns-in-Some
returns-in-Some c =
    list_tested c.are_same.result c.args.part.now c.in-Some.front.now c.are_same.ensures
    ∙ ap (pointwise is_same_update c.args.part.now) c.in-Some.ensures.cases.1

pub returns-in-None : goal.returns-in-None
returns-in-None c = too_long c.args.part.now c.args.whole.now (omega (arith, c.in-None.ensures.cases))
