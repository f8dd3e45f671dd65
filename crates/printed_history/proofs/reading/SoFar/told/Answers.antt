-- A frame told by its bytes is taken from the entry just before, at the place that stands for none. With no
-- entry yet there is nothing to take it from.
use Rattle.std.proofs.Common.{◌-◌, None, Some, sym, ◌∙◌, ap, arith}
use Rattle.std.specs.Option.{option_to_list}
use Rattle.printed_history.proofs.EventTold.{told_nothing, told_so}
use Rattle.printed_history.proofs.reading.SoFar.told.Goals as goal

pub returns-then-entries-eq0 : goal.returns-then-entries-eq0
returns-then-entries-eq0 c =
    told_nothing c.args.self.now c.args.bytes.now c.len-entries.result c.len-entries.ensures c.if-entries-eq0.true

pub returns-in_default : goal.returns-in_default
returns-in_default c =
    told_so c.args.self.now c.args.bytes.now (c.len-entries.result - 1) None c.requires
    (omega (arith, c.len-entries.ensures, c.if-entries-eq0.false))
    (sym (ap option_to_list c.in_default.is) ∙ c.in_ok-found.ensures)

pub returns : goal.returns
returns c =
    told_so c.args.self.now c.args.bytes.now (c.len-entries.result - 1) (Some c.in-Some.frame) c.requires
    (omega (arith, c.len-entries.ensures, c.if-entries-eq0.false))
    (sym (ap option_to_list c.in-Some.is) ∙ c.in_ok-found.ensures)
