-- The list so far is the first of the longest among the holders looked at, the empty one at first; each turn
-- weighs it against the next.
use Rattle.std.proofs.Common.{◌∙◌, ap}
use Rattle.std.specs.List.{filter_map}
use Rattle.std.proofs.lemmas.List.{take_all}
use Rattle.history_audit.specs.Prefixes.{longest, longer_of}
use Rattle.history_audit.proofs.Longest.{longest_more}
use Rattle.history_audit.proofs.prefixes.longest_of.Goals as goal

pub loop-holder-preserved : goal.loop-holder-preserved
loop-holder-preserved g c =
    longest_more g.E.Executes.executed c.args.holders.now c.loop-holder.holder-index c.holder-item.result
    c.loop-holder.longest.now c.longer-longest.result.now c.loop-holder-test.true c.holder-item.is
    c.loop-holder.invariant (c.longer-longest.ensures ∙ ap (longer_of c.loop-holder.longest.now) c.executions.ensures)

pub returns : goal.returns
returns g c = c.loop-holder.invariant ∙ ap (λ xs. longest (filter_map g.E.Executes.executed xs))
    (take_all c.loop-holder.holder-index c.args.holders.now c.loop-holder-test.false)
