-- Of any two lists one begins the other just where each of them begins the longest, since two beginnings of one
-- list are alike as far as both go. All holders before the one looked at do.
use Rattle.std.proofs.Common.{◌∙◌, ap, sym}
use Rattle.std.proofs.lemmas.List.{take_all}
use Rattle.std.specs.List.{list_all}
use Rattle.history_audit.specs.Prefixes.{begins_if}
use Rattle.history_audit.proofs.Longest.{all_next, all_stops, all_of_longest}
use Rattle.history_audit.proofs.prefixes.all_prefixes.Goals as goal

pub loop-holder-preserved : goal.loop-holder-preserved
loop-holder-preserved g c =
    all_next (λ x. begins_if c.longest_of-longest.result.now (g.E.Executes.executed x))
    c.args.holders.now c.loop-holder.holder-index c.holder-item.result c.loop-holder-test.true c.holder-item.is
    c.loop-holder.invariant (sym
    (c.if-not-begins_longest.ensures ∙ ap (begins_if c.longest_of-longest.result.now) c.executions.ensures))

pub returns-then-not-begins_longest : goal.returns-then-not-begins_longest
returns-then-not-begins_longest g c =
    all_stops (λ x. begins_if c.longest_of-longest.result.now (g.E.Executes.executed x))
    c.args.holders.now c.loop-holder.holder-index c.holder-item.result c.loop-holder-test.true c.holder-item.is
    (sym (c.if-not-begins_longest.ensures ∙ ap (begins_if c.longest_of-longest.result.now) c.executions.ensures))
    ∙ all_of_longest g.E.Executes.executed c.args.holders.now c.longest_of-longest.result.now
    c.longest_of-longest.ensures

pub returns : goal.returns
returns g c =
    sym c.loop-holder.invariant
    ∙ ap (list_all (λ x. begins_if c.longest_of-longest.result.now (g.E.Executes.executed x)))
    (take_all c.loop-holder.holder-index c.args.holders.now c.loop-holder-test.false)
    ∙ all_of_longest g.E.Executes.executed c.args.holders.now c.longest_of-longest.result.now
    c.longest_of-longest.ensures
