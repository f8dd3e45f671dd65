-- No pair before the one looked at is of the master: so the search finds it where it is there, and where the
-- search ends it isn't.
use Rattle.std.proofs.Common.{sym, ◌∙◌, ap, eq-eqb}
use Rattle.std.proofs.lemmas.List.{take_all}
use Rattle.std.proofs.lemmas.List.Folds.{list_any_at}
use Rattle.std.specs.List.{list_any}
use Rattle.blame_check.proofs.Rising.{is_of, none_more, other_number}
use Rattle.blame_check.proofs.pairs.is_named.Goals as goal

pub returns-then-pair-master : goal.returns-then-pair-master
returns-then-pair-master c =
    sym (list_any_at (is_of c.args.master) c.args.pairs.now c.loop-pair.pair-index
    c.pair-item.result c.loop-pair-test.true
    (ap (is_of c.args.master) (sym c.pair-item.is)
    ∙ eq-eqb c.pair-item.result.master c.args.master c.if-pair-master.true))

pub loop-pair-preserved : goal.loop-pair-preserved
loop-pair-preserved c =
    none_more (is_of c.args.master) c.args.pairs.now c.loop-pair.pair-index c.pair-item.result
    c.loop-pair-test.true c.loop-pair.invariant
    (ap (is_of c.args.master) (sym c.pair-item.is)
    ∙ other_number c.pair-item.result.master c.args.master c.if-pair-master.false)

pub returns : goal.returns
returns c = sym c.loop-pair.invariant ∙ ap (list_any (is_of c.args.master))
    (take_all c.loop-pair.pair-index c.args.pairs.now c.loop-pair-test.false)
