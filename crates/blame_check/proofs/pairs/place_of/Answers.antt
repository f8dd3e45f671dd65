-- No pair before the one looked at is of a greater master: so the first that is has the place, and where there
-- is none it is the end.
use Rattle.std.proofs.Common.{◌∙◌, ap, sym, arith}
use Rattle.std.proofs.lemmas.Bool.{lt-ltb, le-ltb}
use Rattle.std.proofs.lemmas.List.{take_all}
use Rattle.std.specs.List.{list_any}
use Rattle.blame_check.proofs.Rising.{above, none_more, place_found, place_none}
use Rattle.blame_check.proofs.pairs.place_of.Goals as goal

pub returns-then-master-pair-clause-place : goal.returns-then-master-pair-clause-place
returns-then-master-pair-clause-place c =
    place_found (above c.args.master) c.args.pairs.now c.loop-place.place c.index-pairs-place.result
    c.loop-place-test.true c.loop-place.invariant
    (ap (above c.args.master) (sym c.index-pairs-place.is)
    ∙ lt-ltb c.args.master c.index-pairs-place.result.master c.if-master-pair.true)

pub loop-place-preserved : goal.loop-place-preserved
loop-place-preserved c =
    none_more (above c.args.master) c.args.pairs.now c.loop-place.place c.index-pairs-place.result
    c.loop-place-test.true c.loop-place.invariant
    (ap (above c.args.master) (sym c.index-pairs-place.is)
    ∙ le-ltb c.args.master c.index-pairs-place.result.master c.if-master-pair.false)

pub returns-clause-place : goal.returns-clause-place
returns-clause-place c =
    place_none (above c.args.master) c.args.pairs.now
    (sym (ap (list_any (above c.args.master)) (take_all c.loop-place.place c.args.pairs.now (omega arith)))
    ∙ c.loop-place.invariant)
