-- An answer that is shown stays the one shown. With none shown before, only the answer of the last vote can
-- have come to more than f supporters by it.
use Rattle.std.proofs.Common.{◌≡◌, is_some, true, false, refl, arith}
use Rattle.trend_archive.proofs.BoardLaws.{place-stays, place-of_last, place-of_none}
use Rattle.trend_archive.proofs.board.place_after.Goals as goal

pub returns-then-is_some : goal.returns-then-is_some
returns-then-is_some c = λ before vote whole h.
    let on : is_some c.args.place ≡ true = cc in
    place-stays _ _ c.args.place c.args.votes.now before vote on whole h

pub returns-then-count_supporters-sizes : goal.returns-then-count_supporters-sizes
returns-then-count_supporters-sizes c = λ before vote whole h.
    let off : is_some c.args.place ≡ false = cc in
    place-of_last c.args.sizes.now.n c.args.sizes.now.f c.args.place c.args.votes.now c.in_ok-last.before.now before
    c.in_ok-last.last.now vote c.count_supporters.result _
    off c.in_ok-last.ensures.cases.0 c.count_supporters.ensures (omega (arith, c.if-count_supporters-sizes.true))
    refl whole h

pub returns-else-count_supporters-sizes : goal.returns-else-count_supporters-sizes
returns-else-count_supporters-sizes c = λ before vote whole h.
    let off : is_some c.args.place ≡ false = cc in
    place-of_none c.args.sizes.now.n c.args.sizes.now.f c.args.place c.args.votes.now c.in_ok-last.before.now before
    c.in_ok-last.last.now vote c.count_supporters.result
    off c.in_ok-last.ensures.cases.0 c.count_supporters.ensures
    (omega (arith, c.if-count_supporters-sizes.false)) whole h
